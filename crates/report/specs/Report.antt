-- The report: count, least, greatest and sum of the values that a record list gives from X = a to X = b.
use Rattle.std.specs.Prelude.{ℕ, suc, ◌-◌, ◌^◌, Bool, ◌&&◌, List, map, length, leb, ltb, ℤ, Result}
use Rattle.numbers.specs.Answers.{Answer, accepted, unless, map_answer}
use Rattle.numbers.specs.Refusals.{answer_of}
use Rattle.numbers.specs.declared.Refusal.{Refusal}
use Rattle.numbers.specs.Extremes.{least_of, greatest_of}
use Rattle.numbers.specs.Lists.{numbers_from, exact_sum}
use Rattle.diagram.specs.Walk.{walk_value, of_list}
use Rattle.report.specs.declared.Reported.{Reported}

-- Walk's values at X from a to b, both included.
unfoldable pub values_from : ℕ → ℤ → List ℤ → ℕ → ℕ → List ℤ
values_from n offset list a b = map (walk_value n offset list) (numbers_from a (suc b - a))

-- How many values there are, the least, the greatest and the sum of them.
pub record Figures : Type 0 where
  pub count : ℕ
  pub least : ℤ
  pub greatest : ℤ
  pub sum : ℤ

unfoldable pub figures_of : List ℤ → Figures
figures_of values = record { count = length values; least = least_of values; greatest = greatest_of values; sum = exact_sum values }

-- From a to b is a part of the domain: a is not above b, and b is below 2^n.
unfoldable pub is_part : ℕ → ℕ → ℕ → Bool
is_part n a b = leb a b && ltb b (2 ^ n)

-- The report's answer: Walk's checks but that of X, then 15.
unfoldable pub report : ℕ → ℤ → List ℤ → ℕ → ℕ → Answer Figures
report n offset list a b = of_list n offset list (unless (is_part n a b) 15 (accepted (figures_of (values_from n offset list a b))))

-- The figures that the operation's struct has.
unfoldable pub figures_in : Reported → Figures
figures_in r = record { count = r.count; least = r.least; greatest = r.greatest; sum = r.sum }

-- The answer that a result stands for.
unfoldable pub reported : Result Reported Refusal → Answer Figures
reported result = map_answer figures_in (answer_of result)
