-- Which calls Reach refuses, number by number, in plain conditions.
use Rattle.std.specs.Prelude.{ℕ, ◌^◌, ◌<◌, ◌≡◌, refl, ◌↔◌, true, false, List, length, get_or, ℤ, pos}
use Rattle.std.proofs.Common.{arith}
use Rattle.numbers.specs.Answers.{accepted, refused}
use Rattle.numbers.specs.Conditions.{Variables, Limit, TableValue}
use Rattle.numbers.specs.Lists.{every}
use Rattle.numbers.specs.Ranges.{is_variables, is_value, is_limit}
use Rattle.numbers.proofs.Laws.Tests.{variables_test, limit_test, value_test, fails, some_fails}
use Rattle.diagram.specs.Accepted.{Accepted}
use Rattle.cascade.specs.Plan.{plan}
use Rattle.reach.specs.Reach.{Reachable, reachable, reach}
use Rattle.reach.proofs.Laws.Answers.{unnumbered, unsized, unvalued, unlimited, reach_finds, refusal_tells, answer_tells, as_by_plan, as_plan_refuses}

-- Some value of the table is none.
abbrev pub ValueOut : ℕ → List ℤ → Type 0
ValueOut n table = (x : ℕ) × (x < 2 ^ n) × (¬ TableValue (get_or table x (pos 0)))

value_out : (n : ℕ) (table : List ℤ) → length table ≡ 2 ^ n → (every is_value table ≡ false) ↔ ValueOut n table
value_out n table size = some_fails {P = TableValue} is_value (pos 0) value_test table (2 ^ n) size

-- What a refusal with this number tells.
record Told (n : ℕ) (table : List ℤ) (limit k : ℕ) : Type 0 where
  one : k ≡ 1 → ¬ Variables n
  two : k ≡ 2 → Variables n × (¬ (length table ≡ 2 ^ n))
  three : k ≡ 3 → Variables n × (length table ≡ 2 ^ n) × ValueOut n table
  eight : k ≡ 8 → Accepted n table × (¬ Limit limit)

module _ (n : ℕ) (table : List ℤ) (limit : ℕ) where
  abbrev numbered : (is_variables n ≡ true) ↔ Variables n
  numbered = variables_test n

  told : (k : ℕ) → reach n table limit ≡ refused k → Told n table limit k
  told =
      refusal_tells n table limit (Told n table limit)
      (λ a. record { one = λ e. (fails (is_variables n) numbered).0 a; two = λ e. absurd (omega arith); three = λ e. absurd (omega arith); eight = λ e. absurd (omega arith) })
      (λ a b. record { one = λ e. absurd (omega arith); two = λ e. (numbered.0 a, b); three = λ e. absurd (omega arith); eight = λ e. absurd (omega arith) })
      (λ a b c. record { one = λ e. absurd (omega arith); two = λ e. absurd (omega arith); three = λ e. (numbered.0 a, b, (value_out n table b).0 c); eight = λ e. absurd (omega arith) })
      (λ t d. record { one = λ e. absurd (omega arith); two = λ e. absurd (omega arith); three = λ e. absurd (omega arith); eight = λ e. (t, (fails (is_limit limit) (limit_test limit)).0 d) })

  pub one_first : (¬ Variables n) ↔ (reach n table limit ≡ refused 1)
  one_first = ((λ v. unnumbered n table limit ((fails (is_variables n) numbered).1 v)), (λ e. (told 1 e).one refl))

  pub two_next : (Variables n × (¬ (length table ≡ 2 ^ n))) ↔ (reach n table limit ≡ refused 2)
  two_next = ((λ p. unsized n table limit (numbered.1 p.0) p.1), (λ e. (told 2 e).two refl))

  pub three_next : (Variables n × (length table ≡ 2 ^ n) × ValueOut n table) ↔ (reach n table limit ≡ refused 3)
  three_next = ((λ p. unvalued n table limit (numbered.1 p.0) p.1 ((value_out n table p.1).1 p.2)), (λ e. (told 3 e).three refl))

  pub eight_last : (Accepted n table × (¬ Limit limit)) ↔ (reach n table limit ≡ refused 8)
  eight_last = ((λ p. unlimited n table limit p.0 ((fails (is_limit limit) (limit_test limit)).1 p.1)), (λ e. (told 8 e).eight refl))

  -- The others are answered.
  pub reach_accepts : (Accepted n table × Limit limit) ↔ ((f : Reachable) × (reach n table limit ≡ accepted f))
  reach_accepts = (
    (λ a. (reachable n table limit, reach_finds n table limit a.0 ((limit_test limit).1 a.1))),
    (λ a. let t = answer_tells n table limit a.0 a.1 in (t.0, (limit_test limit).0 t.1.0)),
  )

  -- As by Plan, but for 9.
  pub refused_as_by_plan : (k : ℕ) → ((plan n table limit ≡ refused k) × (¬ (k ≡ 9))) ↔ (reach n table limit ≡ refused k)
  refused_as_by_plan k = ((λ p. as_plan_refuses n table limit k p.1 p.0), as_by_plan n table limit k)

  pub never_nine : ¬ (reach n table limit ≡ refused 9)
  never_nine e = (as_by_plan n table limit 9 e).1 refl
