-- The checks on a record list: what passed them, what follows them, and Walk's answer after them.
use Rattle.std.specs.Prelude.{ℕ, ◌^◌, ◌≤◌, ◌<◌, ◌≡◌, false, List, ℤ}
use Rattle.std.proofs.Common.{◌∙◌, ap}
use borrow.Author.Tests.{lt-ltb, le-ltb}
use Rattle.numbers.specs.Answers.{Answer, accepted, refused, and_then}
use Rattle.numbers.specs.Conditions.{Variables, TableValue}
use Rattle.numbers.specs.Ranges.{is_variables, is_value}
use Rattle.numbers.proofs.Laws.Answers.{unless_accepted}
use Rattle.numbers.proofs.Laws.Bools.{yes_or_no}
use Rattle.numbers.proofs.Laws.Tests.{variables_test, value_test}
use Rattle.diagram.specs.Walk.{list_fits, of_list, walk_value, walk}
use Rattle.diagram.specs.Inner.Checks.{list_checks}
use Rattle.diagram.specs.Inner.Edges.{Passing}

module _ (n : ℕ) (offset : ℤ) (list : List ℤ) where
  -- What follows the checks is reached exactly when they are passed.
  pub after_list : {A : Type 0} (rest : Answer A) → of_list n offset list rest ≡ and_then (list_checks n offset list) (λ t. rest)
  unfolding of_list list_checks
  after_list rest =
      yes_or_no (is_variables n)
      (λ a. yes_or_no (is_value offset) (λ b. yes_or_no (list_fits n list) (λ c. rw (a, b, c)) (λ c. rw (a, b, c))) (λ b. rw (a, b)))
      (λ a. rw a)

  -- A list that passes them reaches it.
  pub list_passes : {A : Type 0} (rest : Answer A) → Passing n offset list → of_list n offset list rest ≡ rest
  unfolding of_list
  list_passes rest p = rw (p.variables, p.start, p.records)

  -- Their own refusal is handed on.
  pub list_unfit : {A : Type 0} (rest : Answer A) (k : ℕ) → list_checks n offset list ≡ refused k → of_list n offset list rest ≡ refused k
  list_unfit rest k e = after_list rest ∙ ap (λ a. and_then a (λ t. rest)) e

  pub list_passed : list_checks n offset list ≡ accepted tt → Passing n offset list
  unfolding of_list list_checks
  list_passed e =
      let a = unless_accepted (is_variables n) 1 _ tt e in
      let b = unless_accepted (is_value offset) 5 _ tt a.1 in
      let c = unless_accepted (list_fits n list) 6 _ tt b.1 in
      record { variables = a.0; start = b.0; records = c.0 }

  -- Walk refuses a list that fails its check for that at every X, one past the table too.
  pub list_before_x : Variables n → TableValue offset → list_fits n list ≡ false → (x : ℕ) → walk n offset list x ≡ refused 6
  unfolding walk of_list
  list_before_x inside ranged unfit x = rw ((variables_test n).1 inside, (value_test offset).1 ranged, unfit)

  -- Walk after its checks: 7, or the value.
  pub walk_outside : (x : ℕ) → Passing n offset list → 2 ^ n ≤ x → walk n offset list x ≡ refused 7
  unfolding walk of_list
  walk_outside x p h = rw (p.variables, p.start, p.records, le-ltb x (2 ^ n) h)

  pub walk_inside : (x : ℕ) → Passing n offset list → x < 2 ^ n → walk n offset list x ≡ accepted (walk_value n offset list x)
  unfolding walk of_list
  walk_inside x p h = rw (p.variables, p.start, p.records, lt-ltb x (2 ^ n) h)
