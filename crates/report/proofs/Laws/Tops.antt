-- What is reached above the lowest variables: the value from there on, and that neighbours share it.
use Rattle.std.proofs.Common.{ℕ, ◌+◌, ◌-◌, ◌/◌, ◌%◌, ◌^◌, ◌≤◌, ◌<◌, min, arith}
use Rattle.std.specs.Prelude.{◌≡◌, List, ℤ}
use Rattle.std.proofs.Math.Path.{sym, ap}
use Rattle.std.proofs.Common.{◌∙◌, w32, of_z, to_z, to_z-of_z}
use Rattle.std.proofs.Math.Nat.{div-eq_of_lt}
use Rattle.std.proofs.Math.Decide.{dec_lt}
use borrow.Author.Rules.{sfits_of}
use Rattle.numbers.proofs.Laws.Bounds.{value_mag}
use Rattle.diagram.specs.Walk.{walk_value}
use Rattle.diagram.specs.Inner.Edges.{descend, root_of, Passing, PathReady}
use Rattle.diagram.proofs.Laws.Checks.{variables_range}
use Rattle.diagram.proofs.Laws.Edges.{descend_all, descend_on, descend_same, ready_below, ready_root}
use Rattle.report.specs.Inner.Tops.{lowest_of, top_at}

-- Not more than there are.
pub lowest_within : (n : ℕ) → lowest_of n ≤ n
unfolding lowest_of
lowest_within n = omega arith

lowest_all : (n : ℕ) → lowest_of n + (n - lowest_of n) ≡ n
lowest_all n = let l = lowest_within n in omega arith

module _ (n : ℕ) (offset : ℤ) (list : List ℤ) where
  -- With the lowest variables read too it is the value at X.
  pub top_value : (x : ℕ) → (descend list 0 (lowest_of n) x (top_at n offset list x)).value ≡ walk_value n offset list x
  unfolding top_at
  top_value x =
      ap (λ r. r.value) (descend_on list (lowest_of n) (n - lowest_of n) x (root_of offset list) ∙ ap (λ m. descend list 0 m x (root_of offset list)) (lowest_all n))
      ∙ descend_all n offset list x

  -- It may be followed.
  pub root_ready : Passing n offset list → PathReady list (lowest_of n) (n - lowest_of n) (root_of offset list)
  root_ready p = ready_root n offset list (variables_range n p.variables).1 p (lowest_of n) (n - lowest_of n) (lowest_all n)

  pub top_ready : Passing n offset list → (x : ℕ) → PathReady list 0 (lowest_of n) (top_at n offset list x)
  unfolding top_at
  top_ready p x = ready_below list (lowest_of n) (n - lowest_of n) x (root_of offset list) (root_ready p)

  -- The offset as the machine has it.
  pub offset_told : Passing n offset list → to_z w32 (of_z w32 offset) ≡ offset
  offset_told p = let m = value_mag offset p.start in to_z-of_z {w = w32} (sfits_of (omega arith))

  -- Neighbours share it but where a multiple of 8 begins.
  pub top_next : (x : ℕ) → x + 1 < 2 ^ n → ((x + 1) % 8 ≡ 0 → ⊥) → top_at n offset list x ≡ top_at n offset list (x + 1)
  unfolding top_at lowest_of
  top_next x h apart = descend_same list (lowest_of n) (n - lowest_of n) x (x + 1) (root_of offset list) (few_or_more (dec_lt n 3))
    where
      few_or_more : Dec (n < 3) → x / 2 ^ min n 3 ≡ (x + 1) / 2 ^ min n 3
      few_or_more (yes p) = ap (λ k. x / 2 ^ k) all ∙ div-eq_of_lt (omega arith) ∙ sym (ap (λ k. (x + 1) / 2 ^ k) all ∙ div-eq_of_lt h)
        where
          all : min n 3 ≡ n
          all = omega arith
      few_or_more (no p) = ap (λ k. x / 2 ^ k) three ∙ (let e : x / 8 ≡ (x + 1) / 8 = omega arith in e) ∙ ap (λ k. (x + 1) / 2 ^ k) (sym three)
        where
          three : min n 3 ≡ 3
          three = omega arith
