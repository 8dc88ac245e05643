-- A block that does not branch has equal halves, value by value; one that branches has not.
use Rattle.std.specs.Prelude.{ℕ, suc, ◌/◌, ◌^◌, ◌≡◌, true, false, not, List, length, take, drop, ℤ}
use Rattle.std.proofs.Common.{sym, ◌∙◌, ap, true≢false, arith}
use Rattle.std.proofs.Math.Nat.{two-pow-succ}
use Rattle.std.proofs.lemmas.Bool.{not-false, not-true}
use Rattle.blocks.specs.Blocks.{lower_half, upper_half}
use Rattle.blocks.specs.Classes.{same}
use Rattle.blocks.proofs.Laws.Same.{same_true, equal_same}
use Rattle.diagram.specs.Records.{branches}

pub unbranched_halves : (i : ℕ) (values : List ℤ) → branches i values ≡ false → lower_half i values ≡ upper_half i values
unfolding branches
unbranched_halves i values h =
    same_true (lower_half i values) (upper_half i values) (not-false (same (lower_half i values) (upper_half i values)) h)

pub branched_halves : (i : ℕ) (values : List ℤ) → branches i values ≡ true → lower_half i values ≡ upper_half i values → ⊥
unfolding branches
branched_halves i values h e =
    true≢false
    (sym (equal_same (lower_half i values) (upper_half i values) e)
    ∙ not-true (same (lower_half i values) (upper_half i values)) h)

-- A block branches exactly where its two halves, told apart at the middle of its length, are not the same.
pub branches_by_halves : (i : ℕ) (values : List ℤ) → length values ≡ 2 ^ suc i → branches i values ≡ not (same (take (length values / 2) values) (drop (length values / 2) values))
unfolding branches lower_half upper_half
branches_by_halves i values e =
    ap (λ m. not (same (take m values) (drop m values))) (let d : 2 ^ i ≡ length values / 2 = omega (arith, two-pow-succ i) in d)
