-- A list in an array of more places: its length, its front, one place more, a new last entry, and each entry.
use Prim.Native.Nat.{ℕ, suc, ◌+◌, ◌-◌, ◌≤◌, ◌<◌}
use Rattle.std.specs.Prelude.{◌≡◌, take, ltb}
use Rattle.std.proofs.Math.Path.{sym, ap}
use Rattle.std.proofs.Common.{◌∙◌}
use mathlib.Core.List.{List, [], ◌∷◌, ◌++◌, append_assoc}
use native.Mathlib.Omega.{arith}
use Rattle.std.proofs.Math.ListN.{length, get_or, set, replicate, length-append, get_or-replicate, length-replicate, get_or-append, get_or-eq_default}
use Rattle.std.proofs.lemmas.List.{replicate-append-replicate}
use Rattle.std.proofs.Math.Seq.{take-append_seam, get_or-append-add, set-append_seam}
use borrow.Author.Tests.{ltb-true, ltb-false}
use Rattle.numbers.specs.Lists.{padded}
use Rattle.numbers.proofs.Laws.Bools.{yes_or_no}

module _ {A : Type 0} (filler : A) where
  pub length_padded : (places : ℕ) (l : List A) → length l ≤ places → length (padded places filler l) ≡ places
  unfolding padded
  length_padded places l h = rw (length-append, length-replicate) (let e : length l + (places - length l) ≡ places = omega arith in e)

  pub take_padded : (places : ℕ) (l : List A) → take (length l) (padded places filler l) ≡ l
  unfolding padded
  take_padded places l = take-append_seam l (replicate (places - length l) filler)

  pub padded_suc : (places : ℕ) (l : List A) → length l ≤ places → padded (suc places) filler l ≡ padded places filler l ++ filler ∷ []
  unfolding padded
  padded_suc places l h =
      ap (λ n. l ++ replicate n filler) (let e : suc places - length l ≡ (places - length l) + 1 = omega arith in e)
      ∙ ap (λ r. l ++ r) (sym (replicate-append-replicate (places - length l) 1 filler))
      ∙ sym (append_assoc l (replicate (places - length l) filler) (filler ∷ []))

  -- An entry behind the last takes the place of a filler.
  pub set_padded : (places : ℕ) (l : List A) (a : A) → length l < places → set (padded places filler l) (length l) a ≡ padded places filler (l ++ a ∷ [])
  unfolding padded
  set_padded places l a h =
      ap (λ n. set (l ++ replicate n filler) (length l) a) (let e : places - length l ≡ suc (places - suc (length l)) = omega arith in e)
      ∙ set-append_seam l filler (replicate (places - suc (length l)) filler) a
      ∙ sym (append_assoc l (a ∷ []) (replicate (places - suc (length l)) filler))
      ∙ ap (λ n. l ++ a ∷ [] ++ replicate (places - n) filler) (let e : suc (length l) ≡ length (l ++ a ∷ []) = omega (arith, length-append l (a ∷ [])) in e)

  -- Its entries are the list's, and then the filler.
  pub padded_entry : (places : ℕ) (l : List A) (c : ℕ) → c < length l → get_or (padded places filler l) c filler ≡ get_or l c filler
  unfolding padded
  padded_entry places l c inside = get_or-append l (replicate (places - length l) filler) filler c inside

  pub padded_free : (places : ℕ) (l : List A) (c : ℕ) → length l ≤ c → get_or (padded places filler l) c filler ≡ filler
  unfolding padded
  padded_free places l c past =
      ap (λ k. get_or (l ++ replicate (places - length l) filler) k filler) (let e : c ≡ length l + (c - length l) = omega arith in e)
      ∙ get_or-append-add l (replicate (places - length l) filler) (c - length l) filler
      ∙ yes_or_no (ltb (c - length l) (places - length l))
      (λ e. get_or-replicate (places - length l) (c - length l) filler filler (ltb-true (c - length l) (places - length l) e))
      (λ e. get_or-eq_default (replicate (places - length l) filler) filler (let g = ltb-false (c - length l) (places - length l) e in omega (arith, length-replicate (places - length l) filler)))
