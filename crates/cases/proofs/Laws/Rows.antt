-- Rows compared place by place, a row's numbers stored as bytes, and what an answer found.
use Rattle.std.specs.Prelude.{◌≡◌, ℕ, suc, ◌+◌, ◌-◌, ◌<◌, ◌≤◌, Bool, ◌&&◌, List, [], ◌∷◌, ◌++◌, map, length, take, replicate, ℤ, pos, ◌==◌, nat_le, slice_index_or, slice_set, Option, Some, None}
use Rattle.std.proofs.Math.Path.{refl, ap, ap₂}
use Rattle.std.proofs.Common.{sym, ◌∙◌, true≢false, add-one, take-suc, length-take, length-take-le, take_all, take_at, le-leb, leb-true, leb-false}
use native.Mathlib.Omega.{arith}
use Rattle.std.proofs.lemmas.List.{length-map}
use Rattle.std.specs.declared.iter.Enumerate.{Enumerate}
use Rattle.std.specs.Iterator.{AlwaysYields}
use Rattle.std.specs.Iterator.Adapters.{enumerate_source, enumerate_count, enumerate_steps}
use Rattle.std.proofs.lemmas.Iterator.{YieldsList}
use Rattle.std.specs.List.{list_all}
use Rattle.std.specs.Option.{is_some, unwrap_or}
use Rattle.std.proofs.lemmas.List.{drop-replicate}
use Rattle.std.proofs.Math.Bool.{and_assoc}
use Rattle.std.proofs.lemmas.Bool.{lt-leb}
use Rattle.numbers.specs.Lists.{padded, overwritten}
use Rattle.numbers.specs.Ranges.{eq_z}
use Rattle.numbers.proofs.Laws.Bools.{yes_or_no}
use Rattle.numbers.proofs.Laws.Lists.{map_append}
use Rattle.numbers.proofs.Laws.Rows.{overwritten_none, overwritten_front}
use Rattle.numbers.proofs.Laws.Written.{length_kept, stored_behind}
use Rattle.blocks.specs.Classes.{same}
use Rattle.numbers.specs.Answers.{Answer, accepted, refused, map_answer}
use Rattle.cases.specs.Rows.{byte_of, image_bytes, answer_is, front_holds}

-- ---- a row and what it should hold, place by place

-- What a list holds, each with its place, the first having this one.
unfoldable pub placed : {A : Type 0} → ℕ → List A → List (ℕ × A)
placed k [] = []
placed k (a ∷ row) = (k, a) ∷ placed (suc k) row

-- That is what `enumerate` gives.
module _ {S A B : Type 0} (steps : S → Option A → S → Type 0) (v : A → B) where
  enumerates : (row : List B) (k : ℕ) (s : Enumerate S) → AlwaysYields steps v (enumerate_source s) row → enumerate_count s ≡ k → AlwaysYields (enumerate_steps steps) (λ p. (p.0, v p.1)) s (placed k row)
  unfolding placed
  enumerates [] k s e c = λ p t h. e p.1 _ h.0
  enumerates (a ∷ row) k s e c = (
    λ t h. e.0 _ h.0,
    λ p t h. let n = e.1 p.1 _ h.0 in (ap₂ (λ i b. (i, b)) (h.1 ∙ c) n.0, enumerates row (suc k) t n.1 (h.2 ∙ ap (λ i. i + 1) c ∙ add-one k)),
  )

pub YieldsList-from_enumerate : {S A B : Type 0} {steps : S → Option A → S → Type 0} {v : A → B} {s : Enumerate S} (row : List B) → YieldsList steps v (enumerate_source s) row → enumerate_count s ≡ 0 → YieldsList (enumerate_steps steps) (λ p. (p.0, v p.1)) s (placed 0 row)
YieldsList-from_enumerate {steps = steps} {v = v} {s = s} row y c = record { runs = enumerates steps v row 0 s y.runs c }

-- Whether the number of what stands at a place is that of a front there, and past the front the one that was lent.
module _ {A : Type 0} (left : A → ℤ) (right : ℤ → ℤ) (lent : ℤ) where
  unfoldable pub agrees : List ℤ → ℕ × A → Bool
  agrees front p = eq_z (left p.1) (right (slice_index_or front p.0 lent))

  -- A place further in a longer front, or behind a front that is over.
  shifted : (z : ℤ) (front : List ℤ) (k : ℕ) (row : List A) → list_all (agrees (z ∷ front)) (placed (suc k) row) ≡ list_all (agrees front) (placed k row)
  unfolding placed agrees
  shifted z front k [] = refl
  shifted z front k (a ∷ row) = ap (λ b. eq_z (left a) (right (slice_index_or front k lent)) && b) (shifted z front (suc k) row)

  past : (k : ℕ) (row : List A) → list_all (agrees []) (placed (suc k) row) ≡ list_all (agrees []) (placed k row)
  unfolding placed agrees
  past k [] = refl
  past k (a ∷ row) = ap (λ b. eq_z (left a) (right lent) && b) (past (suc k) row)

  pub all_agree : (row : List A) (front : List ℤ) → (list_all (agrees front) (placed 0 row) && nat_le (length front) (length row)) ≡ front_holds (right lent) (map left row) (map right front)
  unfolding placed agrees front_holds padded same
  all_agree [] [] = refl
  all_agree [] (z ∷ front) = lt-leb (suc (length front)) 0 (omega arith)
  all_agree (a ∷ row) [] =
      ap (λ b. (eq_z (left a) (right lent) && b) && nat_le 0 (suc (length row))) (past 0 row)
      ∙ and_assoc (eq_z (left a) (right lent)) (list_all (agrees []) (placed 0 row)) (nat_le 0 (suc (length row)))
      ∙ ap (λ b. eq_z (left a) (right lent) && (list_all (agrees []) (placed 0 row) && b)) (le-leb 0 (suc (length row)) (omega arith) ∙ sym (le-leb 0 (length row) (omega arith)))
      ∙ ap (λ b. eq_z (left a) (right lent) && b) (all_agree row [])
      ∙ ap (λ k. eq_z (left a) (right lent) && same (map left row) (replicate k (right lent))) (let e : length (map left row) - 0 ≡ length (map left row) = omega arith in e)
      ∙ ap (λ k. same (left a ∷ map left row) (replicate k (right lent))) (let e : suc (length (map left row)) ≡ suc (length (map left row)) - 0 = omega arith in e)
  all_agree (a ∷ row) (z ∷ front) =
      ap (λ b. (eq_z (left a) (right z) && b) && nat_le (suc (length front)) (suc (length row))) (shifted z front 0 row)
      ∙ and_assoc (eq_z (left a) (right z)) (list_all (agrees front) (placed 0 row)) (nat_le (suc (length front)) (suc (length row)))
      ∙ ap (λ b. eq_z (left a) (right z) && (list_all (agrees front) (placed 0 row) && b)) (let e : nat_le (suc (length front)) (suc (length row)) ≡ nat_le (length front) (length row) = grind arith in e)
      ∙ ap (λ b. eq_z (left a) (right z) && b) (all_agree row front)
      ∙ ap (λ k. eq_z (left a) (right z) && same (map left row) (map right front ++ replicate k (right lent))) (let e : length (map left row) - length (map right front) ≡ suc (length (map left row)) - suc (length (map right front)) = omega arith in e)

-- ---- a row's numbers stored as bytes

-- The first i numbers stand in front.
pub record BytesTo (bytes : List ℕ) (row : List ℤ) (i : ℕ) (bytes' : List ℕ) : Type 0 where
  pub inside : i ≤ length row
  pub stored : bytes' ≡ overwritten bytes 0 (map byte_of (take i row))

module _ (bytes : List ℕ) (row : List ℤ) (room : length row ≤ length bytes) where
  pub no_bytes : BytesTo bytes row 0 bytes
  no_bytes = record { inside = omega arith; stored = sym (overwritten_none bytes 0) }

  module _ {i : ℕ} {bytes' : List ℕ} (b : BytesTo bytes row i bytes') where
    many : length (map byte_of (take i row)) ≡ i
    many = length-map (take i row) byte_of ∙ length-take-le i row b.inside

    pub bytes_kept : length bytes' ≡ length bytes
    bytes_kept = length_kept bytes 0 (map byte_of (take i row)) b.stored (let m = many in let w = b.inside in omega arith)

    pub one_byte : i < length row → BytesTo bytes row (i + 1) (slice_set bytes' i (byte_of (slice_index_or row i (pos 0))))
    one_byte l = record {
      inside = omega arith;
      stored =
          stored_behind bytes 0 (map byte_of (take i row)) b.stored i (byte_of (slice_index_or row i (pos 0))) (let m = many in omega arith) (omega arith)
          ∙ ap (overwritten bytes 0) (sym (ap (λ k. map byte_of (take k row)) (add-one i) ∙ ap (map byte_of) (take-suc row i (pos 0) l) ∙ map_append byte_of (take i row) (slice_index_or row i (pos 0) ∷ [])));
    }

    pub all_bytes : length row ≤ i → bytes' ≡ overwritten bytes 0 (map byte_of row)
    all_bytes l = b.stored ∙ ap (λ r. overwritten bytes 0 (map byte_of r)) (take_all i row l)

-- The bytes of a case's image: where there are some, they stand in front; else it has more than it may.
module _ (image : List ℤ) where
  pub some_image : length image ≤ 512 → image_bytes image ≡ Some (padded 512 0 (map byte_of image))
  unfolding image_bytes
  some_image l = rw (le-leb (length image) 512 l, image_bytes)

  pub long_image : 512 < length image → image_bytes image ≡ None
  unfolding image_bytes
  long_image l = rw (lt-leb (length image) 512 l, image_bytes)

  pub bytes_padded : {bytes' : List ℕ} → bytes' ≡ overwritten (replicate 512 0) 0 (map byte_of image) → length image ≤ 512 → Some bytes' ≡ image_bytes image
  unfolding padded
  bytes_padded e l =
      ap Some (e ∙ overwritten_front (replicate 512 0) (map byte_of image) ∙ ap (λ rest. map byte_of image ++ rest) (drop-replicate (length (map byte_of image)) 512 0))
      ∙ sym (some_image l)

  pub no_image : image_bytes image ≡ None → 512 < length image
  no_image e =
      yes_or_no (nat_le (length image) 512)
      (λ b. absurd (true≢false (ap is_some (sym (some_image (leb-true (length image) 512 b)) ∙ e))))
      (λ b. leb-false (length image) 512 b)

  module _ {bytes : List ℕ} (e : image_bytes image ≡ Some bytes) where
    pub image_fits : length image ≤ 512
    image_fits =
        yes_or_no (nat_le (length image) 512)
        (λ b. leb-true (length image) 512 b)
        (λ b. absurd (true≢false (ap is_some (sym e ∙ long_image (leb-false (length image) 512 b)))))

    pub image_taken : take (length image) bytes ≡ map byte_of image
    unfolding padded
    image_taken =
        ap (λ found. take (length image) (unwrap_or found [])) (sym e ∙ some_image image_fits)
        ∙ take_at (map byte_of image) _ (length image) (length-map image byte_of)

    -- All of them are there.
    pub image_size : length image ≡ length (take (length image) bytes)
    image_size = sym (ap length image_taken ∙ length-map image byte_of)

    pub image_within : length image ≤ length bytes
    image_within = let s = image_size in let t = length-take (length image) bytes in omega arith

-- ---- answers

-- An answer of what was found is judged as what was found.
pub answer_mapped : {A B : Type 0} (f : A → B) (test : B → Bool) (answer : Answer A) {refusal size : ℕ} → refusal ≡ size → answer_is refusal (λ a. test (f a)) answer ≡ answer_is size test (map_answer f answer)
unfolding answer_is
answer_mapped f test (accepted a) e = ap (λ k. k == 0 && test (f a)) e
answer_mapped f test (refused k) e = ap (λ size. size == k) e
