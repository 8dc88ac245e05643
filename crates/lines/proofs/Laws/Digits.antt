-- The digits of a number, counted and then written from the lowest up.
use Rattle.std.specs.Prelude.{ℕ, zero, suc, ◌+◌, ◌*◌, ◌/◌, ◌%◌, ◌^◌, Option, Some, None, IfSome, IfNone, MatchOption, ◌≤◌, ◌<◌, ◌≡◌, refl, List, [], ◌∷◌, ◌++◌, length, take, drop, set, pos}
use Rattle.std.proofs.Math.Path.{sym, ap}
use Rattle.std.proofs.Math.Nat.{one-le-pow, pow-succ'}
use Rattle.std.proofs.Common.{◌∙◌, ap₂, append_assoc, add-one, lit<, arith, mod-eq_of_lt, length-append, drop_at, length-take-le}
use Rattle.std.proofs.Math.ListN.{length-set}
use Rattle.std.proofs.lemmas.List.{set_split, take-set-le}
use Rattle.numbers.specs.Lists.{overwritten}
use Rattle.numbers.proofs.Laws.Rows.{overwritten_none}
use Rattle.lines.specs.Text.{decimal}
use Rattle.lines.specs.Inner.Digits.{lowest_digits}
use Rattle.lines.specs.Inner.Writing.{Writes}
use Rattle.lines.proofs.Laws.Decimals.{by_digits, decimal_small, decimal_step, decimal_length}

-- As many digits as are asked for.
pub lowest_length : (count number : ℕ) → length (lowest_digits count number) ≡ count
unfolding lowest_digits
lowest_length zero number = refl
lowest_length (suc count) number = length-append (lowest_digits count (number / 10)) ((48 + number % 10) ∷ []) ∙ (let rest = lowest_length count (number / 10) in omega arith)

-- A decimal is the lowest digits of its number, as many as it has.
pub all_digits : (number : ℕ) → lowest_digits (length (decimal (pos number))) number ≡ decimal (pos number)
unfolding lowest_digits
all_digits = by_digits (λ number. lowest_digits (length (decimal (pos number))) number ≡ decimal (pos number)) small step
  where
    small : (number : ℕ) → number < 10 → lowest_digits (length (decimal (pos number))) number ≡ decimal (pos number)
    small number s = rw (decimal_small number s, mod-eq_of_lt s)

    step : (number : ℕ) → 10 ≤ number → lowest_digits (length (decimal (pos (number / 10)))) (number / 10) ≡ decimal (pos (number / 10)) → lowest_digits (length (decimal (pos number))) number ≡ decimal (pos number)
    step number l before =
        ap (λ digits. lowest_digits (length digits) number) (decimal_step number l)
        ∙ ap (λ count. lowest_digits count number) (length-append (decimal (pos (number / 10))) ((48 + number % 10) ∷ []) ∙ add-one (length (decimal (pos (number / 10)))))
        ∙ ap (λ front. front ++ (48 + number % 10) ∷ []) before
        ∙ sym (decimal_step number l)

-- ---- counting

-- The digits counted so far, and those of what is left.
pub record Counting (number count rest : ℕ) : Type 0 where
  pub total : count + length (decimal (pos rest)) ≡ 1 + length (decimal (pos number))
  pub bounded : count + rest ≤ 1 + number

pub counting_starts : (number : ℕ) → Counting number 1 number
counting_starts number = record { total = refl; bounded = omega arith }

pub counting_next : (number count rest : ℕ) → 10 ≤ rest → Counting number count rest → Counting number (count + 1) (rest / 10)
counting_next number count rest large c =
    let step = ap length (decimal_step rest large) ∙ length-append (decimal (pos (rest / 10))) ((48 + rest % 10) ∷ []) in
    let before = c.total in
    let bound = c.bounded in
    record { total = omega arith; bounded = omega arith }

pub counting_ends : (number count rest : ℕ) → rest < 10 → Counting number count rest → count ≡ length (decimal (pos number))
counting_ends number count rest small c = let one = ap length (decimal_small rest small) in let all = c.total in omega arith

-- A number of 10^k and more has more than k digits.
longer : (k number : ℕ) → 10 ^ k ≤ number → k < length (decimal (pos number))
longer zero number l = by_digits (λ number. 0 < length (decimal (pos number))) (λ number small. rw (decimal_small number small) (omega arith)) (λ number large before. rw (decimal_step number large, length-append) (omega arith)) number
longer (suc k) number l =
    let some = one-le-pow k 10 (lit< tt) in
    let next = pow-succ' 10 k in
    let before = longer k (number / 10) (omega arith) in
    rw (decimal_step number (omega arith), length-append) (omega arith)

-- A number has one digit more than its logarithm, or one if it has none.
pub logarithm_counts : (number count : ℕ) (log : Option ℕ) (Q : ℕ → Type 0) → ((k : ℕ) → Q k → count ≡ k + 1) → IfNone log (number ≡ 0) → IfSome log (λ k. 10 ^ k ≤ number) → IfSome log (λ k. number < 10 * 10 ^ k)
    → MatchOption log (count ≡ 1) Q → count ≡ length (decimal (pos number))
logarithm_counts number count None Q more none low high one = rw (none, decimal_small 0 (omega arith)) one
logarithm_counts number count (Some k) Q more none low high q =
    let one = more k q in
    let least = longer k number low in
    let most = decimal_length k number (rw (pow-succ' 10 k) high) in
    omega arith

-- ---- writing

-- A digit stored, and those in front of it still to come: together they are one piece.
digit_stored : (row : List ℕ) (at : ℕ) (front : List ℕ) (digit next : ℕ) → at + length front ≡ next → next < length row → overwritten (set row next digit) at front ≡ overwritten row at (front ++ digit ∷ [])
unfolding overwritten
digit_stored row at front digit next e room =
    ap₂ (λ before after. before ++ (front ++ after)) (take-set-le at row next digit (omega arith)) behind
    ∙ ap (λ l. take at row ++ l) (sym (append_assoc front (digit ∷ []) (drop (suc next) row)) ∙ ap (λ k. (front ++ digit ∷ []) ++ drop k row) place)
  where
    place : suc next ≡ at + length (front ++ digit ∷ [])
    place = let l = length-append front (digit ∷ []) in omega arith

    behind : drop (at + length front) (set row next digit) ≡ digit ∷ drop (suc next) row
    behind =
        ap (λ k. drop k (set row next digit)) e
        ∙ ap (drop next) (set_split row next digit room)
        ∙ drop_at (take next row) (digit ∷ drop (suc next) row) next (length-take-le next row (omega arith))

-- So many digits of what is left of the number are still to be written: with them the whole number stands there.
pub record DigitsLeft (row : List ℕ) (at number left rest : ℕ) (row' : List ℕ) : Type 0 where
  pub few : left ≤ length (decimal (pos number))
  pub kept : length row' ≡ length row
  pub together : overwritten row' at (lowest_digits left rest) ≡ overwritten row at (decimal (pos number))

module _ (row : List ℕ) (at number : ℕ) where
  pub all_left : {count : ℕ} → count ≡ length (decimal (pos number)) → DigitsLeft row at number count number row
  all_left e = record { few = omega arith; kept = refl; together = ap (λ count. overwritten row at (lowest_digits count number)) e ∙ ap (overwritten row at) (all_digits number) }

  pub next_digit : {before rest : ℕ} {row' : List ℕ} (left : ℕ) → before ≡ suc left → at + length (decimal (pos number)) ≤ length row → DigitsLeft row at number before rest row'
      → DigitsLeft row at number left (rest / 10) (set row' (at + left) (48 + rest % 10))
  unfolding lowest_digits
  next_digit {before} {rest} {row'} left e room d =
      let few = d.few in
      let kept = d.kept in
      record {
        few = omega arith;
        kept = length-set row' (at + left) (48 + rest % 10) ∙ kept;
        together = digit_stored row' at (lowest_digits left (rest / 10)) (48 + rest % 10) (at + left) (ap (λ k. at + k) (lowest_length left (rest / 10))) (omega arith) ∙ ap (λ k. overwritten row' at (lowest_digits k rest)) (sym e) ∙ d.together;
      }

  pub none_left : {left rest count : ℕ} {row' : List ℕ} → left ≡ 0 → count ≡ length (decimal (pos number)) → DigitsLeft row at number left rest row' → Writes row at (decimal (pos number)) (at + count) row'
  unfolding lowest_digits
  none_left {rest = rest} {row' = row'} none e d = record {
    behind = ap (λ count. at + count) e;
    written = sym (overwritten_none row' at) ∙ ap (λ left. overwritten row' at (lowest_digits left rest)) (sym none) ∙ d.together;
  }
