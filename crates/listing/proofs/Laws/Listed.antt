-- What is listed: the image always has room, so the answer is Plan's after the checks on the input's bytes.
use Rattle.std.specs.Prelude.{◌≡◌, refl, ◌↔◌, Bool, true, false, List, [], ◌∷◌, length, take, leb, eqb, ℤ, pos}
use Rattle.std.proofs.Common.{sym, ◌∙◌, arith, length-take-le, take_all, get_or-take, pow_mono, ℕ, ◌+◌, ◌-◌, ◌*◌, ◌/◌, ◌^◌, ◌≤◌, ◌<◌, leb-true, leb-false, le-leb, eqb-true, eq-eqb, ne_eqb}
use Rattle.std.proofs.lemmas.Bool.{lt-leb}
use Rattle.std.proofs.Math.Path.{ap}
use Rattle.std.proofs.Math.ListN.{get_or}
use Rattle.std.proofs.lemmas.List.{length-map}
use Rattle.numbers.specs.Answers.{Answer, accepted, refused, unless, and_then}
use Rattle.numbers.specs.Lists.{numbers_from, every}
use Rattle.numbers.specs.Ranges.{most_variables, is_variables, is_limit, is_value}
use Rattle.numbers.proofs.Laws.Answers.{unless_accepted, unless_refused}
use Rattle.numbers.proofs.Laws.Bools.{yes_or_no, both, and_both}
use Rattle.numbers.proofs.Laws.Lists.{length_range}
use Rattle.diagram.specs.Build.{of_table}
use Rattle.operands.specs.Bytes.{signed_at}
use Rattle.cascade.specs.Compile.{image_for, compile}
use Rattle.cascade.specs.Groupings.{chosen}
use Rattle.cascade.specs.Plan.{plan}
use Rattle.cascade.proofs.Laws.Admitting.{plan_admits}
use Rattle.cascade.proofs.Laws.Chosen.{chosen_best, chosen_refuses_by_nine}
use Rattle.cascade.proofs.Laws.Lengths.{image_length_most}
use Rattle.listing.specs.Listing.{most_listed, is_listed, image_room, table_of, listed, answer_text, listing}
use Rattle.listing.specs.Inner.Listed.{input_refusal}
use Rattle.lines.specs.Text.{line}

-- n of a table that is listed is from 1 to 11.
pub listed_range : (n : ℕ) → is_listed n ≡ true → (1 ≤ n) × (n ≤ 11)
unfolding is_listed most_listed
listed_range n h = let b = both (leb 1 n) (leb n 11) h in (leb-true 1 n b.0, leb-true n 11 b.1)

-- Every such n is listed.
pub range_listed : (n : ℕ) → 1 ≤ n → n ≤ 11 → is_listed n ≡ true
unfolding is_listed most_listed
range_listed n some few = and_both (leb 1 n) (leb n 11) (le-leb 1 n some) (le-leb n 11 few)

pub variables_listed : (n : ℕ) → ((1 ≤ n) × (n ≤ 11)) ↔ (is_listed n ≡ true)
variables_listed n = ((λ range. range_listed n range.0 range.1), listed_range n)

-- Compile takes it.
listed_is_variables : (n : ℕ) → is_listed n ≡ true → is_variables n ≡ true
unfolding is_variables most_variables
listed_is_variables n h = let r = listed_range n h in and_both (leb 1 n) (leb n 12) (le-leb 1 n r.0) (le-leb n 12 (omega (arith, r.1)))

-- An image buffer of 57,425 bytes or more holds every image: Compile's answer is Plan's, and 10 never occurs.
pub compile_planned : (n : ℕ) (table : List ℤ) (limit room : ℕ) → 57425 ≤ room → compile n table limit room ≡ plan n table limit
unfolding compile
compile_planned n table limit room large = either (plan n table limit) refl
  where
    rest : List ℕ → Answer (List ℕ)
    rest sizes = unless (leb (length (image_for n table sizes)) room) 10 (accepted sizes)

    either : (answer : Answer (List ℕ)) → plan n table limit ≡ answer → and_then (plan n table limit) rest ≡ plan n table limit
    either (accepted best) e =
        let admitted = plan_admits n table limit best e in
        let most = image_length_most n table admitted.0 best (chosen_best n table limit best admitted.1.1).grouping in
        ap (λ answer. and_then answer rest) e ∙ ap (λ test. unless test 10 (accepted best)) (le-leb (length (image_for n table best)) room (omega arith)) ∙ sym e
    either (refused k) e = ap (λ answer. and_then answer rest) e ∙ sym e

-- As many values as the bytes behind the first two give, 4 each.
pub table_length : (input : List ℕ) (count : ℕ) → length input ≡ 2 + 4 * count → length (table_of input) ≡ count
unfolding table_of
table_length input count e = length-map (numbers_from 0 ((length input - 2) / 4)) (λ j. signed_at input (2 + 4 * j)) ∙ length_range 0 ((length input - 2) / 4) ∙ omega arith

module _ (input : List ℕ) where
  -- The chosen sizes go by the checks on the bytes, then by Plan.
  pub listed_plan_lem : listed input ≡ unless (leb 2 (length input)) 2 (unless (is_listed (get_or input 0 0)) 1 (unless (eqb (length input) (2 + 4 * 2 ^ get_or input 0 0)) 2 (plan (get_or input 0 0) (table_of input) (get_or input 1 0))))
  unfolding listed image_room
  listed_plan_lem =
      ap (λ rest. unless (leb 2 (length input)) 2 (unless (is_listed (get_or input 0 0)) 1 (unless (eqb (length input) (2 + 4 * 2 ^ get_or input 0 0)) 2 rest)))
      (compile_planned (get_or input 0 0) (table_of input) (get_or input 1 0) image_room (omega arith))

  -- Under two bytes: 2.
  pub listed_under_two : length input < 2 → listed input ≡ refused 2
  listed_under_two short = listed_plan_lem ∙ rw (lt-leb 2 (length input) short)

  -- A number of variables outside 1..11: 1.
  pub listed_outside : 2 ≤ length input → is_listed (get_or input 0 0) ≡ false → listed input ≡ refused 1
  listed_outside two outside = listed_plan_lem ∙ rw (le-leb 2 (length input) two, outside)

  -- A wrong byte count: 2.
  pub listed_miscounted : 2 ≤ length input → is_listed (get_or input 0 0) ≡ true → (length input ≡ 2 + 4 * 2 ^ get_or input 0 0 → ⊥) → listed input ≡ refused 2
  listed_miscounted two inside other = listed_plan_lem ∙ rw (le-leb 2 (length input) two, inside, ne_eqb (length input) (2 + 4 * 2 ^ get_or input 0 0) other)

  -- Else Plan's checks of the values and of the limit, and its choice.
  pub listed_counted : is_listed (get_or input 0 0) ≡ true → length input ≡ 2 + 4 * 2 ^ get_or input 0 0
      → listed input ≡ unless (every is_value (table_of input)) 3 (unless (is_limit (get_or input 1 0)) 8 (chosen (get_or input 0 0) (table_of input) (get_or input 1 0)))
  unfolding plan of_table
  listed_counted inside count =
      listed_plan_lem
      ∙ rw (le-leb 2 (length input) (omega arith), eq-eqb (length input) (2 + 4 * 2 ^ get_or input 0 0) count, inside, listed_is_variables (get_or input 0 0) inside, eq-eqb (length (table_of input)) (2 ^ get_or input 0 0) (table_length input (2 ^ get_or input 0 0) count))

  -- Where sizes are listed, the checks on the bytes are passed and Plan accepts.
  pub listed_accepted : (sizes : List ℕ) → listed input ≡ accepted sizes
      → (is_listed (get_or input 0 0) ≡ true) × ((length input ≡ 2 + 4 * 2 ^ get_or input 0 0) × (plan (get_or input 0 0) (table_of input) (get_or input 1 0) ≡ accepted sizes))
  listed_accepted sizes e =
      let counted = unless (eqb (length input) (2 + 4 * 2 ^ get_or input 0 0)) 2 (plan (get_or input 0 0) (table_of input) (get_or input 1 0)) in
      let two = unless_accepted (leb 2 (length input)) 2 (unless (is_listed (get_or input 0 0)) 1 counted) sizes (sym listed_plan_lem ∙ e) in
      let inside = unless_accepted (is_listed (get_or input 0 0)) 1 counted sizes two.1 in
      let count = unless_accepted (eqb (length input) (2 + 4 * 2 ^ get_or input 0 0)) 2 (plan (get_or input 0 0) (table_of input) (get_or input 1 0)) sizes inside.1 in
      (inside.0, (eqb-true (length input) (2 + 4 * 2 ^ get_or input 0 0) count.0, count.1))

  -- A refusal has a number of one digit, and is not 10.
  pub listed_refused : (k : ℕ) → listed input ≡ refused k → k ≤ 9
  unfolding plan of_table
  listed_refused k e =
      first_check (leb 2 (length input)) 2
      (unless (is_listed n) 1 (unless (eqb (length input) (2 + 4 * 2 ^ n)) 2 (plan n table limit))) (omega arith)
      (first_check (is_listed n) 1 (unless (eqb (length input) (2 + 4 * 2 ^ n)) 2 (plan n table limit)) (omega arith)
      (first_check (eqb (length input) (2 + 4 * 2 ^ n)) 2 (plan n table limit) (omega arith)
      (first_check (is_variables n) 1 (unless (eqb (length table) (2 ^ n)) 2 (unless (every is_value table) 3 (unless (is_limit limit) 8 (chosen n table limit)))) (omega arith)
      (first_check (eqb (length table) (2 ^ n)) 2 (unless (every is_value table) 3 (unless (is_limit limit) 8 (chosen n table limit))) (omega arith)
      (first_check (every is_value table) 3 (unless (is_limit limit) 8 (chosen n table limit)) (omega arith)
      (first_check (is_limit limit) 8 (chosen n table limit) (omega arith)
      (λ j f. let nine = chosen_refuses_by_nine n table limit j f in omega arith)))))))
      k (sym listed_plan_lem ∙ e)
    where
      n : ℕ
      n = get_or input 0 0

      table : List ℤ
      table = table_of input

      limit : ℕ
      limit = get_or input 1 0

      first_check : (b : Bool) (number : ℕ) (rest : Answer (List ℕ)) → number ≤ 9 → ((k : ℕ) → rest ≡ refused k → k ≤ 9) → (k : ℕ) → unless b number rest ≡ refused k → k ≤ 9
      first_check = unless_refused (λ k. k ≤ 9)

  pub never_ten : ¬ (listed input ≡ refused 10)
  never_ten e = let nine = listed_refused 10 e in omega arith

  -- A refusal's line.
  pub refusal_listed : (k : ℕ) → listed input ≡ refused k → listing input ≡ line "refused" (pos k ∷ [])
  unfolding listing answer_text
  refusal_listed k e = ap (answer_text (get_or input 0 0) (table_of input)) e

  -- Plan's answer for an input that passed the checks on its bytes.
  pub plan_listed : is_listed (get_or input 0 0) ≡ true → length input ≡ 2 + 4 * 2 ^ get_or input 0 0 → listing input ≡ answer_text (get_or input 0 0) (table_of input) (plan (get_or input 0 0) (table_of input) (get_or input 1 0))
  unfolding listing
  plan_listed inside count =
      ap (answer_text (get_or input 0 0) (table_of input))
      (listed_plan_lem ∙ rw (le-leb 2 (length input) (omega arith), inside, eq-eqb (length input) (2 + 4 * 2 ^ get_or input 0 0) count))

-- ---- the checks on an input's bytes

module _ (input : List ℕ) where
  abbrev counted : Bool
  counted = eqb (length input) (2 + 4 * 2 ^ get_or input 0 0)

  abbrev planned : Answer (List ℕ)
  planned = plan (get_or input 0 0) (table_of input) (get_or input 1 0)

  -- They come first, then Plan.
  listed_checks : listed input ≡ and_then (input_refusal input) (λ t. planned)
  unfolding input_refusal
  listed_checks =
      listed_plan_lem input
      ∙ yes_or_no (leb 2 (length input))
      (λ two. yes_or_no (is_listed (get_or input 0 0)) (λ inside. yes_or_no counted (λ same. rw (two, inside, same)) (λ other. rw (two, inside, other))) (λ outside. rw (two, outside)))
      (λ short. rw short)

  -- Their refusal is the listing's.
  pub check_refused : (k : ℕ) → input_refusal input ≡ refused k → listed input ≡ refused k
  check_refused k e = listed_checks ∙ ap (λ answer. and_then answer (λ t. planned)) e

  -- An input that passes them has as many values as n asks for.
  pub check_passed : input_refusal input ≡ accepted tt → (is_listed (get_or input 0 0) ≡ true) × (length input ≡ 2 + 4 * 2 ^ get_or input 0 0)
  unfolding input_refusal
  check_passed e =
      let two = unless_accepted (leb 2 (length input)) 2 (unless (is_listed (get_or input 0 0)) 1 (unless counted 2 (accepted tt))) tt e in
      let inside = unless_accepted (is_listed (get_or input 0 0)) 1 (unless counted 2 (accepted tt)) tt two.1 in
      let same = unless_accepted counted 2 (accepted tt) tt inside.1 in
      (inside.0, eqb-true (length input) (2 + 4 * 2 ^ get_or input 0 0) same.0)

-- Their answer is the listing's refusal, or the input has as many values as n asks for.
pub data Checked (input : List ℕ) (answer : Answer Unit) : Type 0 where
  turned_away : (k : ℕ) → answer ≡ refused k → listed input ≡ refused k → Checked input answer
  passed : answer ≡ accepted tt → is_listed (get_or input 0 0) ≡ true → length input ≡ 2 + 4 * 2 ^ get_or input 0 0 → Checked input answer

pub checked : (input : List ℕ) → Checked input (input_refusal input)
checked input = by_answer (input_refusal input) refl
  where
    by_answer : (answer : Answer Unit) → input_refusal input ≡ answer → Checked input (input_refusal input)
    by_answer (accepted t) e = let p = check_passed input e in passed e p.0 p.1
    by_answer (refused k) e = turned_away k e (check_refused input k e)

-- ---- the longest input

-- A shorter list of bytes that is still longer than every admitted input, with the same first bytes, is refused as the longer one is.
pub listed_too_long : (input shorter : List ℕ) → 2 + 4 * 2 ^ 11 < length input → 2 + 4 * 2 ^ 11 < length shorter → get_or shorter 0 0 ≡ get_or input 0 0
    → (k : ℕ) × ((listed input ≡ refused k) × (listed shorter ≡ refused k))
listed_too_long input shorter long less same =
    yes_or_no (is_listed (get_or input 0 0))
    (λ inside.
    let few = (listed_range (get_or input 0 0) inside).1 in
    let most = pow_mono {i = get_or input 0 0} {j = 11} few in (
      2,
      (
        listed_miscounted input (omega arith) inside (λ e. omega arith),
        listed_miscounted shorter (omega arith) (ap is_listed same ∙ inside) (λ e. let f = e ∙ ap (λ v. 2 + 4 * 2 ^ v) same in omega arith),
      ),
    ))
    (λ outside. (1, (listed_outside input (omega arith) outside, listed_outside shorter (omega arith) (ap is_listed same ∙ outside))))

-- So one byte more than the longest admitted input has is enough to tell what is printed.
pub bytes_beyond : (input : List ℕ) → listing (take (3 + 4 * 2 ^ 11) input) ≡ listing input
bytes_beyond input =
    yes_or_no (leb (length input) (3 + 4 * 2 ^ 11))
    (λ short. ap listing (take_all (3 + 4 * 2 ^ 11) input (leb-true (length input) (3 + 4 * 2 ^ 11) short)))
    (λ long.
    let l = leb-false (length input) (3 + 4 * 2 ^ 11) long in
    let less = length-take-le (3 + 4 * 2 ^ 11) input (omega arith) in
    let refusals = listed_too_long input shorter (omega arith) (omega arith) (get_or-take (3 + 4 * 2 ^ 11) input 0 0 (omega arith)) in
    refusal_listed shorter refusals.0 refusals.1.1 ∙ sym (refusal_listed input refusals.0 refusals.1.0))
  where
    shorter : List ℕ
    shorter = take (3 + 4 * 2 ^ 11) input
