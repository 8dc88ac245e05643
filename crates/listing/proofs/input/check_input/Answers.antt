-- `input::check_input` meets its contract, check by check.
use Rattle.std.proofs.Common.{ℕ, ◌+◌, ◌*◌, ◌^◌, ◌≤◌, ◌≡◌, sym, ◌∙◌, true, List, arith, length, get_or, pow_mono, le-leb, eq-eqb, ne_eqb}
use Rattle.std.proofs.lemmas.Bool.{lt-leb}
use Rattle.listing.specs.Listing.{is_listed}
use Rattle.numbers.specs.Refusals.{number, answer_of}
use Rattle.listing.specs.Inner.Listed.{input_refusal}
use Rattle.listing.proofs.Laws.Listed.{listed_range}
use Rattle.listing.proofs.input.check_input.Goals as goal
use Rattle.listing.proofs.input.check_input.Goals.{After-is_listed, After-power, Else-not-is_listed}

pub returns-then-input-lt2 : goal.returns-then-input-lt2
unfolding input_refusal number answer_of
returns-then-input-lt2 c = rw (lt-leb 2 (length c.args.input.now) c.if-input-lt2.true)

module _ (c : After-is_listed) where
  abbrev input : List ℕ
  input = c.args.input.now

  two : 2 ≤ length input
  two = c.if-input-lt2.false

pub returns-then-not-is_listed : goal.returns-then-not-is_listed
unfolding input_refusal number answer_of
returns-then-not-is_listed c =
    let i = (goal.at.returns-then-not-is_listed c).After-is_listed in
    rw (le-leb 2 (length (input i)) (two i), sym i.is_listed.ensures ∙ c.if-not-is_listed.true)

-- n is from 1 to 11, and its values are at most 2,048.
module _ (c : Else-not-is_listed) where
  inside : is_listed (get_or (input (goal.at.power-requires c).After-is_listed) 0 0) ≡ true
  inside = sym c.is_listed.ensures ∙ c.if-not-is_listed.false

  few : get_or (input (goal.at.power-requires c).After-is_listed) 0 0 ≤ 11
  few = (listed_range (get_or (input (goal.at.power-requires c).After-is_listed) 0 0) inside).1

module _ (c : After-power) where
  most : c.power.result ≤ 2048
  most =
      let e = c.power.ensures in
      let m = pow_mono {i = get_or (input (goal.at.overflow_mul-power c).After-is_listed) 0 0} {j = 11} (few (goal.at.overflow_mul-power c).Else-not-is_listed) in
      omega arith

pub power-requires : goal.power-requires
power-requires c = let f = few c in omega arith

pub overflow_mul-power : goal.overflow_mul-power
overflow_mul-power c = let m = most c in omega arith

pub overflow_add-power : goal.overflow_add-power
overflow_add-power c = let m = most c in omega arith

pub returns-then-input-power : goal.returns-then-input-power
unfolding input_refusal number answer_of
returns-then-input-power c =
    let e = (goal.at.returns-then-input-power c).Else-not-is_listed in
    let made = c.power.ensures in
    let other : length (input (goal.at.returns-then-input-power c).After-is_listed) ≡ 2 + 4 * 2 ^ get_or (input (goal.at.returns-then-input-power c).After-is_listed) 0 0 → ⊥ = λ count. c.if-input-power.true (omega arith) in
    rw (le-leb 2 (length (input (goal.at.returns-then-input-power c).After-is_listed)) (two (goal.at.returns-then-input-power c).After-is_listed), inside e, ne_eqb _ _ other)

pub returns : goal.returns
unfolding input_refusal number answer_of
returns c =
    let e = (goal.at.returns c).Else-not-is_listed in
    let made = c.power.ensures in
    let same = c.if-input-power.false in
    let count : length (input (goal.at.returns c).After-is_listed) ≡ 2 + 4 * 2 ^ get_or (input (goal.at.returns c).After-is_listed) 0 0 = omega arith in
    rw (le-leb 2 (length (input (goal.at.returns c).After-is_listed)) (two (goal.at.returns c).After-is_listed), inside e, eq-eqb _ _ count)
