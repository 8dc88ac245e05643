-- `widths::weight_width` meets its contract: the bits of the greater unsigned part, and one more where a weight is negative.
use Prim.Native.Nat.{◌+◌, ◌^◌, ◌<◌}
use mathlib.Core.Path.{◌≡◌, sym, ◌∙◌, ap, ap₂}
use mathlib.Core.Bool.{true, false, not, ◌||◌}
use mathlib.Core.List.{[], ◌∷◌}
use native.Mathlib.Numerals.{one-add}
use native.Mathlib.Omega.{arith}
use lib.IntN.{pos}
use lib.Signed.{mag, lt_z}
use mir.Facts.{Fits-of_lt, to_z-of_z}
use Rattle.numbers.specs.Inner.Bits.{bit_length, greatest_part}
use Rattle.numbers.proofs.Laws.BitLength.{bit_length_least, unsigned_length, signed_length, pair_sign, pair_part}
use Rattle.std.specs.Prelude.{max}
use Rattle.numbers.proofs.widths.weight_width.Goals as goal
use Rattle.numbers.proofs.widths.weight_width.Goals.{then-least-lt0, else-least-lt0, After-bit_length-bits, Joined-least-lt0}

-- The bits are those of the greater unsigned part.
is_length : (c : After-bit_length-bits) → c.bit_length-bits.result ≡ bit_length (greatest_part (c.args.least ∷ c.args.greatest ∷ []))
is_length c =
    let low = c.args.least in
    let high = c.args.greatest in
    let is-low : c.unsigned_part-low.result ≡ mag low = c.unsigned_part-low.ensures ∙ ap mag (to_z-of_z c.ranges.least) in
    let is-high : c.unsigned_part-high.result ≡ mag high = c.unsigned_part-high.ensures ∙ ap mag (to_z-of_z c.ranges.greatest) in
    c.bit_length-bits.ensures ∙ ap bit_length (c.max.ensures ∙ ap₂ max is-low is-high ∙ pair_part low high)

-- The two tests for a negative weight.
is_signed : (c : Joined-least-lt0) → c.if-least-lt0.value ≡ (lt_z c.args.least (pos 0) || lt_z c.args.greatest (pos 0))
is_signed c =
    let at = c.before.before.before.before.before in
    let low = at.args.least in
    let high = at.args.greatest in
    let test_low = ap (λ z. lt_z z (pos 0)) (to_z-of_z at.ranges.least) in
    let test-high = ap (λ z. lt_z z (pos 0)) (to_z-of_z at.ranges.greatest) in
    elim c.if-least-lt0.branch [
      | then-least-lt0 w ↦
          let negative : lt_z low (pos 0) ≡ true = sym test_low ∙ w.if-least-lt0.true in
          w.value-is ∙ w.if-least-lt0.true ∙ sym (ap (λ t. t || lt_z high (pos 0)) negative)
      | else-least-lt0 w ↦
          let plain : lt_z low (pos 0) ≡ false = sym test_low ∙ w.if-least-lt0.false in
          w.value-is ∙ test-high ∙ sym (ap (λ t. t || lt_z high (pos 0)) plain)
    ]

pub overflow_add-result : goal.overflow_add-result
overflow_add-result c =
    let at = c.before.before.before.before.before.before in
    let pair = at.args.least ∷ at.args.greatest ∷ [] in
    let small : greatest_part pair < 2 ^ 32 = omega (arith, pair_part at.args.least at.args.greatest, at.ranges.least.sfits, at.ranges.greatest.sfits) in
    Fits-of_lt (omega (arith, bit_length_least (greatest_part pair) 32 small, is_length c.before.before))

pub returns-then-greatest-lt0 : goal.returns-then-greatest-lt0
returns-then-greatest-lt0 c =
    let at = c.before.before.before.before.before.before in
    let pair = at.args.least ∷ at.args.greatest ∷ [] in
    ap (λ b. 1 + b) (is_length c.before.before)
    ∙ one-add (bit_length (greatest_part pair))
    ∙ sym (signed_length pair (pair_sign at.args.least at.args.greatest ∙ ap not (sym (is_signed c.before) ∙ c.if-greatest-lt0.true)))

pub returns-else-greatest-lt0 : goal.returns-else-greatest-lt0
returns-else-greatest-lt0 c =
    let at = c.before.before.before.before.before.before in
    let pair = at.args.least ∷ at.args.greatest ∷ [] in
    is_length c.before.before
    ∙ sym (unsigned_length pair (pair_sign at.args.least at.args.greatest ∙ ap not (sym (is_signed c.before) ∙ c.if-greatest-lt0.false)))
