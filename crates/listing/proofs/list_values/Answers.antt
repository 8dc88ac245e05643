-- `listing::list_values` meets its contract: the row's front is the input's table.
use Rattle.std.proofs.Common.{ℕ, ◌^◌, ◌≤◌, ◌≡◌, sym, ◌∙◌, ap, List, length, take, arith, pow_mono, length-take-le, ℤ, pos, get_or, replicate}
use lib.ListN.{length-replicate}
use Rattle.listing.specs.Listing.{most_listed, table_of}
use Rattle.listing.specs.Inner.Values.{values_of}
use Rattle.listing.specs.Inner.Listed.{InputCounted}
use Rattle.listing.proofs.Laws.Listed.{listed_range, plan_listed}
use Rattle.listing.proofs.Laws.Values.{values_table}
use Rattle.listing.proofs.list_values.Goals as goal

abbrev zeros : List ℤ
zeros = replicate 2048 (pos 0)

module _ (input text : List ℕ) (r : InputCounted input text) where
  few : get_or input 0 0 ≤ 11
  few = (listed_range (get_or input 0 0) r.inside).1

  -- The row has a place for each value.
  module _ (count : ℕ) (made : count ≡ 2 ^ get_or input 0 0) where
    most : count ≤ length zeros
    most = let m = pow_mono {i = get_or input 0 0} {j = 11} few in rw (length-replicate 2048 (pos 0)) (omega arith)

    places : length (take count zeros) ≡ 2 ^ get_or input 0 0
    places = length-take-le count zeros most ∙ made

    -- The values that were read are the table.
    is_table : values_of input (length (take count zeros)) ≡ table_of input
    is_table = ap (values_of input) places ∙ values_table input (2 ^ get_or input 0 0) r.counted

pub power-requires : goal.power-requires
power-requires c = let f = few c.args.input.now c.args.text.now c.requires in omega arith

pub slice_bounds-row-end : goal.slice_bounds-row-end
slice_bounds-row-end c = most c.args.input.now c.args.text.now c.requires c.power.result c.power.ensures

pub slice_bounds-values-end : goal.slice_bounds-values-end
slice_bounds-values-end c = c.power.ensures ∙ sym (places c.args.input.now c.args.text.now c.requires c.power.result c.power.ensures)

pub read_values-requires : goal.read_values-requires
read_values-requires c = let l = places c.args.input.now c.args.text.now c.requires c.power.result c.power.ensures in let e = c.requires.counted in omega arith

pub list_table-requires : goal.list_table-requires
unfolding most_listed
list_table-requires c = (few c.args.input.now c.args.text.now c.requires, c.requires.room)

pub returns : goal.returns
returns c =
    rw (plan_listed c.args.input.now c.requires.inside c.requires.counted)
    (rw (c.read_values.ensures ∙ is_table c.args.input.now c.args.text.now c.requires c.power.result c.power.ensures) at c.list_table.ensures)
