-- `node_lines::write_node` meets its contract: the record's numbers are written as they are read.
use Rattle.std.proofs.Common.{ℕ, ◌≡◌, ◌∙◌, List, [], ◌∷◌, ℤ, pos, w32, to_z, of_z, to_z-of_z}
use Rattle.std.proofs.lemmas.Int.{to_z_pos}
use Rattle.lines.specs.Text.{ascii, line}
use Rattle.diagram.specs.Walk.{variable_at, low_at, high_at, weight_at}
use Rattle.listing.specs.Inner.NodeLines.{record_line}
use borrow.Author.Rules.{sfits_of}
use Rattle.listing.proofs.node_lines.write_node.Goals as goal
use Rattle.listing.proofs.node_lines.write_node.Goals.{After-number_at-weight}

-- The numbers of the line: that of the record, and the four that were read.
module _ (c : After-number_at-weight) where
  abbrev nodes : List ℤ
  nodes = c.args.nodes.now

  abbrev k : ℕ
  k = c.args.k

  numbers : to_z w32 k ∷ to_z w32 (of_z w32 c.number_at-variable.result) ∷ to_z w32 (of_z w32 c.number_at-low.result) ∷ to_z w32 (of_z w32 c.number_at-high.result) ∷ to_z w32 (of_z w32 c.number_at-weight.result) ∷ [] ≡ pos k ∷ variable_at nodes k ∷ low_at nodes k ∷ high_at nodes k ∷ weight_at nodes k ∷ []
  unfolding variable_at low_at high_at weight_at
  numbers =
      let number = to_z_pos w32 _ c.requires.recorded.1 in
      let variable = to_z-of_z {w = w32} (sfits_of c.number_at-variable.type_inv) ∙ c.number_at-variable.ensures in
      let low = to_z-of_z {w = w32} (sfits_of c.number_at-low.type_inv) ∙ c.number_at-low.ensures in
      let high = to_z-of_z {w = w32} (sfits_of c.number_at-high.type_inv) ∙ c.number_at-high.ensures in
      let weight = to_z-of_z {w = w32} (sfits_of c.number_at-weight.type_inv) ∙ c.number_at-weight.ensures in
      rw (number, variable, low, high, weight)

pub write_line-requires : goal.write_line-requires
unfolding record_line line ascii
write_line-requires c = rw (numbers (goal.at.write_line-requires c).After-number_at-weight) c.requires.k_in_bounds

pub returns : goal.returns
unfolding record_line line ascii
returns c = rw (numbers (goal.at.returns c).After-number_at-weight) at c.write_line.ensures
