-- `search::Known::find_class` meets its contract.
use mathlib.Core.Path.{refl}
use Rattle.classes.specs.Inner.Searching.{looked_up, found_among}
use Rattle.classes.proofs.search.Known.find_class.Goals as goal

pub returns : goal.returns
unfolding looked_up found_among
returns c = rw (c.uses_with.ensures, c.look_up-looked.ensures) refl
