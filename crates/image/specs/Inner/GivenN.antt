-- What tells at once that an image is not one for a given n.
use Rattle.std.specs.Prelude.{ℕ, Bool, ◌&&◌, not, List, length, get_or, leb, eqb}
use Rattle.image.specs.Commands.{table_size}

-- A whole 0x56 stands first and carries another n. Whatever its offset, that is 13.
unfoldable pub has_other_n : ℕ → List ℕ → Bool
has_other_n n image = leb table_size (length image) && (eqb (get_or image 0 0) 0x56 && not (eqb (get_or image 1 0) n))
