-- The numbers tried of a cut's blocks, as many as it has blocks.
use Rattle.std.specs.Prelude.{ℕ, ◌-◌, ◌^◌, ◌≤◌, ◌<◌, ◌≡◌, List, map, length, get_or, ℤ}
use Rattle.std.proofs.Common.{◌∙◌, ap, zero-add}
use Rattle.std.proofs.lemmas.List.{length-map}
use Rattle.numbers.specs.Lists.{numbers_from}
use Rattle.numbers.proofs.Laws.Lists.{length_range, get_d_range, get_d_map}
use Rattle.blocks.specs.Blocks.{blocks, differences}
use Rattle.blocks.proofs.Laws.Cuts.{lists_length}
use Rattle.blocks.specs.Tries.{tried_at, tries_of, cut_tries}

pub length_tries : (ds : List (List ℤ)) → length (tries_of ds) ≡ length ds
unfolding tries_of
length_tries ds = length-map (numbers_from 0 (length ds)) (tried_at ds) ∙ length_range 0 (length ds)

pub tries_at : (ds : List (List ℤ)) (j : ℕ) → j < length ds → get_or (tries_of ds) j 0 ≡ tried_at ds j
unfolding tries_of
tries_at ds j l = get_d_map (tried_at ds) (numbers_from 0 (length ds)) j 0 0 (rw length_range l) ∙ ap (tried_at ds) (get_d_range 0 (length ds) j 0 l ∙ zero-add j)

pub length_cut_tries : (n h : ℕ) → h ≤ n → (table : List ℤ) → length (cut_tries n table h) ≡ 2 ^ h
unfolding cut_tries
length_cut_tries n h cut table = length_tries (map differences (blocks n table (n - h))) ∙ lists_length n h cut table
