-- The search for a block of a cut: what is known of the blocks before is what it asks for, and what it finds.
use Rattle.std.specs.Prelude.{ℕ, ◌-◌, ◌*◌, ◌/◌, ◌^◌, ◌<◌, ◌≡◌, take, ℤ}
use Rattle.std.proofs.Math.Path.{sym, ap, ap₂}
use Rattle.std.proofs.Common.{◌∙◌, zero-add, get_or-take}
use mathlib.Core.List.{List, []}
use Rattle.std.proofs.Math.Nat.{suc-mul, mul-le-mul_right}
use native.Mathlib.Omega.{arith}
use Rattle.std.proofs.Math.ListN.{length, get_or, length-map}
use Rattle.std.proofs.Math.Seq.{ext_get_or, length-take-le}
use Rattle.numbers.specs.Lists.{numbers_from, keep, tally}
use Rattle.numbers.proofs.Laws.Lists.{length_range, get_d_range, get_d_map}
use Rattle.blocks.specs.Blocks.{differences}
use Rattle.blocks.specs.Classes.{number_in, learn_all, distinct}
use Rattle.blocks.specs.Inner.Layout.{part}
use Rattle.blocks.specs.Rows.{numbers_of}
use Rattle.blocks.specs.Tries.{number_tried, block_class, known_before, tried_at}
use Rattle.blocks.specs.Uses.{use_count, uses_at}
use Rattle.blocks.proofs.Laws.Counting.{uses_include}
use Rattle.blocks.proofs.Laws.Known.{number_at, number_by, own_distinct, Among, distinct_seen}
use Rattle.blocks.proofs.Laws.Latest.{none_before, class_met, latest_known}
use Rattle.blocks.proofs.Laws.Order.{tried_none}
use Rattle.classes.specs.declared.search.Found.{Found}
use Rattle.classes.specs.Inner.Searching.{part_differences, KnownClasses, uses_with, SmallCounts, found_among}
use Rattle.classes.specs.Inner.Finding.{cut_lists, found_at, firsts_before, uses_before, BlocksBefore}
use Rattle.classes.proofs.Laws.Searching.{length_parts, part_at}
use Rattle.classes.proofs.Laws.Uses.{length_numbers, uses_few, uses_are}

pub length_cut_lists : (table : List ℤ) (size count : ℕ) → length (cut_lists table size count) ≡ count
length_cut_lists table size count = length_parts table size (numbers_from 0 count) ∙ length_range 0 count

cut_list_at : (table : List ℤ) (size count j : ℕ) → j < count → get_or (cut_lists table size count) j [] ≡ differences (part table size j)
cut_list_at table size count j h =
    part_at table size (numbers_from 0 count) j (rw length_range h)
    ∙ ap (λ k. differences (part table size k)) (get_d_range 0 count j 0 h ∙ zero-add j)

-- ---- what is known of the blocks before block j

module _ (table : List ℤ) (size count j : ℕ) (below : j < count) where
  abbrev ds : List (List ℤ)
  ds = cut_lists table size count

  below_ds : j < length ds
  below_ds = rw length_cut_lists below

  -- As many first blocks as known classes.
  known_count : length (firsts_before ds j) ≡ known_before ds j
  unfolding firsts_before known_before
  known_count = length-map (distinct (take j ds)) (number_in ds)

  -- Each known list stands at its first place.
  known_at : (k : ℕ) → k < known_before ds j → (number_in ds (get_or (distinct (take j ds)) k []) < count) × (get_or ds (number_in ds (get_or (distinct (take j ds)) k [])) [] ≡ get_or (distinct (take j ds)) k [])
  unfolding known_before Among
  known_at k h =
      let a = distinct_seen (take j ds) k h in
      let i = a.0 in
      let d = get_or (distinct (take j ds)) k [] in
      let i_below : i < j = (let l = a.1.0 in let t = length-take-le j ds (let b = below_ds in omega arith) in omega arith) in
      let stands : get_or ds i [] ≡ d = sym (get_or-take j ds i [] i_below) ∙ a.1.1 in
      let early = number_by ds d i stands in
      (omega arith, number_at ds d (rw length_cut_lists (omega arith)))

  place_at : (k : ℕ) → k < known_before ds j → get_or (firsts_before ds j) k 0 ≡ number_in ds (get_or (distinct (take j ds)) k [])
  unfolding firsts_before known_before
  place_at k h = get_d_map (number_in ds) (distinct (take j ds)) k [] 0 h

  -- The known classes are the different lists so far.
  known_lists : part_differences table size (firsts_before ds j) ≡ distinct (take j ds)
  unfolding known_before
  known_lists =
      ext_get_or [] (part_differences table size (firsts_before ds j)) (distinct (take j ds))
      (length_parts table size (firsts_before ds j) ∙ known_count)
      (λ k h.
      let h' : k < length (firsts_before ds j) = rw length_parts at h in
      let known : k < known_before ds j = rw known_count at h' in
      let a = known_at k known in
      part_at table size (firsts_before ds j) k h'
      ∙ ap (λ f. differences (part table size f)) (place_at k known)
      ∙ sym (cut_list_at table size count (number_in ds (get_or (distinct (take j ds)) k [])) a.0)
      ∙ a.1)

  -- The known classes are ready for the search.
  known_ready : length table ≡ count * size → KnownClasses table size (firsts_before ds j) (block_class ds (j - 1))
  unfolding known_before
  known_ready whole = record {
    parts = record {
      inside = λ k h.
          let known : k < known_before ds j = rw known_count at h in
          let m = mul-le-mul_right size (known_at k known).0 in
          rw (place_at k known) (omega (arith, suc-mul (number_in ds (get_or (distinct (take j ds)) k [])) size));
    };
    apart = λ k h. rw known_lists (own_distinct (take j ds) k (rw known_count at h));
    among = λ some. rw known_count (latest_known ds j below_ds (rw known_count at some));
  }

  -- One more can be added to each use count.
  counts_small : j < 2 ^ 63 → SmallCounts (uses_before ds j)
  counts_small fits = record { small = λ class l. let u = uses_few ds j below_ds class l in omega arith }

  -- What the search finds.
  known_found : found_among (part_differences table size (firsts_before ds j)) (uses_before ds j) (block_class ds (j - 1)) (differences (part table size j)) ≡ found_at ds j
  unfolding found_among found_at tried_at
  known_found =
      λ t. record {
        class = class t;
        tried = number_tried (count_is t) (block_class ds (j - 1)) (class t);
        uses = (ap (uses_with (uses_before ds j)) class ∙ uses_are ds j below_ds) t;
      }
    where
      class : number_in (part_differences table size (firsts_before ds j)) (differences (part table size j)) ≡ block_class ds j
      class = ap₂ number_in known_lists (sym (cut_list_at table size count j below)) ∙ sym (class_met ds j below_ds)

      count_is : length (part_differences table size (firsts_before ds j)) ≡ known_before ds j
      count_is = length_parts table size (firsts_before ds j) ∙ known_count

-- What is found for the first block.
found_first : (ds : List (List ℤ)) → 0 < length ds → found_at ds 0 ≡ record { class = 0; tried = 0; uses = 1 }
unfolding found_at tried_at distinct learn_all number_in use_count tally keep
found_first ds some = λ t. record { class = class t; tried = (ap (λ k. number_tried k (block_class ds (0 - 1)) (block_class ds 0)) (none_before ds) ∙ tried_none (block_class ds (0 - 1)) (block_class ds 0)) t; uses = uses t }
  where
    class : block_class ds 0 ≡ 0
    class = class_met ds 0 some

    uses : uses_at (numbers_of ds) 0 ≡ 1
    uses = uses_include (numbers_of ds) 0 (rw length_numbers some)

-- ---- what the search is lent and finds

module _ {table : List ℤ} {size j : ℕ} {firsts use_counts : List ℕ} {latest : ℕ} (b : BlocksBefore table size j firsts use_counts latest) where
  -- It asks for what is known.
  pub search_ready : j < 2 ^ 63 → KnownClasses table size firsts latest × SmallCounts use_counts
  search_ready fits = (
    rw (b.placed, b.latest_before) (known_ready table size (length table / size) j b.inside b.cut.whole),
    rw b.use_counted (counts_small table size (length table / size) j b.inside fits),
  )

  -- What it answers for these values is what is found for the block that they are.
  pub search_finds : {values : List ℤ} {found : Found} → found ≡ found_among (part_differences table size firsts) use_counts latest (differences values) → values ≡ part table size j → found ≡ found_at (cut_lists table size (length table / size)) j
  search_finds answered is =
      answered
      ∙ ap (λ v. found_among (part_differences table size firsts) use_counts latest (differences v)) is
      ∙ ap₂ (λ f u. found_among (part_differences table size f) u latest (differences (part table size j))) b.placed b.use_counted
      ∙ ap (λ l. found_among (part_differences table size (firsts_before (cut_lists table size (length table / size)) j)) (uses_before (cut_lists table size (length table / size)) j) l (differences (part table size j))) b.latest_before
      ∙ known_found table size (length table / size) j b.inside

  -- At the first block nothing is known: its class is new, none is tried, and it is the first to have it.
  pub first_found : j ≡ 0 → record { class = 0; tried = 0; uses = 1 } ≡ found_at (cut_lists table size (length table / size)) j
  first_found zeroth = sym (ap (found_at (cut_lists table size (length table / size))) zeroth ∙ found_first (cut_lists table size (length table / size)) (rw length_cut_lists (let i = b.inside in omega arith)))
