-- Where records stand: how many there are, which one has a number, and what its numbers are.
use Prim.Native.Nat.{ℕ, zero, suc, ◌+◌, ◌-◌, ◌*◌, ◌%◌, ◌^◌, ◌≤◌, ◌<◌}
use Rattle.std.specs.Prelude.{◌≡◌, take, drop, ℤ, ◌-ℤ◌}
use Rattle.std.proofs.Math.Path.{refl, ap, ap₂}
use Rattle.std.proofs.Common.{sym, ◌∙◌, zero-add, length-take, length-drop}
use mathlib.Core.List.{List, [], ◌∷◌, ◌++◌, map, flat_map, append-nil}
use Rattle.std.proofs.Math.Nat.{sub-zero, two-pow-succ}
use native.Mathlib.Omega.{arith}
use Rattle.std.proofs.Math.Decide.{dec_lt}
use Rattle.std.proofs.Math.ListN.{length, get_or, length-map, length-append, get_or-append}
use Rattle.std.proofs.Math.Seq.{get_or-append-add}
use Rattle.std.proofs.Math.Pow.{pow_pos}
use Rattle.std.proofs.Math.IntN.{pos}
use Rattle.numbers.specs.Extremes.{least_of, greatest_of}
use Rattle.numbers.specs.Lists.{numbers_from}
use Rattle.numbers.proofs.Laws.Integers.{sub_sub_same}
use Rattle.numbers.proofs.Laws.Lists.{range_suc, get_d_map, map_take, map_drop}
use Rattle.numbers.proofs.Laws.Selections.{flat_map_append, length_flat_map, get_d_flat_map, range_add}
use Rattle.blocks.specs.Blocks.{first, lower_half, upper_half, differences}
use Rattle.blocks.proofs.Laws.Differences.{differences_again}
use Rattle.diagram.specs.Records.{kinds, records_below, node, Record, record_of, records_at, records, record_numbers, record_size}
use Rattle.diagram.specs.Walk.{number_at, variable_at, low_at, high_at, weight_at, least_at, greatest_at, record_count}
use Rattle.diagram.specs.Accepted.{written}
use Rattle.diagram.proofs.Laws.Alike.{twice_blocks}
use Rattle.diagram.proofs.Laws.Nodes.{same_node, kinds_le}
use Rattle.diagram.proofs.Laws.Shifts.{lower_differences, upper_differences}

-- The first value of a block less a constant.
first_less : (c : ℤ) (values : List ℤ) → 0 < length values → first (map (λ v. v -ℤ c) values) ≡ first values -ℤ c
unfolding first
first_less c values h = get_d_map (λ v. v -ℤ c) values 0 (pos 0) (pos 0) h

-- A block's differences have the block's weight.
pub weight_of_differences : (i : ℕ) (values : List ℤ) → 2 ^ i < length values → first (upper_half i (differences values)) -ℤ first (lower_half i (differences values)) ≡ first (upper_half i values) -ℤ first (lower_half i values)
unfolding differences upper_half lower_half
weight_of_differences i values h =
    ap₂ (λ a b. a -ℤ b)
    (ap first (sym (map_drop less (2 ^ i) values)) ∙ first_less (first values) (drop (2 ^ i) values) (rw length-drop (omega arith)))
    (ap first (sym (map_take less (2 ^ i) values)) ∙ first_less (first values) (take (2 ^ i) values) (rw length-take (omega (arith, pow_pos i))))
    ∙ sub_sub_same (first (drop (2 ^ i) values)) (first values) (first (take (2 ^ i) values))
  where
    less : ℤ → ℤ
    less v = v -ℤ first values

-- How many numbers records have.
pub numbers_length : (rs : List Record) → length (flat_map record_numbers rs) ≡ record_size * length rs
unfolding record_numbers record_size
numbers_length rs = length_flat_map record_numbers record_size (λ r. refl) rs

module _ (n : ℕ) (table : List ℤ) where
  -- ---- how many there are

  -- Those of the variables below i.
  pub records_before : (i : ℕ) → length (flat_map (records_at n table) (numbers_from 0 i)) ≡ records_below n table i
  unfolding numbers_from flat_map records_below records_at
  records_before zero = refl
  records_before (suc i) =
      ap length (ap (flat_map (records_at n table)) (range_suc 0 i ∙ ap (λ k. numbers_from 0 i ++ k ∷ []) (zero-add i)) ∙ flat_map_append (records_at n table) (numbers_from 0 i) (i ∷ []))
      ∙ length-append (flat_map (records_at n table) (numbers_from 0 i)) (records_at n table i ++ [])
      ∙ ap₂ (λ a b. a + b) (records_before i) (ap length (append-nil (records_at n table i)) ∙ length-map (kinds n table i) (record_of n table i))

  -- All of them.
  pub records_count : length (records n table) ≡ records_below n table n
  unfolding records
  records_count = records_before n

  -- Higher variables have later records.
  pub below_more : (i m : ℕ) → i ≤ m → records_below n table i ≤ records_below n table m
  unfolding records_below
  below_more i zero h = rw (let e : i ≡ 0 = omega arith in e) (omega arith)
  below_more i (suc m) h = same_or_more (dec_lt i (suc m)) (λ p. below_more i m p)
    where
      same_or_more : Dec (i < suc m) → (i ≤ m → records_below n table i ≤ records_below n table m) → records_below n table i ≤ records_below n table m + length (kinds n table m)
      same_or_more (yes p) rest = let r = rest (omega arith) in omega arith
      same_or_more (no p) rest = rw (let e : i ≡ suc m = omega arith in e) (omega arith)

  -- The record of a kind is one of them.
  pub kind_within : (i k : ℕ) → i < n → k < length (kinds n table i) → records_below n table i + k < length (records n table)
  unfolding records_below
  kind_within i k h l = let m : records_below n table i + length (kinds n table i) ≤ records_below n table n = below_more (suc i) n h in omega (arith, records_count)

  -- What is left of 2^n is as many as there are blocks of height i.
  below_room : (i : ℕ) → i ≤ n → records_below n table i + 2 ^ (n - i) ≤ 2 ^ n
  unfolding records_below
  below_room zero h = rw (sub-zero, zero-add) (omega arith)
  below_room (suc i) h = let r = below_room i (omega arith) in omega (arith, twice_blocks n i h, kinds_le n table i)

  -- At most 2^n - 1.
  pub records_room : length (records n table) < 2 ^ n
  records_room =
      let r = below_room n (omega arith) in
      omega (arith, records_count, pow_pos (n - n))

  pub records_at_most : length (records n table) ≤ 2 ^ n - 1
  records_at_most = let r = records_room in omega arith

  -- ---- which one has a number

  -- Number m, from 1, is that of record k of variable height, which is below i.
  pub record Numbered (i m : ℕ) : Type 0 where
    pub height : ℕ
    pub kind : ℕ
    pub lower : height < i
    pub known : kind < length (kinds n table height)
    pub number : m ≡ suc (records_below n table height + kind)

  -- Each number from 1 on is that of one record.
  pub numbered : (i m : ℕ) → 0 < m → m ≤ records_below n table i → Numbered i m
  unfolding records_below
  numbered zero m h l = absurd (omega arith)
  numbered (suc i) m h l = here_or_lower (dec_lt (records_below n table i) m) (λ p. numbered i m h p)
    where
      here_or_lower : Dec (records_below n table i < m) → (m ≤ records_below n table i → Numbered i m) → Numbered (suc i) m
      here_or_lower (yes p) rest = record { height = i; kind = m - suc (records_below n table i); lower = omega arith; known = omega arith; number = omega arith }
      here_or_lower (no p) rest =
          let r = rest (omega arith) in
          record { height = r.height; kind = r.kind; lower = omega arith; known = r.known; number = r.number }

  -- ---- what its numbers are

  -- The record of kind k of variable i stands behind all records of lower variables.
  pub record_at : (i k : ℕ) (filler : Record) → i < n → k < length (kinds n table i) → get_or (records n table) (records_below n table i + k) filler ≡ record_of n table i (get_or (kinds n table i) k [])
  unfolding records records_at numbers_from flat_map
  record_at i k filler h l =
      ap₂ (λ rs b. get_or rs (b + k) filler) split (sym (records_before i))
      ∙ get_or-append-add (flat_map (records_at n table) (numbers_from 0 i)) (records_at n table i ++ rest) k filler
      ∙ get_or-append (records_at n table i) rest filler k (rw (length-map (kinds n table i) (record_of n table i)) l)
      ∙ get_d_map (record_of n table i) (kinds n table i) k [] filler l
    where
      rest : List Record
      rest = flat_map (records_at n table) (numbers_from (suc i) (n - suc i))

      split : flat_map (records_at n table) (numbers_from 0 n) ≡ flat_map (records_at n table) (numbers_from 0 i) ++ (records_at n table i ++ rest)
      split =
          ap (λ m. flat_map (records_at n table) (numbers_from 0 m)) (let e : n ≡ i + suc (n - suc i) = omega arith in e)
          ∙ ap (flat_map (records_at n table)) (range_add 0 i (suc (n - suc i)) ∙ ap (λ s. numbers_from 0 i ++ numbers_from s (suc (n - suc i))) (zero-add i))
          ∙ flat_map_append (records_at n table) (numbers_from 0 i) (numbers_from i (suc (n - suc i)))

  -- The numbers that Build writes, and the records that Walk counts in them.
  pub written_length : length (written n table) ≡ record_size * length (records n table)
  written_length = numbers_length (records n table)

  pub written_whole : length (written n table) % record_size ≡ 0
  unfolding record_size
  written_whole = let e = written_length in omega arith

  pub written_count : record_count (written n table) ≡ length (records n table)
  unfolding record_count record_size
  written_count = let e = written_length in omega arith

  -- Number c of the record of a kind.
  number_of_kind : (i k c : ℕ) → i < n → k < length (kinds n table i) → c < record_size → number_at (written n table) (suc (records_below n table i + k)) c ≡ get_or (record_numbers (record_of n table i (get_or (kinds n table i) k []))) c (pos 0)
  unfolding number_at record_size record_numbers
  number_of_kind i k c h l m =
      ap (λ p. get_or (written n table) (record_size * p + c) (pos 0)) (let e : suc (records_below n table i + k) - 1 ≡ records_below n table i + k = omega arith in e)
      ∙ get_d_flat_map record_numbers record_size (λ r. refl) (records n table) filler (pos 0) (records_below n table i + k) c (kind_within i k h l) m
      ∙ ap (λ r. get_or (record_numbers r) c (pos 0)) (record_at i k filler h l)
    where
      filler : Record
      filler = record { variable = 0; low = 0; high = 0; weight = pos 0; least = pos 0; greatest = pos 0 }

  -- Its variable.
  pub kind_variable : (i k : ℕ) → i < n → k < length (kinds n table i) → variable_at (written n table) (suc (records_below n table i + k)) ≡ pos i
  unfolding variable_at record_of record_numbers record_size
  kind_variable i k h l = number_of_kind i k 0 h l (omega arith)

  -- Record m stands for a block whose halves have height i, given by its values.
  pub record StandsFor (m i : ℕ) (values : List ℤ) : Type 0 where
    pub variable : variable_at (written n table) m ≡ pos i
    pub low : low_at (written n table) m ≡ pos (node n table i (lower_half i values))
    pub high : high_at (written n table) m ≡ pos (node n table i (upper_half i values))
    pub weight : weight_at (written n table) m ≡ first (upper_half i values) -ℤ first (lower_half i values)
    pub least : least_at (written n table) m ≡ least_of (differences values)
    pub greatest : greatest_at (written n table) m ≡ greatest_of (differences values)

  -- The record of a kind stands for every block of that kind.
  pub kind_stands : (i k : ℕ) (values : List ℤ) → i < n → k < length (kinds n table i) → length values ≡ 2 ^ suc i → get_or (kinds n table i) k [] ≡ differences values → StandsFor (suc (records_below n table i + k)) i values
  unfolding low_at high_at weight_at least_at greatest_at record_of record_numbers record_size
  kind_stands i k values h l s e = record {
    variable = kind_variable i k h l;
    low = number_of_kind i k 1 h l (omega arith) ∙ ap (λ d. pos (node n table i (lower_half i d))) e ∙ ap pos (same_node n table i (lower_half i (differences values)) (lower_half i values) (lower_differences i values));
    high = number_of_kind i k 2 h l (omega arith) ∙ ap (λ d. pos (node n table i (upper_half i d))) e ∙ ap pos (same_node n table i (upper_half i (differences values)) (upper_half i values) (upper_differences i values));
    weight = number_of_kind i k 3 h l (omega arith) ∙ ap (λ d. first (upper_half i d) -ℤ first (lower_half i d)) e ∙ weight_of_differences i values (omega (arith, two-pow-succ i, pow_pos i));
    least = number_of_kind i k 4 h l (omega arith) ∙ ap (λ d. least_of (differences d)) e ∙ ap least_of (differences_again values);
    greatest = number_of_kind i k 5 h l (omega arith) ∙ ap (λ d. greatest_of (differences d)) e ∙ ap greatest_of (differences_again values);
  }
