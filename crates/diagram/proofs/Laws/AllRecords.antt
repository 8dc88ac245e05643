-- The heights from the bottom up: what the buffer holds when the records of the variables below i are written.
use Prim.Native.Nat.{ℕ, suc, ◌+◌, ◌-◌, ◌*◌, ◌≤◌, ◌<◌}
use Rattle.std.specs.Prelude.{◌≡◌, refl, length, get_or, ℤ}
use Rattle.std.proofs.Math.Path.{sym, ap}
use Rattle.std.proofs.Common.{◌∙◌, ap₂, zero-add}
use mathlib.Core.List.{List, [], ◌∷◌, ◌++◌, flat_map, append-nil}
use Rattle.std.proofs.Math.Nat.{sub_self, sub-zero}
use native.Mathlib.Omega.{arith}
use Rattle.std.proofs.Math.Pow.{pow_mono}
use Rattle.numbers.specs.Lists.{numbers_from, overwritten}
use Rattle.numbers.proofs.Laws.Lists.{range_suc}
use Rattle.numbers.proofs.Laws.Overwriting.{length_overwritten}
use Rattle.numbers.proofs.Laws.Rows.{overwritten_none, overwritten_more}
use Rattle.numbers.proofs.Laws.Selections.{flat_map_append}
use Rattle.blocks.specs.Rows.{cut_place}
use Rattle.blocks.specs.Inner.Layout.{AllClassed, class_at}
use Rattle.blocks.proofs.Laws.Classes.{class_count_le}
use Rattle.diagram.specs.Accepted.{Accepted}
use Rattle.diagram.specs.Build.{node_room}
use Rattle.diagram.specs.Records.{records_below, node, records_at, records, record_numbers, record_size}
use Rattle.diagram.specs.Inner.Building.{NodesKnown, CutReady, CutRecorded, AllRecorded}
use Rattle.diagram.proofs.Laws.Checks.{variables_range}
use Rattle.diagram.proofs.Laws.CutRecords.{cut_known}
use Rattle.diagram.proofs.Laws.Numbering.{numbers_length, records_before, records_count, records_room, below_more}
use Rattle.blocks.proofs.Laws.Places.{place_inside, length_counts}

-- The numbers of the records of the variables below i.
abbrev pub numbers_below : ℕ → List ℤ → ℕ → List ℤ
numbers_below n table i = flat_map record_numbers (flat_map (records_at n table) (numbers_from 0 i))

numbers_below_length : (n : ℕ) (table : List ℤ) (i : ℕ) → length (numbers_below n table i) ≡ record_size * records_below n table i
numbers_below_length n table i = numbers_length (flat_map (records_at n table) (numbers_from 0 i)) ∙ ap (λ m. record_size * m) (records_before n table i)

-- One variable more.
numbers_below_suc : (n : ℕ) (table : List ℤ) (i : ℕ) → numbers_below n table (suc i) ≡ numbers_below n table i ++ flat_map record_numbers (records_at n table i)
unfolding flat_map
numbers_below_suc n table i =
    ap (flat_map record_numbers)
    (ap (flat_map (records_at n table)) (range_suc 0 i ∙ ap (λ k. numbers_from 0 i ++ k ∷ []) (zero-add i))
    ∙ flat_map_append (records_at n table) (numbers_from 0 i) (i ∷ [])
    ∙ ap (λ l. flat_map (records_at n table) (numbers_from 0 i) ++ l) (append-nil (records_at n table i)))
    ∙ flat_map_append record_numbers (flat_map (records_at n table) (numbers_from 0 i)) (records_at n table i)

-- What the heights up to i leave.
pub record RecordsSoFar (n : ℕ) (table nodes₀ nodes : List ℤ) (row : List ℕ) (made i : ℕ) : Type 0 where
  pub height : i ≤ n
  pub counted : made ≡ records_below n table i
  pub below : NodesKnown n table (n - i) row
  pub recorded : nodes ≡ overwritten nodes₀ 0 (numbers_below n table i)

module _ {n : ℕ} {table : List ℤ} (admitted : Accepted n table) (nodes₀ : List ℤ) (room : node_room n ≤ length nodes₀) where
  -- A row of 8191 places has room for the cuts of 12 variables.
  row_room : (row : List ℕ) → length row ≡ 8191 → cut_place (suc n) ≤ length row
  unfolding cut_place
  row_room row long = let p = pow_mono {i = suc n} {j = 13} (let v = (variables_range n admitted.variables).1 in omega arith) in omega arith

  -- The single values of cut n have node 0.
  no_nodes : (values : List ℤ) → node n table (n - n) values ≡ 0
  unfolding node
  no_nodes values = ap (λ i. node n table i values) (sub_self n)

  single_values : (row : List ℕ) → length row ≡ 8191 → ((k : ℕ) → k < 8191 → get_or row k 0 ≡ 0) → NodesKnown n table n row
  single_values row long zeros = record {
    places = row_room row long;
    known = λ c l.
        zeros (cut_place n + c)
        (let m = class_count_le n table n (omega arith) in
        let p = place_inside n n c (omega arith) (omega arith) in
        let q = row_room row long in
        omega arith)
        ∙ sym (no_nodes (class_at n table n c));
  }

  pub records_start : (row : List ℕ) → length row ≡ 8191 → ((k : ℕ) → k < 8191 → get_or row k 0 ≡ 0) → RecordsSoFar n table nodes₀ nodes₀ row 0 0
  unfolding records_below numbers_from flat_map
  records_start row long zeros = record { height = omega arith; counted = refl; below = rw (sub-zero n) (single_values row long zeros); recorded = sym (overwritten_none nodes₀ 0) }

  -- The numbers lie within the buffer.
  inside : (i : ℕ) → i ≤ n → 0 + length (numbers_below n table i) ≤ length nodes₀
  unfolding record_size node_room
  inside i l =
      let e = numbers_below_length n table i in
      let m = below_more n table i n l in
      let c = records_count n table in
      let r = records_room n table in
      omega arith

  -- Every cut has its count.
  pub cuts_counted : {class_row first_row count_row : List ℕ} → AllClassed n table class_row first_row count_row → n < length count_row
  cuts_counted classed = rw (classed.counted, length_counts n table) (omega arith)

  module _ {nodes : List ℤ} {row : List ℕ} {made i : ℕ} (s : RecordsSoFar n table nodes₀ nodes row made i) where
    pub buffer_kept : length nodes ≡ length nodes₀
    buffer_kept = ap length s.recorded ∙ length_overwritten nodes₀ 0 (numbers_below n table i) (inside i s.height)

    -- A cut h, whose blocks' halves have height i.
    module _ (h : ℕ) (up : n - i ≡ suc h) where
      half : n - suc h ≡ i
      half = let l = s.height in omega arith

      pub ready_at : CutReady n h made table row nodes
      ready_at = record {
        cut = omega arith;
        below = rw (← up) s.below;
        counted = rw half s.counted;
        room = rw buffer_kept room;
      }

      pub records_placed : {made' : ℕ} {row' : List ℕ} {nodes' : List ℤ} → CutRecorded n h made table row nodes made' row' nodes' → RecordsSoFar n table nodes₀ nodes' row' made' (n - h)
      records_placed d = record {
        height = omega arith;
        counted = d.counted;
        below = rw (let e : n - (n - h) ≡ h = omega arith in e) (cut_known (omega arith) s.below.places d);
        recorded =
            d.recorded
            ∙ ap₂ (λ x k. overwritten x k (flat_map record_numbers (records_at n table (n - suc h)))) s.recorded at_end
            ∙ overwritten_more nodes₀ 0 (numbers_below n table i) (inside i s.height) (flat_map record_numbers (records_at n table (n - suc h)))
            ∙ ap (overwritten nodes₀ 0)
            (ap (λ k. numbers_below n table i ++ flat_map record_numbers (records_at n table k)) half
            ∙ sym (numbers_below_suc n table i)
            ∙ ap (numbers_below n table) (let e : suc i ≡ n - h = omega arith in e));
      }
        where
          at_end : record_size * made ≡ 0 + length (numbers_below n table i)
          at_end = ap (λ m. record_size * m) s.counted ∙ sym (zero-add (length (numbers_below n table i)) ∙ numbers_below_length n table i)

    -- The next cut up.
    module _ (some : i < n) where
      up : suc (n - 1 - i) ≡ n - i
      up = omega arith

      pub cut_ready : CutReady n (n - 1 - i) made table row nodes
      cut_ready = ready_at (n - 1 - i) (sym up)

      pub records_next : {made' : ℕ} {row' : List ℕ} {nodes' : List ℤ} → CutRecorded n (n - 1 - i) made table row nodes made' row' nodes' → RecordsSoFar n table nodes₀ nodes' row' made' (i + 1)
      records_next d = rw (let e : i + 1 ≡ n - (n - 1 - i) = omega arith in e) (records_placed (n - 1 - i) (sym up) d)

    -- All heights.
    pub records_done : n ≤ i → AllRecorded n table nodes₀ made nodes
    unfolding records
    records_done l =
        let e : i ≡ n = (let h = s.height in omega arith) in
        record {
          counted = s.counted ∙ ap (records_below n table) e ∙ sym (records_count n table);
          recorded = s.recorded ∙ ap (λ k. overwritten nodes₀ 0 (numbers_below n table k)) e;
        }
