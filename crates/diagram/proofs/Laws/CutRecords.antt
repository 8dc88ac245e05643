-- The classes of a cut placed one by one: what the row of nodes and the buffer hold on the way, and at the end.
use Rattle.std.specs.Prelude.{ℕ, suc, ◌+◌, ◌-◌, ◌*◌, ◌^◌, ◌≤◌, ◌<◌, ◌≡◌, true, false, get_or, drop, ℤ}
use Rattle.std.proofs.Math.Path.{sym, ap, ap₂}
use Rattle.std.proofs.Common.{◌∙◌, add-zero, add-one, take-append-drop, take-suc, pow_mono}
use Rattle.std.proofs.Math.Bool.{cond}
use mathlib.Core.List.{List, [], ◌∷◌, ◌++◌, map, flat_map, map-append, append-nil}
use Rattle.std.proofs.Math.Nat.{mul-add}
use native.Mathlib.Omega.{arith}
use Rattle.std.proofs.Math.ListN.{length, take, set, length-map, length-append}
use Rattle.std.proofs.Math.Seq.{take_all, length-take-le}
use Rattle.numbers.specs.Lists.{keep, overwritten}
use Rattle.numbers.proofs.Laws.Bools.{yes_or_no}
use Rattle.numbers.proofs.Laws.Lists.{get_d_map}
use Rattle.numbers.proofs.Laws.Overwriting.{length_overwritten}
use Rattle.numbers.proofs.Laws.Rows.{keep_next, keep_same, overwritten_none, overwritten_more, store_behind, new_entry, later_entry}
use Rattle.numbers.proofs.Laws.Selections.{keep_append, flat_map_append}
use Rattle.blocks.specs.Blocks.{block, lower_half, differences}
use Rattle.blocks.specs.Classes.{number_in, classes, class_count}
use Rattle.blocks.specs.Rows.{cut_place}
use Rattle.blocks.specs.Inner.Layout.{class_at}
use Rattle.blocks.proofs.Laws.Classes.{class_count_le}
use Rattle.blocks.proofs.Laws.Cuts.{cut_end, cut_within}
use Rattle.blocks.proofs.Laws.Differences.{differences_again}
use Rattle.diagram.specs.Accepted.{Accepted}
use Rattle.diagram.specs.Build.{node_room}
use Rattle.diagram.specs.Records.{branches, kinds, records_below, node, record_of, records_at, record_numbers, record_size}
use Rattle.diagram.specs.Inner.Building.{NodesKnown, Forking, RecordRoom, ClassPlaced, CutReady, CutRecorded}
use Rattle.diagram.proofs.Laws.BranchingClasses.{kinds_are, kind_below, kind_number}
use Rattle.diagram.proofs.Laws.Checks.{variables_range}
use Rattle.diagram.proofs.Laws.Nodes.{node_branching, node_passing}
use Rattle.diagram.proofs.Laws.Numbering.{numbers_length, records_count, records_room, below_more, kind_within}
use Rattle.blocks.proofs.Laws.Places.{first_block}

-- ---- on the way

-- The branching ones among the first c classes of cut h, and their records' numbers.
abbrev pub branching_first : ℕ → List ℤ → ℕ → ℕ → List (List ℤ)
branching_first n table h c = keep (branches (n - suc h)) (take c (classes n table h))

abbrev pub records_first : ℕ → List ℤ → ℕ → ℕ → List ℤ
records_first n table h c = flat_map record_numbers (map (record_of n table (n - suc h)) (branching_first n table h c))

-- What the first c classes of cut h leave.
pub record CutSoFar (n h before : ℕ) (table : List ℤ) (row₀ : List ℕ) (nodes₀ : List ℤ) (c made : ℕ) (row : List ℕ) (nodes : List ℤ) : Type 0 where
  pub inside : c ≤ class_count n table h
  pub counted : made ≡ before + length (branching_first n table h c)
  pub noted : row ≡ overwritten row₀ (cut_place h) (map (node n table (n - h)) (take c (classes n table h)))
  pub recorded : nodes ≡ overwritten nodes₀ (record_size * before) (records_first n table h c)

-- A class is a list of differences.
class_own : (n : ℕ) (table : List ℤ) (h c : ℕ) → h ≤ n → c < class_count n table h → differences (class_at n table h c) ≡ class_at n table h c
class_own n table h c cut l =
    let e = (first_block n table h cut c l).1 in
    ap differences (sym e) ∙ differences_again (block table (n - h) _) ∙ e

module _ {n h before : ℕ} {table : List ℤ} {row₀ : List ℕ} {nodes₀ : List ℤ} (admitted : Accepted n table) (r : CutReady n h before table row₀ nodes₀) where
  abbrev half : ℕ
  half = n - suc h

  cut_sum : h + suc half ≡ n
  cut_sum = let l = r.cut in omega arith

  within : h ≤ n
  within = let l = r.cut in omega arith

  whole : n - h ≡ suc half
  whole = let l = r.cut in omega arith

  pub cut_start : CutSoFar n h before table row₀ nodes₀ 0 before row₀ nodes₀
  unfolding keep flat_map
  cut_start = record {
    inside = omega arith;
    counted = sym (add-zero before);
    noted = sym (overwritten_none row₀ (cut_place h));
    recorded = sym (overwritten_none nodes₀ (record_size * before));
  }

  -- The branching ones among some first classes are among all.
  few : (c : ℕ) → before + length (branching_first n table h c) ≤ records_below n table (suc half)
  unfolding records_below
  few c =
      let a : length (kinds n table half) ≡ length (branching_first n table h c ++ keep (branches half) (drop c (classes n table h))) =
      ap length (kinds_are n h half cut_sum table ∙ ap (keep (branches half)) (sym (take-append-drop c (classes n table h))) ∙ keep_append (branches half) (take c (classes n table h)) (drop c (classes n table h))) in
      let b = length-append (branching_first n table h c) (keep (branches half) (drop c (classes n table h))) in
      let e = r.counted in
      omega arith

  few_records : (c : ℕ) → before + length (branching_first n table h c) < 2 ^ n
  few_records c =
      let f = few c in
      let m = below_more n table (suc half) n (let l = r.cut in omega arith) in
      let e = records_count n table in
      let k = records_room n table in
      omega arith

  -- The new numbers lie within the buffer, and the new nodes within the row.
  records_inside : (c : ℕ) → record_size * before + length (records_first n table h c) ≤ length nodes₀
  unfolding record_size node_room
  records_inside c =
      let f = few_records c in
      let e = numbers_length (map (record_of n table half) (branching_first n table h c)) in
      let m = length-map (branching_first n table h c) (record_of n table half) in
      let k = r.room in
      omega arith

  nodes_length : (c : ℕ) → c ≤ class_count n table h → length (map (node n table (n - h)) (take c (classes n table h))) ≡ c
  unfolding class_count
  nodes_length c l = length-map (take c (classes n table h)) (node n table (n - h)) ∙ length-take-le c (classes n table h) l

  nodes_inside : (c : ℕ) → c ≤ class_count n table h → cut_place h + length (map (node n table (n - h)) (take c (classes n table h))) ≤ length row₀
  nodes_inside c l =
      let e = nodes_length c l in
      let m = class_count_le n table h within in
      let w = cut_within n h within in
      let p = r.below.places in
      omega arith

  module _ {c made : ℕ} {row : List ℕ} {nodes : List ℤ} (s : CutSoFar n h before table row₀ nodes₀ c made row nodes) where
    -- The lengths stay.
    pub row_length : length row ≡ length row₀
    row_length = ap length s.noted ∙ length_overwritten row₀ (cut_place h) (map (node n table (n - h)) (take c (classes n table h))) (nodes_inside c s.inside)

    pub nodes_kept : length nodes ≡ length nodes₀
    nodes_kept = ap length s.recorded ∙ length_overwritten nodes₀ (record_size * before) (records_first n table h c) (records_inside c)

    -- The nodes of the next cut stay.
    next_known : NodesKnown n table (suc h) row
    next_known = record {
      places = rw row_length r.below.places;
      known = λ k l.
          ap (λ x. get_or x (cut_place (suc h) + k) 0) s.noted
          ∙ later_entry row₀ (cut_place h) (map (node n table (n - h)) (take c (classes n table h))) (nodes_inside c s.inside) (cut_place (suc h) + k) 0
          (let e = nodes_length c s.inside in let m = class_count_le n table h within in let i = s.inside in let p = cut_end n h within in omega arith)
          ∙ r.below.known k l;
    }

    -- The next class can be read, and there is room for its record.
    module _ (below : c < class_count n table h) where
      pub cut_forking : Forking n h c table row
      cut_forking = record { cut = r.cut; known = below; below = next_known }

      abbrev here : List ℤ
      here = class_at n table h c

      known_class : c < length (classes n table h)
      unfolding class_count
      known_class = below

      -- A branching class has the next number.
      next_number : branches half here ≡ true → number_in (kinds n table half) here ≡ length (branching_first n table h c)
      unfolding class_at
      next_number e = kind_number n h half cut_sum table c known_class e

      room_for : branches half here ≡ true → record_size * made + record_size ≤ length nodes
      unfolding record_size node_room class_at
      room_for e =
          let k = kind_within n table half (length (branching_first n table h c)) (let l = r.cut in omega arith) (kind_below n h half cut_sum table c known_class e) in
          let m = records_room n table in
          let a = s.counted in
          let b = r.counted in
          let d = r.room in
          let f = nodes_kept in
          omega arith

      pub cut_record_room : RecordRoom n h c made table nodes
      cut_record_room = record {
        few =
            (let f = few_records c in
            let a = s.counted in
            let p = pow_mono {i = n} {j = 12} (variables_range n admitted.variables).1 in
            omega arith);
        room = room_for;
      }

      -- The node of the class.
      is_node : cond (branches half here) (made + 1) (node n table half (lower_half half here)) ≡ node n table (n - h) here
      is_node =
          yes_or_no (branches half here)
          (λ e.
          rw e
          (sym
          (ap (λ i. node n table i here) whole
          ∙ node_branching n table half here e
          ∙ ap (λ d. suc (records_below n table half + number_in (kinds n table half) d)) (class_own n table h c within below)
          ∙ (let a = s.counted in let b = r.counted in let k = next_number e in let q : suc (records_below n table half + number_in (kinds n table half) here) ≡ made + 1 = omega arith in q))))
          (λ e. rw e (sym (ap (λ i. node n table i here) whole ∙ node_passing n table half here e)))

      -- The row of nodes with it.
      noted_next : set row (cut_place h + c) (node n table (n - h) here) ≡ overwritten row₀ (cut_place h) (map (node n table (n - h)) (take (suc c) (classes n table h)))
      unfolding class_at
      noted_next =
          let new = map (node n table (n - h)) (take c (classes n table h)) in
          let e = nodes_length c s.inside in
          ap₂ (λ x k. set x (cut_place h + k) (node n table (n - h) here)) s.noted (sym e)
          ∙ store_behind row₀ (cut_place h) new (nodes_inside c s.inside) (node n table (n - h) here) (let m = nodes_inside (suc c) below in let f = nodes_length (suc c) below in omega arith)
          ∙ ap (overwritten row₀ (cut_place h)) (sym (ap (map (node n table (n - h))) (take-suc (classes n table h) c [] known_class) ∙ map-append (node n table (n - h)) (take c (classes n table h)) (here ∷ [])))

      -- The buffer with its record, where it branches.
      recorded_next : branches half here ≡ true → overwritten nodes (record_size * made) (record_numbers (record_of n table half here)) ≡ overwritten nodes₀ (record_size * before) (records_first n table h (suc c))
      unfolding class_at flat_map
      recorded_next e =
          ap₂ (λ x k. overwritten x k (record_numbers (record_of n table half here))) s.recorded at_end
          ∙ overwritten_more nodes₀ (record_size * before) (records_first n table h c) (records_inside c) (record_numbers (record_of n table half here))
          ∙ ap (overwritten nodes₀ (record_size * before))
          (sym
          (ap (λ l. flat_map record_numbers (map (record_of n table half) l)) (keep_next (branches half) (classes n table h) [] c known_class e)
          ∙ ap (flat_map record_numbers) (map-append (record_of n table half) (branching_first n table h c) (here ∷ []))
          ∙ flat_map_append record_numbers (map (record_of n table half) (branching_first n table h c)) (record_of n table half here ∷ [])
          ∙ ap (λ l. records_first n table h c ++ l) (append-nil (record_numbers (record_of n table half here)))))
        where
          at_end : record_size * made ≡ record_size * before + length (records_first n table h c)
          at_end =
              ap (λ m. record_size * m) s.counted
              ∙ mul-add record_size before (length (branching_first n table h c))
              ∙ ap (λ m. record_size * before + m) (sym (numbers_length (map (record_of n table half) (branching_first n table h c)) ∙ ap (λ m. record_size * m) (length-map (branching_first n table h c) (record_of n table half))))

      -- One class more.
      module _ {made' : ℕ} {row' : List ℕ} {nodes' : List ℤ} (p : ClassPlaced n h c made table row nodes made' row' nodes') where
        noted_more : row' ≡ overwritten row₀ (cut_place h) (map (node n table (n - h)) (take (suc c) (classes n table h)))
        noted_more = p.noted ∙ ap (set row (cut_place h + c)) is_node ∙ noted_next

        branched_more : branches half here ≡ true → CutSoFar n h before table row₀ nodes₀ (suc c) made' row' nodes'
        unfolding class_at
        branched_more e = record {
          inside = below;
          counted =
              p.counted
              ∙ ap (λ b. cond b (made + 1) made) e
              ∙ (let a = s.counted in
              let l = ap length (keep_next (branches half) (classes n table h) [] c known_class e) ∙ length-append (branching_first n table h c) (here ∷ []) in
              let q : made + 1 ≡ before + length (branching_first n table h (suc c)) = omega arith in
              q);
          noted = noted_more;
          recorded = p.recorded ∙ ap (λ b. cond b (overwritten nodes (record_size * made) (record_numbers (record_of n table half here))) nodes) e ∙ recorded_next e;
        }

        passed_more : branches half here ≡ false → CutSoFar n h before table row₀ nodes₀ (suc c) made' row' nodes'
        unfolding class_at
        passed_more e =
            let k = keep_same (branches half) (classes n table h) [] c known_class e in
            record {
              inside = below;
              counted = p.counted ∙ ap (λ b. cond b (made + 1) made) e ∙ s.counted ∙ ap (λ l. before + length l) (sym k);
              noted = noted_more;
              recorded =
                  p.recorded
                  ∙ ap (λ b. cond b (overwritten nodes (record_size * made) (record_numbers (record_of n table half here))) nodes) e
                  ∙ s.recorded
                  ∙ ap (λ l. overwritten nodes₀ (record_size * before) (flat_map record_numbers (map (record_of n table half) l))) (sym k);
            }

        pub cut_next : CutSoFar n h before table row₀ nodes₀ (c + 1) made' row' nodes'
        cut_next = rw add-one (yes_or_no (branches half here) branched_more passed_more)

    -- ---- at the end

    pub cut_done : class_count n table h ≤ c → CutRecorded n h before table row₀ nodes₀ made row nodes
    unfolding records_at records_below class_count
    cut_done l = record {
      counted =
          s.counted
          ∙ ap₂ (λ a k. a + length k) r.counted (ap (keep (branches half)) all ∙ sym (kinds_are n h half cut_sum table))
          ∙ sym (ap (records_below n table) whole);
      noted = s.noted ∙ ap (λ k. overwritten row₀ (cut_place h) (map (node n table (n - h)) k)) all;
      recorded = s.recorded ∙ ap (λ k. overwritten nodes₀ (record_size * before) (flat_map record_numbers (map (record_of n table half) k))) (ap (keep (branches half)) all ∙ sym (kinds_are n h half cut_sum table));
    }
      where
        all : take c (classes n table h) ≡ classes n table h
        all = take_all c (classes n table h) l

-- The nodes of the cut are then known.
pub cut_known : {n h made : ℕ} {table : List ℤ} {row : List ℕ} {nodes : List ℤ} {made' : ℕ} {row' : List ℕ} {nodes' : List ℤ} → h ≤ n → cut_place (suc n) ≤ length row → CutRecorded n h made table row nodes made' row' nodes' → NodesKnown n table h row'
unfolding class_at class_count
cut_known {n} {h} {made} {table} {row} {nodes} {made'} {row'} {nodes'} cut places d = record {
  places = rw (ap length d.noted ∙ length_overwritten row (cut_place h) new inside) places;
  known = λ c l. ap (λ x. get_or x (cut_place h + c) 0) d.noted ∙ new_entry row (cut_place h) new inside c 0 (rw length-map l) ∙ get_d_map (node n table (n - h)) (classes n table h) c [] 0 l;
}
  where
    new : List ℕ
    new = map (node n table (n - h)) (classes n table h)

    inside : cut_place h + length new ≤ length row
    inside = rw length-map (let m = class_count_le n table h cut in let w = cut_within n h cut in omega arith)
