-- Build's answer and buffer: refusals in their order, and the records of a table that passes.
use Prim.Native.Nat.{ℕ, suc, ◌+◌, ◌-◌, ◌*◌, ◌^◌, ◌≤◌, ◌<◌}
use Rattle.std.specs.Prelude.{◌≡◌, ◌↔◌, leb, eqb, ℤ, Ok, Err}
use Rattle.std.proofs.Math.Path.{refl, sym, ap, ap₂}
use Rattle.std.proofs.Common.{◌∙◌, add-one}
use mathlib.Core.List.{List, ◌++◌, flat_map}
use native.Mathlib.Omega.{arith}
use Rattle.std.proofs.Math.ListN.{length, take, drop}
use Rattle.std.proofs.Math.Seq.{take_all, take-append-le}
use borrow.Author.Tests.{eqb-true, leb-true, eq-eqb, le-leb, lt-leb}
use Rattle.numbers.specs.Answers.{Answer, accepted, refused, unless, map_answer, and_then, buffer_after}
use Rattle.numbers.specs.Lists.{every}
use Rattle.numbers.specs.Ranges.{is_variables, is_value}
use Rattle.numbers.proofs.Laws.Bools.{yes_or_no}
use Rattle.numbers.proofs.Laws.Rows.{overwritten_front}
use Rattle.blocks.specs.Blocks.{first}
use Rattle.diagram.specs.Accepted.{Accepted, written}
use Rattle.diagram.specs.Records.{Record, records, record_numbers, record_size, offset, node_count}
use Rattle.diagram.specs.Build.{of_table, node_room, build, Summary, summary_of, build_answer, build_buffer, record_part, built, Builds}
use Rattle.diagram.specs.Inner.Checks.{table_checks}
use Rattle.diagram.specs.Inner.Building.{AllRecorded}
use Rattle.diagram.proofs.Laws.Numbering.{written_length}
use Rattle.numbers.specs.Refusals.{number, answer_of}
use Rattle.numbers.specs.declared.Refusal.{Refusal}
use Rattle.numbers.specs.declared.Refusal.TheVariants as refusals

-- A refusal accepts nothing.
never : {A : Type 0} (k : ℕ) (a : A) → ◌≡◌ {A = Answer A} (refused k) (accepted a) → ⊥
never k a p = let z : ◌≡◌ {A = ℕ} 0 1 = cc in omega arith

-- ---- the checks on a table

module _ (n : ℕ) (table : List ℤ) where
  -- An accepted table passes them.
  pub table_passes_lem : {A : Type 0} (rest : Answer A) → Accepted n table → of_table n table rest ≡ rest
  unfolding of_table
  table_passes_lem rest a = rw (a.variables, eq-eqb (length table) (2 ^ n) a.size, a.values)

  -- What follows them is reached exactly when they are passed.
  pub after_checks : {A : Type 0} (rest : Answer A) → of_table n table rest ≡ and_then (table_checks n table) (λ t. rest)
  unfolding of_table table_checks
  after_checks rest =
      yes_or_no (is_variables n)
      (λ a.
      yes_or_no (eqb (length table) (2 ^ n))
      (λ b. yes_or_no (every is_value table) (λ c. rw (a, b, c)) (λ c. rw (a, b, c)))
      (λ b. rw (a, b)))
      (λ a. rw a)

  -- A table that passes them is accepted.
  pub passed_table : table_checks n table ≡ accepted tt → Accepted n table
  unfolding of_table table_checks
  passed_table e =
      yes_or_no (is_variables n)
      (λ a.
      yes_or_no (eqb (length table) (2 ^ n))
      (λ b.
      yes_or_no (every is_value table)
      (λ c. record { variables = a; size = eqb-true (length table) (2 ^ n) b; values = c })
      (λ c. absurd (never 3 tt (rw (a, b, c) at e))))
      (λ b. absurd (never 2 tt (rw (a, b) at e))))
      (λ a. absurd (never 1 tt (rw a at e)))

  -- ---- Build

  pub build_refused : (nodes : List ℤ) (r : Refusal) → build n table (length nodes) ≡ refused (number r) → Builds n table nodes (Err r) nodes
  unfolding built build_answer build_buffer answer_of
  build_refused nodes r e = record { answered = rw e; left = sym (ap (λ a. buffer_after a (flat_map record_numbers) nodes) e) }

  -- The checks' own refusal, and that of a short buffer.
  pub build_unfit : (nodes : List ℤ) (r : Refusal) → table_checks n table ≡ refused (number r) → Builds n table nodes (Err r) nodes
  unfolding build
  build_unfit nodes r e = build_refused nodes r (after_checks _ ∙ ap (λ a. and_then a (λ t. unless (leb (node_room n) (length nodes)) 4 (accepted (records n table)))) e)

  build_reached : (room : ℕ) → Accepted n table → node_room n ≤ room → build n table room ≡ accepted (records n table)
  unfolding build
  build_reached room a l = table_passes_lem _ a ∙ ap (λ b. unless b 4 (accepted (records n table))) (le-leb (node_room n) room l)

  module _ (a : Accepted n table) (nodes : List ℤ) where
    pub build_short : length nodes < node_room n → Builds n table nodes (Err refusals.NodeRoom) nodes
    unfolding build number
    build_short l = build_refused nodes refusals.NodeRoom (table_passes_lem _ a ∙ ap (λ b. unless b 4 (accepted (records n table))) (lt-leb (node_room n) (length nodes) l))

    pub build_done : {made : ℕ} {nodes' : List ℤ} (start : ℤ) → node_room n ≤ length nodes → AllRecorded n table nodes made nodes' → start ≡ first table → Builds n table nodes (Ok (record { nodes = made + 1; offset = start })) nodes'
    unfolding built build_answer build_buffer offset node_count answer_of
    build_done {made} {nodes'} start l d e = record {
      answered =
          ap₂ (λ m z. accepted (record { nodes = m; table_offset = z })) (add-one made ∙ ap suc d.counted) e
          ∙ ap (map_answer (λ rs. summary_of n table)) (sym (build_reached (length nodes) a l));
      left = d.recorded ∙ overwritten_front nodes (flat_map record_numbers (records n table)) ∙ ap (λ b. buffer_after b (flat_map record_numbers) nodes) (sym (build_reached (length nodes) a l));
    }

  -- ---- what its answer shows

  -- An accepted table in a buffer with room is answered.
  pub build_answered : (room : ℕ) → Accepted n table → node_room n ≤ room → build_answer n table room ≡ accepted (summary_of n table)
  unfolding build_answer
  build_answered room a l = ap (map_answer (λ rs. summary_of n table)) (build_reached room a l)

  module _ (room : ℕ) (s : Summary) (e : build_answer n table room ≡ accepted s) where
    -- Nothing else is.
    pub build_admits : Accepted n table × (node_room n ≤ room)
    unfolding build build_answer
    build_admits = by_checks (table_checks n table) refl (ap (map_answer (λ rs. summary_of n table)) (sym (after_checks _)) ∙ e)
      where
        by_checks : (t : Answer Unit) → table_checks n table ≡ t → map_answer (λ rs. summary_of n table) (and_then t (λ u. unless (leb (node_room n) room) 4 (accepted (records n table)))) ≡ accepted s → Accepted n table × (node_room n ≤ room)
        by_checks (refused k) c p = absurd (never k s p)
        by_checks (accepted tt) c p =
            yes_or_no (leb (node_room n) room)
            (λ b. (passed_table c, leb-true (node_room n) room b))
            (λ b. absurd (never 4 s (rw b at p)))

    -- The answer is the table's.
    pub build_summary : s ≡ summary_of n table
    build_summary = let f : accepted (summary_of n table) ≡ accepted s = sym (build_answered room build_admits.0 build_admits.1) ∙ e in cc

  pub build_accepts : (room : ℕ) → (Accepted n table × (node_room n ≤ room)) ↔ ((s : Summary) × (build_answer n table room ≡ accepted s))
  build_accepts room = ((λ a. (summary_of n table, build_answered room a.0 a.1)), (λ s. build_admits room s.0 s.1))

  -- ---- what its buffer then holds

  -- After a refusal what was there.
  pub refused_kept : (buffer : List ℤ) (k : ℕ) → build_answer n table (length buffer) ≡ refused k → build_buffer n table buffer ≡ buffer
  unfolding build_answer build_buffer
  refused_kept buffer k e = kept (build n table (length buffer)) e
    where
      kept : (answer : Answer (List Record)) → map_answer (λ rs. summary_of n table) answer ≡ refused k → buffer_after answer (flat_map record_numbers) buffer ≡ buffer
      kept (refused j) e = refl
      kept (accepted rs) e = absurd (never k (summary_of n table) (sym e))

  module _ (buffer : List ℤ) (s : Summary) (e : build_answer n table (length buffer) ≡ accepted s) where
    -- The numbers written are those of every node but the terminal.
    pub summary_length : record_size * (s.nodes - 1) ≡ length (written n table)
    unfolding node_count
    summary_length =
        ap (λ t. record_size * (t.nodes - 1)) (build_summary (length buffer) s e)
        ∙ ap (λ k. record_size * k) (let d : suc (length (records n table)) - 1 ≡ length (records n table) = omega arith in d)
        ∙ sym (written_length n table)

    -- After an accepted call the records in front, and behind them what was there.
    pub build_left : build_buffer n table buffer ≡ written n table ++ drop (record_size * (s.nodes - 1)) buffer
    unfolding build_buffer
    build_left =
        let a = build_admits (length buffer) s e in
        ap (λ b. buffer_after b (flat_map record_numbers) buffer) (build_reached (length buffer) a.0 a.1)
        ∙ ap (λ k. written n table ++ drop k buffer) (sym summary_length)

    pub build_records : record_part s.nodes (build_buffer n table buffer) ≡ written n table
    unfolding record_part
    build_records =
        ap₂ take summary_length build_left
        ∙ take-append-le (length (written n table)) (written n table) (drop (record_size * (s.nodes - 1)) buffer) (omega arith)
        ∙ take_all (length (written n table)) (written n table) (omega arith)
