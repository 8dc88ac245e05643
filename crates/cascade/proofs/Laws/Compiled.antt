-- What Plan and Compile answer, the image of a grouping, and what Compile left.
use Rattle.std.specs.Prelude.{ℕ, ◌+◌, ◌^◌, ◌≤◌, ◌<◌, ◌≡◌, refl, true, length, drop, ℤ, pos, ◌≤ℤ◌}
use Rattle.std.proofs.Math.Path.{sym, ap, ap₂}
use Rattle.std.proofs.Common.{◌∙◌, true≢false, add-one}
use mathlib.Core.List.{List, [], ◌∷◌, ◌++◌, flat_map}
use Rattle.std.proofs.Math.ListN.{get_or, take}
use Rattle.std.proofs.Math.Seq.{take-append_seam}
use borrow.Author.Tests.{le-leb, eq-eqb}
use Rattle.numbers.specs.Answers.{Answer, accepted, refused, map_answer, buffer_after}
use Rattle.numbers.specs.Conditions.{Limit}
use Rattle.numbers.proofs.Laws.Tests.{limit_test}
use Rattle.numbers.specs.Ranges.{is_limit}
use Rattle.diagram.specs.Accepted.{Accepted}
use Rattle.diagram.specs.Build.{of_table}
use Rattle.diagram.specs.Records.{records, node_count}
use Rattle.diagram.specs.Bound.{node_bound}
use Rattle.diagram.proofs.NodeBound.{node_bound_lem}
use Rattle.image.specs.Cells.{Cell, total_bits}
use Rattle.image.specs.Commands.{card_commands, cell_commands}
use Rattle.image.specs.Reader.{reading}
use Rattle.image.specs.Run.{run, expand}
use Rattle.image.proofs.Theorems.{card_image, card_run, card_expand}
use Rattle.image.specs.declared.Command.TheVariants as commands
use Rattle.cascade.specs.Cascade.{cells_from, card_for}
use Rattle.cascade.specs.Compile.{image_for, compile, ImageSummary, image_summary, compile_answer, compile_buffer, compiled_image}
use Rattle.cascade.specs.Groupings.{cost, fits, chosen, is_grouping, BestGrouping}
use Rattle.cascade.specs.Plan.{plan, totals}
use Rattle.cascade.proofs.Laws.Admitting.{plan_admits, compile_admits, report_admits}
use Rattle.cascade.proofs.Laws.Cards.{cells_count, card_value, card_values_lem}
use Rattle.cascade.proofs.Laws.Chosen.{chosen_refuses, chosen_refuses_by_nine, chosen_best}
use Rattle.cascade.proofs.Laws.WellFormed.{card_well_formed}

module _ (n : ℕ) (table : List ℤ) (a : Accepted n table) where
  -- ---- what is answered

  -- An accepted table and an admitted limit: Plan answers the chosen grouping, or 9.
  pub plan_chooses : (limit : ℕ) → is_limit limit ≡ true → plan n table limit ≡ chosen n table limit
  unfolding plan of_table
  plan_chooses limit l = rw (a.variables, eq-eqb (length table) (2 ^ n) a.size, a.values, l)

  -- Where a grouping is chosen and the buffer is no shorter than its image, Compile gives it.
  pub compile_chooses : (limit room : ℕ) → is_limit limit ≡ true → (best : List ℕ) → chosen n table limit ≡ accepted best → length (image_for n table best) ≤ room → compile n table limit room ≡ accepted best
  unfolding compile
  compile_chooses limit room l best e h = rw (plan_chooses limit l, e, le-leb (length (image_for n table best)) room h)

  -- ---- the image of a grouping

  module _ (sizes : List ℕ) (grouping : is_grouping n sizes ≡ true) where
    -- It is read as its cells' commands, and ends with the grouping's cost.
    pub image_commands : reading (image_for n table sizes) ≡ accepted (commands.Table n (get_or table 0 (pos 0)) ∷ flat_map cell_commands (cells_from n table 0 sizes) ++ commands.End (cost n table sizes) ∷ [])
    unfolding image_for card_for card_commands cost Rattle.blocks.specs.Blocks.first
    image_commands = card_image (card_for n table sizes) (card_well_formed n table a sizes grouping)

    -- Run answers f(X) at every X below 2^n, and as many words read as there are groups.
    pub image_runs : (x : ℕ) → x < 2 ^ n → run (image_for n table sizes) x ≡ accepted (record { value = get_or table x (pos 0); words = length sizes })
    unfolding image_for card_for
    image_runs x l = card_run (card_for n table sizes) (card_well_formed n table a sizes grouping) x l ∙ ap accepted (card_value n table a sizes grouping x l)

    -- Expand returns the table.
    pub image_expands : expand (image_for n table sizes) (2 ^ n) ≡ accepted table
    unfolding image_for card_for
    image_expands = card_expand (card_for n table sizes) (card_well_formed n table a sizes grouping) ∙ ap accepted (card_values_lem n table a sizes grouping)

-- The summary of a grouping.
pub summary_parts : (n : ℕ) (table : List ℤ) (sizes : List ℕ) → let s = image_summary n table sizes in (s.image_length ≡ length (image_for n table sizes)) × (s.nodes ≡ node_count n table) × (s.planned.cells ≡ length sizes) × (s.planned.bits ≡ cost n table sizes)
unfolding image_summary totals cost
summary_parts n table sizes = (refl, refl, refl, refl)

-- ---- the choice

-- Where some grouping fits the limit, one is chosen, and it is the best: it fits, costs least, and is the widest first among equals.
pub some_fits_chosen : (n : ℕ) (table : List ℤ) (limit : ℕ) (sizes : List ℕ) → is_grouping n sizes ≡ true → fits n table limit sizes ≡ true → (best : List ℕ) × (chosen n table limit ≡ accepted best) × BestGrouping n table limit best
some_fits_chosen n table limit sizes grouping fit = either (chosen n table limit) refl
  where
    either : (answer : Answer (List ℕ)) → chosen n table limit ≡ answer → (best : List ℕ) × (chosen n table limit ≡ accepted best) × BestGrouping n table limit best
    either (accepted best) e = (best, e, chosen_best n table limit best e)
    either (refused k) e = absurd (true≢false (sym fit ∙ (chosen_refuses n table limit).0 (e ∙ ap refused (chosen_refuses_by_nine n table limit k e)) sizes grouping))

-- ---- what Compile left

module _ (n : ℕ) (table : List ℤ) (limit : ℕ) (buffer : List ℕ) (r : ImageSummary) (compiled : compile_answer n table limit (length buffer) ≡ accepted r) where
  -- The compiled image.
  abbrev image : List ℕ
  image = compiled_image r (compile_buffer n table limit buffer)

  -- The table and the limit were admitted, and the image is that of the chosen grouping, with its length, its cells and its cost.
  pub compiled_chosen : Accepted n table × Limit limit × (best : List ℕ) × (chosen n table limit ≡ accepted best) × (image ≡ image_for n table best) × (r ≡ image_summary n table best)
  unfolding compiled_image compile_buffer image_summary
  compiled_chosen =
      let q = report_admits n table limit (length buffer) r compiled in
      let best = q.0 in
      let c = compile_admits n table limit (length buffer) best q.1.0 in
      let p = plan_admits n table limit best c.0 in (
        p.0,
        (limit_test limit).0 p.1.0,
        best,
        p.1.1,
        ap₂ (λ s a. take s.image_length (buffer_after a (image_for n table) buffer)) q.1.1 q.1.0 ∙ take-append_seam (image_for n table best) (drop (length (image_for n table best)) buffer),
        q.1.1,
      )

  -- The grouping that it was compiled for is the best one within the limit.
  best : List ℕ
  best = compiled_chosen.2

  is_best : BestGrouping n table limit best
  unfolding best
  is_best = chosen_best n table limit best compiled_chosen.3

  -- Run answers f(X) at every X below 2^n, and as many words read as Compile answered cells.
  pub compiled_runs : (x : ℕ) → x < 2 ^ n → run image x ≡ accepted (record { value = get_or table x (pos 0); words = r.planned.cells })
  unfolding best image_summary totals
  compiled_runs x l =
      ap (λ bytes. run bytes x) compiled_chosen.4
      ∙ image_runs n table compiled_chosen.0 best is_best.grouping x l
      ∙ ap (λ s. accepted (record { value = get_or table x (pos 0); words = s.planned.cells })) (sym compiled_chosen.5)

  -- Expand returns the table.
  pub compiled_expands : expand image (2 ^ n) ≡ accepted table
  unfolding best
  compiled_expands = ap (λ bytes. expand bytes (2 ^ n)) compiled_chosen.4 ∙ image_expands n table compiled_chosen.0 best is_best.grouping

  -- It is read as cells, as many as Compile answered, that end with Compile's bits: the cost of its own cells.
  pub compiled_bits : (cells : List Cell) × (reading image ≡ accepted (commands.Table n (get_or table 0 (pos 0)) ∷ flat_map cell_commands cells ++ commands.End r.planned.bits ∷ [])) × (r.planned.cells ≡ length cells) × (r.planned.bits ≡ total_bits cells)
  unfolding best cost image_summary totals
  compiled_bits = (
    cells_from n table 0 best,
    ap reading compiled_chosen.4
        ∙ image_commands n table compiled_chosen.0 best is_best.grouping
        ∙ ap (λ s. accepted (commands.Table n (get_or table 0 (pos 0)) ∷ flat_map cell_commands (cells_from n table 0 best) ++ commands.End s.planned.bits ∷ [])) (sym compiled_chosen.5),
    ap (λ s. s.planned.cells) compiled_chosen.5 ∙ sym (cells_count n table 0 best),
    ap (λ s. s.planned.bits) compiled_chosen.5,
  )

  -- Every grouping that fits costs at least as many.
  pub compiled_least : (sizes : List ℕ) → is_grouping n sizes ≡ true → fits n table limit sizes ≡ true → r.planned.bits ≤ cost n table sizes
  unfolding best cost image_summary totals
  compiled_least sizes grouping fit = rw (ap (λ s. s.planned.bits) compiled_chosen.5) (is_best.least sizes grouping fit)

  -- The node count is that of the reduced diagram: its records and the terminal.
  pub compiled_nodes : r.nodes ≡ length (records n table) + 1
  unfolding node_count image_summary
  compiled_nodes = ap (λ s. s.nodes) compiled_chosen.5 ∙ sym (add-one (length (records n table)))

  -- It is within the node bound for every p and every l from 1 to n.
  pub compiled_bound : (p l : ℕ) → 1 ≤ l → l ≤ n → pos r.nodes ≤ℤ node_bound n table p l
  unfolding image_summary
  compiled_bound p l from_one to_n = rw (ap (λ s. s.nodes) compiled_chosen.5) (node_bound_lem n table compiled_chosen.0.size p l from_one to_n)

-- Where some grouping fits, Compile gives the image of the chosen one into every buffer that is no shorter, with its cells and its cost.
pub compile_gives : (n : ℕ) (table : List ℤ) → Accepted n table → (limit : ℕ) → is_limit limit ≡ true → (sizes : List ℕ) → is_grouping n sizes ≡ true → fits n table limit sizes ≡ true
    → (best : List ℕ) × BestGrouping n table limit best × ((buffer : List ℕ) → length (image_for n table best) ≤ length buffer → (r : ImageSummary) × (compile_answer n table limit (length buffer) ≡ accepted r) × (compiled_image r (compile_buffer n table limit buffer) ≡ image_for n table best) × (r.planned.cells ≡ length best) × (r.planned.bits ≡ cost n table best))
unfolding compile_answer compiled_image compile_buffer image_summary totals cost
compile_gives n table a limit l sizes grouping fit =
    let some = some_fits_chosen n table limit sizes grouping fit in
    let best = some.0 in (
      best,
      some.2,
      λ buffer room.
          let e = compile_chooses n table a limit (length buffer) l best some.1 room in (
            image_summary n table best,
            ap (map_answer (image_summary n table)) e,
            ap (λ answer. take (length (image_for n table best)) (buffer_after answer (image_for n table) buffer)) e ∙ take-append_seam (image_for n table best) (drop (length (image_for n table best)) buffer),
            refl,
            refl,
          ),
    )
