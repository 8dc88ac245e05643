-- Planned cells, written one behind the other.
use Rattle.std.specs.Prelude.{ℕ, suc, ◌+◌, ◌*◌, ◌^◌, ◌≤◌, ◌<◌, ◌≡◌, refl, take, drop, ℤ}
use Rattle.std.proofs.Common.{◌∙◌, zero-add, add-zero, add-one, take-append-drop, take-suc, sym, ap, ap₂, List, [], ◌∷◌, ◌++◌, append-nil, arith, length, get_or, length-append}
use mathlib.Core.List.{flat_map}
use Rattle.std.proofs.Math.ListN.{length-map}
use Rattle.std.proofs.Math.Seq.{take-length}
use Rattle.numbers.specs.Lists.{sum_of, overwritten}
use Rattle.numbers.proofs.Laws.Lists.{get_d_map}
use Rattle.numbers.proofs.Laws.Rows.{overwritten_none}
use Rattle.numbers.proofs.Laws.Selections.{flat_map_append}
use Rattle.diagram.specs.Accepted.{Accepted}
use Rattle.operands.specs.Bytes.{big_endian}
use Rattle.image.specs.Cells.{Cell}
use Rattle.image.specs.Commands.{command_bytes, cell_commands}
use Rattle.image.specs.declared.Command.TheVariants as commands
use Rattle.cascade.specs.Cascade.{cell_of, cells_from}
use Rattle.cascade.proofs.Laws.Cards.{grouping_sum}
use Rattle.cascade.proofs.Laws.Cells.{variables_most}
use Rattle.cascade.proofs.Laws.Groupings.{grouping_length}
use Rattle.cascade.proofs.Laws.Lengths.{cell_length}
use Rattle.cascade.proofs.Laws.Planned.{sum_next, sum_within, planned_at}
use Rattle.cascade.specs.Plan.{plan_cell}
use Rattle.cascade.specs.declared.Cell.{Cell as PlanCell}
use Rattle.compiler.specs.Inner.WordWriting.{word_bytes, CellPlanned}
use Rattle.compiler.specs.Inner.Writing.{cell_bytes, cells_bytes, cell_groups, CellsPlanned}
use Rattle.numbers.proofs.Laws.Written.{written_behind, length_kept}
use Rattle.compiler.proofs.Laws.Words.{words_are}

-- ---- one cell

-- A cell's command takes 7 bytes.
pub head_length : (group incoming outgoing width : ℕ) → length (command_bytes (commands.Cell group incoming outgoing width)) ≡ 7
unfolding command_bytes big_endian
head_length group incoming outgoing width = refl

-- A cell takes 7 bytes and 7 for each of its words.
pub cell_bytes_length : (cell : Cell) → length (cell_bytes cell) ≡ 7 + 7 * length cell.words
unfolding cell_bytes
cell_bytes_length cell = cell_length cell

module _ {n h : ℕ} {table : List ℤ} {cell : PlanCell} (p : CellPlanned n h table cell) where
  pub planned_length_lem : length (cell_bytes (cell_of n table h cell.group)) ≡ 7 + 7 * (cell.incoming * 2 ^ cell.group)
  planned_length_lem = cell_bytes_length (cell_of n table h cell.group) ∙ ap (λ m. 7 + 7 * m) (words_are p)

  -- The command in front and the words behind it are the cell.
  head_is : command_bytes (commands.Cell cell.group cell.incoming cell.outgoing cell.width) ≡ command_bytes (commands.Cell cell.group (cell_of n table h cell.group).incoming (cell_of n table h cell.group).outgoing (cell_of n table h cell.group).width)
  head_is = rw (p.entering, p.leaving, p.wide)

  pub cell_written : {left right : List ℕ} (tail : List ℕ) → 7 ≤ length tail → left ≡ overwritten tail 0 (command_bytes (commands.Cell cell.group cell.incoming cell.outgoing cell.width)) → right ≡ overwritten left 7 (word_bytes (cell_of n table h cell.group).words) → right ≡ overwritten tail 0 (cell_bytes (cell_of n table h cell.group))
  unfolding cell_bytes cell_commands word_bytes flat_map cell_of
  cell_written tail room e f =
      let words = word_bytes (cell_of n table h cell.group).words in
      let head = command_bytes (commands.Cell cell.group cell.incoming cell.outgoing cell.width) in
      let long = head_length cell.group cell.incoming cell.outgoing cell.width in
      written_behind tail 0 head e 7 words f (omega arith) room ∙ ap (λ l. overwritten tail 0 (l ++ words)) head_is

-- ---- the cells of a list of sizes

module _ (n : ℕ) (table : List ℤ) where
  -- The cells of two lists of sizes, one behind the other.
  cells_append : (h : ℕ) (left right : List ℕ) → cells_from n table h (left ++ right) ≡ cells_from n table h left ++ cells_from n table (h + sum_of left) right
  unfolding cells_from sum_of
  cells_append h [] right = ap (λ cut. cells_from n table cut right) (sym (add-zero h))
  cells_append h (g ∷ left) right =
      ap (λ l. cell_of n table h g ∷ l)
      (cells_append (h + g) left right
      ∙ ap (λ cut. cells_from n table (h + g) left ++ cells_from n table cut right) (let e : h + g + sum_of left ≡ h + (g + sum_of left) = omega arith in e))

  -- The first cells take no more bytes than all.
  part_within : (sizes : List ℕ) (k : ℕ) → length (cells_bytes n table (take k sizes)) ≤ length (cells_bytes n table sizes)
  unfolding cells_bytes
  part_within sizes k =
      let left = cells_from n table 0 (take k sizes) in
      let right = cells_from n table (0 + sum_of (take k sizes)) (drop k sizes) in
      let all : cells_from n table 0 sizes ≡ left ++ right = ap (cells_from n table 0) (sym (take-append-drop k sizes)) ∙ cells_append 0 (take k sizes) (drop k sizes) in
      let long = ap (λ l. length (flat_map cell_bytes l)) all ∙ ap length (flat_map_append cell_bytes left right) ∙ length-append (flat_map cell_bytes left) (flat_map cell_bytes right) in
      omega arith

  module _ (sizes : List ℕ) (k : ℕ) (below : k < length sizes) where
    -- The cut of cell k, and its size.
    abbrev cut_of : ℕ
    cut_of = sum_of (take k sizes)

    abbrev size_of : ℕ
    size_of = get_or sizes k 0

    -- The bytes of the cells before it, with its own.
    bytes_next : cells_bytes n table (take (suc k) sizes) ≡ cells_bytes n table (take k sizes) ++ cell_bytes (cell_of n table cut_of size_of)
    unfolding cells_bytes cells_from flat_map
    bytes_next =
        ap (cells_bytes n table) (take-suc sizes k 0 below)
        ∙ ap (flat_map cell_bytes) (cells_append 0 (take k sizes) (size_of ∷ []))
        ∙ flat_map_append cell_bytes (cells_from n table 0 (take k sizes)) (cell_of n table (0 + cut_of) size_of ∷ [])
        ∙ ap (λ l. cells_bytes n table (take k sizes) ++ l) (append-nil (cell_bytes (cell_of n table (0 + cut_of) size_of)) ∙ ap (λ cut. cell_bytes (cell_of n table cut size_of)) (zero-add cut_of))

    bytes_within : length (cells_bytes n table (take k sizes)) + length (cell_bytes (cell_of n table cut_of size_of)) ≤ length (cells_bytes n table sizes)
    bytes_within =
        let next = ap length bytes_next ∙ length-append (cells_bytes n table (take k sizes)) (cell_bytes (cell_of n table cut_of size_of)) in
        let part = part_within sizes (suc k) in
        omega arith

-- ---- the planned cells

module _ {n : ℕ} {table : List ℤ} {cells : List PlanCell} {bits : ℕ} (p : CellsPlanned n table cells bits) where
  open p use {grouping, planned}

  -- As many sizes as planned cells.
  pub groups_count : length (cell_groups cells) ≡ length cells
  unfolding cell_groups
  groups_count = length-map cells (λ cell. cell.group)

  -- They are at most 12.
  pub count_most : Accepted n table → length cells ≤ 12
  count_most a = let l = grouping_length n (cell_groups cells) grouping in let m = variables_most n table a in let e = groups_count in omega arith

  module _ (k : ℕ) (below : k < length cells) (d : PlanCell) where
    pub inside : k < length (cell_groups cells)
    inside = rw groups_count below

    -- The size of planned cell k.
    pub size_is : get_or (cell_groups cells) k 0 ≡ (get_or cells k d).group
    unfolding cell_groups
    size_is = get_d_map (λ cell. cell.group) cells k d 0 below

    -- It is the table's cell from its cut.
    pub next_planned : (h : ℕ) → h ≡ sum_of (take k (cell_groups cells)) → CellPlanned n h table (get_or cells k d)
    unfolding plan_cell
    next_planned h e =
        let at = ap (λ l. get_or l k d) planned ∙ planned_at n table 0 (cell_groups cells) k inside d in
        let same : cell_of n table (0 + sum_of (take k (cell_groups cells))) (get_or (cell_groups cells) k 0) ≡ cell_of n table h (get_or cells k d).group = ap₂ (cell_of n table) (zero-add (sum_of (take k (cell_groups cells))) ∙ sym e) size_is in
        record {
          ends = let s = size_is in let w = sum_within (cell_groups cells) k inside in let g = grouping_sum n (cell_groups cells) grouping in omega arith;
          entering = ap (λ cell. cell.incoming) at ∙ ap (λ cell. cell.incoming) same;
          leaving = ap (λ cell. cell.outgoing) at ∙ ap (λ cell. cell.outgoing) same;
          wide = ap (λ cell. cell.width) at ∙ ap (λ cell. cell.width) same;
        }

-- ---- the cells so far

-- The first k cells of a list of sizes stand behind the table command, up to a place and a cut.
pub record CellsWritten (n : ℕ) (table : List ℤ) (sizes : List ℕ) (image image' : List ℕ) (at h k : ℕ) : Type 0 where
  pub inside : k ≤ length sizes
  pub cut : h ≡ sum_of (take k sizes)
  pub place : at ≡ 6 + length (cells_bytes n table (take k sizes))
  pub written : image' ≡ overwritten image 6 (cells_bytes n table (take k sizes))

module _ (n : ℕ) (table : List ℤ) (sizes image : List ℕ) where
  pub no_cells : CellsWritten n table sizes image image 6 0 0
  unfolding cells_bytes cells_from flat_map sum_of
  no_cells = record { inside = omega arith; cut = refl; place = refl; written = sym (overwritten_none image 6) }

  module _ {image' : List ℕ} {at h k : ℕ} (w : CellsWritten n table sizes image image' at h k) (room : 6 + length (cells_bytes n table sizes) ≤ length image) where
    abbrev so_far : List ℕ
    so_far = cells_bytes n table (take k sizes)

    module _ (below : k < length sizes) (g : ℕ) (is : get_or sizes k 0 ≡ g) where
      -- The next cell has room.
      pub cell_room : at + length (cell_bytes (cell_of n table h g)) ≤ length image
      cell_room = rw (w.cut, ← is) (let p = w.place in let b = bytes_within n table sizes k below in omega arith)

      -- One more.
      pub next_cell : {image'' : List ℕ} {at' : ℕ} → at' ≡ at + length (cell_bytes (cell_of n table h g)) → image'' ≡ overwritten image' at (cell_bytes (cell_of n table h g)) → CellsWritten n table sizes image image'' at' (h + g) (k + 1)
      next_cell e f =
          let cell = cell_bytes (cell_of n table h g) in
          let next : cells_bytes n table (take (suc k) sizes) ≡ so_far ++ cell = bytes_next n table sizes k below ∙ ap₂ (λ cut size. so_far ++ cell_bytes (cell_of n table cut size)) (sym w.cut) is in
          rw (add-one k) (record {
            inside = omega arith;
            cut = ap₂ (λ cut size. cut + size) w.cut (sym is) ∙ sym (sum_next sizes k below);
            place = let l = ap length next ∙ length-append so_far cell in let p = w.place in omega arith;
            written =
                let p = w.place in
                let r = cell_room in
                written_behind image 6 so_far w.written at cell f (omega arith) (omega arith) ∙ ap (overwritten image 6) (sym next);
          })

    -- The image is as long as before.
    pub cells_kept : length image' ≡ length image
    cells_kept = length_kept image 6 so_far w.written (let l = part_within n table sizes k in omega arith)

    -- All of them.
    pub all_cells : k ≡ length sizes → (at ≡ 6 + length (cells_bytes n table sizes)) × (image' ≡ overwritten image 6 (cells_bytes n table sizes))
    all_cells e =
        let all : take k sizes ≡ sizes = ap (λ m. take m sizes) e ∙ take-length sizes in
        (w.place ∙ ap (λ l. 6 + length (cells_bytes n table l)) all, w.written ∙ ap (λ l. overwritten image 6 (cells_bytes n table l)) all)
