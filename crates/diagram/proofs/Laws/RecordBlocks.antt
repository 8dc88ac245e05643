-- Each record and the branching block for which it was made.
use Rattle.std.specs.Prelude.{ℕ, suc, ◌+◌, ◌-◌, ◌^◌, ◌≤◌, ◌<◌, ◌≡◌, true, List, [], map, length, get_or, ℤ, pos}
use Rattle.std.proofs.Common.{sym, ◌∙◌, ap, arith, ext_get_or}
use Rattle.numbers.specs.Lists.{keep}
use Rattle.blocks.specs.Blocks.{block, blocks, lower_half, upper_half, differences}
use Rattle.blocks.specs.Classes.{number_in}
use Rattle.blocks.proofs.Laws.Known.{own_distinct}
use Rattle.diagram.specs.Records.{branches, kinds, records_below, node, records}
use Rattle.diagram.proofs.Laws.Alike.{BlockLike, whole_length, block_like, like_length, like_lower, like_upper}
use Rattle.diagram.proofs.Laws.Branching.{branched_halves}
use Rattle.diagram.proofs.Laws.Nodes.{node_branching, kind_block}
use Rattle.diagram.proofs.Laws.Numbering.{records_count, numbered, StandsFor, kind_stands}

-- Record m has variable height; its block is that of height + 1 at this place, which branches and has node m.
pub record RecordBlock (n : ℕ) (table : List ℤ) (m : ℕ) : Type 0 where
  pub height : ℕ
  pub place : ℕ
  pub lower : height < n
  pub inside : place < 2 ^ (n - suc height)
  pub branched : branches height (block table (suc height) place) ≡ true
  pub number : node n table (suc height) (block table (suc height) place) ≡ m
  pub stands : StandsFor n table m height (block table (suc height) place)

-- The block of a record.
abbrev pub block_of : {n : ℕ} {table : List ℤ} {m : ℕ} → RecordBlock n table m → List ℤ
block_of {table} r = block table (suc r.height) r.place

-- A kind's own place is its number.
own_kind : (n : ℕ) (table : List ℤ) (i k : ℕ) → k < length (kinds n table i) → number_in (kinds n table i) (get_or (kinds n table i) k []) ≡ k
unfolding kinds
own_kind n table i k h = own_distinct (map differences (keep (branches i) (blocks n table (suc i)))) k h

module _ (n : ℕ) (table : List ℤ) (size : length table ≡ 2 ^ n) where
  -- Each record has its block.
  pub record_block : (m : ℕ) → 0 < m → m ≤ length (records n table) → RecordBlock n table m
  record_block m h l =
      let r = numbered n table n m h (let c = records_count n table in omega arith) in
      let q = kind_block n table r.height r.kind r.known in
      rw r.number (record {
        height = r.height;
        place = q.place;
        lower = r.lower;
        inside = q.inside;
        branched = q.branched;
        number = node_branching n table r.height (block table (suc r.height) q.place) q.branched ∙ ap (λ k. suc (records_below n table r.height + k)) (ap (number_in (kinds n table r.height)) (sym q.stands) ∙ own_kind n table r.height r.kind r.known);
        stands = kind_stands n table r.height r.kind (block table (suc r.height) q.place) r.lower r.known (whole_length n table size (suc r.height) q.place r.lower q.inside) q.stands;
      })

  -- ---- the halves of a record's block

  module _ {m : ℕ} (r : RecordBlock n table m) where
    pub height_within : r.height ≤ n
    height_within = let p = r.lower in omega arith

    -- The block and its halves are blocks of the table.
    pub record_like : BlockLike n table (suc r.height) (block_of r)
    record_like = block_like n table size (suc r.height) r.place r.inside

    pub lower_like : BlockLike n table r.height (lower_half r.height (block_of r))
    lower_like = like_lower n table size r.height (block_of r) r.lower record_like

    pub upper_like : BlockLike n table r.height (upper_half r.height (block_of r))
    upper_like = like_upper n table size r.height (block_of r) r.lower record_like

    -- The halves differ somewhere.
    pub halves_differ : ((y : ℕ) → y < 2 ^ r.height → get_or (lower_half r.height (block_of r)) y (pos 0) ≡ get_or (upper_half r.height (block_of r)) y (pos 0)) → ⊥
    halves_differ same =
        branched_halves r.height (block_of r) r.branched
        (ext_get_or (pos 0) (lower_half r.height (block_of r)) (upper_half r.height (block_of r))
        (lower_length ∙ sym (like_length n table size r.height (upper_half r.height (block_of r)) height_within upper_like))
        (λ y l. same y (omega (arith, lower_length))))
      where
        lower_length : length (lower_half r.height (block_of r)) ≡ 2 ^ r.height
        lower_length = like_length n table size r.height (lower_half r.height (block_of r)) height_within lower_like
