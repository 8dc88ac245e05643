-- Walking the records of a table, also as Build left them in a buffer, gives the table's values.
use Rattle.std.specs.Prelude.{ℕ, ◌^◌, ◌<◌, ◌≡◌, true, List, length, get_or, ℤ, pos, ◌+ℤ◌, ◌-ℤ◌}
use Rattle.std.proofs.Common.{sym, ◌∙◌, ap, ap₂, mod-eq_of_lt, arith, pow_pos}
use Rattle.std.proofs.Math.IntN.{+ℤ_comm}
use Rattle.numbers.specs.Answers.{accepted}
use Rattle.numbers.specs.Ranges.{is_value}
use Rattle.numbers.proofs.Laws.Integers.{sub_add}
use Rattle.numbers.proofs.Laws.Lists.{every_at}
use Rattle.blocks.specs.Blocks.{first}
use Rattle.diagram.specs.Build.{Summary, build_answer, build_buffer, record_part}
use Rattle.diagram.specs.Records.{offset}
use Rattle.diagram.specs.Walk.{path_weight, record_count, list_fits, walk_value, walk}
use Rattle.diagram.specs.Accepted.{Accepted, written}
use Rattle.diagram.proofs.Laws.Alike.{table_like}
use Rattle.diagram.specs.Inner.Edges.{Passing}
use Rattle.diagram.proofs.Laws.Builds.{build_admits, build_summary, build_records}
use Rattle.diagram.proofs.Laws.Fits.{list_fits_lem}
use Rattle.diagram.proofs.Laws.Lists.{walk_inside}
use Rattle.diagram.proofs.Laws.Nodes.{root_last}
use Rattle.diagram.proofs.Laws.Numbering.{records_count, written_count}
use Rattle.diagram.proofs.Laws.Paths.{block_path}

-- The weights on the path from the root.
pub root_path : (n : ℕ) (table : List ℤ) → length table ≡ 2 ^ n → (x : ℕ) → x < 2 ^ n → path_weight (written n table) n (record_count (written n table)) x ≡ get_or table x (pos 0) -ℤ first table
root_path n table size x h =
    ap (λ m. path_weight (written n table) n m x) (written_count n table ∙ records_count n table ∙ sym (root_last n table size))
    ∙ block_path n table size n table x (omega arith) (table_like n table size)
    ∙ ap (λ p. get_or table p (pos 0) -ℤ first table) (mod-eq_of_lt h)

-- With the offset they are the value at X.
pub walk_value_lem : (n : ℕ) (table : List ℤ) → length table ≡ 2 ^ n → (x : ℕ) → x < 2 ^ n → walk_value n (offset table) (written n table) x ≡ get_or table x (pos 0)
unfolding walk_value offset
walk_value_lem n table size x h =
    ap (λ w. first table +ℤ w) (root_path n table size x h)
    ∙ +ℤ_comm (first table) (get_or table x (pos 0) -ℤ first table)
    ∙ sub_add (get_or table x (pos 0)) (first table)

-- The offset is a value.
offset_value : (n : ℕ) (table : List ℤ) → Accepted n table → is_value (offset table) ≡ true
unfolding offset first
offset_value n table a = every_at is_value table (pos 0) a.values 0 (let s = a.size in omega (arith, pow_pos n))

-- What Build writes passes Walk's check, and with the table's offset all that come before that of X.
pub records_pass : (n : ℕ) (table : List ℤ) → Accepted n table → list_fits n (written n table) ≡ true
records_pass n table a = list_fits_lem n table a.size a.values

pub written_passing : (n : ℕ) (table : List ℤ) → Accepted n table → Passing n (offset table) (written n table)
written_passing n table a = record { variables = a.variables; start = offset_value n table a; records = records_pass n table a }

-- Walk refuses nothing and answers that value.
pub walk_records : (n : ℕ) (table : List ℤ) → Accepted n table → (x : ℕ) → x < 2 ^ n → walk n (offset table) (written n table) x ≡ accepted (get_or table x (pos 0))
walk_records n table a x h =
    walk_inside n (offset table) (written n table) x (written_passing n table a) h ∙ ap accepted (walk_value_lem n table a.size x h)

-- So it does with what Build left in a buffer and the offset that it answered.
pub walk_after_build : (n : ℕ) (table buffer : List ℤ) (s : Summary) → build_answer n table (length buffer) ≡ accepted s → (x : ℕ) → x < 2 ^ n → walk n s.table_offset (record_part s.nodes (build_buffer n table buffer)) x ≡ accepted (get_or table x (pos 0))
walk_after_build n table buffer s e x h =
    ap₂ (λ t list. walk n t.table_offset list x) (build_summary n table (length buffer) s e) (build_records n table buffer s e)
    ∙ walk_records n table (build_admits n table (length buffer) s e).0 x h
