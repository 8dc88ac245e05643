-- What holds of every text.
use Rattle.std.specs.Prelude.{ℕ, ◌^◌, ◌≤◌, ◌<◌, ◌≡◌, ◌↔◌, List, length, get_or, pos}
use Rattle.numbers.specs.Conditions.{Variables, Signed32}
use Rattle.decimal.specs.Table.{Read, got, Table, text_read}
use Rattle.decimal.specs.Text.{table_text}
use Rattle.decimal.specs.Conditions.{Condition}
use Rattle.decimal.proofs.Laws.Conditions as proved
use Rattle.decimal.proofs.Laws.Written.{table_back}

-- Every table that a text can give is read back from its own text: n from 1 to 12, a limit of one byte, and 2^n values
-- of 32 bits.
pub written_read : (table : Table) → Variables table.n → table.limit ≤ 255 → length table.values ≡ 2 ^ table.n
    → ((j : ℕ) → j < length table.values → Signed32 (get_or table.values j (pos 0)))
    → text_read (table_text table) ≡ got table
written_read = table_back

-- A text gives a table, or each refusal, exactly where its condition holds.
pub given_exactly : (text : List ℕ) (read : Read Table) → Condition text read ↔ (text_read text ≡ read)
given_exactly = proved.given_exactly
