-- The input of a table is read back.
use Rattle.std.specs.Prelude.{ℕ, suc, ◌+◌, ◌*◌, ◌<◌, ◌≡◌, refl, true, leb, length, get_or, drop, ℤ, pos, negsuc, neg_ℤ}
use Rattle.std.proofs.Common.{sym, ◌∙◌, ap₂, arith, leb-true, SFits, List, [], ◌∷◌, map}
use mathlib.Core.List.{flat_map}
use Rattle.std.specs.Int.{w32}
use Rattle.numbers.specs.Conditions.{Signed32}
use Rattle.numbers.specs.Lists.{numbers_from, every}
use Rattle.numbers.specs.Ranges.{within}
use Rattle.numbers.proofs.Laws.Bools.{both}
use Rattle.numbers.proofs.Laws.Selections.{length_flat_map}
use Rattle.numbers.proofs.Laws.Tests.{every_test, signed_32_test}
use Rattle.operands.specs.Bytes.{signed_bytes, signed_at}
use Rattle.operands.proofs.Laws.Bytes.{length_big_endian, signed_here}
use Rattle.listing.specs.Listing.{table_of}
use Rattle.listing.specs.Inner.Values.{values_of}
use Rattle.listing.proofs.Laws.Values.{values_table}

-- A number of 32 bits fits the machine's.
machine_fits : (z : ℤ) → within (neg_ℤ (pos 2147483648)) (pos 2147483647) z ≡ true → SFits w32 z
unfolding within
machine_fits (pos a) h = let l = leb-true a 2147483647 h in record { sfits = omega arith }
machine_fits (negsuc a) h = let l = leb-true a 2147483647 (both (leb a 2147483647) true h).0 in record { sfits = omega arith }

-- The values from number k on, from the bytes that stand for them.
values_back : (input : List ℕ) (k : ℕ) (table : List ℤ) → every (within (neg_ℤ (pos 2147483648)) (pos 2147483647)) table ≡ true
    → drop (2 + 4 * k) input ≡ flat_map signed_bytes table → map (λ j. signed_at input (2 + 4 * j)) (numbers_from k (length table)) ≡ table
unfolding numbers_from every flat_map
values_back input k [] small e = refl
values_back input k (z ∷ more) small e =
    let each = both (within (neg_ℤ (pos 2147483648)) (pos 2147483647) z) (every (within (neg_ℤ (pos 2147483648)) (pos 2147483647)) more) small in
    let here = signed_here input (2 + 4 * k) z (2 + 4 * suc k) (flat_map signed_bytes more) (omega arith) (machine_fits z each.0) e in
    ap₂ (λ v l. v ∷ l) here.0 (values_back input (suc k) more each.1 here.1)

-- All values.
pub input_back : (n limit : ℕ) (table : List ℤ) → ((j : ℕ) → j < length table → Signed32 (get_or table j (pos 0))) → table_of (n ∷ limit ∷ flat_map signed_bytes table) ≡ table
unfolding values_of signed_bytes
input_back n limit table small =
    sym (values_table (n ∷ limit ∷ flat_map signed_bytes table) (length table) (let l = length_flat_map signed_bytes 4 (λ z. length_big_endian 4 _) table in omega arith))
    ∙ values_back (n ∷ limit ∷ flat_map signed_bytes table) 0 table ((every_test (within (neg_ℤ (pos 2147483648)) (pos 2147483647)) table (pos 0) signed_32_test).1 small) refl
