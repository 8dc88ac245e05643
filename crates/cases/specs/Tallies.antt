-- The count of the cases.
use Rattle.std.specs.Prelude.{◌+◌, ◌%◌, ◌^◌, Bool, true, false}
use Rattle.cases.specs.declared.tally.Tally.{Tally}

-- One case more that passed or failed. A count wraps behind 64 bits.
unfoldable pub noted : Tally → Bool → Tally
noted tally true = record { passed = (tally.passed + 1) % 2 ^ 64; failed = tally.failed }
noted tally false = record { passed = tally.passed; failed = (tally.failed + 1) % 2 ^ 64 }
