-- `arithmetic::power` meets its contract: no bit is shifted out.
use Prim.Native.Nat.{◌^◌}
use mathlib.Core.Path.{◌∙◌}
use native.Mathlib.Nat.{one-mul}
use native.Mathlib.Omega.{arith}
use lib.Dec.{lit<}
use lib.Pow.{shl_exact}
use Rattle.numbers.proofs.arithmetic.power.Goals as goal

pub returns : goal.returns
returns c = shl_exact {a = 1} 1 c.args.k 64 (lit< tt) (omega arith) ∙ one-mul (2 ^ c.args.k)
