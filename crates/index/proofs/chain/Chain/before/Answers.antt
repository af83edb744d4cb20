-- The tags are five bits, and stay five with a mark of five.
use Prim.Native.Nat.{◌/◌}
use native.Mathlib.Omega.{arith}
use lib.Bits.{or_lt}
use Rattle.index.specs.Index.{chain_scale}
use Rattle.index.proofs.chain.Chain.before.Goals as goal

pub overflow_mul-result : goal.overflow_mul-result
overflow_mul-result c = omega (arith, or_lt 5 c.args.mark (c.args.self.0 / chain_scale) (omega arith) (omega arith))

pub overflow_add-result : goal.overflow_add-result
overflow_add-result c = omega (arith, or_lt 5 c.args.mark (c.args.self.0 / chain_scale) (omega arith) (omega arith))
