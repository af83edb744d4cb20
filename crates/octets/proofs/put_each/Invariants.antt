-- The bytes of the first i items are written.
use mathlib.Core.Path.{◌≡◌}
use Rattle.octets.proofs.Written.{written}
use Rattle.octets.proofs.put_each.Given as goal

abbrev pub invariant-loop-i : goal.invariant-loop-i
invariant-loop-i g l = l.bytes ≡ written g.C.Chunk.chunk g.row.N l.items l.initial.bytes l.i
