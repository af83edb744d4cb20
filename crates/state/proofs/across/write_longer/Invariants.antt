-- The records of the longer state before the i-th are written.
use Rattle.std.proofs.Common.{◌≡◌}
use Rattle.octets.proofs.Written.{written}
use Rattle.model.specs.State.{panel}
use Rattle.model.specs.Longer.{long_record}
use Rattle.state.proofs.across.write_longer.Given as goal

abbrev pub invariant-loop-i : goal.invariant-loop-i
invariant-loop-i l = l.long ≡ written long_record 32 (panel l.site l.state) l.initial.long l.i
