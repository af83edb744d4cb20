-- The records of those before the i-th are written.
use Rattle.model.specs.State.{Pair}
use Rattle.model.specs.Longer.{long_panel}
use Rattle.state.proofs.Parts.{Put, has_state}
use Rattle.state.proofs.across.write_shorter.Given as goal

abbrev pub invariant-loop-i : goal.invariant-loop-i
invariant-loop-i l = Put has_state (λ (x : Pair). x.1) (long_panel l.site l.long) l.initial.state l.i l.place l.state
