-- The fresh records of those before the record that is tried are written.
use Rattle.model.specs.Site.{records}
use Rattle.model.specs.State.{kept, fresh_record}
use Rattle.state.proofs.Parts.{Put}
use Rattle.state.proofs.fresh.write_fresh_state.Given as goal

abbrev pub invariant-loop-s : goal.invariant-loop-s
invariant-loop-s l = Put kept fresh_record (records l.site) l.initial.state l.s-index l.place l.state
