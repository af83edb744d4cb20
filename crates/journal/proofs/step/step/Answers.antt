-- A refused entry: what is done is what is decided of it.
use Rattle.std.proofs.Common.{◌≡◌, ◌∙◌, ap}
use Rattle.journal.specs.Places.{applied}
use Rattle.journal.specs.Decide.{decided_on}
use Rattle.journal.specs.declared.Decided.{Decided}
use Rattle.journal.proofs.Decisions.{decided_outcome, stepped}
use Rattle.journal.proofs.step.step.Goals as goal

pub returns-in-Err-clause-state_after : goal.returns-in-Err-clause-state_after
returns-in-Err-clause-state_after c =
    let a = c.args in
    let d : c.refused_as.result ≡ decided_on a.site.now a.state.now a.e = c.refused_as.ensures ∙ rw c.in-Err.is at (c.object_of.ensures a.state.now) in
    c.done.ensures.state_after ∙ ap (λ (d : Decided). applied d.outcome d.places a.state.now) d ∙ stepped a.site.now a.state.now c.requires a.e

pub returns-in-Err-clause-answer : goal.returns-in-Err-clause-answer
returns-in-Err-clause-answer c =
    let a = c.args in
    let d : c.refused_as.result ≡ decided_on a.site.now a.state.now a.e = c.refused_as.ensures ∙ rw c.in-Err.is at (c.object_of.ensures a.state.now) in
    c.done.ensures.answer ∙ ap (λ (d : Decided). d.outcome.answer) d ∙ ap (λ o. o.answer) (decided_outcome a.site.now a.state.now c.requires a.e)
