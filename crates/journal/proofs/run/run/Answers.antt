-- By induction on the entries: each turn works the next one.
use Rattle.std.proofs.Common.{rules, length, map, refl, ◌∙◌, ap₂, arith}
use Rattle.std.proofs.lemmas.List.{length_push}
use Rattle.octets.specs.Octets.{with_part}
use Rattle.model.specs.State.{panel}
use Rattle.model.specs.Entry.{entry_of, entries}
use Rattle.entries.proofs.Turns.{turn, turns, length_entries}
use Rattle.journal.proofs.Loop.{done_start, done_step, done_end}
use Rattle.journal.proofs.run.run.Goals as goal

pub loop-k-init : goal.loop-k-init
loop-k-init c =
    let a = c.args in
    done_start a.site.now (map entry_of (entries a.journal.now)) (panel a.site.now a.state.now) a.answers.now a.state.now c.requires.state_len refl

pub loop-k-init-derived : goal.loop-k-init-derived
loop-k-init-derived c = search (rules, length_entries)

pub put_group-requires : goal.put_group-requires
put_group-requires c =
    let j = c.args.journal.now in
    let t = turn (map entry_of (entries j)) c.into_iter-k-iterator.result (cc) (cc) c.loop-k.yielded _ c.loop-k.yielded_by _ _ c.next.ensures.steps c.in-Some.k c.in-Some.e c.in-Some.is in
    let l = length_entries j in
    omega (arith, c.requires.answers_len, c.loop-k.auto.answers)

pub loop-k-preserved : goal.loop-k-preserved
loop-k-preserved c =
    let a = c.args in
    let i = c.in-Some in
    let p = c.step-answer in
    let es = map entry_of (entries a.journal.now) in
    let t = turn es c.into_iter-k-iterator.result (cc) (cc) c.loop-k.yielded _ c.loop-k.yielded_by _ _ c.next.ensures.steps i.k i.e i.is in
    let l = length_entries a.journal.now in
    let w = c.put_group.ensures ∙ ap₂ (λ k b. with_part 16 k b c.loop-k.answers) t.1 c.answer_bytes.ensures in
    rw (length_push c.loop-k.yielded (i.k, i.e))
    (done_step a.site.now es (panel a.site.now a.state.now) a.answers.now (omega (arith, c.requires.answers_len)) (length c.loop-k.yielded) c.loop-k.state c.loop-k.answers p.new.state c.put_group.new.bytes i.e p.result
    t.0 t.2 c.loop-k.auto.answers p.ensures.state_after p.ensures.answer w c.loop-k.invariant)

pub returns : goal.returns
returns c =
    let a = c.args in
    let es = map entry_of (entries a.journal.now) in
    let n = turns es c.into_iter-k-iterator.result (cc) (cc) c.loop-k.yielded _ c.loop-k.yielded_by _ _ c.next.ensures.steps c.in-None.is in
    let l = length_entries a.journal.now in
    let e = done_end a.site.now es (panel a.site.now a.state.now) a.answers.now (omega (arith, c.requires.answers_len)) (length c.loop-k.yielded) c.loop-k.state c.loop-k.answers n c.loop-k.invariant in
    record { state_after = e.0; answers_after = e.1 }
