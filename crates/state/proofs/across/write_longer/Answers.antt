-- The turn's record stands behind those before it.
use Rattle.std.proofs.Common.{arith, ◌≡◌, ◌*◌, ◌<◌, ◌∙◌, ap, [], length, append-nil}
use lib.ListN.{drop_of_length-le}
use Rattle.octets.proofs.Written.{written_start, written_step, written_end}
use Rattle.model.specs.Site.{records}
use Rattle.model.specs.State.{panel}
use Rattle.model.specs.Longer.{long_record, longer}
use Rattle.index.proofs.Building.{length_records}
use Rattle.state.proofs.Parts.{length_panel}
use Rattle.state.proofs.across.write_longer.Goals as goal

pub loop-i-init : goal.loop-i-init
loop-i-init c = written_start long_record 32 (panel c.args.site.now c.args.state.now) c.args.long.now

pub put_group-requires : goal.put_group-requires
put_group-requires c =
    (omega arith, (omega arith, omega (arith, c.loop-i-test.true, ap length c.records-i-end.ensures.value, length_records c.args.site.now, c.requires.long_len)))

pub long_record-requires-clause-in_range : goal.long_record-requires-clause-in_range
long_record-requires-clause-in_range c = rw c.records-i-end.ensures.value at c.loop-i-test.true

pub loop-i-preserved : goal.loop-i-preserved
loop-i-preserved c =
    let site = c.args.site.now in
    let state = c.args.state.now in
    let l = c.loop-i in
    let n = ap length c.records-i-end.ensures.value in
    let h : l.i < length (panel site state) = omega (arith, c.loop-i-test.true, length_panel site state) in
    written_step long_record 32 (panel site state) c.args.long.now l.i ([], []) l.long c.put_group.new.bytes h
    (omega (arith, h, length_panel site state, length_records site, c.requires.long_len)) l.auto.long l.invariant (rw c.long_record.ensures at c.put_group.ensures)

pub returns : goal.returns
unfolding longer
returns c =
    let site = c.args.site.now in
    let state = c.args.state.now in
    let room = c.args.long.now in
    let l = c.loop-i in
    let n = ap length c.records-i-end.ensures.value in
    let h : length (panel site state) ≡ length (records site) = length_panel site state in
    let d = drop_of_length-le room {i = length (records site) * 32} (omega (arith, length_records site, c.requires.long_len, c.requires.site_len)) in
    written_end long_record 32 (panel site state) room l.i (length (records site)) l.long (omega (arith, n, c.loop-i-test.false, l.auto.i-end)) h l.invariant ∙ rw (d, append-nil _)
