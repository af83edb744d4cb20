-- By the laws of places in a state.
use Rattle.std.proofs.Common.{arith, ◌∙◌, sym}
use Rattle.state.proofs.Parts.{long_kept, long_other}
use Rattle.state.proofs.across.long_record.Goals as goal

pub returns-then-not-is_kept : goal.returns-then-not-is_kept
returns-then-not-is_kept c =
    long_other c.args.site.now c.args.state.now c.requires.state_len c.args.i c.requires.in_range (rw c.record_at.ensures at (sym c.is_kept.ensures ∙ c.if-not-is_kept.true))

pub group-requires : goal.group-requires
group-requires c =
    let k = rw c.record_at.ensures at (sym c.is_kept.ensures ∙ c.if-not-is_kept.false) in
    (omega arith, (omega arith, rw c.place.ensures (long_kept c.args.site.now c.args.state.now c.requires.state_len c.args.i c.requires.in_range k).0))

pub returns : goal.returns
returns c =
    let k = rw c.record_at.ensures at (sym c.is_kept.ensures ∙ c.if-not-is_kept.false) in
    c.group.ensures ∙ rw c.place.ensures (long_kept c.args.site.now c.args.state.now c.requires.state_len c.args.i c.requires.in_range k).1
