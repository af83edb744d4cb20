-- By the laws of a state written from the elements that pass a test.
use Rattle.std.proofs.Common.{arith, ◌<◌, ◌∙◌, sym, ap, [], length}
use Rattle.model.specs.State.{Pair}
use Rattle.model.specs.Longer.{long_panel}
use Rattle.state.proofs.Parts.{has_state, length_pairs, pairs_fit, pair_at, shorter_joined, put_start, put_other, put_asks, put_more, put_all}
use Rattle.state.proofs.across.write_shorter.Goals as goal
use Rattle.state.proofs.across.write_shorter.Goals.{then-is_kept, else-is_kept}

pub loop-i-init : goal.loop-i-init
loop-i-init c = put_start has_state (λ (x : Pair). x.1) (long_panel c.args.site.now c.args.long.now) c.args.state.now

pub group-t-requires : goal.group-t-requires
group-t-requires c =
    let p = pair_at c.args.site.now c.args.long.now c.loop-i.i c.requires.long_len (rw c.records-s-items.ensures at c.loop-i-test.true) in
    (omega arith, (omega arith, p.0))

pub put_group-requires : goal.put_group-requires
put_group-requires c =
    let site = c.args.site.now in
    let long = c.args.long.now in
    let l = c.loop-i in
    let p = pair_at site long l.i c.requires.long_len (rw c.records-s-items.ensures at c.loop-i-test.true) in
    let k = rw c.records-s-items.ensures at (sym c.is_kept.ensures ∙ c.if-is_kept.true) in
    put_asks has_state (λ (x : Pair). x.1) (long_panel site long) c.args.state.now (pairs_fit site long c.args.state.now c.requires.state_len) l.i l.place ([], []) l.state l.invariant
    (rw (length_pairs site long, ← c.records-s-items.ensures) c.loop-i-test.true) l.auto.state (rw p.1 k)

pub loop-i-preserved : goal.loop-i-preserved
loop-i-preserved c =
    let site = c.args.site.now in
    let long = c.args.long.now in
    let l = c.loop-i in
    let fits = pairs_fit site long c.args.state.now c.requires.state_len in
    let h : l.i < length (long_panel site long) = rw (length_pairs site long, ← c.records-s-items.ensures) c.loop-i-test.true in
    let p = pair_at site long l.i c.requires.long_len (rw c.records-s-items.ensures at c.loop-i-test.true) in
    elim c.if-is_kept.branch [
      | then-is_kept w ↦
          let k = rw c.records-s-items.ensures at (sym c.is_kept.ensures ∙ w.if-is_kept.true) in
          rw w.place-is (put_more has_state (λ (x : Pair). x.1) (long_panel site long) c.args.state.now fits l.i l.place ([], []) l.state l.invariant h l.auto.state (rw p.1 k)
          c.if-is_kept.state (w.state-is ∙ w.put_group.ensures ∙ rw (w.group-t.ensures, p.1)))
      | else-is_kept w ↦
          let k = rw c.records-s-items.ensures at (sym c.is_kept.ensures ∙ w.if-is_kept.false) in
          rw (w.place-is, w.state-is) (put_other has_state (λ (x : Pair). x.1) (long_panel site long) c.args.state.now fits l.i l.place ([], []) l.state l.invariant h (rw p.1 k))
    ]

pub returns : goal.returns
returns c =
    let site = c.args.site.now in
    let long = c.args.long.now in
    let l = c.loop-i in
    put_all has_state (λ (x : Pair). x.1) (long_panel site long) c.args.state.now (pairs_fit site long c.args.state.now c.requires.state_len) l.i l.place l.state
    (omega (arith, c.loop-i-test.false, l.auto.i-end, length_pairs site long, ap length c.records-s-items.ensures)) l.invariant
    ∙ shorter_joined site long
