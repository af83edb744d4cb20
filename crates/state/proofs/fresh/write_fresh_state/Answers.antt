-- By the laws of a state written from the elements that pass a test.
use Rattle.std.proofs.Common.{arith, ◌∙◌, sym, ap, [], length}
use Rattle.model.specs.Site.{records}
use Rattle.model.specs.State.{kept, fresh_record}
use Rattle.state.proofs.Parts.{state_fits, fresh_joined, put_start, put_other, put_asks, put_more, put_all, part_back}
use Rattle.state.proofs.fresh.write_fresh_state.Goals as goal
use Rattle.state.proofs.fresh.write_fresh_state.Goals.{then-is_kept, else-is_kept}

pub loop-s-init : goal.loop-s-init
loop-s-init c = put_start kept fresh_record (records c.args.site.now) c.args.state.now

pub slice_bounds-write_fresh-end : goal.slice_bounds-write_fresh-end
slice_bounds-write_fresh-end c =
    let site = c.args.site.now in
    let l = c.loop-s in
    let k = rw c.records-s-items.ensures at (sym c.is_kept.ensures ∙ c.if-is_kept.true) in
    let asks = put_asks kept fresh_record (records site) c.args.state.now (state_fits site c.args.state.now c.requires) l.s-index l.place [] l.state l.invariant
    (rw c.records-s-items.ensures at c.loop-s-test.true) l.auto.state k in
    omega (arith, asks.1.1)

pub loop-s-preserved : goal.loop-s-preserved
loop-s-preserved c =
    let site = c.args.site.now in
    let l = c.loop-s in
    let fits = state_fits site c.args.state.now c.requires in
    let h = rw c.records-s-items.ensures at c.loop-s-test.true in
    elim c.if-is_kept.branch [
      | then-is_kept w ↦
          let k = rw c.records-s-items.ensures at (sym c.is_kept.ensures ∙ w.if-is_kept.true) in
          rw w.place-is (put_more kept fresh_record (records site) c.args.state.now fits l.s-index l.place [] l.state l.invariant h l.auto.state k
          c.if-is_kept.state
          (w.state-is ∙ part_back 32 l.place _ _ l.state (w.write_fresh.ensures ∙ rw c.records-s-items.ensures)))
      | else-is_kept w ↦
          let k = rw c.records-s-items.ensures at (sym c.is_kept.ensures ∙ w.if-is_kept.false) in
          rw (w.place-is, w.state-is) (put_other kept fresh_record (records site) c.args.state.now fits l.s-index l.place [] l.state l.invariant h k)
    ]

pub returns : goal.returns
returns c =
    let site = c.args.site.now in
    let l = c.loop-s in
    put_all kept fresh_record (records site) c.args.state.now (state_fits site c.args.state.now c.requires) l.s-index l.place l.state
    (omega (arith, c.loop-s-test.false, l.auto.s-index-end, ap length c.records-s-items.ensures)) l.invariant
    ∙ fresh_joined site
