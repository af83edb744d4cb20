-- A walk from a record of the bucket: a link leads to the next of the bucket; past the last there is none.
use Prim.Native.Nat.{◌<◌}
use mathlib.Core.Path.{refl, sym, ap, ◌∙◌}
use mathlib.Core.Bool.{true}
use native.Mathlib.Omega.{arith}
use lib.ListN.{length}
use Rattle.model.specs.Site.{records}
use Rattle.index.specs.Index.{record_of}
use Rattle.index.specs.Place.{place_from}
use Rattle.index.proofs.Walks.{walk_past}
use Rattle.index.proofs.Places.{place_passes, place_here, place_end}
use Rattle.index.proofs.indexed.IndexedSite.first_from.Goals as goal

pub loop-init : goal.loop-init
loop-init g c = record { low = omega arith; high = c.requires.high; here = λ t. c.requires.here; left = refl }

pub returns-then-at-records : goal.returns-then-at-records
returns-then-at-records g c =
    let n = ap length c.records-records.ensures.value in
    sym (place_end (g.S.Sought.fits c.args.sought) (records c.args.self.now) c.loop.at (omega (arith, n))) ∙ c.loop.invariant.left

pub returns-then-fits : goal.returns-then-fits
returns-then-fits g c =
    let v = c.records-records.ensures.value in
    sym (place_here (g.S.Sought.fits c.args.sought) (records c.args.self.now) c.loop.at (omega (arith, ap length v)) (sym (rw v at c.fits.ensures) ∙ c.if-fits.true)) ∙ c.loop.invariant.left

pub loop-preserved : goal.loop-preserved
loop-preserved g c =
    let a = c.args in
    let x = rw c.self.view_is at c.self.invariant in
    let v = c.records-records.ensures.value in
    let q = g.S.Sought.fits a.sought in
    let h : c.loop.at < length (records a.self.now) = omega (arith, ap length v) in
    let n = sym (rw v at c.fits.ensures) ∙ c.if-fits.false in
    walk_past (place_from q) q (place_passes q) (records a.self.now) (g.S.Sought.bucket a.sought) (g.met.S.Sought.of_bucket a.sought) 0 c.self.inside.words.now x
    (g.S.Sought.kind a.sought) (g.met.S.Sought.of_kind a.sought) true true c.loop.at c.record-at.result (λ t. t) h c.loop.invariant n
    (c.record-at.ensures ∙ ap record_of c.link_of.ensures)
