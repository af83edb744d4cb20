-- The head of the bucket is its first record, from which a walk along its chain starts.
use mathlib.Core.Path.{refl, ap, ◌∙◌}
use mathlib.Core.Bool.{true}
use native.Mathlib.Omega.{arith}
use Rattle.model.specs.Site.{records}
use Rattle.index.specs.Index.{record_of, head}
use Rattle.index.specs.Place.{place_from}
use Rattle.index.proofs.Walks.{walk_from}
use Rattle.index.proofs.Places.{place_passes}
use Rattle.index.proofs.indexed.IndexedSite.first.Goals as goal

pub first_from-requires : goal.first_from-requires
first_from-requires g c =
    let a = c.args in
    let x = rw c.self.view_is at c.self.invariant in
    let q = g.S.Sought.fits a.sought in
    let e = c.record.ensures ∙ ap record_of (c.head_of-head.ensures ∙ ap (λ b. head b c.self.inside.words.now) c.bucket.ensures) in
    let y =
    walk_from (place_from q) q (place_passes q) (records a.self.now) (g.S.Sought.bucket a.sought) (g.met.S.Sought.of_bucket a.sought) 0 c.self.inside.words.now x
    true c.record.result (omega (arith, c.bucket.ensures)) e in
    record { high = y.high; here = y.here refl }

pub returns : goal.returns
returns g c =
    let a = c.args in
    let x = rw c.self.view_is at c.self.invariant in
    let q = g.S.Sought.fits a.sought in
    let e = c.record.ensures ∙ ap record_of (c.head_of-head.ensures ∙ ap (λ b. head b c.self.inside.words.now) c.bucket.ensures) in
    c.first_from.ensures
    ∙ (walk_from (place_from q) q (place_passes q) (records a.self.now) (g.S.Sought.bucket a.sought) (g.met.S.Sought.of_bucket a.sought) 0 c.self.inside.words.now x
    true c.record.result (omega (arith, c.bucket.ensures)) e).left
