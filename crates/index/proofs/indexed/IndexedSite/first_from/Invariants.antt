-- A walk along the chain of the bucket: the record that is come to is of the bucket, and what is left from it on decides.
use mathlib.Core.Bool.{true}
use lib.ListN.{drop}
use Rattle.model.specs.Site.{records}
use Rattle.index.specs.Place.{place_from}
use Rattle.index.proofs.Walks.{Walk}
use Rattle.index.proofs.indexed.IndexedSite.first_from.Given as goal

abbrev pub invariant-loop : goal.invariant-loop
invariant-loop g l =
    let q = g.S.Sought.fits l.sought in
    Walk (place_from q) (g.S.Sought.bucket l.sought) 0 (place_from q l.from (drop l.from (records l.self))) (records l.self) true l.at
