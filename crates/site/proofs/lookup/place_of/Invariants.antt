-- The records before the i-th that have state are counted, and those from it on decide.
use mathlib.Core.Path.{◌≡◌}
use lib.ListN.{drop}
use Rattle.model.specs.Site.{records, is_at}
use Rattle.model.specs.State.{state_place}
use Rattle.index.specs.Place.{place_from}
use Rattle.site.specs.Place.{site_place}
use Rattle.site.proofs.lookup.place_of.Given as goal

abbrev pub invariant-loop-i : goal.invariant-loop-i
invariant-loop-i g l =
    let k = g.O.Object.KIND in
    let n = g.O.Object.instance l.object in
    (l.state ≡ state_place l.i (records l.site)) × (place_from (is_at k n) l.i (drop l.i (records l.site)) ≡ site_place k n l.site)
