-- The offset of a state record is within the bytes of the site.
use Rattle.std.specs.Prelude.{Option, Some, None}
use Prim.Native.Nat.{ℕ, ◌*◌, ◌≤◌}
use native.Mathlib.Omega.{arith}
use mathlib.Core.Path.{◌≡◌}
use mathlib.Core.List.{List}
use lib.ListN.{length}
use Rattle.model.specs.Site.{records}
use Rattle.model.specs.State.{state_place}
use Rattle.index.specs.declared.Place.{Place}
use Rattle.index.proofs.Building.{length_records}
use Rattle.index.proofs.Counts.{place_few}
use Rattle.site.specs.Place.{both_at, site_place, place_of}

pub state_fits : (k i : ℕ) (site : List ℕ) (p : Place) → place_of k i site ≡ Some p → p.state * 32 ≤ length site
unfolding place_of
state_fits k i site p e = go (site_place k i site) e
  where
    go : (o : Option ℕ) → both_at (records site) o ≡ Some p → p.state * 32 ≤ length site
    go (Some j) e = let s : state_place j (records site) ≡ p.state = cc in omega (arith, s, place_few j (records site), length_records site)
    go None e = cc
