-- Where the record that a number names stands among the records of a site, and its state record among those of the state.
use Rattle.std.specs.Prelude.{ℕ, List, Option, Some, None}
use Rattle.model.specs.Site.{records, is_at}
use Rattle.index.specs.Place.{place_from, place_at}
use Rattle.index.specs.declared.Place.{Place}

-- The number of the record that `lookup` finds.
unfoldable pub site_place : ℕ → ℕ → List ℕ → Option ℕ
site_place k i site = place_from (is_at k i) 0 (records site)

-- With that of its state record.
abbrev pub both_at : List (List ℕ) → Option ℕ → Option Place
both_at ss (Some i) = Some (place_at i ss)
both_at ss None = None

unfoldable pub place_of : ℕ → ℕ → List ℕ → Option Place
place_of k i site = both_at (records site) (site_place k i site)
