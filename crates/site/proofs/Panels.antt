-- A record's place is its place in the panel: what is found stands there, and what is written is written there.
use Rattle.std.specs.Prelude.{if◌then◌else◌, Option, Some, None}
use Prim.Native.Nat.{ℕ, suc, ◌-◌, ◌≤◌}
use mathlib.Core.Path.{◌≡◌, refl, ap}
use mathlib.Core.List.{List, [], ◌∷◌}
use mathlib.Core.Bool.{Bool, true, false}
use native.Mathlib.Omega.{arith}
use lib.ListN.{get_or, set}
use Rattle.model.specs.Site.{records, is_at}
use Rattle.model.specs.State.{Panel, sites, find, store}
use Rattle.index.specs.Place.{place_from}
use Rattle.site.specs.Place.{site_place}

-- What a place says of a panel, the first pair of it counted as `from`, when `b` is written.
unfoldable Held : ℕ → ℕ → List ℕ → ℕ → Panel → Option ℕ → Type 0
Held k i b from ps (Some j) =
    (from ≤ j) × (find k i ps ≡ get_or ps (j - from) ([], [])) × (store k i b ps ≡ set ps (j - from) ((get_or ps (j - from) ([], [])).0, b))
Held k i b from ps None = (find k i ps ≡ ([], [])) × (store k i b ps ≡ ps)

held : (k i : ℕ) (b : List ℕ) (from : ℕ) (ps : Panel) → Held k i b from ps (place_from (is_at k i) from (sites ps))
unfolding Held place_from find store
held k i b from [] = (refl, refl)
held k i b from (x ∷ xs) = go (is_at k i x.0) refl (held k i b (suc from) xs)
  where
    later : (p : Option ℕ) → is_at k i x.0 ≡ false → Held k i b (suc from) xs p → Held k i b from (x ∷ xs) p
    later (Some j) e h =
        let d : j - from ≡ suc (j - suc from) = omega (arith, h.0) in
        (omega (arith, h.0), rw (e, d) h.1, rw (e, d) (ap (λ ys. x ∷ ys) h.2))
    later None e h = (rw e h.0, rw e (ap (λ ys. x ∷ ys) h.1))

    go : (c : Bool) → is_at k i x.0 ≡ c → Held k i b (suc from) xs (place_from (is_at k i) (suc from) (sites xs)) →
        Held k i b from (x ∷ xs) (if c then Some from else place_from (is_at k i) (suc from) (sites xs))
    go true e h = let d : from - from ≡ 0 = omega arith in (omega arith, rw (e, d), rw (e, d))
    go false e h = later (place_from (is_at k i) (suc from) (sites xs)) e h

module _ (k i : ℕ) (site : List ℕ) (ps : Panel) (same_site : sites ps ≡ records site) where
  here : (b : List ℕ) → Held k i b 0 ps (site_place k i site)
  unfolding site_place
  here b = rw same_site at (held k i b 0 ps)

  pub find_at : (j : ℕ) → site_place k i site ≡ Some j → find k i ps ≡ get_or ps j ([], [])
  unfolding Held
  find_at j e =
      let h : Held k i [] 0 ps (Some j) = rw e at (here []) in
      let z : j - 0 ≡ j = omega arith in
      rw z at h.1

  pub store_at : (b : List ℕ) (j : ℕ) → site_place k i site ≡ Some j → store k i b ps ≡ set ps j ((get_or ps j ([], [])).0, b)
  unfolding Held
  store_at b j e =
      let h : Held k i b 0 ps (Some j) = rw e at (here b) in
      let z : j - 0 ≡ j = omega arith in
      rw z at h.2

  pub find_nowhere : site_place k i site ≡ None → find k i ps ≡ ([], [])
  unfolding Held
  find_nowhere e = let h : Held k i [] 0 ps None = rw e at (here []) in h.0

  pub store_nowhere : (b : List ℕ) → site_place k i site ≡ None → store k i b ps ≡ ps
  unfolding Held
  store_nowhere b e = let h : Held k i b 0 ps None = rw e at (here b) in h.1
