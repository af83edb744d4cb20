-- A record's place, and the record.
use Rattle.std.specs.Prelude.{if◌then◌else◌, Option, Some, None}
use Prim.Native.Nat.{ℕ, suc, ◌-◌, ◌/◌, ◌≤◌, ◌<◌}
use mathlib.Core.Path.{◌≡◌, refl, sym}
use mathlib.Core.List.{List, [], ◌∷◌}
use mathlib.Core.Bool.{Bool, true, false}
use native.Mathlib.Omega.{arith}
use lib.ListN.{length, get_or}
use Rattle.octets.proofs.GroupLaws.{length_group}
use Rattle.std.specs.Option.{is_some}
use Rattle.model.specs.Words.{any}
use Rattle.model.specs.Site.{records, is_at, find_in, lookup}
use Rattle.model.specs.State.{state_place}
use Rattle.model.specs.Accept.{exists}
use Rattle.index.proofs.Building.{length_records}
use Rattle.index.specs.Place.{place_from, place_at}
use Rattle.index.specs.declared.Place.{Place}
use Rattle.site.specs.Place.{site_place, both_at, place_of}
use Rattle.site.proofs.Records.{no_bytes}

-- What a place says of the records, the first of them counted as `from`, and a test: the record there is the first that passes, or none does. Every law of
-- places is from here.
unfoldable pub First : (List ℕ → Bool) → ℕ → List (List ℕ) → Option ℕ → Type 0
First q from ss (Some i) =
    (from ≤ i) × (i - from < length ss) × (get_or ss (i - from) [] ≡ find_in q ss) × (q (get_or ss (i - from) []) ≡ true) × (any q ss ≡ true)
First q from ss None = (find_in q ss ≡ []) × (any q ss ≡ false)

later : (q : List ℕ → Bool) (from : ℕ) (s : List ℕ) (ss : List (List ℕ)) (p : Option ℕ) → q s ≡ false → First q (suc from) ss p → First q from (s ∷ ss) p
unfolding First
later q from s ss (Some i) e h =
    let d : i - from ≡ suc (i - suc from) = omega (arith, h.0) in
    (omega (arith, h.0), omega (arith, h.0, h.1), rw (d, e) h.2, rw d h.3, rw e h.4)
later q from s ss None e h = (rw e h.0, rw e h.1)

pub first : (q : List ℕ → Bool) (from : ℕ) (ss : List (List ℕ)) → First q from ss (place_from q from ss)
unfolding First place_from
first q from [] = (refl, refl)
first q from (s ∷ ss) = go (q s) refl (first q (suc from) ss)
  where
    go : (c : Bool) → q s ≡ c → First q (suc from) ss (place_from q (suc from) ss) → First q from (s ∷ ss) (if c then Some from else place_from q (suc from) ss)
    go true e h = let d : from - from ≡ 0 = omega arith in (omega arith, omega arith, rw (d, e), rw d e, rw e)
    go false e h = later q from s ss (place_from q (suc from) ss) e h

-- The first record that passes a test, at its place; and none, where it has none.
module _ (q : List ℕ → Bool) (ss : List (List ℕ)) where
  pub found_at : (j : ℕ) → place_from q 0 ss ≡ Some j → (j < length ss) × (get_or ss j [] ≡ find_in q ss) × (q (get_or ss j []) ≡ true)
  unfolding First
  found_at j e =
      let h : First q 0 ss (Some j) = rw e at (first q 0 ss) in
      let z : j - 0 ≡ j = omega arith in
      (omega (arith, h.1), rw z at h.2, rw z at h.3)

  pub found_within : (j : ℕ) → place_from q 0 ss ≡ Some j → j < length ss
  found_within j e = (found_at j e).0

  pub found_nowhere : place_from q 0 ss ≡ None → find_in q ss ≡ []
  unfolding First
  found_nowhere e = let h : First q 0 ss None = rw e at (first q 0 ss) in h.0

-- A place is that of both records, and no place that of none.
pub place_both : (k i : ℕ) (site : List ℕ) (p : Place) → place_of k i site ≡ Some p → (site_place k i site ≡ Some p.site) × (p.state ≡ state_place p.site (records site))
unfolding place_of
place_both k i site p e = go (site_place k i site) e
  where
    go : (o : Option ℕ) → both_at (records site) o ≡ Some p → (o ≡ Some p.site) × (p.state ≡ state_place p.site (records site))
    go (Some j) e = let q : place_at j (records site) ≡ p = cc in rw (← q) (refl, refl)
    go None e = cc

pub place_none : (k i : ℕ) (site : List ℕ) → place_of k i site ≡ None → site_place k i site ≡ None
unfolding place_of
place_none k i site e = go (site_place k i site) e
  where
    go : (o : Option ℕ) → both_at (records site) o ≡ None → o ≡ None
    go (Some j) e = cc
    go None e = refl

-- The place of a record that is found: it is the record there.
pub place_found : (k i j : ℕ) (site : List ℕ) → site_place k i site ≡ Some j
    → (j < length (records site)) × (get_or (records site) j [] ≡ lookup k i site) × (is_at k i (get_or (records site) j []) ≡ true)
unfolding site_place lookup
place_found k i j site e = found_at (is_at k i) (records site) j e

-- No place: no record is found.
pub place_missing : (k i : ℕ) (site : List ℕ) → site_place k i site ≡ None → lookup k i site ≡ []
unfolding site_place lookup
place_missing k i site e = found_nowhere (is_at k i) (records site) e

-- It exists where it has a place.
pub place_exists : (k i j : ℕ) (site : List ℕ) → site_place k i site ≡ Some j → exists (records site) k i ≡ true
unfolding exists lookup records
place_exists k i j site e =
    let f = place_found k i j site e in
    let n : j < length site / 32 = omega (arith, f.0, length_records site) in
    let l : length (find_in (is_at k i) (records site)) ≡ 32 = rw f.1 at (length_group 32 (length site / 32) j site n (omega arith)) in
    rw (← no_bytes (find_in (is_at k i) (records site)), l)

pub place_exists_not : (k i : ℕ) (site : List ℕ) → site_place k i site ≡ None → exists (records site) k i ≡ false
unfolding exists lookup
place_exists_not k i site e = rw (place_missing k i site e)

pub place_tells : (k i : ℕ) (site : List ℕ) → is_some (site_place k i site) ≡ exists (records site) k i
place_tells k i site = go (site_place k i site) refl
  where
    go : (p : Option ℕ) → site_place k i site ≡ p → is_some p ≡ exists (records site) k i
    go (Some j) e = sym (place_exists k i j site e)
    go None e = sym (place_exists_not k i site e)

-- Some record passes where one that passes has a place.
pub place_any : (q : List ℕ → Bool) (from : ℕ) (ss : List (List ℕ)) → is_some (place_from q from ss) ≡ any q ss
unfolding First
place_any q from ss = go (place_from q from ss) (first q from ss)
  where
    go : (p : Option ℕ) → First q from ss p → is_some p ≡ any q ss
    go (Some i) h = sym h.4
    go None h = sym h.1
