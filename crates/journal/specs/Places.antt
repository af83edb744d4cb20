-- Records of lent bytes by their places, in the site and in the state: what is read there, and what a write there leaves.
use Rattle.std.specs.Prelude.{ℕ, ◌/◌, ◌≡◌, List, [], false, eqb, ltb, length, if◌then◌else◌, Option, Some, None}
use Rattle.octets.specs.Octets.{with_part}
use Rattle.model.specs.Numbers as n
use Rattle.model.specs.Numbers.{NONE}
use Rattle.model.specs.State.{zone_bytes, point_bytes, credential_bytes}
use Rattle.model.specs.InPlace.{part_of}
use Rattle.site.specs.Place.{place_of}
use Rattle.index.specs.declared.Place.{Place}
use Rattle.model.specs.declared.ZoneId.{ZoneId}
use Rattle.model.specs.declared.PointId.{PointId}
use Rattle.model.specs.declared.CredentialId.{CredentialId}
use Rattle.model.specs.declared.Operation.{Operation}
use Rattle.model.specs.declared.Operation.TheVariants.{Factor, SetCount, AdjustCount, SetDisable, SetService}
use Rattle.model.specs.declared.Write.{Write}
use Rattle.model.specs.declared.Outcome.{Outcome}
use Rattle.journal.specs.declared.Places.{Places}

-- The site record at a place, and the state record; the empty list where there is none.
abbrev pub site_part : Option Place → List ℕ → List ℕ
site_part (Some p) site = part_of n.record_size p.site site
site_part None site = []

abbrev pub state_part : Option Place → List ℕ → List ℕ
state_part (Some p) state = part_of n.record_size p.state state
state_part None state = []

-- Where what a reference names stands.
unfoldable pub seek_place : ℕ → ℕ → List ℕ → Option Place
seek_place k i site = if eqb i NONE then None else place_of k i site

-- Where the object stands that an instance names under an operation; an unknown one names none.
abbrev pub object_place : Option Operation → ℕ → List ℕ → Option Place
object_place (Some Factor) i site = place_of n.access_point i site
object_place (Some SetCount) i site = place_of n.access_zone i site
object_place (Some AdjustCount) i site = place_of n.access_zone i site
object_place (Some SetDisable) i site = place_of n.access_credential i site
object_place (Some SetService) i site = place_of n.access_point i site
object_place None i site = None

-- Where a write is made: at its place in the state, where the instance is not NONE and the place is among those of n records.
abbrev pub place_below : ℕ → Option Place → Option ℕ
place_below n (Some p) = if ltb p.state n then Some p.state else None
place_below n None = None

unfoldable pub write_place : ℕ → Option Place → ℕ → Option ℕ
write_place i place n = if eqb i NONE then None else place_below n place

-- The state with the record at a place made `b`.
abbrev pub stored : Option ℕ → List ℕ → List ℕ → List ℕ
stored (Some j) b state = with_part n.record_size j b state
stored None b state = state

-- The state after a write, if there is one: i is the number of an instance, b the bytes of a state.
abbrev pub written : {I S : Type 0} → (I → ℕ) → (S → List ℕ) → Option (Write I S) → Option Place → List ℕ → List ℕ
written i b None place state = state
written i b (Some w) place state = stored (write_place (i w.instance) place (length state / n.record_size)) (b w.state) state

-- The state after an outcome whose records stand at those places.
unfoldable pub applied : Outcome → Places → List ℕ → List ℕ
applied o at state =
    written (λ (i : PointId). i.0) point_bytes o.point at.point
    (written (λ (i : CredentialId). i.0) credential_bytes o.credential at.credential
    (written (λ (i : ZoneId). i.0) zone_bytes o.zone_to at.zone_to
    (written (λ (i : ZoneId). i.0) zone_bytes o.zone_from at.zone_from state)))

-- A write has the place of the record that it names.
abbrev pub PlacedAt : {I S : Type 0} → ℕ → (I → ℕ) → List ℕ → Option (Write I S) → Option Place → Type 0
PlacedAt {I} {S} k i site w place = (v : Write I S) → w ≡ Some v → eqb (i v.instance) NONE ≡ false → place ≡ place_of k (i v.instance) site

-- The places are those of the records that the outcome names.
pub record Placed (site : List ℕ) (o : Outcome) (at : Places) : Type 0 where
  pub point : PlacedAt n.access_point (λ (i : PointId). i.0) site o.point at.point
  pub credential : PlacedAt n.access_credential (λ (i : CredentialId). i.0) site o.credential at.credential
  pub zone_to : PlacedAt n.access_zone (λ (i : ZoneId). i.0) site o.zone_to at.zone_to
  pub zone_from : PlacedAt n.access_zone (λ (i : ZoneId). i.0) site o.zone_from at.zone_from
