-- What is gathered at a point's place is the situation at the panel there, and the places are those of the records that its outcome names.
use Rattle.std.specs.Prelude.{if◌then◌else◌, Option, Some, None}
use Prim.Native.Nat.{ℕ}
use mathlib.Core.Path.{◌≡◌, refl}
use mathlib.Core.List.{List}
use mathlib.Core.Bool.{Bool, true, false, not, ◌&&◌, ◌||◌}
use lib.Dec.{eqb}
use lib.ListN.{length}
use Rattle.model.specs.Numbers as n
use Rattle.model.specs.Numbers.{NONE}
use Rattle.model.specs.Site.{credential_id, records}
use Rattle.model.specs.State.{state_length, panel}
use Rattle.model.specs.Checks.{waiting}
use Rattle.model.specs.Effects.{counts, named, outcome_with, outcome_of}
use Rattle.model.specs.Step.{factor_read, number_read, zone_to, zone_from, credential_at, situation_of, rules_at}
use Rattle.model.proofs.Flat.{sites_panel}
use Rattle.index.specs.declared.Place.{Place}
use Rattle.site.specs.Place.{place_of}
use Rattle.journal.specs.Places.{site_part, state_part, seek_place, PlacedAt, Placed}
use Rattle.journal.specs.Gather.{waiting_at, factor_at, number_at, to_at, from_at, held_at, gathered}
use Rattle.journal.specs.Decide.{rules_of}
use Rattle.journal.proofs.At.{seek_at}
use Rattle.model.specs.declared.CredentialId.{CredentialId}
use Rattle.model.specs.declared.Entry.{Entry}
use Rattle.model.specs.declared.Situation.{Situation}
use Rattle.model.specs.declared.ZoneId.{ZoneId}
use Rattle.model.specs.declared.PointId.{PointId}
use Rattle.model.specs.declared.Write.{Write}
use Rattle.model.specs.declared.CredentialState.{CredentialState}

module _ (site state : List ℕ) (same_length : length state ≡ state_length site) where
  -- The situation at the panel is what is gathered at the point's place.
  pub situation_at : (place : Option Place) (e : Entry) →
      situation_of (panel site state) e (site_part place site, state_part place state) ≡ (gathered place e site state).situation
  unfolding situation_of factor_read number_read zone_to zone_from credential_at gathered waiting_at factor_at number_at to_at from_at held_at
  situation_at place e =
      simp (sites_panel site state, seek_at site state same_length)

  -- The rules are asked of the site's records.
  pub rules_at_law : (place : Option Place) (e : Entry) →
      rules_at (panel site state) e (site_part place site, state_part place state)
      ≡ rules_of (gathered place e site state).situation e (records site)
  unfolding rules_at
  rules_at_law place e = rw (situation_at place e, sites_panel site state) (unfold gathered in refl)

-- What a reference names that is not NONE has the place of a record.
sought : (k i : ℕ) (site : List ℕ) → eqb i NONE ≡ false → seek_place k i site ≡ place_of k i site
unfolding seek_place
sought k i site h = rw h

-- The credential that is written is the one read.
named_read : (v : Situation) (x : ℕ) → eqb (named v x).0 NONE ≡ false → named v x ≡ v.number
unfolding named
named_read v x h = go (not (waiting v) && (eqb x 161 || eqb x 148)) h
  where
    go : (c : Bool) → eqb (if c then credential_id NONE else v.number).0 NONE ≡ false → (if c then credential_id NONE else v.number) ≡ v.number
    go true h = cc
    go false h = refl

-- ── what an outcome writes stands at its place

some_same : {A : Type 0} {x y : A} → Some x ≡ Some y → x ≡ y
some_same h = cc

module _ {I S : Type 0} (k : ℕ) (i : I → ℕ) (site : List ℕ) where
  pub placed_none : (p : Option Place) → PlacedAt {I = I} {S = S} k i site None p
  placed_none p v q h = cc

  pub placed_some : (w : Write I S) (p : Option Place) → (eqb (i w.instance) NONE ≡ false → p ≡ place_of k (i w.instance) site) →
      PlacedAt k i site (Some w) p
  placed_some w p h v q = rw (some_same q) at h

  pub placed_if : (c : Bool) (w : Write I S) (p : Option Place) → (eqb (i w.instance) NONE ≡ false → p ≡ place_of k (i w.instance) site) →
      PlacedAt k i site (if c then Some w else None) p
  placed_if true w p h = placed_some w p h
  placed_if false w p h = placed_none p

pub placed_factor : (site state : List ℕ) (place : Option Place) (e : Entry) (x : ℕ) → place ≡ place_of n.access_point e.instance site →
    Placed site (outcome_of (gathered place e site state).situation e x) (gathered place e site state).places
unfolding outcome_of outcome_with gathered to_at from_at held_at
placed_factor site state place e x p =
    record {
      point = placed_some 2 (λ (i : PointId). i.0) site _ place (λ h. p);
      credential =
          unwritten (eqb x n.no_event) _
          (λ h. held (named_read (gathered place e site state).situation x h) h);
      zone_to = placed_if 1 (λ (i : ZoneId). i.0) site (counts v x v.zone_to.counting) _ _ (λ h. sought 1 _ site h);
      zone_from = placed_if 1 (λ (i : ZoneId). i.0) site (counts v x v.zone_from.counting) _ _ (λ h. sought 1 _ site h);
    }
  where
    v : Situation
    v = (gathered place e site state).situation

    held : {c : CredentialId} → c ≡ number_at place e site state → eqb c.0 NONE ≡ false →
        seek_place 4 (number_at place e site state).0 site ≡ place_of 4 c.0 site
    held q h = rw q (sought 4 (number_at place e site state).0 site (rw q at h))

    unwritten : (c : Bool) (w : Write CredentialId CredentialState) →
        (eqb w.instance.0 NONE ≡ false → held_at place e site state ≡ place_of 4 w.instance.0 site) →
        PlacedAt 4 (λ (i : CredentialId). i.0) site (if c then None else Some w) (held_at place e site state)
    unwritten true w h = placed_none 4 (λ (i : CredentialId). i.0) site _
    unwritten false w h = placed_some 4 (λ (i : CredentialId). i.0) site w _ h
