-- What is decided of an entry on bytes is its outcome at the panel, and its places are those of the records that it names.
use Rattle.std.specs.Prelude.{if◌then◌else◌, Option, Some, None}
use Prim.Native.Nat.{ℕ}
use mathlib.Core.Path.{◌≡◌, refl, sym, ◌∙◌, ap}
use mathlib.Core.List.{List}
use mathlib.Core.Bool.{Bool, true, false, not}
use lib.Dec.{ltb}
use lib.ListN.{length}
use Rattle.model.specs.Words.{missing}
use Rattle.model.specs.Numbers as n
use Rattle.model.specs.Site.{point_of}
use Rattle.model.specs.State.{state_length, panel, state_of, find, count}
use Rattle.model.specs.Entry.{operation_of, object_kind, in_form}
use Rattle.model.specs.Step.{unchanged, refuse, zone_to, factor_outcome, count_outcome, adjusted, adjust_outcome, disable_outcome, service_outcome, worked_outcome, outcome_as, entry_outcome, apply}
use Rattle.model.proofs.Flat.{kept_number, state_of_panel}
use Rattle.model.proofs.Laws.{if_holds}
use Rattle.index.specs.declared.Place.{Place}
use Rattle.site.specs.Place.{place_of}
use Rattle.journal.specs.Places.{site_part, state_part, object_place, applied, Placed}
use Rattle.journal.specs.Gather.{to_at, count_to}
use Rattle.journal.specs.Decide.{read_outcome, object_places, at_object, served_at, read_at, worked_at, found_at, decided_as, decided_on}
use Rattle.journal.proofs.At.{there, find_at, seek_at, apply_at}
use Rattle.journal.proofs.Situations.{situation_at, rules_at_law, placed_none, placed_some, placed_factor}
use Rattle.journal.specs.declared.Places.{Places}
use Rattle.journal.specs.declared.Decided.{Decided}
use Rattle.model.specs.declared.ZoneId.{ZoneId}
use Rattle.model.specs.declared.PointId.{PointId}
use Rattle.model.specs.declared.CredentialId.{CredentialId}
use Rattle.model.specs.declared.Answer.{Answer}
use Rattle.model.specs.declared.Entry.{Entry}
use Rattle.model.specs.declared.Operation.{Operation}
use Rattle.model.specs.declared.Operation.TheVariants.{Factor, SetCount, AdjustCount, SetDisable, SetService}

-- ── the places of what is written

-- What writes nothing names nothing.
placed_unchanged : (site : List ℕ) (a : Answer) (at : Places) → Placed site (unchanged a) at
unfolding unchanged
placed_unchanged site a at =
    record {
      point = placed_none 2 (λ (i : PointId). i.0) site _;
      credential = placed_none 4 (λ (i : CredentialId). i.0) site _;
      zone_to = placed_none 1 (λ (i : ZoneId). i.0) site _;
      zone_from = placed_none 1 (λ (i : ZoneId). i.0) site _;
    }

placed_refused : (site : List ℕ) (refusal : ℕ) (at : Places) → Placed site (refuse refusal) at
unfolding refuse
placed_refused site refusal at = placed_unchanged site _ at

module _ (site state : List ℕ) (e : Entry) (place : Option Place) where
  placed_count : (counted : ℕ) → place ≡ place_of n.access_zone e.instance site → Placed site (count_outcome e counted) (object_places place)
  unfolding count_outcome
  placed_count counted p =
      record {
        point = placed_none 2 (λ (i : PointId). i.0) site _;
        credential = placed_none 4 (λ (i : CredentialId). i.0) site _;
        zone_to = placed_some 1 (λ (i : ZoneId). i.0) site _ _ (λ h. p);
        zone_from = placed_none 1 (λ (i : ZoneId). i.0) site _;
      }

  placed_worked : (o : Option Operation) → place ≡ place_of (object_kind o) e.instance site →
      Placed site (worked_at o place e site state).outcome (worked_at o place e site state).places
  unfolding read_at served_at read_outcome adjust_outcome disable_outcome service_outcome
  placed_worked (Some Factor) p =
      if_holds (λ (d : Decided). Placed site d.outcome d.places) (point_of (site_part place site)).out_of_service
      (at_object (unchanged _) None) (served_at place e site state) (placed_unchanged site _ _) (placed_factor site state place e _ p)
  placed_worked (Some SetCount) p = placed_count e.amount p
  placed_worked (Some AdjustCount) p =
      if_holds (λ u. Placed site u (object_places place)) (ltb n.largest_count (adjusted (count (state_part place state)) e.amount)) (refuse n.refused_count) _
      (placed_refused site _ _) (placed_count _ p)
  placed_worked (Some SetDisable) p =
      record {
        point = placed_none 2 (λ (i : PointId). i.0) site _;
        credential = placed_some 4 (λ (i : CredentialId). i.0) site _ _ (λ h. p);
        zone_to = placed_none 1 (λ (i : ZoneId). i.0) site _;
        zone_from = placed_none 1 (λ (i : ZoneId). i.0) site _;
      }
  placed_worked (Some SetService) p =
      record {
        point = placed_some 2 (λ (i : PointId). i.0) site _ _ (λ h. p);
        credential = placed_none 4 (λ (i : CredentialId). i.0) site _;
        zone_to = placed_none 1 (λ (i : ZoneId). i.0) site _;
        zone_from = placed_none 1 (λ (i : ZoneId). i.0) site _;
      }
  placed_worked None p = placed_refused site _ _

-- ── the object

-- The object of a known operation is looked up by its kind, which has state.
object_law : (o : Operation) (i : ℕ) (site : List ℕ) →
    (object_place (Some o) i site ≡ place_of (object_kind (Some o)) i site) × (kept_number (object_kind (Some o)) ≡ true)
object_law Factor i site = (refl, refl)
object_law SetCount i site = (refl, refl)
object_law AdjustCount i site = (refl, refl)
object_law SetDisable i site = (refl, refl)
object_law SetService i site = (refl, refl)

-- ── the outcome

outcome_if : (c : Bool) (d f : Decided) → (if c then d else f).outcome ≡ if c then d.outcome else f.outcome
outcome_if true d f = refl
outcome_if false d f = refl

module _ (site state : List ℕ) (same_length : length state ≡ state_length site) (e : Entry) where
  zone_count_law : (place : Option Place) → count (zone_to (panel site state) (site_part place site, state_part place state)).1 ≡ count_to place site state
  unfolding zone_to count_to to_at
  zone_count_law place = rw (seek_at site state same_length 1 (point_of (site_part place site)).zone_to.0 refl)

  worked_outcome_law : (o : Option Operation) (place : Option Place) →
      (worked_at o place e site state).outcome ≡ worked_outcome o (panel site state) e (site_part place site, state_part place state)
  unfolding read_at served_at read_outcome factor_outcome
  worked_outcome_law (Some Factor) place =
      rw (situation_at site state same_length place e, rules_at_law site state same_length place e, zone_count_law place)
      (outcome_if (point_of (site_part place site)).out_of_service (at_object (unchanged _) None) (served_at place e site state))
  worked_outcome_law (Some SetCount) place = refl
  worked_outcome_law (Some AdjustCount) place = refl
  worked_outcome_law (Some SetDisable) place = refl
  worked_outcome_law (Some SetService) place = rw (zone_count_law place)
  worked_outcome_law None place = refl

  -- At the object of a known operation.
  module _ (o : Operation) where
    abbrev k : ℕ
    k = object_kind (Some o)

    found_outcome : (place : Option Place) → place_of k e.instance site ≡ place →
        (found_at (Some o) place e site state).outcome
        ≡ (if missing (find k e.instance (panel site state)).0 then refuse n.refused_no_object
        else worked_outcome (Some o) (panel site state) e (find k e.instance (panel site state)))
    found_outcome (Some p) q =
        let s = (object_law o e.instance site).1 in
        rw (find_at site state same_length k e.instance s, q, there site state same_length k e.instance s p q) (worked_outcome_law (Some o) (Some p))
    found_outcome None q = rw (find_at site state same_length k e.instance (object_law o e.instance site).1, q)

    found_placed : (place : Option Place) → place_of k e.instance site ≡ place →
        Placed site (found_at (Some o) place e site state).outcome (found_at (Some o) place e site state).places
    found_placed (Some p) q = placed_worked site state e (Some p) (Some o) (sym q)
    found_placed None q = placed_refused site _ _

  -- Of any entry: one of an unknown operation has not the form.
  as_outcome : (o : Option Operation) → (decided_as o e site state).outcome
      ≡ outcome_as o (panel site state) e (find (object_kind o) e.instance (panel site state))
  unfolding decided_as outcome_as in_form
  as_outcome (Some o) = go (in_form (Some o) e)
    where
      go : (c : Bool) →
          (if not c then at_object (refuse n.refused_form) None else found_at (Some o) (object_place (Some o) e.instance site) e site state).outcome
          ≡ (if not c then refuse n.refused_form else
          if missing (find (k o) e.instance (panel site state)).0 then refuse n.refused_no_object
          else worked_outcome (Some o) (panel site state) e (find (k o) e.instance (panel site state)))
      go true = rw (object_law o e.instance site).0 (found_outcome o (place_of (k o) e.instance site) refl)
      go false = refl
  as_outcome None = refl

  as_placed : (o : Option Operation) → Placed site (decided_as o e site state).outcome (decided_as o e site state).places
  unfolding decided_as in_form
  as_placed (Some o) =
      if_holds (λ (d : Decided). Placed site d.outcome d.places) (not (in_form (Some o) e)) (at_object (refuse n.refused_form) None)
      (found_at (Some o) (object_place (Some o) e.instance site) e site state)
      (placed_refused site _ _)
      (rw (object_law o e.instance site).0 (found_placed o (place_of (k o) e.instance site) refl))
  as_placed None = placed_refused site _ _

  pub decided_outcome : (decided_on site state e).outcome ≡ entry_outcome (panel site state) e
  unfolding decided_on entry_outcome
  decided_outcome = as_outcome (operation_of e.operation)

  -- What is written of it leaves the state of the panel after the entry.
  pub stepped : applied (decided_on site state e).outcome (decided_on site state e).places state ≡ state_of (apply (entry_outcome (panel site state) e) (panel site state))
  unfolding decided_on
  stepped =
      let a = apply_at site state same_length (decided_on site state e).outcome (decided_on site state e).places (as_placed (operation_of e.operation)) in
      sym (state_of_panel site (applied (decided_on site state e).outcome (decided_on site state e).places state) a.1) ∙ ap state_of a.0
      ∙ ap (λ o. state_of (apply o (panel site state))) decided_outcome
