-- What an entry reads of a panel: two panels that agree on it give the entry the same outcome.
use Rattle.std.specs.Prelude.{Option, Some, None}
use Prim.Native.Nat.{ℕ}
use mathlib.Core.Path.{◌≡◌, refl}
use mathlib.Core.Bool.{true}
use Rattle.model.specs.Numbers as n
use Rattle.model.specs.State.{Pair, Panel, sites, find, seek}
use Rattle.model.specs.Entry.{operation_of, object_kind, in_form}
use Rattle.model.specs.Checks.{factor_for, verdict}
use Rattle.model.specs.Step.{factor_read, number_read, zone_to, zone_from, credential_at, situation_of, rules_at, factor_outcome, outcome_as, entry_outcome}
use Rattle.model.proofs.Flat.{kept_number}
use Rattle.model.specs.declared.ZoneId.{ZoneId}
use Rattle.model.specs.declared.PointId.{PointId}
use Rattle.model.specs.declared.CredentialId.{CredentialId}
use Rattle.model.specs.declared.RightsId.{RightsId}
use Rattle.model.specs.declared.Entry.{Entry}
use Rattle.model.specs.declared.Operation.{Operation}
use Rattle.model.specs.declared.Operation.TheVariants.{Factor, SetCount, AdjustCount, SetDisable, SetService}

-- They find the same objects with the same state, the same factors, and rules that say the same.
pub record Agree (ps qs : Panel) : Type 0 where
  pub objects : (k i : ℕ) → kept_number k ≡ true → find k i ps ≡ find k i qs
  pub factors : (c : CredentialId) (e : Entry) → factor_for c e (sites ps) ≡ factor_for c e (sites qs)
  pub rules : (first second : RightsId) (point : PointId) (to : ZoneId) (time : ℕ) →
      verdict first second point to time (sites ps) ≡ verdict first second point to time (sites qs)

module _ (ps qs : Panel) (a : Agree ps qs) where
  seek_agree : (k i : ℕ) → kept_number k ≡ true → seek k i ps ≡ seek k i qs
  unfolding seek
  seek_agree k i h = rw (a.objects k i h)

  module _ (e : Entry) (x : Pair) where
    to_agree : zone_to ps x ≡ zone_to qs x
    unfolding zone_to
    to_agree = seek_agree n.access_zone _ refl

    from_agree : zone_from ps x ≡ zone_from qs x
    unfolding zone_from
    from_agree = seek_agree n.access_zone _ refl

    factor_agree : factor_read ps e x ≡ factor_read qs e x
    unfolding factor_read
    factor_agree = a.factors _ e

    number_agree : number_read ps e x ≡ number_read qs e x
    unfolding number_read
    number_agree = rw factor_agree

    credential_agree : credential_at ps e x ≡ credential_at qs e x
    unfolding credential_at
    credential_agree = rw number_agree (seek_agree n.access_credential _ refl)

    situation_agree : situation_of ps e x ≡ situation_of qs e x
    unfolding situation_of
    situation_agree = rw (to_agree, from_agree, factor_agree, number_agree, credential_agree)

    rules_agree : rules_at ps e x ≡ rules_at qs e x
    unfolding rules_at
    rules_agree = rw situation_agree (a.rules _ _ _ _ _)

    read_agree : factor_outcome ps e x ≡ factor_outcome qs e x
    unfolding factor_outcome
    read_agree = rw (to_agree, situation_agree, rules_agree)

  as_agree : (o : Option Operation) (e : Entry) →
      outcome_as o ps e (find (object_kind o) e.instance ps) ≡ outcome_as o qs e (find (object_kind o) e.instance qs)
  unfolding outcome_as in_form
  as_agree (Some Factor) e = rw (a.objects n.access_point e.instance refl, read_agree e (find n.access_point e.instance qs))
  as_agree (Some SetCount) e = rw (a.objects n.access_zone e.instance refl)
  as_agree (Some AdjustCount) e = rw (a.objects n.access_zone e.instance refl)
  as_agree (Some SetDisable) e = rw (a.objects n.access_credential e.instance refl)
  as_agree (Some SetService) e = rw (a.objects n.access_point e.instance refl, to_agree e (find n.access_point e.instance qs))
  as_agree None e = refl

  pub outcome_agree : (e : Entry) → entry_outcome ps e ≡ entry_outcome qs e
  unfolding entry_outcome
  outcome_agree e = as_agree (operation_of e.operation) e
