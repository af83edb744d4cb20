-- Event 1 leaves room in Zone_To's count: it comes from step 12 alone, after step 11 has given 164 where a counting zone is full.
use Rattle.std.specs.Prelude.{if◌then◌else◌, Option, Some, None}
use Rattle.std.specs.Option.{unwrap_or, option_or}
use Prim.Native.Nat.{ℕ}
use mathlib.Core.Path.{◌≡◌, refl}
use mathlib.Core.Bool.{Bool, true, false, ◌&&◌}
use lib.Dec.{eqb}
use borrow.Author.Tests.{eqb-true, eqb-false, eq-eqb}
use Rattle.model.specs.Numbers as n
use Rattle.model.specs.Checks.{disabled_factor, disabled_event, authentication_of, authentication, validity_of, validity, authorization_of, authorization, passage, permission, entitlement, event_of}
use Rattle.model.specs.Effects.{counts}
use Rattle.model.proofs.Laws.{if_holds, and_left, and_right}
use Rattle.model.specs.declared.Situation.{Situation}
use Rattle.model.specs.declared.Verdict.{Verdict}
use Rattle.model.specs.declared.Entry.{Entry}
use Rattle.model.specs.declared.Authentication.{Authentication}
use Rattle.model.specs.declared.Validity.{Validity}
use Rattle.model.specs.declared.Authorization.{Authorization}
use Rattle.conditions.specs.Room.{Room}

-- ── no step gives event 1

abbrev Other : ℕ → Type 0
Other x = eqb x n.granted ≡ false

-- Steps that give no event, or another than 1.
abbrev Denies : Option ℕ → Type 0
Denies None = Unit
Denies (Some x) = Other x

step : (c : Bool) (x : ℕ) (o : Option ℕ) → Other x → Denies o → Denies (if c then Some x else o)
step true x o d s = d
step false x o d s = s

or_denies : (a b : Option ℕ) → Denies a → Denies b → Denies (option_or a b)
or_denies None b d s = s
or_denies (Some x) b d s = d

disabled_factor_denies : (d : ℕ) → Other (disabled_factor d)
unfolding disabled_factor
disabled_factor_denies d =
    if_holds Other (eqb d n.factor_disabled) _ _ refl
    (if_holds Other (eqb d n.factor_lost) _ _ refl
    (if_holds Other (eqb d n.factor_stolen) _ _ refl (if_holds Other (eqb d n.factor_damaged) _ _ refl refl)))

disabled_denies : (d : Option ℕ) → Denies (disabled_event d)
disabled_denies None = tt
disabled_denies (Some d) = if_holds Denies (eqb d 0) None (Some (disabled_factor d)) tt (disabled_factor_denies d)

authentication_denies : (k : Authentication) → Denies k.disabled → Denies (authentication k)
authentication_denies k d =
    step k.locked _ _ refl
    (step k.overdue _ _ refl
    (step k.error _ _ refl
    (step k.unmatched _ _ (if_holds Other k.waiting _ _ refl refl) (or_denies k.disabled _ d (step k.first_of_two _ None refl tt)))))

validity_denies : (k : Validity) → Denies (validity k)
validity_denies k =
    step k.not_yet_active _ _ refl
    (step k.expired _ _ refl
    (step k.disabled _ _ refl
    (step k.manual_disable _ _ refl
    (step k.lockout _ _ refl
    (step k.no_days _ _ refl
    (step k.no_uses _ _ refl
    (step k.inactive _ None refl tt)))))))

authorization_denies : (k : Authorization) → Denies (authorization k)
authorization_denies k =
    step k.deny_all _ _ refl
    (step k.threat _ _ refl
    (step k.negative _ _ refl
    (step k.no_positive _ _ (if_holds Other k.positive_located _ _ refl (if_holds Other k.into_zone _ _ refl refl))
    (step k.hard_passback _ _ refl
    (step k.at_lower_limit _ _ refl
    (step k.at_upper_limit _ None refl tt))))))

-- ── what is left of steps that come to event 1

none_given : (o : Option ℕ) (next : ℕ) → Denies o → unwrap_or o next ≡ n.granted → o ≡ None
none_given None next d h = refl
none_given (Some x) next d h = absurd (eqb-false x n.granted d h)

rest_none : (a b : Option ℕ) → option_or a b ≡ None → b ≡ None
rest_none None b h = h
rest_none (Some x) b h = cc

module _ (v : Situation) (rules : Verdict) (e : Entry) where
  passage_denies : Denies (passage v)
  unfolding passage
  passage_denies = step (v.point.count_adjust && v.zone_to.counting && eqb v.count_to n.largest_count) _ None refl tt

  permission_denies : Denies (permission v rules e)
  unfolding permission
  permission_denies =
      if_holds Denies v.credential.master (passage v) _ passage_denies (or_denies _ (passage v) (authorization_denies (authorization_of v rules e)) passage_denies)

  -- Event 1 comes through step 11.
  through_passage : permission v rules e ≡ None → passage v ≡ None
  unfolding permission
  through_passage = go v.credential.master
    where
      go : (master : Bool) → (if master then passage v else option_or (authorization (authorization_of v rules e)) (passage v)) ≡ None → passage v ≡ None
      go true g = g
      go false g = rest_none _ (passage v) g

  -- Where no step gave an event, step 11 has room, whatever event follows.
  room : (o : Option ℕ) (next : ℕ) → Denies o → (o ≡ None → passage v ≡ None) → Room v (unwrap_or o next)
  unfolding counts passage
  room o next s through h q =
      let x = unwrap_or o next in
      let a = and_left (eqb x n.granted && v.point.count_adjust) v.zone_to.counting h in
      let b = and_right (eqb x n.granted && v.point.count_adjust) v.zone_to.counting h in
      let d = and_right (eqb x n.granted) v.point.count_adjust a in
      let g = eqb-true x n.granted (and_left (eqb x n.granted) v.point.count_adjust a) in
      let w : Some n.denied_other ≡ None = rw (d, b, eq-eqb v.count_to n.largest_count q) at (through (none_given o next s g)) in
      cc

  entitlement_denies : Denies (entitlement v rules e)
  unfolding entitlement
  entitlement_denies = or_denies _ (permission v rules e) (validity_denies (validity_of v e)) permission_denies

  through_entitlement : entitlement v rules e ≡ None → passage v ≡ None
  unfolding entitlement
  through_entitlement h = through_passage (rest_none _ (permission v rules e) h)

  pub entitlement_room : (next : ℕ) → Room v (unwrap_or (entitlement v rules e) next)
  entitlement_room next = room (entitlement v rules e) next entitlement_denies through_entitlement

  pub event_room : Room v (event_of v rules e)
  unfolding event_of authentication_of
  event_room =
      room _ n.granted (or_denies _ (entitlement v rules e) (authentication_denies (authentication_of v e) (disabled_denies v.factor_disable)) entitlement_denies)
      (λ h. through_entitlement (rest_none _ (entitlement v rules e) h))
