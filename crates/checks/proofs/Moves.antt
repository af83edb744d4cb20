-- The two moves are the order of checks, and where the rules are not asked the event does not depend on what they say.
use Rattle.std.specs.Prelude.{if◌then◌else◌, Option, Some, None}
use Rattle.std.specs.Option.{unwrap_or, option_or}
use Prim.Native.Nat.{ℕ}
use mathlib.Core.Path.{◌≡◌, refl, ap}
use mathlib.Core.Bool.{Bool, true, false, not, ◌&&◌}
use lib.Dec.{ltb, eqb}
use Rattle.model.specs.Numbers as n
use Rattle.model.specs.Checks.{into_zone, passback_violated, at_lower_limit, at_upper_limit, authentication_of, authentication, validity_of, validity, authorization_of, authorization, passage, permission, entitlement, event_of}
use Rattle.model.specs.declared.Situation.{Situation}
use Rattle.model.specs.declared.Verdict.{Verdict}
use Rattle.model.specs.declared.Entry.{Entry}
use Rattle.checks.specs.Moves.{before_permission, asks_rules, event_after}

or_assoc : (a b c : Option ℕ) → option_or (option_or a b) c ≡ option_or a (option_or b c)
or_assoc None b c = refl
or_assoc (Some x) b c = refl

-- Steps 1 to 5, then 6 to 12: the event of a factor read.
pub event_moves : (v : Situation) (rules : Verdict) (e : Entry) → event_after v rules e (before_permission v e) ≡ event_of v rules e
unfolding before_permission event_after entitlement event_of
event_moves v rules e =
    ap (λ o. unwrap_or o n.granted) (or_assoc (authentication (authentication_of v e)) (validity (validity_of v e)) (permission v rules e))

-- ── rules that are not asked

-- What steps 6 to 11 come to: AUTHORIZE, master and threat, the tests that keep the rules from being asked, are arguments.
abbrev permission_by : Situation → Entry → Verdict → Bool → Bool → Bool → Option ℕ
permission_by v e rules authorize master threat =
    if master then passage v else
    option_or
    (authorization
    (record {
      deny_all = eqb v.point.mode n.mode_deny_all;
      threat = threat;
      negative = authorize && rules.negative_fits;
      no_positive = authorize && not rules.positive_fits;
      positive_located = rules.positive_located;
      into_zone = into_zone v;
      hard_passback = passback_violated v e && eqb v.zone_to.passback n.passback_hard;
      at_lower_limit = at_lower_limit v;
      at_upper_limit = at_upper_limit v;
    }))
    (passage v)

module _ (v : Situation) (e : Entry) (a b : Verdict) where
  -- Steps 6 to 11, where no step before gave an event.
  permission_unasked : asks_rules v None ≡ false → permission v a e ≡ permission v b e
  unfolding asks_rules permission authorization_of
  permission_unasked h =
      go
      (eqb v.point.mode n.mode_authorize) v.credential.master
      (ltb v.credential.threat_authority v.point.threat_level) h
    where
      go : (m w t : Bool) → m && not w && not t && true ≡ false → permission_by v e a m w t ≡ permission_by v e b m w t
      go m true t h = refl
      go false false t h = refl
      go true false true h = refl
      go true false false h = cc

  -- The same after the steps before.
  unasked : (before : Option ℕ) → asks_rules v before ≡ false → event_after v a e before ≡ event_after v b e before
  unfolding event_after
  unasked None h = ap (λ o. unwrap_or o n.granted) (permission_unasked h)
  unasked (Some x) h = refl

-- The event of a factor read.
pub rules_unasked : (v : Situation) (e : Entry) (a b : Verdict) → asks_rules v (before_permission v e) ≡ false → event_of v a e ≡ event_of v b e
rules_unasked v e a b h = rw (← event_moves v a e, ← event_moves v b e) (unasked v e a b (before_permission v e) h)
