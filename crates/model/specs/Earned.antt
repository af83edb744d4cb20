-- A grant is earned (beyond the paper): the security officer's list of what held when event 1 was answered.
use Rattle.std.specs.Prelude.{ℕ, ◌≤◌, ◌<◌, ◌≡◌, List, Bool, true, false, ◌&&◌, ◌||◌, eqb, if◌then◌else◌}
use Rattle.octets.specs.Octets.{same}
use Rattle.model.specs.Words.{any}
use Rattle.model.specs.Numbers as n
use Rattle.model.specs.Site.{point_id, credential_id, instance, enabled, negative, factor_disable}
use Rattle.model.specs.State.{Panel, sites, find, below_most}
use Rattle.model.specs.Checks.{still_locked, waiting, overdue, identifying, confirming, inactive, of_rights, enabled_rule, location_fits, time_fits, passback_violated, at_lower_limit, at_upper_limit}
use Rattle.model.specs.Step.{factor_read, situation_of}
use Rattle.model.specs.declared.CredentialId.{CredentialId}
use Rattle.model.specs.declared.Situation.{Situation}
use Rattle.model.specs.declared.Entry.{Entry}

-- A rule of the site (its records are ss) that lets the credential through: enabled, positive, of its rights, and it fits in place and time.
pub record FittingRule (v : Situation) (ss : List (List ℕ)) (e : Entry) : Type 0 where
  pub rule : List ℕ
  pub in_site : any (same rule) ss ≡ true
  pub has_rights : of_rights v.credential.first_rights rule || of_rights v.credential.second_rights rule ≡ true
  pub is_enabled : enabled rule ≡ true
  pub is_positive : negative rule ≡ false
  pub place_fits : location_fits (point_id e.instance) v.point.zone_to rule ≡ true
  pub is_in_time : time_fits e.time rule ≡ true

-- An enabled negative rule of its rights fits in place and time.
unfoldable pub forbidden : Situation → List (List ℕ) → Entry → Bool
forbidden v ss e =
    any
    (λ s. enabled_rule v.credential.first_rights v.credential.second_rights s
    && (negative s && location_fits (point_id e.instance) v.point.zone_to s && time_fits e.time s))
    ss

-- Asked of every credential but a master-exempt one.
pub record Authorized (v : Situation) (ss : List (List ℕ)) (e : Entry) : Type 0 where
  -- The point does not deny all, and the credential's authority reaches the threat level.
  pub not_deny_all : eqb v.point.mode n.mode_deny_all ≡ false
  pub authority : v.point.threat_level ≤ v.credential.threat_authority
  -- In AUTHORIZE there is a positive rule that fits, and no negative one does.
  pub fitting_rule : v.point.mode ≡ n.mode_authorize → FittingRule v ss e
  pub not_forbidden : v.point.mode ≡ n.mode_authorize → forbidden v ss e ≡ false
  -- No hard passback holds, and, unless exempt, the limits leave room.
  pub no_hard_passback : passback_violated v e && eqb v.zone_to.passback n.passback_hard ≡ false
  pub above_lower_limit : at_lower_limit v ≡ false
  pub below_upper_limit : at_upper_limit v ≡ false

-- The situation v that the entry e found, the records ss of the site, the factor record f that was found, and the credential c that the answer
-- names: every check of the order that applies held.
pub record EarnedAt (v : Situation) (ss : List (List ℕ)) (f : List ℕ) (e : Entry) (c : CredentialId) : Type 0 where
  -- The point is in service and not locked, or its lock has just been relinquished.
  pub in_service : v.point.out_of_service ≡ false
  pub not_locked : still_locked v e ≡ false
  -- The reader read no error. A factor of the named credential matched, it is in the site, and it is not disabled.
  pub no_error : eqb e.argument n.format_error ≡ false
  pub in_site : any (same f) ss ≡ true
  pub matched : (if waiting v then confirming c e.argument e.value f else identifying e.argument e.value f) ≡ true
  pub of_credential : credential_id (instance f) ≡ c
  pub factor_enabled : factor_disable f ≡ 0
  -- Where two factors are wanted it is the confirming one of the credential waited for, in time.
  pub confirmed : v.point.factors_wanted ≡ n.two_factors → v.point_state.waiting_credential ≡ c
  pub in_time : overdue v e ≡ false
  -- The credential is active, unexpired, not disabled, has days and uses left and is not absent too long.
  pub active : v.credential.activation ≤ e.time
  pub unexpired : e.time ≤ v.credential.expiry
  pub credential_enabled : v.credential_state.disable ≡ 0
  pub days_left : 0 < v.credential_state.days
  pub uses_left : 0 < v.credential_state.uses
  -- Document 02, job 4: its wrong tries are below its most, where one is set.
  pub tries_left : below_most v.credential_state.wrong_tries v.credential.most_wrong_tries ≡ true
  pub not_absent : inactive v.credential_state.last_use v.credential.absentee_days e.time ≡ false
  -- Unless it is master-exempt, it is authorized.
  pub authorized : v.credential.master ≡ false → Authorized v ss e
  -- A passage that is counted has a number to be counted with: Zone_To's count is not the largest.
  pub countable : v.point.count_adjust && v.zone_to.counting && eqb v.count_to n.largest_count ≡ false

-- The same of an entry at a panel.
unfoldable pub Earned : Panel → Entry → CredentialId → Type 0
Earned ps e c =
    EarnedAt (situation_of ps e (find n.access_point e.instance ps)) (sites ps) (factor_read ps e (find n.access_point e.instance ps)) e c
