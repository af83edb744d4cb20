-- "Order of checks, operation 1": what a factor read at a point looks at, and the event it comes to.
use Rattle.std.specs.Prelude.{ℕ, ◌*◌, ◌-◌, ◌/◌, ◌%◌, List, Bool, not, ◌&&◌, ◌||◌, ltb, leb, eqb, if◌then◌else◌, Option, Some, None, is_none}
use Rattle.std.specs.Option.{unwrap_or, option_or}
use Rattle.octets.specs.Octets.{same}
use Rattle.model.specs.Words.{any, bit, missing}
use Rattle.model.specs.Numbers as n
use Rattle.model.specs.Numbers.{NONE, NEVER, UNLIMITED}
use Rattle.model.specs.Site.{credential_id, kind, instance, enabled, negative, always, everywhere, location_kind, weekdays, location, from_minute, to_minute, role, format, value, is_at, find_in}
use Rattle.model.specs.declared.ZoneId.{ZoneId}
use Rattle.model.specs.declared.PointId.{PointId}
use Rattle.model.specs.declared.CredentialId.{CredentialId}
use Rattle.model.specs.declared.RightsId.{RightsId}
use Rattle.model.specs.declared.Situation.{Situation}
use Rattle.model.specs.declared.Verdict.{Verdict}
use Rattle.model.specs.declared.Entry.{Entry}
use Rattle.model.specs.declared.Authentication.{Authentication}
use Rattle.model.specs.declared.Validity.{Validity}
use Rattle.model.specs.declared.Authorization.{Authorization}

-- "Elapsed is now less then, or 0 where now is earlier": the difference of natural numbers.
abbrev pub elapsed : ℕ → ℕ → ℕ
elapsed now since = now - since

-- ── step 1: "Locked, relinquish set, elapsed ≥ it: unlock, failures 0, mark 64. Still locked: 161."

-- "Locked, relinquish set, elapsed ≥ it".
unfoldable pub relinquished : Situation → Entry → Bool
relinquished v e =
    v.point_state.locked && not (eqb v.point.lockout_relinquish 0)
    && leb v.point.lockout_relinquish (elapsed e.time v.point_state.lock_time)

-- "Still locked".
unfoldable pub still_locked : Situation → Entry → Bool
still_locked v e = v.point_state.locked && not (relinquished v e)

-- ── step 2: "Waiting, and elapsed > a set timeout: 131. Format 1: 148." "Waiting is as the entry found it."

-- "Waiting".
unfoldable pub waiting : Situation → Bool
waiting v = not (eqb v.point_state.waiting_credential.0 NONE)

-- "Waiting, and elapsed > a set timeout".
unfoldable pub overdue : Situation → Entry → Bool
overdue v e =
    waiting v && not (eqb v.point.factor_timeout 0)
    && ltb v.point.factor_timeout (elapsed e.time v.point_state.waiting_since)

-- ── step 3: "Waiting: end it; no confirming factor of that credential: 132. Not waiting: no identifying factor: 129."

-- A factor record has a format and a value; it is an identifying factor of them; it is a confirming factor of them and of a credential.
unfoldable pub presents : ℕ → List ℕ → List ℕ → Bool
presents form read s = eqb (format s) form && same (value s) read

-- "identifying factor".
unfoldable pub identifying : ℕ → List ℕ → List ℕ → Bool
identifying form read s = eqb (kind s) n.authentication_factor && (eqb (role s) n.role_identifying && presents form read s)

-- "confirming factor of that credential".
unfoldable pub confirming : CredentialId → ℕ → List ℕ → List ℕ → Bool
confirming c form read s = is_at n.authentication_factor c.0 s && (eqb (role s) n.role_confirming && presents form read s)

-- The factor that a point looks for that waits for the credential `c`, or for nobody.
unfoldable pub factor_for : CredentialId → Entry → List (List ℕ) → List ℕ
factor_for c e ss =
    if eqb c.0 NONE then find_in (identifying e.argument e.value) ss
    else find_in (confirming c e.argument e.value) ss

-- "the credential waited for, else the one that step 3 matched, else NONE"
unfoldable pub credential_read : CredentialId → List ℕ → CredentialId
credential_read c factor =
    if not (eqb c.0 NONE) then c else credential_id (if missing factor then NONE else instance factor)

-- "Disabled factor: 1→147, 2→143, 3→144, 4→145, 5→146."
unfoldable pub disabled_factor : ℕ → ℕ
disabled_factor d =
    if eqb d n.factor_disabled then n.denied_authentication_factor_disabled else
    if eqb d n.factor_lost then n.denied_authentication_factor_lost else
    if eqb d n.factor_stolen then n.denied_authentication_factor_stolen else
    if eqb d n.factor_damaged then n.denied_authentication_factor_damaged else
    n.denied_authentication_factor_destroyed

-- The event of the factor that was read, where one matched and is disabled.
abbrev pub disabled_event : Option ℕ → Option ℕ
disabled_event None = None
disabled_event (Some d) = if eqb d 0 then None else Some (disabled_factor d)

-- ── step 4: "Not waiting and two wanted: wait from now, event 0."

-- "Not waiting and two wanted".
unfoldable pub first_of_two : Situation → Bool
first_of_two v = not (waiting v) && eqb v.point.factors_wanted n.two_factors

-- What steps 1 to 4 find.
unfoldable pub authentication_of : Situation → Entry → Authentication
authentication_of v e =
    record {
      locked = still_locked v e;
      overdue = overdue v e;
      error = eqb e.argument n.format_error;
      unmatched = is_none v.factor_disable;
      waiting = waiting v;
      disabled = disabled_event v.factor_disable;
      first_of_two = first_of_two v;
    }

-- The order of steps 1 to 4: the event of the first that gives one.
abbrev pub authentication : Authentication → Option ℕ
authentication k =
    if k.locked then Some n.denied_lockout else
    if k.overdue then Some n.denied_authentication_factor_timeout else
    if k.error then Some n.denied_authentication_factor_error else
    if k.unmatched
    then Some (if k.waiting then n.denied_incorrect_authentication_factor else n.denied_unknown_credential) else
    option_or k.disabled (if k.first_of_two then Some n.no_event else None)

-- ── step 5: "Time < activation 151; > expiry 152; disable 1→158, 2→153, 3→154; days 0: 155; uses 0: 156; last use known and
-- elapsed > absentee days × 86,400: 157."

-- "last use known and elapsed > absentee days × 86,400".
unfoldable pub inactive : ℕ → ℕ → ℕ → Bool
inactive last days time =
    not (eqb last NEVER) && not (eqb days UNLIMITED) && ltb (days * n.seconds_of_day) (elapsed time last)

-- What step 5 finds.
unfoldable pub validity_of : Situation → Entry → Validity
validity_of v e =
    record {
      not_yet_active = ltb e.time v.credential.activation;
      expired = ltb v.credential.expiry e.time;
      disabled = eqb v.credential_state.disable n.disable_disabled;
      manual_disable = eqb v.credential_state.disable n.disable_manual;
      lockout = eqb v.credential_state.disable n.disable_lockout;
      no_days = eqb v.credential_state.days 0;
      no_uses = eqb v.credential_state.uses 0;
      inactive = inactive v.credential_state.last_use v.credential.absentee_days e.time;
    }

-- The order of step 5.
abbrev pub validity : Validity → Option ℕ
validity k =
    if k.not_yet_active then Some n.denied_credential_not_yet_active else
    if k.expired then Some n.denied_credential_expired else
    if k.disabled then Some n.denied_credential_disabled else
    if k.manual_disable then Some n.denied_credential_manual_disable else
    if k.lockout then Some n.denied_credential_lockout else
    if k.no_days then Some n.denied_credential_max_days else
    if k.no_uses then Some n.denied_credential_max_uses else
    if k.inactive then Some n.denied_credential_inactivity else
    None

-- ── step 9: "AUTHORIZE only, over enabled rules of both rights."

-- A rule of a rights number; NONE has no rules.
abbrev pub of_rights : RightsId → List ℕ → Bool
of_rights rights s = not (eqb rights.0 NONE) && is_at n.access_rule rights.0 s

-- "enabled rules of both rights".
unfoldable pub enabled_rule : RightsId → RightsId → List ℕ → Bool
enabled_rule first second s = (of_rights first s || of_rights second s) && enabled s

-- "A location fits if everywhere, this point, or its Zone_To."
unfoldable pub location_fits : PointId → ZoneId → List ℕ → Bool
location_fits point to s =
    everywhere s || eqb (location_kind s) n.access_point && eqb (location s) point.0
    || eqb (location_kind s) n.access_zone && eqb (location s) to.0 && not (eqb to.0 NONE)

-- "Time fits if always, or the weekday is set and from ≤ minute of day < to." Document 02, job 3: "From > to shall now mean a window that runs
-- past midnight and belongs to the day on which it began".
unfoldable pub weekday : ℕ → ℕ
weekday time = time / n.seconds_of_day % n.days_of_week

-- "the weekday before": "a window that starts on Sunday ends on Monday".
unfoldable pub weekday_before : ℕ → ℕ
weekday_before day = if eqb day n.monday then n.sunday else day - 1

-- "minute of day".
unfoldable pub minute_of_day : ℕ → ℕ
minute_of_day time = time / n.seconds_of_minute % n.minutes_of_day

-- "From > to".
unfoldable pub crosses_midnight : List ℕ → Bool
crosses_midnight s = ltb (to_minute s) (from_minute s)

-- "the weekday is set and from ≤ minute of day < to"; "From = to remains empty".
unfoldable pub fits_within_day : ℕ → List ℕ → Bool
fits_within_day time s =
    bit (weekdays s) (weekday time) && leb (from_minute s) (minute_of_day time) && ltb (minute_of_day time) (to_minute s)

-- "it fits if the weekday is set and minute ≥ from, or the weekday before is set and minute < to".
unfoldable pub fits_past_midnight : ℕ → List ℕ → Bool
fits_past_midnight time s =
    bit (weekdays s) (weekday time) && leb (from_minute s) (minute_of_day time)
    || bit (weekdays s) (weekday_before (weekday time)) && ltb (minute_of_day time) (to_minute s)

-- "Time fits if always", or in its window.
unfoldable pub time_fits : ℕ → List ℕ → Bool
time_fits time s = always s || (if crosses_midnight s then fits_past_midnight time s else fits_within_day time s)

-- A fitting negative rule; a fitting positive rule; a positive rule that fits in location.
unfoldable pub verdict : RightsId → RightsId → PointId → ZoneId → ℕ → List (List ℕ) → Verdict
verdict first second point to time ss =
    record {
      negative_fits = any (λ s. enabled_rule first second s && (negative s && location_fits point to s && time_fits time s)) ss;
      positive_fits = any (λ s. enabled_rule first second s && (not (negative s) && location_fits point to s && time_fits time s)) ss;
      positive_located = any (λ s. enabled_rule first second s && (not (negative s) && location_fits point to s)) ss;
    }

-- ── step 10: passback and limits

-- "Zone_To is a zone".
abbrev pub into_zone : Situation → Bool
into_zone v = not (eqb v.point.zone_to.0 NONE)

-- "Unless exempt: Zone_To is a zone and the credential's zone, and its timeout is unset or elapsed since entered < timeout × 60."
unfoldable pub passback_violated : Situation → Entry → Bool
passback_violated v e =
    not v.credential.passback_exempt && into_zone v && eqb v.credential_state.zone.0 v.point.zone_to.0
    && (eqb v.zone_to.passback_timeout 0
    || ltb (elapsed e.time v.credential_state.entered) (v.zone_to.passback_timeout * n.seconds_of_minute))

-- "Unless exempt: lower enforced, Zone_From counting, lower set, count ≤ lower."
unfoldable pub at_lower_limit : Situation → Bool
at_lower_limit v =
    not v.credential.occupancy_exempt && v.point.lower_enforced && v.zone_from.counting
    && not (eqb v.zone_from.lower_limit 0) && leb v.count_from v.zone_from.lower_limit

-- "then upper likewise for Zone_To, count ≥ upper"
unfoldable pub at_upper_limit : Situation → Bool
at_upper_limit v =
    not v.credential.occupancy_exempt && v.point.upper_enforced && v.zone_to.counting
    && not (eqb v.zone_to.upper_limit 0) && leb v.zone_to.upper_limit v.count_to

-- What steps 7 to 10 find, and the order: "7. DENY_ALL: 128. 8. Authority < threat: 137. 9. .. Fitting negative: 135. Else no fitting
-- positive: 136 if a positive fits in location, else 133 with a Zone_To, 134 without. 10. .. hard 138 .. 141; then .. 142."
unfoldable pub authorization_of : Situation → Verdict → Entry → Authorization
authorization_of v rules e =
    record {
      deny_all = eqb v.point.mode n.mode_deny_all;
      threat = ltb v.credential.threat_authority v.point.threat_level;
      negative = eqb v.point.mode n.mode_authorize && rules.negative_fits;
      no_positive = eqb v.point.mode n.mode_authorize && not rules.positive_fits;
      positive_located = rules.positive_located;
      into_zone = into_zone v;
      hard_passback = passback_violated v e && eqb v.zone_to.passback n.passback_hard;
      at_lower_limit = at_lower_limit v;
      at_upper_limit = at_upper_limit v;
    }

-- The order of steps 7 to 10.
abbrev pub authorization : Authorization → Option ℕ
authorization k =
    if k.deny_all then Some n.denied_deny_all else
    if k.threat then Some n.denied_threat_level else
    if k.negative then Some n.denied_no_access_rights else
    if k.no_positive then
    Some (if k.positive_located then n.denied_out_of_time_range else
    if k.into_zone then n.denied_zone_no_access_rights else n.denied_point_no_access_rights) else
    if k.hard_passback then Some n.denied_passback else
    if k.at_lower_limit then Some n.denied_lower_occupancy_limit else
    if k.at_upper_limit then Some n.denied_upper_occupancy_limit else
    None

-- ── steps 11 and 12: "Count adjust, Zone_To counting, count 4,294,967,295: 164." "12. Event 1."

-- Step 11.
unfoldable pub passage : Situation → Option ℕ
passage v =
    if v.point.count_adjust && v.zone_to.counting && eqb v.count_to n.largest_count then Some n.denied_other
    else None

-- Steps 6 to 11: "Master exemption skips to 11."
unfoldable pub permission : Situation → Verdict → Entry → Option ℕ
permission v rules e =
    if v.credential.master then passage v else option_or (authorization (authorization_of v rules e)) (passage v)

-- Steps 5 to 11, which ask nothing of the factor that was read.
unfoldable pub entitlement : Situation → Verdict → Entry → Option ℕ
entitlement v rules e = option_or (validity (validity_of v e)) (permission v rules e)

-- The event: "The first step that gives an event ends the checks." "12. Event 1."
unfoldable pub event_of : Situation → Verdict → Entry → ℕ
event_of v rules e = unwrap_or (option_or (authentication (authentication_of v e)) (entitlement v rules e)) n.granted
