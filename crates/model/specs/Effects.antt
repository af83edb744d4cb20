-- What follows from the event x of a factor read: grant, failures, last use, marks, and the answer.
use Rattle.std.specs.Prelude.{ℕ, ◌+◌, ◌-◌, ◌/◌, ◌%◌, Bool, not, ◌&&◌, ◌||◌, ltb, leb, eqb, if◌then◌else◌, Some, None}
use Rattle.model.specs.Numbers as n
use Rattle.model.specs.Numbers.{NONE, NEVER, UNLIMITED}
use Rattle.model.specs.Site.{zone_id, point_id, credential_id}
use Rattle.model.specs.Checks.{elapsed, relinquished, still_locked, waiting, passback_violated, into_zone}
use Rattle.model.specs.declared.ZoneId.{ZoneId}
use Rattle.model.specs.declared.CredentialId.{CredentialId}
use Rattle.model.specs.declared.Situation.{Situation}
use Rattle.model.specs.declared.Entry.{Entry}
use Rattle.model.specs.declared.Answer.{Answer}
use Rattle.model.specs.declared.Outcome.{Outcome}
use Rattle.model.specs.declared.PointState.{PointState}
use Rattle.model.specs.declared.CredentialState.{CredentialState}

-- "the tag gains 1 modulo 4,294,967,296"
unfoldable pub next_tag : ℕ → ℕ
next_tag tag = (tag + 1) % n.modulus

-- "The answer names the credential waited for, else the one that step 3 matched, else NONE": where nobody is waited for, 161 and 148
-- come before step 3.
unfoldable pub named : Situation → ℕ → CredentialId
named v x =
    if not (waiting v) && (eqb x n.denied_lockout || eqb x n.denied_authentication_factor_error) then credential_id NONE
    else v.number

-- ── "Failures are 129, 131, 132, 148, where a most is set". Document 02, job 4: "Failures 131 and 132 shall be counted for each credential, not on the
-- point; 129 and 148 stay on the point."

-- "129 and 148 stay on the point", "where a most is set".
unfoldable pub is_failure : Situation → ℕ → Bool
is_failure v x =
    not (eqb v.point.most_failures 0) && (eqb x n.denied_unknown_credential || eqb x n.denied_authentication_factor_error)

-- Failures so far: step 1 zeroes them where it relinquishes the lock.
unfoldable pub failures_before : Situation → Entry → ℕ
failures_before v e = if relinquished v e then 0 else v.point_state.failures

-- "the first since zero, or one with elapsed > a set window, makes 1 and sets first failure; others add 1"
unfoldable pub is_first_failure : Situation → Entry → Bool
is_first_failure v e =
    eqb (failures_before v e) 0
    || not (eqb v.point.failure_window 0)
    && ltb v.point.failure_window (elapsed e.time v.point_state.first_failure)

-- "makes 1 .. others add 1".
unfoldable pub failures_with : Situation → Entry → ℕ
failures_with v e = if is_first_failure v e then 1 else failures_before v e + 1

-- "At the most: lock from now, failures 0, mark 16."
unfoldable pub locks_out : Situation → Entry → ℕ → Bool
locks_out v e x = is_failure v x && leb v.point.most_failures (failures_with v e)

-- The point's state. A wait begins at event 0 (step 4); 161 leaves it; every other event comes after its end.
unfoldable pub point_after : Situation → Entry → ℕ → PointState
point_after v e x =
    record {
      tag = next_tag v.point_state.tag;
      failures =
          if eqb x n.granted || locks_out v e x then 0 else
          if is_failure v x then failures_with v e else failures_before v e;
      locked = locks_out v e x || still_locked v e;
      lock_time = if locks_out v e x then e.time else v.point_state.lock_time;
      first_failure =
          if is_failure v x && is_first_failure v e then e.time else v.point_state.first_failure;
      waiting_credential =
          if eqb x n.no_event then v.number else
          if eqb x n.denied_lockout then v.point_state.waiting_credential else credential_id NONE;
      waiting_since = if eqb x n.no_event then e.time else v.point_state.waiting_since;
    }

-- ── wrong tries (document 02, job 4)

-- "Failures 131 and 132 shall be counted for each credential", the one waited for. "Credential offset 22 (1 byte, 0 unset) is the most wrong tries".
unfoldable pub is_wrong_try : Situation → ℕ → Bool
is_wrong_try v x =
    not (eqb v.credential.most_wrong_tries 0)
    && (eqb x n.denied_authentication_factor_timeout || eqb x n.denied_incorrect_authentication_factor)

-- The wrong tries with this one: "without a window", each adds 1.
unfoldable pub wrong_tries_with : Situation → ℕ
wrong_tries_with v = v.credential_state.wrong_tries + 1

-- "Reaching the most".
unfoldable pub reaches_most : Situation → ℕ → Bool
reaches_most v x = is_wrong_try v x && leb v.credential.most_wrong_tries (wrong_tries_with v)

-- "Reaching the most .. zeroes the count .. a grant .. also zeroes it."
unfoldable pub wrong_tries_after : Situation → ℕ → ℕ
wrong_tries_after v x =
    if eqb x n.granted || reaches_most v x then 0 else
    if is_wrong_try v x then wrong_tries_with v else v.credential_state.wrong_tries

-- "Reaching the most sets the disable to LOCKOUT".
unfoldable pub disable_reached : Situation → ℕ → ℕ
disable_reached v x = if reaches_most v x then n.disable_lockout else v.credential_state.disable

-- ── "Grant"

-- "with count adjust, a counting Zone_To gains 1 and a counting Zone_From above 0 loses 1"
unfoldable pub counts : Situation → ℕ → Bool → Bool
counts v x counting = eqb x n.granted && v.point.count_adjust && counting

-- Zone_To's count: it "gains 1".
unfoldable pub count_after : Situation → ℕ → ℕ
count_after v x = if counts v x v.zone_to.counting then v.count_to + 1 else v.count_to

-- "The credential's zone becomes Zone_To, else NONE if there is a Zone_From, else stays"
unfoldable pub zone_after : Situation → ℕ → ZoneId
zone_after v x =
    if not (eqb x n.granted) then v.credential_state.zone else
    if into_zone v then v.point.zone_to else
    if not (eqb v.point.zone_from.0 NONE) then zone_id NONE else
    v.credential_state.zone

-- "Limited uses lose 1."
unfoldable pub uses_after : Situation → ℕ → ℕ
uses_after v x =
    if eqb x n.granted && not (eqb v.credential_state.uses UNLIMITED) then v.credential_state.uses - 1
    else v.credential_state.uses

-- "today's date (time divided by 86,400, rounded down)"
unfoldable pub date : ℕ → ℕ
date time = time / n.seconds_of_day

-- Document 02, job 5: "A grant takes one of limited days if the card has no earlier grant or today's date is later than the last grant's."
unfoldable pub loses_day : Situation → Entry → ℕ → Bool
loses_day v e x =
    eqb x n.granted && not (eqb v.credential_state.days UNLIMITED)
    && (eqb v.credential_state.last_grant NEVER || ltb (date v.credential_state.last_grant) (date e.time))

-- "takes one of limited days".
unfoldable pub days_after : Situation → Entry → ℕ → ℕ
days_after v e x = if loses_day v e x then v.credential_state.days - 1 else v.credential_state.days

-- "entered is now if there is a Zone_To." "It gets last use, event and point, unless the event is 0." Document 02, job 5: last grant is "set by each
-- grant".
unfoldable pub credential_after : Situation → Entry → ℕ → CredentialState
credential_after v e x =
    record {
      uses = uses_after v x;
      days = days_after v e x;
      last_use = e.time;
      zone = zone_after v x;
      entered = if eqb x n.granted && into_zone v then e.time else v.credential_state.entered;
      last_event = x;
      disable = disable_reached v x;
      wrong_tries = wrong_tries_after v x;
      last_point = point_id e.instance;
      last_grant = if eqb x n.granted then e.time else v.credential_state.last_grant;
    }

-- ── marks

-- A mark, where it is set.
abbrev pub mark : Bool → ℕ → ℕ
mark on m = if on then m else 0

-- "soft mark 4": where the checks of step 10 went past passback. Masters do not come there.
unfoldable pub soft_passback : Situation → Entry → ℕ → Bool
soft_passback v e x =
    not v.credential.master && passback_violated v e && eqb v.zone_to.passback n.passback_soft
    && (eqb x n.denied_lower_occupancy_limit || eqb x n.denied_upper_occupancy_limit || eqb x n.denied_other || eqb x n.granted)

-- Marks that ask nothing of the factor that was read; c is the credential named. "its trace flag sets mark 2"; "Marks 8, 32 as flagged."
unfoldable pub credential_marks : Situation → Entry → ℕ → CredentialId → ℕ
credential_marks v e x c =
    mark (not (eqb c.0 NONE) && v.credential.trace) n.mark_trace
    + mark (soft_passback v e x) n.mark_passback_detected
    + mark (eqb x n.granted && v.point.muster) n.mark_muster
    + mark (eqb x n.granted && v.credential.extended_time) n.mark_extended_unlock

-- "mark 1 stands on all but 161"; marks 16 and 64 are the point's: a credential reaches its most "without mark 16".
unfoldable pub marks : Situation → Entry → ℕ → ℕ
marks v e x =
    mark (not (eqb x n.denied_lockout)) n.mark_factor_read
    + credential_marks v e x (named v x)
    + mark (locks_out v e x) n.mark_lockout_max_attempts
    + mark (relinquished v e) n.mark_lockout_relinquished

-- ── the answer, and the state records that are written

-- "Answer: 0 event; 2 marks; 3 refusal; 4 tag; 8 credential or NONE; 12 count of Zone_To after the entry".
unfoldable pub answer_with : Situation → ℕ → ℕ → CredentialId → Answer
answer_with v x m c =
    record {
      event = x;
      marks = m;
      refusal = n.not_refused;
      tag = next_tag v.point_state.tag;
      credential = c;
      count = count_after v x;
    }

-- "Only the state records of these objects are written": the point, the credential unless the event is 0, and the zones of a counted passage.
-- The marks m, the credential c that is named and the point's state p are those of the operation.
unfoldable pub outcome_with : Situation → Entry → ℕ → ℕ → CredentialId → PointState → Outcome
outcome_with v e x m c p =
    record {
      answer = answer_with v x m c;
      point = Some (record { instance = point_id e.instance; state = p });
      credential = if eqb x n.no_event then None else Some (record { instance = c; state = credential_after v e x });
      zone_to = if counts v x v.zone_to.counting then Some (record { instance = v.point.zone_to; state = count_after v x }) else None;
      zone_from =
          if counts v x v.zone_from.counting then Some (record { instance = v.point.zone_from; state = v.count_from - 1 }) else None;
    }

-- The outcome of a factor read that came to the event x.
unfoldable pub outcome_of : Situation → Entry → ℕ → Outcome
outcome_of v e x = outcome_with v e x (marks v e x) (named v x) (point_after v e x)
