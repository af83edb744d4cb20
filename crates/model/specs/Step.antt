-- One entry at the panel: its situation, its outcome under its operation, the records written; then a list of entries.
use Rattle.std.specs.Prelude.{ℕ, ◌+◌, ◌-◌, List, [], ◌∷◌, Bool, not, ltb, leb, eqb, if◌then◌else◌, Option, Some, None}
use Rattle.model.specs.Words.{missing}
use Rattle.model.specs.Numbers as n
use Rattle.model.specs.Numbers.{NONE}
use Rattle.model.specs.Site.{zone_id, point_id, credential_id, zone_of, point_of, credential_of, factor_disable}
use Rattle.model.specs.State.{Pair, Panel, sites, find, seek_zone, seek_credential, write, count, zone_bytes, point_state_of, point_bytes, credential_state_of, credential_bytes}
use Rattle.model.specs.Entry.{operation_of, object_kind, in_form}
use Rattle.model.specs.Checks.{factor_for, credential_read, verdict, event_of}
use Rattle.model.specs.Effects.{next_tag, outcome_of}
use Rattle.model.specs.declared.ZoneId.{ZoneId}
use Rattle.model.specs.declared.PointId.{PointId}
use Rattle.model.specs.declared.CredentialId.{CredentialId}
use Rattle.model.specs.declared.Situation.{Situation}
use Rattle.model.specs.declared.Verdict.{Verdict}
use Rattle.model.specs.declared.Entry.{Entry}
use Rattle.model.specs.declared.Answer.{Answer}
use Rattle.model.specs.declared.Write.{Write}
use Rattle.model.specs.declared.Outcome.{Outcome}
use Rattle.model.specs.declared.PointState.{PointState}
use Rattle.model.specs.declared.CredentialState.{CredentialState}
use Rattle.model.specs.declared.EntryRefusal.{EntryRefusal}
use Rattle.model.specs.declared.EntryRefusal.TheVariants.{Form, NoObject, Count}
use Rattle.model.specs.declared.Operation.{Operation}
use Rattle.model.specs.declared.Operation.TheVariants.{Factor, SetCount, AdjustCount, SetDisable, SetService}

-- ── outcomes that write no state

-- "event 0, credential NONE, no marks".
abbrev pub no_answer : ℕ → ℕ → ℕ → Answer
no_answer refusal tag counted =
    record { event = n.no_event; marks = 0; refusal = refusal; tag = tag; credential = credential_id NONE; count = counted }

-- "nothing changes".
unfoldable pub unchanged : Answer → Outcome
unchanged a = record { answer = a; point = None; credential = None; zone_to = None; zone_from = None }

-- "7, in an answer", "8, in an answer", "9, in an answer": the number of each refusal of an entry.
abbrev pub refused_number : EntryRefusal → ℕ
refused_number Form = n.refused_form
refused_number NoObject = n.refused_no_object
refused_number Count = n.refused_count

-- "A refusing answer is zero but for byte 3 and credential NONE."
unfoldable pub refuse : ℕ → Outcome
refuse refusal = unchanged (no_answer refusal 0 0)

-- ── operation 1: p is the point's records

-- The factor that the read names at the point, and the credential's records.
unfoldable pub factor_read : Panel → Entry → Pair → List ℕ
factor_read ps e p = factor_for (point_state_of p.1).waiting_credential e (sites ps)

-- The disable of a factor, where there is one.
abbrev pub disable_of : List ℕ → Option ℕ
disable_of factor = if missing factor then None else Some (factor_disable factor)

-- "the credential waited for, else the one that step 3 matched, else NONE".
unfoldable pub number_read : Panel → Entry → Pair → CredentialId
number_read ps e p = credential_read (point_state_of p.1).waiting_credential (factor_read ps e p)

-- The records of Zone_To.
unfoldable pub zone_to : Panel → Pair → Pair
zone_to ps p = seek_zone (point_of p.0).zone_to ps

-- The records of Zone_From.
unfoldable pub zone_from : Panel → Pair → Pair
zone_from ps p = seek_zone (point_of p.0).zone_from ps

-- The records of the credential read.
unfoldable pub credential_at : Panel → Entry → Pair → Pair
credential_at ps e p = seek_credential (number_read ps e p) ps

-- All that steps 1 to 11 look at, but for the rules.
unfoldable pub situation_of : Panel → Entry → Pair → Situation
situation_of ps e p =
    record {
      point = point_of p.0;
      point_state = point_state_of p.1;
      zone_to = zone_of (zone_to ps p).0;
      count_to = count (zone_to ps p).1;
      zone_from = zone_of (zone_from ps p).0;
      count_from = count (zone_from ps p).1;
      factor_disable = disable_of (factor_read ps e p);
      number = number_read ps e p;
      credential = credential_of (credential_at ps e p).0;
      credential_state = credential_state_of (credential_at ps e p).1;
    }

-- What the rules say (step 9).
unfoldable pub rules_at : Panel → Entry → Pair → Verdict
rules_at ps e p =
    verdict (situation_of ps e p).credential.first_rights (situation_of ps e p).credential.second_rights (point_id e.instance)
    (point_of p.0).zone_to e.time (sites ps)

-- "Out of service: event 0, credential NONE, no marks, nothing changes, tag as held."
unfoldable pub factor_outcome : Panel → Entry → Pair → Outcome
factor_outcome ps e p =
    if (point_of p.0).out_of_service
    then unchanged (no_answer n.not_refused (point_state_of p.1).tag (count (zone_to ps p).1))
    else outcome_of (situation_of ps e p) e (event_of (situation_of ps e p) (rules_at ps e p) e)

-- ── operations 2 and 3: "Set a zone's count to the amount." "Adjust it by the amount, signed; below zero becomes 0."

-- "2. Set a zone's count": operations 2 and 3 "give event 0 and tag 0", with the zone's count.
unfoldable pub count_outcome : Entry → ℕ → Outcome
count_outcome e counted =
    record {
      answer = no_answer n.not_refused 0 counted;
      point = None;
      credential = None;
      zone_to = Some (record { instance = zone_id e.instance; state = counted });
      zone_from = None;
    }

-- "signed".
unfoldable pub is_negative : ℕ → Bool
is_negative amount = leb n.first_negative amount

-- "Adjust it by the amount, signed; below zero becomes 0".
unfoldable pub adjusted : ℕ → ℕ → ℕ
adjusted counted amount = if is_negative amount then counted - (n.modulus - amount) else counted + amount

-- Refusal 9: "adjustment to a count above 4,294,967,295".
unfoldable pub adjust_outcome : Entry → ℕ → Outcome
adjust_outcome e counted =
    if ltb n.largest_count (adjusted counted e.amount) then refuse n.refused_count
    else count_outcome e (adjusted counted e.amount)

-- ── operation 4: "Set a credential's disable to the argument." Of operations 2 to 5 it alone fills the credential.

-- The credential with that disable. Document 02, job 4: "operation 4 also zeroes" its wrong tries.
unfoldable pub disable_after : CredentialState → ℕ → CredentialState
disable_after c disable =
    record {
      uses = c.uses;
      days = c.days;
      last_use = c.last_use;
      zone = c.zone;
      entered = c.entered;
      last_event = c.last_event;
      disable = disable;
      wrong_tries = 0;
      last_point = c.last_point;
      last_grant = c.last_grant;
    }

-- "4. Set a credential's disable to the argument."
unfoldable pub disable_outcome : Entry → CredentialState → Outcome
disable_outcome e c =
    record {
      answer =
          record {
            event = n.no_event;
            marks = 0;
            refusal = n.not_refused;
            tag = 0;
            credential = credential_id e.instance;
            count = 0;
          };
      point = None;
      credential = Some (record { instance = credential_id e.instance; state = disable_after c e.argument });
      zone_to = None;
      zone_from = None;
    }

-- ── operation 5: "argument 1 locks a point from now and drops its wait (event 7); 0 unlocks and zeroes failures (event 8)"

-- "argument 1 locks".
unfoldable pub locks : Entry → Bool
locks e = eqb e.argument n.argument_lock

-- "locks a point from now and drops its wait .. 0 unlocks and zeroes failures"; the tag gains 1.
unfoldable pub service_after : Entry → PointState → PointState
service_after e p =
    record {
      tag = next_tag p.tag;
      failures = if locks e then p.failures else 0;
      locked = locks e;
      lock_time = if locks e then e.time else p.lock_time;
      first_failure = p.first_failure;
      waiting_credential = if locks e then credential_id NONE else p.waiting_credential;
      waiting_since = p.waiting_since;
    }

-- "(event 7) .. (event 8)".
unfoldable pub service_outcome : Entry → PointState → ℕ → Outcome
service_outcome e p counted =
    record {
      answer =
          record {
            event = if locks e then n.lockout_other else n.lockout_relinquished;
            marks = 0;
            refusal = n.not_refused;
            tag = next_tag p.tag;
            credential = credential_id NONE;
            count = counted;
          };
      point = Some (record { instance = point_id e.instance; state = service_after e p });
      credential = None;
      zone_to = None;
      zone_from = None;
    }

-- ── an entry: "per entry 7, 8, 9"

-- The operation at its object; x is the object's records.
abbrev pub worked_outcome : Option Operation → Panel → Entry → Pair → Outcome
worked_outcome (Some Factor) ps e x = factor_outcome ps e x
worked_outcome (Some SetCount) ps e x = count_outcome e e.amount
worked_outcome (Some AdjustCount) ps e x = adjust_outcome e (count x.1)
worked_outcome (Some SetDisable) ps e x = disable_outcome e (credential_state_of x.1)
worked_outcome (Some SetService) ps e x = service_outcome e (point_state_of x.1) (count (zone_to ps x).1)
worked_outcome None ps e x = refuse n.refused_form

-- "per entry 7, 8, 9": form, object, then the operation.
unfoldable pub outcome_as : Option Operation → Panel → Entry → Pair → Outcome
outcome_as o ps e x =
    if not (in_form o e) then refuse n.refused_form else
    if missing x.0 then refuse n.refused_no_object else
    worked_outcome o ps e x

-- The entry's operation, at the object that its instance names.
unfoldable pub entry_outcome : Panel → Entry → Outcome
entry_outcome ps e =
    outcome_as (operation_of e.operation) ps e (find (object_kind (operation_of e.operation)) e.instance ps)

-- What an outcome writes of an object of kind k, if it does: i is the number of an instance, b the bytes of a state.
abbrev pub write_of : {I S : Type 0} → ℕ → (I → ℕ) → (S → List ℕ) → Option (Write I S) → Panel → Panel
write_of k i b None ps = ps
write_of k i b (Some w) ps = write k (i w.instance) (b w.state) ps

-- "Only the state records of these objects are written."
unfoldable pub apply : Outcome → Panel → Panel
apply o ps =
    write_of n.access_point (λ (i : PointId). i.0) point_bytes o.point
    (write_of n.access_credential (λ (i : CredentialId). i.0) credential_bytes o.credential
    (write_of n.access_zone (λ (i : ZoneId). i.0) zone_bytes o.zone_to
    (write_of n.access_zone (λ (i : ZoneId). i.0) zone_bytes o.zone_from ps)))

-- ── a list of entries: the panel that each finds, the panel after the last, and the answers

-- The panel that each of the entries finds.
unfoldable pub panels : Panel → List Entry → List Panel
panels ps [] = []
panels ps (e ∷ es) = ps ∷ panels (apply (entry_outcome ps e) ps) es

-- The panel after the entries, in turn.
unfoldable pub after : Panel → List Entry → Panel
after ps [] = ps
after ps (e ∷ es) = after (apply (entry_outcome ps e) ps) es

-- Their answers.
unfoldable pub answers : Panel → List Entry → List Answer
answers ps [] = []
answers ps (e ∷ es) = (entry_outcome ps e).answer ∷ answers (apply (entry_outcome ps e) ps) es
