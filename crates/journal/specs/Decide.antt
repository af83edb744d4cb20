-- The outcome of an entry on bytes, with the places of its records: form, object, then the operation.
use Rattle.std.specs.Prelude.{ℕ, List, not, if◌then◌else◌, Option, Some, None, Result, Ok, Err}
use Rattle.model.specs.Numbers as n
use Rattle.model.specs.Site.{point_id, records, point_of}
use Rattle.model.specs.State.{count, point_state_of, credential_state_of}
use Rattle.model.specs.Entry.{operation_of, in_form}
use Rattle.model.specs.Checks.{verdict, event_of}
use Rattle.model.specs.Effects.{outcome_of}
use Rattle.model.specs.Step.{no_answer, unchanged, refused_number, refuse, count_outcome, adjust_outcome, disable_outcome, service_outcome}
use Rattle.index.specs.declared.Place.{Place}
use Rattle.journal.specs.Places.{site_part, state_part, object_place}
use Rattle.journal.specs.Gather.{gathered, count_to}
use Rattle.model.specs.declared.Situation.{Situation}
use Rattle.model.specs.declared.Verdict.{Verdict}
use Rattle.model.specs.declared.Entry.{Entry}
use Rattle.model.specs.declared.Outcome.{Outcome}
use Rattle.model.specs.declared.EntryRefusal.{EntryRefusal}
use Rattle.model.specs.declared.EntryRefusal.TheVariants.{Form, NoObject}
use Rattle.model.specs.declared.Operation.{Operation}
use Rattle.model.specs.declared.Operation.TheVariants.{Factor, SetCount, AdjustCount, SetDisable, SetService}
use Rattle.journal.specs.declared.Places.{Places}
use Rattle.journal.specs.declared.Decided.{Decided}

-- What the rules among some records say of a situation.
abbrev pub rules_of : Situation → Entry → List (List ℕ) → Verdict
rules_of v e ss =
    verdict v.credential.first_rights v.credential.second_rights (point_id e.instance) v.point.zone_to e.time ss

-- What a factor read at a point in service comes to, of its situation and what the rules say.
unfoldable pub read_outcome : Situation → Verdict → Entry → Outcome
read_outcome v rules e = outcome_of v e (event_of v rules e)

-- Operations 2 to 5 write the record of their object alone.
abbrev pub object_places : Option Place → Places
object_places place = record { point = place; credential = place; zone_to = place; zone_from = None }

abbrev pub at_object : Outcome → Option Place → Decided
at_object o place = record { outcome = o; places = object_places place }

-- An entry that is refused writes nothing.
abbrev pub refused_as : EntryRefusal → Decided
refused_as r = at_object (refuse (refused_number r)) None

-- What is decided of an entry, or why it is refused.
abbrev pub or_refused : Result Decided EntryRefusal → Decided
or_refused (Ok d) = d
or_refused (Err r) = refused_as r

-- A factor read at the point that stands at a place, in service.
unfoldable pub served_at : Option Place → Entry → List ℕ → List ℕ → Decided
served_at place e site state =
    record {
      outcome =
          read_outcome (gathered place e site state).situation (rules_of (gathered place e site state).situation e (records site)) e;
      places = (gathered place e site state).places;
    }

-- And in service or not: out of service the tag as held and Zone_To's count are all that is asked.
unfoldable pub read_at : Option Place → Entry → List ℕ → List ℕ → Decided
read_at place e site state =
    if (point_of (site_part place site)).out_of_service
    then at_object (unchanged (no_answer n.not_refused (point_state_of (state_part place state)).tag (count_to place site state))) None
    else served_at place e site state

-- The operation at its object, which stands at a place.
abbrev pub worked_at : Option Operation → Option Place → Entry → List ℕ → List ℕ → Decided
worked_at (Some Factor) place e site state = read_at place e site state
worked_at (Some SetCount) place e site state = at_object (count_outcome e e.amount) place
worked_at (Some AdjustCount) place e site state = at_object (adjust_outcome e (count (state_part place state))) place
worked_at (Some SetDisable) place e site state = at_object (disable_outcome e (credential_state_of (state_part place state))) place
worked_at (Some SetService) place e site state =
    at_object (service_outcome e (point_state_of (state_part place state)) (count_to place site state)) place
worked_at None place e site state = at_object (refuse n.refused_form) place

-- What is decided of an operation and where its object stands, or why there is neither.
abbrev pub decided_at : Result (Operation × Place) EntryRefusal → Entry → List ℕ → List ℕ → Result Decided EntryRefusal
decided_at (Ok (o, p)) e site state = Ok (worked_at (Some o) (Some p) e site state)
decided_at (Err r) e site state = Err r

-- The operation at its object, or refusal 8 where there is no object.
abbrev pub found_at : Option Operation → Option Place → Entry → List ℕ → List ℕ → Decided
found_at o (Some p) e site state = worked_at o (Some p) e site state
found_at o None e site state = refused_as NoObject

-- An entry: refusal 7 where it has not the form, then its object.
unfoldable pub decided_as : Option Operation → Entry → List ℕ → List ℕ → Decided
decided_as o e site state =
    if not (in_form o e) then refused_as Form
    else found_at o (object_place o e.instance site) e site state

unfoldable pub decided_on : List ℕ → List ℕ → Entry → Decided
decided_on site state e = decided_as (operation_of e.operation) e site state
