-- "The self-contained part (demand 3)".
use Rattle.std.specs.Prelude.{ℕ, ◌*◌, ◌/◌, ◌≡◌, Bool, true, false, not, ◌&&◌, ◌||◌, eqb, length, take, if◌then◌else◌, Option, Some, None}
use mathlib.Core.List.{List, [], ◌∷◌, map, flatten}
use Rattle.std.specs.Bool.{beq}
use Rattle.model.specs.Words.{keep, all, missing}
use Rattle.model.specs.Numbers as n
use Rattle.model.specs.Numbers.{NONE}
use Rattle.model.specs.Site.{zone_id, point_id, credential_id, rights_id, records, kind, record_kind, instance, point_of, credential_of, find_in}
use Rattle.model.specs.State.{Pair, Panel, panel, sites, find}
use Rattle.model.specs.Entry.{entry_of, entries, operation_of, object_kind}
use Rattle.model.specs.Checks.{still_locked, waiting, identifying}
use Rattle.model.specs.Step.{situation_of}
use Rattle.model.specs.Calls.{is_worked}
use Rattle.model.specs.Lists.{Run, run_on, Worked, refusal_in, History, begun, ended, worked}
use Rattle.model.specs.declared.RecordKind.{RecordKind}
use Rattle.model.specs.declared.RecordKind.TheVariants.{OfZone, OfPoint, OfRule, OfCredential, OfFactor}
use Rattle.model.specs.declared.ZoneId.{ZoneId}
use Rattle.model.specs.declared.PointId.{PointId}
use Rattle.model.specs.declared.CredentialId.{CredentialId}
use Rattle.model.specs.declared.RightsId.{RightsId}
use Rattle.model.specs.declared.Entry.{Entry}
use Rattle.model.specs.declared.Situation.{Situation}
use Rattle.model.specs.declared.Operation.{Operation}
use Rattle.model.specs.declared.Operation.TheVariants.{Factor, SetCount, AdjustCount, SetDisable, SetService}

-- "A part is a set of zones, points, credentials and rights numbers".
pub record Part : Type 0 where
  pub zones : ZoneId → Bool
  pub points : PointId → Bool
  pub credentials : CredentialId → Bool
  pub rights : RightsId → Bool

-- "with the rules and factors under them": a rule is under its rights number, a factor under its credential.
unfoldable pub member : Part → ℕ → ℕ → Bool
member P k i =
    if eqb k n.access_zone then P.zones (zone_id i) else
    if eqb k n.access_point then P.points (point_id i) else
    if eqb k n.access_rule then P.rights (rights_id i) else
    if eqb k n.access_credential || eqb k n.authentication_factor then P.credentials (credential_id i) else
    false

-- A record of the part.
unfoldable pub holds : Part → List ℕ → Bool
holds P s = member P (kind s) (instance s)

-- "an entry belongs by its instance under its operation, unknown operations to none"
unfoldable pub belongs : Part → Entry → Bool
belongs P e = member P (object_kind (operation_of e.operation)) e.instance

-- ── "In both sites: no point's zone is across the border; rights that a credential of the part names are in it."

-- What a record names, NONE or on a side of the border: `side` is true for the part.
unfoldable pub on_side : Part → ℕ → ℕ → Bool → Bool
on_side P k i side = eqb i NONE || beq (member P k i) side

-- "no point's zone is across the border".
unfoldable pub point_inside : Part → List ℕ → Bool
point_inside P s =
    on_side P n.access_zone (point_of s).zone_to.0 (holds P s) && on_side P n.access_zone (point_of s).zone_from.0 (holds P s)

-- "rights that a credential of the part names are in it".
unfoldable pub credential_inside : Part → List ℕ → Bool
credential_inside P s =
    not (holds P s)
    || on_side P n.access_rule (credential_of s).first_rights.0 true && on_side P n.access_rule (credential_of s).second_rights.0 true

-- Both, of any site record.
abbrev pub inside_as : Option RecordKind → Part → List ℕ → Bool
inside_as (Some OfZone) P s = true
inside_as (Some OfPoint) P s = point_inside P s
inside_as (Some OfRule) P s = true
inside_as (Some OfCredential) P s = credential_inside P s
inside_as (Some OfFactor) P s = true
inside_as None P s = true

-- By its kind.
unfoldable pub inside : Part → List ℕ → Bool
inside P s = inside_as (record_kind s) P s

-- ── "In both lists: no factor read names, as identifying factor, a credential across the border." Asked of the reads that come to step 3 for
-- nobody waiting: no other read is taken as an identifying factor, whatever card it is.

-- A read comes to step 3 for nobody waiting: the point is in service, not locked and waits for nobody, and the format is not 1.
unfoldable pub identifies : Situation → Entry → Bool
identifies v e = not (v.point.out_of_service || still_locked v e || waiting v || eqb e.argument n.format_error)

-- The factor that a read names "as identifying factor".
unfoldable pub identified : List (List ℕ) → Entry → List ℕ
identified ss e = find_in (identifying e.argument e.value) ss

-- It names no "credential across the border" from the point that read it.
unfoldable pub identified_inside : Part → List (List ℕ) → Entry → Bool
identified_inside P ss e =
    missing (identified ss e)
    || beq (member P n.access_credential (instance (identified ss e))) (member P n.access_point e.instance)

-- Asked of factor reads alone; x is the point's records.
abbrev pub read_inside_as : Option Operation → Part → Panel → Entry → Pair → Bool
read_inside_as (Some Factor) P ps e x = not (identifies (situation_of ps e x) e) || identified_inside P (sites ps) e
read_inside_as (Some SetCount) P ps e x = true
read_inside_as (Some AdjustCount) P ps e x = true
read_inside_as (Some SetDisable) P ps e x = true
read_inside_as (Some SetService) P ps e x = true
read_inside_as None P ps e x = true

-- An entry at the panel that it found.
unfoldable pub entry_inside : Part → Panel → Entry → Bool
entry_inside P ps e =
    read_inside_as (operation_of e.operation) P ps e (find (object_kind (operation_of e.operation)) e.instance ps)

-- Asked where the answer has refusal 0.
unfoldable pub read_inside : Part → Worked → Bool
read_inside P w = not (eqb (refusal_in w.answer) n.not_refused) || entry_inside P w.found (entry_of w.entry)

-- The premises on one list.
pub record SelfContained (P : Part) (h : History) : Type 0 where
  pub site : all (inside P) (records h.site) ≡ true
  pub reads : all (read_inside P) (worked h) ≡ true

-- ── the part's records in file order, its entries and their answers in order, and the state records of its records in file order

-- "Records, in file order".
unfoldable pub part_records : Part → History → List (List ℕ)
part_records P h = keep (holds P) (records h.site)

-- The part's entries with their answers.
unfoldable pub part_worked : Part → History → List Worked
part_worked P h = keep (λ (w : Worked). belongs P (entry_of w.entry)) (worked h)

-- "entries, in order".
unfoldable pub part_entries : Part → History → List (List ℕ)
part_entries P h = map (λ (w : Worked). w.entry) (part_worked P h)

-- "the answers to the part's entries, in order".
unfoldable pub part_answers : Part → History → List (List ℕ)
part_answers P h = map (λ (w : Worked). w.answer) (part_worked P h)

-- "the state records of its records, in file order".
unfoldable pub part_state : Part → History → List (List ℕ)
part_state P h = map (λ (x : Pair). x.1) (keep (λ (x : Pair). holds P x.0) (panel h.site (ended h)))

-- ── the list with every entry outside the part left out

-- The entries of a journal that belong to the part, in order.
unfoldable pub part_journal : Part → List ℕ → List ℕ
part_journal P journal = flatten (keep (λ (b : List ℕ). belongs P (entry_of b)) (entries journal))

-- A run of them, with room for their answers.
unfoldable pub part_run : Part → Run → Run
part_run P r =
    record {
      journal = part_journal P r.journal;
      answers = take (length (part_journal P r.journal) / n.entry_size * n.answer_size) r.answers;
    }

-- The runs that are worked through, each with the part's entries alone; one that is turned back has no entries and stays.
unfoldable pub part_runs : Part → List ℕ → List ℕ → List Run → List Run
part_runs P site state [] = []
part_runs P site state (r ∷ rs) =
    (if is_worked (run_on site state r).returned then part_run P r else r) ∷ part_runs P site (run_on site state r).state rs

-- The list of these runs, on the same site.
unfoldable pub others_left_out : Part → History → History
others_left_out P h =
    record { site = h.site; buffer = h.buffer; accepted = h.accepted; runs = part_runs P h.site (begun h) h.runs }
