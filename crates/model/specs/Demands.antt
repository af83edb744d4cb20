-- What is proved over the definitions, by `fresh_state` and `run_journal` themselves: each statement is a type, and proofs/ has a theorem of it. The
-- count, the part, the well-formed state, the days and the wrong tries are about whole lists of runs from fresh, rewritten shifts and the wrong tries that
-- a grant finds about lists of runs on any state; the others about every site, state and run.
use Rattle.std.specs.Prelude.{ℕ, suc, ◌+◌, ◌*◌, ◌/◌, ◌≤◌, ◌<◌, ◌≡◌, List, [], ◌∷◌, ◌++◌, map, Bool, true, false, not, ◌&&◌, ◌||◌, ltb, eqb, pos, length, take, drop, get_or, Some, Ok, Err}
use Rattle.octets.specs.Octets.{field}
use Rattle.model.specs.Words.{all}
use Rattle.model.specs.Numbers as n
use Rattle.model.specs.Site.{credential_id, records}
use Rattle.model.specs.Accept.{in_range, exists}
use Rattle.model.specs.State.{panel, kept, state_length, state_place, fresh, well_formed}
use Rattle.model.specs.Entry.{entry_of, entries, operation_of, answer_bytes}
use Rattle.model.specs.Checks.{time_fits}
use Rattle.model.specs.Step.{no_answer}
use Rattle.model.specs.Calls.{Returned, number, is_worked, check_site, fresh_state, check_state}
use Rattle.model.specs.Lists.{Run, run_on, results, returns, Worked, answers_in, worked_in, event_in, refusal_in, credential_in, History, begun, ended, worked, first_of}
use Rattle.model.specs.Tally.{standing, tally_of, count_of}
use Rattle.model.specs.Part.{Part, SelfContained, part_records, part_entries, part_answers, part_state, others_left_out}
use Rattle.model.specs.Earned.{Earned}
use Rattle.model.specs.Shifts.{is_shift, until_midnight, since_midnight, Halved}
use Rattle.model.specs.DayPasses.{is_grant_of, times_granted, dates_granted, days_in_site, state_left, last_of, days_taken, never_fall, different}
use Rattle.model.specs.WrongTries.{tried_of, most_tries, tries_in, tries_since}
use Rattle.model.specs.InPlace.{part_of, Reads}
use Rattle.model.specs.Longer.{long_well_formed, long_fresh, check_long_state, long_results, shorter, longer, with_shorter, shorten_state, lengthen_state}
use Rattle.model.specs.declared.Refusal.TheVariants.{SiteLength, StateForm}
use Rattle.model.specs.declared.Operation.TheVariants.{Factor}

-- Demand 3, the count: "every zone's count is T less the smaller of zero and T's lowest standing".
unfoldable pub Count : Type 0
Count = (h : History) (z : ℕ) → exists (records h.site) n.access_zone z ≡ true → pos (count_of z h) ≡ standing (tally_of z h)

-- Demand 3, the part: "Records, in file order, and entries, in order, are the same lists. Then the answers to the part's entries, in
-- order, and the state records of its records, in file order, are equal byte for byte."
unfoldable pub Isolation : Type 0
Isolation =
    (P : Part) (g h : History) → SelfContained P g → SelfContained P h → part_records P g ≡ part_records P h →
    part_entries P g ≡ part_entries P h → (part_answers P g ≡ part_answers P h) × (part_state P g ≡ part_state P h)

-- Document 02, job 4: "Under demand 3's premises, cards in another part stay untouched." The list with every entry outside the part left out has the
-- part's entries and no other; they get the same answers, and the part's records the same state. Each run returns what it did.
unfoldable pub OthersLeftOut : Type 0
OthersLeftOut =
    (P : Part) (h : History) → SelfContained P h →
    (map (λ (w : Worked). w.entry) (worked (others_left_out P h)) ≡ part_entries P h)
    × (map (λ (w : Worked). w.answer) (worked (others_left_out P h)) ≡ part_answers P h)
    × (part_state P (others_left_out P h) ≡ part_state P h)
    × (returns h.site (begun h) (others_left_out P h).runs ≡ returns h.site (begun h) h.runs)

-- A call returns another number than that of x.
abbrev pub returns_other : Returned → Returned → Bool
returns_other x r = not (eqb (number r) (number x))

-- A panel never turns back its own state: after every list from fresh the state is well formed, and no run of the list returns 6.
unfoldable pub WellFormed : Type 0
WellFormed =
    (h : History) → (well_formed h.site (ended h) ≡ true) × (all (returns_other (Err StateForm)) (returns h.site (begun h) h.runs) ≡ true)

-- "what is turned back changes nothing": a call that is turned back leaves every buffer as it was.
unfoldable pub TurnedBack : Type 0
TurnedBack =
    (site state long : List ℕ) (r : Run) →
    (is_worked (fresh_state site state).returned ≡ false → (fresh_state site state).state ≡ state)
    × (is_worked (run_on site state r).returned ≡ false →
    ((run_on site state r).state ≡ state) × ((run_on site state r).answers ≡ r.answers))
    × (is_worked (shorten_state site long state).returned ≡ false → (shorten_state site long state).state ≡ state)
    × (is_worked (lengthen_state site state long).returned ≡ false → (lengthen_state site state long).state ≡ long)

-- "a bad entry gets its refusal in its own answer and changes no state": the state that the next entry finds is the state that the
-- refused entry found, and "a refusing answer is zero but for byte 3 and credential NONE".
unfoldable pub Refused : Type 0
Refused =
    (site state : List ℕ) (r : Run) (i : ℕ) → is_worked (run_on site state r).returned ≡ true →
    i < length r.journal / n.entry_size →
    eqb (refusal_in (get_or (answers_in (run_on site state r).answers) i [])) n.not_refused ≡ false →
    ((run_on site state (first_of (suc i) r)).state ≡ (run_on site state (first_of i r)).state)
    × (get_or (answers_in (run_on site state r).answers) i []
    ≡ answer_bytes (no_answer (refusal_in (get_or (answers_in (run_on site state r).answers) i [])) 0 0))

-- A grant is earned: on every site and state, whenever a run that is worked through answers its entry i with event 1, the entry is a factor
-- read and, in the state that it found, all of `Earned` held.
unfoldable pub GrantEarned : Type 0
GrantEarned =
    (site state : List ℕ) (r : Run) (i : ℕ) → is_worked (run_on site state r).returned ≡ true →
    i < length r.journal / n.entry_size →
    event_in (get_or (answers_in (run_on site state r).answers) i []) ≡ n.granted →
    (operation_of (entry_of (get_or (entries r.journal) i [])).operation ≡ (Some Factor))
    × Earned (panel site (run_on site state (first_of i r)).state) (entry_of (get_or (entries r.journal) i []))
    (credential_id (credential_in (get_or (answers_in (run_on site state r).answers) i [])))

-- Shifts that cross midnight (beyond document 02): "a rule with from > to on a set of days fits exactly when one of two rules does, from..1,440 on
-- these days or 0..to on the days after them", for all weeks. Both are in range, and neither crosses midnight.
unfoldable pub ShiftHalves : Type 0
ShiftHalves =
    (s : List ℕ) → in_range s ≡ true → is_shift s ≡ true →
    ((time : ℕ) → time_fits time s ≡ time_fits time (until_midnight s) || time_fits time (since_midnight s))
    × (in_range (until_midnight s) && not (is_shift (until_midnight s)) ≡ true)
    × (in_range (since_midnight s) && not (is_shift (since_midnight s)) ≡ true)

-- "so estates may rewrite their old pairs of rules and get the same decisions": two accepted sites that differ in that alone give each run of every list the
-- same on the same state, which has no record of a rule (job 8): what it returns, the answers, and the state that it leaves.
unfoldable pub SameShifts : Type 0
SameShifts =
    (site other state : List ℕ) (rs : List Run) → check_site site ≡ Ok tt → check_site other ≡ Ok tt → Halved (records site) (records other) →
    results site state rs ≡ results other state rs

-- Their fresh states are the same.
unfoldable pub FreshShifts : Type 0
FreshShifts = (site other : List ℕ) → Halved (records site) (records other) → fresh site ≡ fresh other

-- And the check of one returns what that of the other does, unless one of them is turned back for its length.
unfoldable pub AcceptedShifts : Type 0
AcceptedShifts =
    (site other : List ℕ) → returns_other (Err SiteLength) (check_site site) ≡ true → returns_other (Err SiteLength) (check_site other) ≡ true → Halved (records site) (records other) →
    check_site site ≡ check_site other

-- Day passes (document 02, job 5), after every list from fresh, whatever the clock does: last grant is "never when fresh, set by each grant".
unfoldable pub LastGrant : Type 0
LastGrant =
    (h : History) (c : ℕ) → exists (records h.site) n.access_credential c ≡ true → (state_left c h).last_grant ≡ last_of n.NEVER (times_granted c h)

-- Likewise, of limited days: the days left and those that the grants took, read from the answers, come to the credential's days in the site.
unfoldable pub DaysTaken : Type 0
DaysTaken =
    (h : History) (c : ℕ) → exists (records h.site) n.access_credential c ≡ true → days_in_site c h < n.UNLIMITED →
    (state_left c h).days + days_taken (dates_granted c h) ≡ days_in_site c h

-- Days of admission (beyond document 02): as long as the dates of its grants never fall, the days left and the number of different dates on which it was
-- granted come to its days in the site.
unfoldable pub DaysOfAdmission : Type 0
DaysOfAdmission =
    (h : History) (c : ℕ) → exists (records h.site) n.access_credential c ≡ true → days_in_site c h < n.UNLIMITED →
    never_fall (dates_granted c h) ≡ true → (state_left c h).days + different (dates_granted c h) ≡ days_in_site c h

-- Wrong codes (document 02, job 4), after every list from fresh, whatever the clock does: a credential's wrong tries and its disable are those that the
-- entries and their answers show.
unfoldable pub WrongTries : Type 0
WrongTries =
    (h : History) (c : ℕ) → ((state_left c h).wrong_tries ≡ (tried_of c h).tries) × ((state_left c h).disable ≡ (tried_of c h).disable)

-- A grant is earned, over every list of runs on any state: whenever a credential is granted, it has not reached its most since its wrong tries were last
-- zeroed by a grant or operation 4.
unfoldable pub GrantBelowMost : Type 0
GrantBelowMost =
    (site state : List ℕ) (rs : List Run) (c : ℕ) (before later : List Worked) (w : Worked) →
    worked_in site state rs ≡ before ++ w ∷ later → is_grant_of c w ≡ true →
    eqb (most_tries c site) 0 || ltb (tries_since c (tries_in c site state) before) (most_tries c site) ≡ true

-- Document 02, job 2: "reading from any record's 32-byte part of a site is shown to give that record's bytes at the field's offset, for all fields together".
-- For all bytes and every size of parts: the bytes of the i-th part at an offset, and the number in them, are the whole's own at `size` times i plus the offset.
unfoldable pub InPlace : Type 0
InPlace =
    (size i at width : ℕ) (bytes : List ℕ) → i < length bytes / size → at + width ≤ size →
    (take width (drop at (part_of size i bytes)) ≡ take width (drop (size * i + at) bytes))
    × (field at width (part_of size i bytes) ≡ field (size * i + at) width bytes)

-- So a reader of any field, whatever it makes of the field's bytes, reads these.
unfoldable pub ReadInPlace : Type 1
ReadInPlace =
    (A : Type 0) (size at width : ℕ) (read value : List ℕ → A) → Reads size at width read value →
    (i : ℕ) (bytes : List ℕ) → i < length bytes / size →
    read (part_of size i bytes) ≡ value (take width (drop (size * i + at) bytes))

-- Document 02, job 8: "From every well-formed longer state, run as until now, and from the shorter one of the same kept records, each journal gets the same
-- answers and leaves each kept record the same bytes; this is shown for all site mixes together." Of every list of runs: each returns the same number.
unfoldable pub HalfState : Type 0
HalfState =
    (site long : List ℕ) (rs : List Run) → length long ≡ length site → long_well_formed site long ≡ true →
    results site (shorter site long) rs ≡ map (with_shorter site) (long_results site long rs)

-- "the shorter one of the same kept records" is a well-formed state, and has its longer one back.
unfoldable pub ShorterWell : Type 0
ShorterWell =
    (site long : List ℕ) → check_long_state site long ≡ Ok tt →
    (check_state site (shorter site long) ≡ Ok tt) × (longer site (shorter site long) ≡ long)

-- And every well-formed state is the shorter one of a well-formed longer state.
unfoldable pub LongerWell : Type 0
LongerWell =
    (site state : List ℕ) → check_state site state ≡ Ok tt →
    (check_long_state site (longer site state) ≡ Ok tt) × (shorter site (longer site state) ≡ state)

-- Their fresh states are each other's.
unfoldable pub FreshHalf : Type 0
FreshHalf = (site : List ℕ) → (shorter site (long_fresh site) ≡ fresh site) × (longer site (fresh site) ≡ long_fresh site)

-- "State shall hold records for zones, points and credentials alone, in site sequence": the state record of the i-th site record, if it has one, is the one
-- at its place in the state.
unfoldable pub StateInPlace : Type 0
StateInPlace =
    (site state : List ℕ) (i : ℕ) → length state ≡ state_length site → i < length (records site) → kept (get_or (records site) i []) ≡ true →
    get_or (panel site state) i ([], []) ≡ (get_or (records site) i [], part_of n.record_size (state_place i (records site)) state)
