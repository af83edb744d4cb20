-- The calls: what each returns, and the later contents of every lent buffer. "Turned back": refusals 1 to 6, 10 and 11, each over the
-- whole input in its turn.
use Rattle.std.specs.Prelude.{ℕ, ◌*◌, ◌/◌, ◌%◌, Bool, not, ◌||◌, ltb, eqb, length, if◌then◌else◌, Result, Ok, Err}
use mathlib.Core.List.{List, map, flatten}
use Rattle.model.specs.Words.{all}
use Rattle.model.specs.Numbers as n
use Rattle.model.specs.Site.{records}
use Rattle.model.specs.Accept.{in_range, twice, names_exist}
use Rattle.model.specs.State.{Panel, panel, state_length, state_of, fresh, well_formed}
use Rattle.model.specs.Entry.{entries, entry_of, answer_bytes}
use Rattle.model.specs.Step.{after, answers}
use Rattle.model.specs.declared.Refusal.{Refusal}
use Rattle.model.specs.declared.Refusal.TheVariants.{SiteLength, SiteField, SiteTwice, SiteMissing, StateLength, StateForm, JournalLength, AnswersLength}

-- "Returned": worked through, or why the input is turned back.
abbrev pub Returned : Type 0
Returned = Result Unit Refusal

-- "Returned (0: worked through)": the number of each outcome.
abbrev pub number : Returned → ℕ
number (Ok done) = 0
number (Err SiteLength) = 1
number (Err SiteField) = 2
number (Err SiteTwice) = 3
number (Err SiteMissing) = 4
number (Err StateLength) = 5
number (Err StateForm) = 6
number (Err JournalLength) = 10
number (Err AnswersLength) = 11

-- "0: worked through".
unfoldable pub is_worked : Returned → Bool
is_worked r = eqb (number r) 0

-- ── the site check: "1 site not a multiple of 32, or above 64,000 bytes; 2 a record's kind, field or spare byte out of range; 3 the same
-- twice; 4 a named object missing"

-- The number that a site check returns; a site is lent to be read alone.
unfoldable pub check_site : List ℕ → Returned
check_site site =
    if not (eqb (length site % n.record_size) 0) || ltb n.largest_site (length site) then Err SiteLength else
    if not (all in_range (records site)) then Err SiteField else
    if twice (records site) then Err SiteTwice else
    if not (all (names_exist (records site)) (records site)) then Err SiteMissing else
    Ok tt

-- ── the fresh state: "Fresh stops after 5": "5 state not as long as the site"; document 02, job 8: "Refusal 5 now compares with 32 times their
-- number", that of zones, points and credentials

-- What a call that writes a state gives: what it returns, and the later contents of the state.
pub record StateResult : Type 0 where
  pub returned : Returned
  pub state : List ℕ

-- The same as a record of its parts.
abbrev pub state_result : Returned → List ℕ → StateResult
state_result returned state = record { returned = returned; state = state }

-- Refusals 1 to 5 in their order.
unfoldable pub fresh_returned : List ℕ → List ℕ → Returned
fresh_returned site state =
    if not (is_worked (check_site site)) then check_site site else
    if not (eqb (length state) (state_length site)) then Err StateLength else
    Ok tt

-- The call: the fresh state, or the state as it was.
unfoldable pub fresh_state : List ℕ → List ℕ → StateResult
fresh_state site state =
    state_result (fresh_returned site state) (if is_worked (fresh_returned site state) then fresh site else state)

-- ── the state check: "6 state not well formed"

-- Refusals 1 to 6 in their order; site and state are lent to be read alone.
unfoldable pub check_state : List ℕ → List ℕ → Returned
check_state site state =
    if not (is_worked (fresh_returned site state)) then fresh_returned site state else
    if not (well_formed site state) then Err StateForm else
    Ok tt

-- ── the journal run: "10 journal not a multiple of 24, or above 65,520; 11 answers not 16 bytes per entry"

-- What the call gives: what it returns, and the later contents of state and answers.
pub record RunResult : Type 0 where
  pub returned : Returned
  pub state : List ℕ
  pub answers : List ℕ

-- The same as a record of its parts.
abbrev pub run_result : Returned → List ℕ → List ℕ → RunResult
run_result returned state answers = record { returned = returned; state = state; answers = answers }

-- Refusals 10 and 11, after what the state check returned.
abbrev pub journal_returned : Returned → List ℕ → List ℕ → Returned
journal_returned checked journal answered =
    if not (is_worked checked) then checked else
    if not (eqb (length journal % n.entry_size) 0) || ltb n.largest_journal (length journal) then Err JournalLength else
    if not (eqb (length answered) (length journal / n.entry_size * n.answer_size)) then Err AnswersLength else
    Ok tt

-- Refusals 1 to 6, 10, 11 in their order.
unfoldable pub run_returned : List ℕ → List ℕ → List ℕ → List ℕ → Returned
run_returned site state journal answered = journal_returned (check_state site state) journal answered

-- What is returned, with the state and the answers that the entries leave at a panel, or both as they were.
abbrev pub run_at : Returned → Panel → List ℕ → List ℕ → List ℕ → RunResult
run_at returned ps state journal answered =
    record {
      returned = returned;
      state = if is_worked returned then state_of (after ps (map entry_of (entries journal))) else state;
      answers = if is_worked returned then flatten (map answer_bytes (answers ps (map entry_of (entries journal)))) else answered;
    }

-- The call: state and answers of the entries, or both as they were.
unfoldable pub run_journal : List ℕ → List ℕ → List ℕ → List ℕ → RunResult
run_journal site state journal answered =
    run_at (run_returned site state journal answered) (panel site state) state journal answered
