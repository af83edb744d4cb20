-- "A list, in both halves, is of journal runs on one accepted site, each with a journal and answers of its own. Its entries are those of
-- the journals worked through, in turn; a journal turned back adds nothing."
use Rattle.std.specs.Prelude.{ℕ, ◌*◌, ◌/◌, ◌≡◌, List, [], ◌∷◌, ◌++◌, map, length, take, if◌then◌else◌, Ok}
use Rattle.octets.specs.Octets.{field, groups}
use Rattle.model.specs.Numbers.{entry_size, answer_size}
use Rattle.model.specs.State.{Panel, panel}
use Rattle.model.specs.Entry.{entries, entry_of}
use Rattle.model.specs.Step.{panels}
use Rattle.model.specs.Calls.{Returned, is_worked, fresh_state, RunResult, run_journal}

-- A run: the journal's bytes, and the bytes of the buffer that is lent for the answers.
pub record Run : Type 0 where
  pub journal : List ℕ
  pub answers : List ℕ

-- The run on a site and a state.
unfoldable pub run_on : List ℕ → List ℕ → Run → RunResult
run_on site state r = run_journal site state r.journal r.answers

-- A list of runs, each on the state that the last one left: the state at the end, and what each run returns.
unfoldable pub state_after : List ℕ → List ℕ → List Run → List ℕ
state_after site state [] = state
state_after site state (r ∷ rs) = state_after site (run_on site state r).state rs

-- What each run of a list gives: what it returns, and the state and the answers that it leaves.
unfoldable pub results : List ℕ → List ℕ → List Run → List RunResult
results site state [] = []
results site state (r ∷ rs) = run_on site state r ∷ results site (run_on site state r).state rs

-- What each run of a list returns.
unfoldable pub returns : List ℕ → List ℕ → List Run → List Returned
returns site state [] = []
returns site state (r ∷ rs) = (run_on site state r).returned ∷ returns site (run_on site state r).state rs

-- An entry worked through, with the panel that it found and its answer.
pub record Worked : Type 0 where
  pub found : Panel
  pub entry : List ℕ
  pub answer : List ℕ

-- Entries with the panels that they found and their answers, in turn.
abbrev pub with_answers : List Panel → List (List ℕ) → List (List ℕ) → List Worked
with_answers [] es bs = []
with_answers (ps ∷ pss) [] bs = []
with_answers (ps ∷ pss) (e ∷ es) [] = []
with_answers (ps ∷ pss) (e ∷ es) (b ∷ bs) = record { found = ps; entry = e; answer = b } ∷ with_answers pss es bs

-- The answers of a buffer, 16 bytes each.
unfoldable pub answers_in : List ℕ → List (List ℕ)
answers_in answers = groups answer_size (length answers / answer_size) answers

-- "those of the journals worked through .. a journal turned back adds nothing".
unfoldable pub worked_by : List ℕ → List ℕ → Run → List Worked
worked_by site state r =
    if is_worked (run_on site state r).returned
    then with_answers (panels (panel site state) (map entry_of (entries r.journal))) (entries r.journal) (answers_in (run_on site state r).answers)
    else []

-- The entries of a list, with their answers.
unfoldable pub worked_in : List ℕ → List ℕ → List Run → List Worked
worked_in site state [] = []
worked_in site state (r ∷ rs) = worked_by site state r ++ worked_in site (run_on site state r).state rs

-- What the theorems read of an answer.
abbrev pub event_in : List ℕ → ℕ
event_in answer = field 0 2 answer

-- "3 refusal".
abbrev pub refusal_in : List ℕ → ℕ
refusal_in answer = field 3 1 answer

-- "8 credential or NONE".
abbrev pub credential_in : List ℕ → ℕ
credential_in answer = field 8 4 answer

-- A list of runs from fresh: `buffer` is what the state's buffer held before the call that made it fresh.
pub record History : Type 0 where
  pub site : List ℕ
  pub buffer : List ℕ
  pub accepted : (fresh_state site buffer).returned ≡ Ok tt
  pub runs : List Run

-- The fresh state that the list starts from.
unfoldable pub begun : History → List ℕ
begun h = (fresh_state h.site h.buffer).state

-- The state that the list leaves.
unfoldable pub ended : History → List ℕ
ended h = state_after h.site (begun h) h.runs

-- The list's entries, with their answers.
unfoldable pub worked : History → List Worked
worked h = worked_in h.site (begun h) h.runs

-- The first i entries of a run, with the room for their answers: the state that it leaves is the state that entry i finds.
unfoldable pub first_of : ℕ → Run → Run
first_of i r = record { journal = take (i * entry_size) r.journal; answers = take (i * answer_size) r.answers }
