-- Document 02, job 8: "From every well-formed longer state, run as until now, and from the shorter one of the same kept records". The longer state, with a
-- record for every site record, and the two calls between it and the shorter one. What differs is here: the pairs, fresh, well formed, the length.
use Rattle.std.specs.Prelude.{ℕ, Bool, not, eqb, length, if◌then◌else◌, Ok, Err}
use mathlib.Core.List.{List, [], ◌∷◌, map, flatten}
use Rattle.model.specs.Words.{keep, all, zeros}
use Rattle.model.specs.Numbers.{record_size}
use Rattle.model.specs.Site.{records}
use Rattle.model.specs.Accept.{clear}
use Rattle.model.specs.State.{Pair, Panel, kept, paired, panel, state_of, fresh_record, record_well, well_formed}
use Rattle.model.specs.Calls.{Returned, is_worked, check_site, fresh_returned, StateResult, state_result, RunResult, journal_returned, run_at}
use Rattle.model.specs.Lists.{Run}
use Rattle.model.specs.declared.Refusal.TheVariants.{StateLength, StateForm}

-- "one of 32 bytes per site record".
unfoldable pub long_panel : List ℕ → List ℕ → Panel
long_panel site long = paired (λ s. record_size) (records site) long

-- "Rule, factor: zero."
unfoldable pub long_fresh_record : List ℕ → List ℕ
long_fresh_record s = if kept s then fresh_record s else zeros record_size

-- The fresh longer state of a site.
unfoldable pub long_fresh : List ℕ → List ℕ
long_fresh site = flatten (map long_fresh_record (records site))

-- "Rule, factor: zero": so they are well formed.
unfoldable pub long_record_well : List (List ℕ) → Pair → Bool
long_record_well ss x = if kept x.0 then record_well ss x else clear 0 record_size x.1

-- "Well formed": every state record is.
unfoldable pub long_well_formed : List ℕ → List ℕ → Bool
long_well_formed site long = all (long_record_well (records site)) (long_panel site long)

-- "5 state not as long as the site; 6 state not well formed", after refusals 1 to 4.
unfoldable pub check_long_state : List ℕ → List ℕ → Returned
check_long_state site long =
    if not (is_worked (check_site site)) then check_site site else
    if not (eqb (length long) (length site)) then Err StateLength else
    if not (long_well_formed site long) then Err StateForm else
    Ok tt

-- "run as until now".
unfoldable pub long_run_on : List ℕ → List ℕ → Run → RunResult
long_run_on site long r =
    run_at (journal_returned (check_long_state site long) r.journal r.answers) (long_panel site long) long r.journal r.answers

-- What each run of a list gives, each on the state that the last one left.
unfoldable pub long_results : List ℕ → List ℕ → List Run → List RunResult
long_results site long [] = []
long_results site long (r ∷ rs) = long_run_on site long r ∷ long_results site (long_run_on site long r).state rs

-- ── between the two

-- "the shorter one of the same kept records".
unfoldable pub shorter : List ℕ → List ℕ → List ℕ
shorter site long = state_of (keep (λ (x : Pair). kept x.0) (long_panel site long))

-- The state record that a pair has in the longer state.
unfoldable pub long_record : Pair → List ℕ
long_record x = if kept x.0 then x.1 else zeros record_size

-- The longer one of a state.
unfoldable pub longer : List ℕ → List ℕ → List ℕ
longer site state = flatten (map long_record (panel site state))

-- What a run gives, with the shorter one of the state that it leaves.
unfoldable pub with_shorter : List ℕ → RunResult → RunResult
with_shorter site x = record { returned = x.returned; state = shorter site x.state; answers = x.answers }

-- ── the two calls that bring a state across

-- Refusals 1 to 6 in their order, 5 for either length; `well` is whether the state that is brought across is well formed.
abbrev pub across_returned : List ℕ → List ℕ → List ℕ → Bool → Returned
across_returned site state long well =
    if not (is_worked (fresh_returned site state)) then fresh_returned site state else
    if not (eqb (length long) (length site)) then Err StateLength else
    if not well then Err StateForm else
    Ok tt

-- From the longer to the shorter state; turned back, the shorter one as it was.
unfoldable pub shorten_returned : List ℕ → List ℕ → List ℕ → Returned
shorten_returned site long state = across_returned site state long (long_well_formed site long)

unfoldable pub shorten_state : List ℕ → List ℕ → List ℕ → StateResult
shorten_state site long state =
    state_result (shorten_returned site long state) (if is_worked (shorten_returned site long state) then shorter site long else state)

-- And back; turned back, the longer one as it was.
unfoldable pub lengthen_returned : List ℕ → List ℕ → List ℕ → Returned
lengthen_returned site state long = across_returned site state long (well_formed site state)

unfoldable pub lengthen_state : List ℕ → List ℕ → List ℕ → StateResult
lengthen_state site state long =
    state_result (lengthen_returned site state long) (if is_worked (lengthen_returned site state long) then longer site state else long)
