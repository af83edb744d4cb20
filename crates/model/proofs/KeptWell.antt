-- A panel never turns back its own state: it is well formed after every list of runs from fresh, and no run returns 6.
use Rattle.std.specs.Prelude.{if◌then◌else◌, Ok, Err}
use Prim.Native.Nat.{ℕ, ◌*◌, ◌/◌, ◌%◌}
use mathlib.Core.Path.{◌≡◌, refl, ap₂}
use mathlib.Core.List.{List, [], ◌∷◌, ◌++◌, map}
use mathlib.Core.Bool.{Bool, true, false, not, ◌&&◌, ◌||◌}
use lib.Dec.{ltb, eqb}
use lib.ListN.{length}
use borrow.Author.Tests.{eq-eqb, not-false}
use Rattle.model.specs.Words.{all}
use Rattle.model.specs.Numbers as n
use Rattle.model.specs.Site.{records}
use Rattle.model.specs.State.{panel, state_length, fresh, well_formed}
use Rattle.model.specs.Entry.{entry_of}
use Rattle.model.specs.Calls.{Returned, is_worked, check_site, fresh_returned, fresh_state, check_state, run_returned, run_journal}
use Rattle.model.specs.Lists.{Run, run_on, state_after, returns, History, begun, ended}
use Rattle.model.specs.Demands.{returns_other, WellFormed}
use Rattle.model.proofs.Open.{definitions}
use Rattle.model.proofs.Flat.{sites_panel, panel_fresh, length_fresh}
use Rattle.model.proofs.Runs.{passed_check, site_accepted, worked_through, site_worked, entries_by, entries_in, run_panel, run_length, begun_fresh}
use Rattle.model.proofs.Entries.{lengths, first_passed}
use Rattle.model.proofs.Well.{well_fresh}
use Rattle.model.proofs.WellStep.{well_after}
use Rattle.model.specs.declared.Refusal.TheVariants.{StateForm, JournalLength, AnswersLength}

-- What a run on a well-formed state of an accepted site returns: its journal and its answers alone decide, as on the empty site.
abbrev pub run_returns : Run → Returned
run_returns r = (run_on [] [] r).returned

-- The entries that the runs of a list work there.
abbrev pub run_entries : List Run → List (List ℕ)
run_entries [] = []
run_entries (r ∷ rs) = entries_by [] [] r ++ run_entries rs

-- A state that a run takes: its site is accepted, and it is as long as its states are and well formed.
pub record Taken (site state : List ℕ) : Type 0 where
  pub site_accepts : check_site site ≡ Ok tt
  pub as_long : length state ≡ state_length site
  pub well : well_formed site state ≡ true

pub state_taken : (site state : List ℕ) → check_state site state ≡ Ok tt → Taken site state
unfolding check_state is_worked
state_taken site state h =
    let f = first_passed (fresh_returned site state) _ h in
    record {
      site_accepts = site_worked site state (worked_through (fresh_returned site state) f.0);
      as_long = (lengths site state f.0).1;
      well = not-false _ (passed_check (not (well_formed site state)) (Err StateForm) (Ok tt) refl f.1).0;
    }

pub taken_state : (site state : List ℕ) → Taken site state → check_state site state ≡ Ok tt
unfolding check_state fresh_returned is_worked
taken_state site state t = rw (t.site_accepts, t.as_long, eq-eqb (state_length site) (state_length site) refl, t.well)

-- The empty site has such a state.
empty_taken : check_state [] [] ≡ Ok tt
unfolding definitions
empty_taken = refl

module _ (site state : List ℕ) (t : Taken site state) (r : Run) where
  pub run_returned_law : (run_on site state r).returned ≡ run_returns r
  unfolding run_on run_journal run_returned is_worked
  run_returned_law = rw (taken_state site state t, empty_taken)

  -- It leaves such a state.
  pub run_taken : Taken site (run_on site state r).state
  unfolding well_formed
  run_taken =
      let a = site_accepted site t.site_accepts in
      record {
        site_accepts = t.site_accepts;
        as_long = run_length site state r t.as_long;
        well =
            rw (run_panel site state r t.as_long)
            (well_after (records site) a.names_all_exist (map entry_of (entries_by site state r)) (panel site state) (sites_panel site state) t.well);
      }

-- A list of runs on such a state: it leaves one, and what the runs return and which entries they work, each run's journal and answers decide.
pub record WellRun (site state : List ℕ) (rs : List Run) : Type 0 where
  pub left : Taken site (state_after site state rs)
  pub returned : returns site state rs ≡ map run_returns rs
  pub entered : entries_in site state rs ≡ run_entries rs

pub list_well : (site : List ℕ) (rs : List Run) (state : List ℕ) → Taken site state → WellRun site state rs
unfolding state_after returns entries_by entries_in
list_well site [] state t = record { left = t; returned = refl; entered = refl }
list_well site (r ∷ rs) state t =
    let first = run_returned_law site state t r in
    let rest = list_well site rs (run_on site state r).state (run_taken site state t r) in
    record { left = rest.left; returned = ap₂ ◌∷◌ first rest.returned; entered = rw (first, rest.entered) }

-- None of them returns 6.
none_state_form : (rs : List Run) → all (returns_other (Err StateForm)) (map run_returns rs) ≡ true
unfolding run_on run_journal run_returned is_worked
none_state_form [] = refl
none_state_form (r ∷ rs) =
    rw (none_state_form rs, empty_taken)
    (go (not (eqb (length r.journal % n.entry_size) 0) || ltb n.largest_journal (length r.journal))
    (not (eqb (length r.answers) (length r.journal / n.entry_size * n.answer_size))))
  where
    go : (a b : Bool) → returns_other (Err StateForm) (if a then Err JournalLength else if b then Err AnswersLength else Ok tt) && true ≡ true
    go true b = refl
    go false true = refl
    go false false = refl

-- Fresh is such a state of every accepted site.
pub fresh_taken : (site : List ℕ) → check_site site ≡ Ok tt → Taken site (fresh site)
unfolding well_formed
fresh_taken site accept =
    let a = site_accepted site accept in
    record {
      site_accepts = accept;
      as_long = length_fresh site;
      well = rw (panel_fresh site) (well_fresh (records site) (records site) a.fields_in_range);
    }

-- A list of runs from fresh starts with such a state.
pub begun_taken : (h : History) → Taken h.site (begun h)
unfolding fresh_state
begun_taken h = rw (begun_fresh h) (fresh_taken h.site (site_worked h.site h.buffer h.accepted))

pub from_fresh_law : (h : History) → WellRun h.site (begun h) h.runs
from_fresh_law h = list_well h.site h.runs (begun h) (begun_taken h)

-- After every list of runs from fresh the state is well formed, and no run of the list returned 6.
pub well_formed_law : WellFormed
unfolding WellFormed ended
well_formed_law h = ((from_fresh_law h).left.well, rw (from_fresh_law h).returned (none_state_form h.runs))
