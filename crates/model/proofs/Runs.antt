-- A list of runs from fresh is one run of all its worked entries over the fresh panel.
use Rattle.std.specs.Prelude.{if◌then◌else◌, Ok, Err}
use Prim.Native.Nat.{ℕ, suc, ◌/◌, ◌%◌}
use native.Mathlib.Omega.{arith}
use mathlib.Core.Path.{◌≡◌, refl, sym, ◌∙◌, ap, ap₂}
use mathlib.Core.List.{List, [], ◌∷◌, ◌++◌, map, map-append, flatten}
use mathlib.Core.Bool.{Bool, true, false, not, ◌||◌}
use lib.Dec.{ltb, eqb}
use lib.ListN.{length}
use borrow.Author.Tests.{eqb-true, ne_eqb, ltb-true, not-true, not-false}
use Rattle.model.specs.Words.{all, missing}
use Rattle.model.specs.Numbers.{NONE}
use Rattle.model.specs.Site.{records, instance, is_at, find_in}
use Rattle.model.specs.Accept.{in_range, twice, exists, names_exist}
use Rattle.model.specs.State.{Panel, panel, state_length, state_of, fresh}
use Rattle.model.specs.Entry.{entry_of, entries, answer_bytes}
use Rattle.model.specs.Step.{apply, entry_outcome, panels, after, answers}
use Rattle.model.specs.Calls.{Returned, is_worked, check_site, fresh_returned, fresh_state, run_returned, run_journal}
use Rattle.model.specs.Lists.{Run, run_on, state_after, Worked, with_answers, answers_in, worked_by, worked_in, History, begun, ended, worked}
use Rattle.model.proofs.Laws.{and_left, or_left, instance_at, There, all_found_in, found_in}
use Rattle.model.proofs.RoundTrip.{length_answer}
use Rattle.model.proofs.Flat.{Sized, length_flatten, groups_flatten, panel_back, length_back, fresh_panel, sites_fresh, panel_fresh, length_fresh}
use Rattle.model.specs.declared.Entry.{Entry}
use Rattle.model.specs.declared.Answer.{Answer}
use Rattle.model.specs.declared.Refusal.TheVariants.{SiteLength, SiteField, SiteTwice, SiteMissing, StateLength, StateForm, JournalLength, AnswersLength}

-- ── what an accepted site holds

-- A chain of checks that comes to worked through passed its first check.
pub passed_check : (c : Bool) (x y : Returned) → is_worked x ≡ false → (if c then x else y) ≡ Ok tt → (c ≡ false) × (y ≡ Ok tt)
unfolding is_worked
passed_check true x y w h = let z : true ≡ false = rw h at w in (z, cc)
passed_check false x y w h = (refl, h)

pub record Accepted (site : List ℕ) : Type 0 where
  pub whole_records : length site % 32 ≡ 0
  pub fields_in_range : all in_range (records site) ≡ true
  pub not_twice : twice (records site) ≡ false
  pub names_all_exist : all (names_exist (records site)) (records site) ≡ true

pub site_accepted : (site : List ℕ) → check_site site ≡ Ok tt → Accepted site
unfolding check_site is_worked
site_accepted site h =
    let l = passed_check (not (eqb (length site % 32) 0) || ltb 64000 (length site)) (Err SiteLength) _ refl h in
    let r = passed_check (not (all in_range (records site))) (Err SiteField) _ refl l.1 in
    let t = passed_check (twice (records site)) (Err SiteTwice) _ refl r.1 in
    let m = passed_check (not (all (names_exist (records site)) (records site))) (Err SiteMissing) _ refl t.1 in
    record {
      whole_records = eqb-true (length site % 32) 0 (not-false _ (or_left (not (eqb (length site % 32) 0)) _ l.0));
      fields_in_range = not-false (all in_range (records site)) r.0;
      not_twice = t.0;
      names_all_exist = not-false (all (names_exist (records site)) (records site)) m.0;
    }

-- No object of it has the number NONE.
pub real_number : (k i : ℕ) (ss : List (List ℕ)) → all in_range ss ≡ true → missing (find_in (is_at k i) ss) ≡ false → eqb i NONE ≡ false
unfolding in_range
real_number k i ss a g =
    let s = find_in (is_at k i) ss in
    let numbered : instance s ≡ i = instance_at k i s (found_in (is_at k i) ss g) in
    let small : ltb i NONE ≡ true = rw numbered at (and_left (ltb (instance s) NONE) _ (all_found_in in_range (is_at k i) ss a g)) in
    ne_eqb i NONE (λ d. omega (arith, ltb-true i NONE small))

-- What is worked through returned no refusal.
pub worked_through : (r : Returned) → is_worked r ≡ true → r ≡ Ok tt
unfolding is_worked
worked_through (Ok tt) h = refl
worked_through (Err SiteLength) h = cc
worked_through (Err SiteField) h = cc
worked_through (Err SiteTwice) h = cc
worked_through (Err SiteMissing) h = cc
worked_through (Err StateLength) h = cc
worked_through (Err StateForm) h = cc
worked_through (Err JournalLength) h = cc
worked_through (Err AnswersLength) h = cc

pub site_worked : (site state : List ℕ) → fresh_returned site state ≡ Ok tt → check_site site ≡ Ok tt
unfolding fresh_returned
site_worked site state h = go (is_worked (check_site site)) refl h
  where
    go : (c : Bool) → is_worked (check_site site) ≡ c → (if not c then check_site site else if not (eqb (length state) (state_length site)) then Err StateLength else Ok tt) ≡ Ok tt →
        check_site site ≡ Ok tt
    go true w h = worked_through (check_site site) w
    go false w h = h

-- ── lists of entries, one after the other

pub after_append : (es fs : List Entry) (ps : Panel) → after ps (es ++ fs) ≡ after (after ps es) fs
unfolding after
after_append [] fs ps = refl
after_append (e ∷ es) fs ps = after_append es fs (apply (entry_outcome ps e) ps)

pub answers_append : (es fs : List Entry) (ps : Panel) → answers ps (es ++ fs) ≡ answers ps es ++ answers (after ps es) fs
unfolding after answers
answers_append [] fs ps = refl
answers_append (e ∷ es) fs ps = ap (λ rs. (entry_outcome ps e).answer ∷ rs) (answers_append es fs (apply (entry_outcome ps e) ps))

pub length_answers : (es : List Entry) (ps : Panel) → length (answers ps es) ≡ length es
unfolding answers
length_answers [] ps = refl
length_answers (e ∷ es) ps = ap suc (length_answers es (apply (entry_outcome ps e) ps))

-- ── the answers' buffer

pub answers_sized : (rs : List Answer) → Sized 16 (map answer_bytes rs) ≡ true
answers_sized [] = refl
answers_sized (r ∷ rs) = rw (length_answer r) (answers_sized rs)

pub answers_back : (rs : List Answer) → answers_in (flatten (map answer_bytes rs)) ≡ map answer_bytes rs
unfolding answers_in
answers_back rs =
    let n : length (flatten (map answer_bytes rs)) / 16 ≡ length (map answer_bytes rs) = omega (arith, length_flatten 16 (map answer_bytes rs) (answers_sized rs)) in
    rw n (groups_flatten 16 (map answer_bytes rs) (answers_sized rs))

-- ── one run

-- The entries that a run works.
unfoldable pub entries_by : List ℕ → List ℕ → Run → List (List ℕ)
entries_by site state r = if is_worked (run_on site state r).returned then entries r.journal else []

-- A list of entries at a panel, with the panels that they find and their answers.
unfoldable pub worked_at : Panel → List (List ℕ) → List Worked
worked_at ps es = with_answers (panels ps (map entry_of es)) es (map answer_bytes (answers ps (map entry_of es)))

module _ (site state : List ℕ) (r : Run) where
  -- A run that is worked leaves the state and the answers of its entries; one that is turned back leaves both as they were.
  run_state : (run_on site state r).state ≡ (if is_worked (run_on site state r).returned then state_of (after (panel site state) (map entry_of (entries r.journal))) else state)
  unfolding run_on run_journal
  run_state = refl

  run_worked : worked_by site state r ≡ worked_at (panel site state) (entries_by site state r)
  unfolding run_on run_journal worked_by entries_by worked_at
  run_worked = go (is_worked (run_returned site state r.journal r.answers))
    where
      es : List (List ℕ)
      es = entries r.journal

      go : (c : Bool) →
          (if c then with_answers (panels (panel site state) (map entry_of es)) es (answers_in (if c then flatten (map answer_bytes (answers (panel site state) (map entry_of es))) else r.answers)) else [])
          ≡ with_answers (panels (panel site state) (map entry_of (if c then es else []))) (if c then es else []) (map answer_bytes (answers (panel site state) (map entry_of (if c then es else []))))
      go true = rw (answers_back (answers (panel site state) (map entry_of es)))
      go false = unfold panels in refl

  module _ (same_length : length state ≡ state_length site) where
    pub run_panel : panel site (run_on site state r).state ≡ after (panel site state) (map entry_of (entries_by site state r))
    unfolding entries_by after
    run_panel = rw run_state (go (is_worked (run_on site state r).returned))
      where
        go : (c : Bool) → panel site (if c then state_of (after (panel site state) (map entry_of (entries r.journal))) else state)
            ≡ after (panel site state) (map entry_of (if c then entries r.journal else []))
        go true = panel_back site state same_length (map entry_of (entries r.journal))
        go false = refl

    pub run_length : length (run_on site state r).state ≡ state_length site
    run_length = rw run_state (go (is_worked (run_on site state r).returned))
      where
        go : (c : Bool) → length (if c then state_of (after (panel site state) (map entry_of (entries r.journal))) else state) ≡ state_length site
        go true = length_back site state same_length (map entry_of (entries r.journal))
        go false = same_length

-- ── a list of runs

unfoldable pub entries_in : List ℕ → List ℕ → List Run → List (List ℕ)
entries_in site state [] = []
entries_in site state (r ∷ rs) = entries_by site state r ++ entries_in site (run_on site state r).state rs

worked_append : (es fs : List (List ℕ)) (ps : Panel) → worked_at ps (es ++ fs) ≡ worked_at ps es ++ worked_at (after ps (map entry_of es)) fs
unfolding worked_at panels after answers
worked_append [] fs ps = refl
worked_append (e ∷ es) fs ps = ap (λ ws. record { found = ps; entry = e; answer = answer_bytes (entry_outcome ps (entry_of e)).answer } ∷ ws) (worked_append es fs (apply (entry_outcome ps (entry_of e)) ps))

module _ (site : List ℕ) where
  pub list_panel : (rs : List Run) (state : List ℕ) → length state ≡ state_length site →
      panel site (state_after site state rs) ≡ after (panel site state) (map entry_of (entries_in site state rs))
  unfolding state_after entries_in after
  list_panel [] state h = refl
  list_panel (r ∷ rs) state h =
      list_panel rs (run_on site state r).state (run_length site state r h)
      ∙ ap (λ ps. after ps (map entry_of (entries_in site (run_on site state r).state rs))) (run_panel site state r h)
      ∙ sym (after_append (map entry_of (entries_by site state r)) (map entry_of (entries_in site (run_on site state r).state rs)) (panel site state))
      ∙ ap (after (panel site state)) (sym (map-append entry_of (entries_by site state r) (entries_in site (run_on site state r).state rs)))

  pub list_worked : (rs : List Run) (state : List ℕ) → length state ≡ state_length site →
      worked_in site state rs ≡ worked_at (panel site state) (entries_in site state rs)
  unfolding worked_in entries_in
  list_worked [] state h = unfold worked_at panels in refl
  list_worked (r ∷ rs) state h =
      ap₂ ◌++◌ (run_worked site state r) (list_worked rs (run_on site state r).state (run_length site state r h))
      ∙ ap (λ ps. worked_at (panel site state) (entries_by site state r) ++ worked_at ps (entries_in site (run_on site state r).state rs)) (run_panel site state r h)
      ∙ sym (worked_append (entries_by site state r) (entries_in site (run_on site state r).state rs) (panel site state))

  pub list_length : (rs : List Run) (state : List ℕ) → length state ≡ state_length site → length (state_after site state rs) ≡ state_length site
  unfolding state_after
  list_length [] state h = h
  list_length (r ∷ rs) state h = list_length rs (run_on site state r).state (run_length site state r h)

-- ── a list of runs from fresh

pub accepted : (h : History) → Accepted h.site
unfolding fresh_state
accepted h = site_accepted h.site (site_worked h.site h.buffer h.accepted)

pub begun_fresh : (h : History) → begun h ≡ fresh h.site
unfolding begun fresh_state is_worked
begun_fresh h = rw h.accepted

pub begun_length : (h : History) → length (begun h) ≡ state_length h.site
begun_length h = rw (begun_fresh h) (length_fresh h.site)

pub begun_panel : (h : History) → panel h.site (begun h) ≡ fresh_panel (records h.site)
begun_panel h = rw (begun_fresh h) (panel_fresh h.site)

unfoldable pub all_entries : History → List (List ℕ)
all_entries h = entries_in h.site (begun h) h.runs

pub ended_length : (h : History) → length (ended h) ≡ state_length h.site
unfolding ended
ended_length h = list_length h.site h.runs (begun h) (begun_length h)

pub ended_panel : (h : History) → panel h.site (ended h) ≡ after (fresh_panel (records h.site)) (map entry_of (all_entries h))
unfolding ended all_entries
ended_panel h =
    list_panel h.site h.runs (begun h) (begun_length h)
    ∙ ap (λ ps. after ps (map entry_of (entries_in h.site (begun h) h.runs))) (begun_panel h)

pub worked_list : (h : History) → worked h ≡ worked_at (fresh_panel (records h.site)) (all_entries h)
unfolding worked all_entries
worked_list h =
    list_worked h.site h.runs (begun h) (begun_length h)
    ∙ ap (λ ps. worked_at ps (entries_in h.site (begun h) h.runs)) (begun_panel h)

-- An object of the site: its record, its number, its place in the fresh panel.
module _ (h : History) (k i : ℕ) (x : exists (records h.site) k i ≡ true) where
  pub object_found : missing (find_in (is_at k i) (records h.site)) ≡ false
  unfolding exists
  object_found = not-true (missing (find_in (is_at k i) (records h.site))) x

  pub object_real : eqb i NONE ≡ false
  object_real = real_number k i (records h.site) (accepted h).fields_in_range object_found

  pub object_there : There k i (fresh_panel (records h.site))
  object_there = rw (sites_fresh (records h.site)) object_found
