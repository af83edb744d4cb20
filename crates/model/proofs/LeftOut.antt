-- A list with every entry outside a self-contained part left out: the part's entries get the same answers, its records the same state.
use Rattle.std.specs.Prelude.{if◌then◌else◌, Option, Some, None}
use Prim.Native.Nat.{ℕ, ◌*◌, ◌/◌}
use native.Mathlib.Omega.{arith}
use mathlib.Core.Path.{◌≡◌, refl, sym, ◌∙◌, ap, ap₂}
use mathlib.Core.List.{List, [], ◌∷◌, map}
use mathlib.Core.Bool.{Bool, true, false, not, ◌||◌, or-true}
use lib.Dec.{eqb}
use lib.ListN.{length}
use lib.Seq.{length-take-le}
use Rattle.model.specs.Words.{keep, all, missing}
use Rattle.model.specs.Numbers as n
use Rattle.model.specs.Site.{records}
use Rattle.model.specs.State.{Pair, Panel, sites, find}
use Rattle.model.specs.Entry.{entry_of, entries, operation_of, object_kind, in_form}
use Rattle.model.specs.Checks.{relinquished, still_locked, waiting}
use Rattle.model.specs.Step.{unchanged, refuse, situation_of, worked_outcome, outcome_as, entry_outcome, apply, panels, answers}
use Rattle.model.specs.Calls.{is_worked}
use Rattle.model.specs.Lists.{Run, Worked, returns, History, begun, worked}
use Rattle.model.specs.Part.{Part, holds, belongs, identifies, read_inside_as, read_inside, SelfContained, part_records, part_worked, part_entries, part_answers, part_journal, part_run, part_runs, others_left_out}
use Rattle.model.specs.Demands.{Isolation, OthersLeftOut}
use Rattle.model.specs.declared.Entry.{Entry}
use Rattle.model.specs.declared.Operation.{Operation}
use Rattle.model.specs.declared.Operation.TheVariants.{Factor, SetCount, AdjustCount, SetDisable, SetService}
use Rattle.model.proofs.Laws.{and_left, and_right, keep_append, length_keep, only, sites_apply}
use Rattle.model.proofs.Flat.{Sized, length_flatten, groups_flatten, groups_sized, fresh_panel}
use Rattle.model.proofs.Runs.{worked_through, entries_by, worked_at, all_entries, worked_list}
use Rattle.model.proofs.Entries.{run_accepted, accepted_run, length_entries}
use Rattle.model.proofs.Border.{pair_inside, answered_inside_as, answered_inside, worked_inside}
use Rattle.model.proofs.Isolated.{find_part}
use Rattle.model.proofs.Isolation.{answered, fresh_inside, entry_inside_law, inside_after, part_in, part_out, isolation}
use Rattle.model.proofs.KeptWell.{run_returns, run_entries, Taken, run_returned_law, run_taken, begun_taken, from_fresh_law}

-- ── what a test keeps of a list

module _ {A : Type 0} (q : A → Bool) where
  -- What all pass, those that are kept pass.
  all_keep : (t : A → Bool) (xs : List A) → all t xs ≡ true → all t (keep q xs) ≡ true
  all_keep t [] a = refl
  all_keep t (x ∷ xs) a = go (q x) (all_keep t xs (and_right (t x) (all t xs) a))
    where
      go : (c : Bool) → all t (keep q xs) ≡ true → all t (if c then x ∷ keep q xs else keep q xs) ≡ true
      go true ih = rw (and_left (t x) (all t xs) a, ih)
      go false ih = ih

-- ── entries with their answers

-- Their entries.
abbrev worked_entries : List Worked → List (List ℕ)
worked_entries ws = map (λ (w : Worked). w.entry) ws

-- The entries that are worked at a panel, and in a list of runs from fresh.
entries_at : (bs : List (List ℕ)) (ps : Panel) → worked_entries (worked_at ps bs) ≡ bs
unfolding worked_at panels answers
entries_at [] ps = refl
entries_at (b ∷ bs) ps = ap (λ cs. b ∷ cs) (entries_at bs (apply (entry_outcome ps (entry_of b)) ps))

entries_worked : (h : History) → worked_entries (worked h) ≡ all_entries h
entries_worked h = rw (worked_list h) (entries_at (all_entries h) _)

module _ (P : Part) where
  -- An entry of the part.
  abbrev of_part : List ℕ → Bool
  of_part b = belongs P (entry_of b)

  -- The same of an entry with its answer.
  abbrev worked_of_part : Worked → Bool
  worked_of_part w = of_part w.entry

  -- The entries of the part.
  entries_kept : (ws : List Worked) → worked_entries (keep worked_of_part ws) ≡ keep of_part (worked_entries ws)
  entries_kept [] = refl
  entries_kept (w ∷ ws) = rw (← entries_kept ws) (go (worked_of_part w))
    where
      go : (c : Bool) →
          worked_entries (if c then w ∷ keep worked_of_part ws else keep worked_of_part ws)
          ≡ (if c then w.entry ∷ worked_entries (keep worked_of_part ws) else worked_entries (keep worked_of_part ws))
      go true = refl
      go false = refl

  -- Where the part's entries alone are worked, all that are worked are the part's.
  worked_kept : (bs : List (List ℕ)) (ps : Panel) → keep worked_of_part (worked_at ps (keep of_part bs)) ≡ worked_at ps (keep of_part bs)
  unfolding worked_at panels answers
  worked_kept [] ps = refl
  worked_kept (b ∷ bs) ps = go (of_part b) refl (worked_kept bs)
    where
      go : (c : Bool) → of_part b ≡ c → ((os : Panel) → keep worked_of_part (worked_at os (keep of_part bs)) ≡ worked_at os (keep of_part bs)) →
          keep worked_of_part (worked_at ps (if c then b ∷ keep of_part bs else keep of_part bs)) ≡ worked_at ps (if c then b ∷ keep of_part bs else keep of_part bs)
      go true m ih = rw (m, ih (apply (entry_outcome ps (entry_of b)) ps))
      go false m ih = ih ps

  -- ── a run that is worked through, with the part's entries alone

  module _ (r : Run) (w : is_worked (run_returns r) ≡ true) where
    -- They have 24 bytes each.
    kept_sized : Sized n.entry_size (keep of_part (entries r.journal)) ≡ true
    unfolding entries
    kept_sized =
        let l = (run_accepted [] [] r w).whole_entries in
        all_keep of_part (λ b. eqb (length b) n.entry_size) (entries r.journal)
        (groups_sized n.entry_size (length r.journal / n.entry_size) r.journal (omega arith))

    -- So many make the journal.
    kept_length : length (part_journal P r.journal) ≡ length (keep of_part (entries r.journal)) * n.entry_size
    unfolding part_journal
    kept_length = length_flatten n.entry_size (keep of_part (entries r.journal)) kept_sized

    -- They are the journal's entries.
    kept_entries : entries (part_journal P r.journal) ≡ keep of_part (entries r.journal)
    unfolding entries part_journal
    kept_entries =
        let m : length (part_journal P r.journal) / n.entry_size ≡ length (keep of_part (entries r.journal)) = omega (arith, kept_length) in
        rw m (groups_flatten n.entry_size (keep of_part (entries r.journal)) kept_sized)

    -- The run is worked through.
    kept_worked : is_worked (run_returns (part_run P r)) ≡ true
    unfolding part_run
    kept_worked =
        let a = run_accepted [] [] r w in
        let k = length_keep of_part (entries r.journal) in
        let c = length_entries [] [] r w in
        let j = kept_length in
        accepted_run [] [] (part_run P r)
        (record {
          fresh_worked = a.fresh_worked;
          well = a.well;
          whole_entries = omega arith;
          not_long = omega arith;
          answers_length = length-take-le (length (part_journal P r.journal) / n.entry_size * n.answer_size) r.answers (omega arith);
        })

  -- ── a list of runs

  -- The runs gs return what the runs rs do, and work the part's entries of theirs.
  record Kept (rs gs : List Run) : Type 0 where
    same_returns : map run_returns gs ≡ map run_returns rs
    same_entries : run_entries gs ≡ keep of_part (run_entries rs)

  runs_kept : (site : List ℕ) (rs : List Run) (state : List ℕ) → Taken site state → Kept rs (part_runs P site state rs)
  unfolding part_runs entries_by part_run
  runs_kept site [] state t = record { same_returns = refl; same_entries = refl }
  runs_kept site (r ∷ rs) state t =
      rw (run_returned_law site state t r) (go (is_worked (run_returns r)) refl (runs_kept site rs _ (run_taken site state t r)))
    where
      go : (c : Bool) → is_worked (run_returns r) ≡ c → {gs : List Run} → Kept rs gs → Kept (r ∷ rs) ((if c then part_run P r else r) ∷ gs)
      go true w k =
          record {
            same_returns = ap₂ ◌∷◌ (worked_through _ (kept_worked r w) ∙ sym (worked_through _ w)) k.same_returns;
            same_entries = rw (keep_append of_part (entries_by [] [] r) (run_entries rs), k.same_entries, kept_worked r w, w, kept_entries r w);
          }
      go false w k = record { same_returns = ap (λ ys. run_returns r ∷ ys) k.same_returns; same_entries = rw (w, k.same_entries) }

  -- ── the premise on reads

  -- Two panels of one site have the same records of the part, and all records of both are inside.
  record SamePart (ps qs : Panel) : Type 0 where
    same_sites : sites ps ≡ sites qs
    same_records : only (holds P) ps ≡ only (holds P) qs
    first_inside : all (pair_inside P) ps ≡ true
    second_inside : all (pair_inside P) qs ≡ true

  -- The premise looks at the site and the records of the entry's object alone.
  read_same : (o : Option Operation) (ps qs : Panel) (e : Entry) (x : Pair) → sites ps ≡ sites qs → read_inside_as o P ps e x ≡ read_inside_as o P qs e x
  unfolding identifies situation_of still_locked relinquished waiting
  read_same (Some Factor) ps qs e x s = rw s
  read_same (Some SetCount) ps qs e x s = refl
  read_same (Some AdjustCount) ps qs e x s = refl
  read_same (Some SetDisable) ps qs e x s = refl
  read_same (Some SetService) ps qs e x s = refl
  read_same None ps qs e x s = refl

  -- So it does where it is asked of entries that are not refused.
  answered_as : (o : Option Operation) (ps qs : Panel) (e : Entry) (x : Pair) → sites ps ≡ sites qs → answered_inside_as P o ps e x ≡ true →
      answered_inside_as P o qs e x ≡ true
  unfolding answered_inside_as outcome_as refuse unchanged
  answered_as o ps qs e x s g = go (in_form o e) (missing x.0) refl refl
    where
      go : (c d : Bool) → in_form o e ≡ c → missing x.0 ≡ d →
          not (eqb (if not c then refuse n.refused_form else if d then refuse n.refused_no_object else worked_outcome o qs e x).answer.refusal n.not_refused)
          || read_inside_as o P qs e x ≡ true
      go false d f m = refl
      go true true f m = refl
      go true false f m = rw (sym (read_same o ps qs e x s) ∙ worked_inside P o ps e x g f m, or-true)

  -- An entry of the part finds its object among the part's records.
  answered_same : (ps qs : Panel) (e : Entry) → SamePart ps qs → answered_inside P ps e ≡ true → belongs P e ≡ true → answered_inside P qs e ≡ true
  unfolding answered_inside belongs
  answered_same ps qs e h g m =
      let k = object_kind (operation_of e.operation) in
      let x = sym (find_part P k e.instance ps m) ∙ ap (find k e.instance) h.same_records ∙ find_part P k e.instance qs m in
      answered_as (operation_of e.operation) ps qs e _ h.same_sites (rw x at g)

  -- The panels after an entry of the part at both.
  same_in : (ps qs : Panel) (e : Entry) → SamePart ps qs → answered_inside P ps e ≡ true → belongs P e ≡ true →
      SamePart (apply (entry_outcome ps e) ps) (apply (entry_outcome qs e) qs)
  same_in ps qs e h g m =
      let f = answered_same ps qs e h g m in
      record {
        same_sites = sites_apply _ ps ∙ h.same_sites ∙ sym (sites_apply _ qs);
        same_records =
            part_in P ps e h.first_inside g m ∙ ap (λ os. apply (entry_outcome os e) os) h.same_records
            ∙ sym (part_in P qs e h.second_inside f m);
        first_inside = inside_after P ps e h.first_inside g;
        second_inside = inside_after P qs e h.second_inside f;
      }

  -- And after an entry outside the part at the first.
  same_out : (ps qs : Panel) (e : Entry) → SamePart ps qs → answered_inside P ps e ≡ true → belongs P e ≡ false →
      SamePart (apply (entry_outcome ps e) ps) qs
  same_out ps qs e h g m =
      record {
        same_sites = sites_apply _ ps ∙ h.same_sites;
        same_records = part_out P ps e h.first_inside g m ∙ h.same_records;
        first_inside = inside_after P ps e h.first_inside g;
        second_inside = h.second_inside;
      }

  -- The premise on a list of entries at the first panel gives that on the part's entries at the second.
  reads_kept : (bs : List (List ℕ)) (ps qs : Panel) → SamePart ps qs → all (read_inside P) (worked_at ps bs) ≡ true →
      all (read_inside P) (worked_at qs (keep of_part bs)) ≡ true
  unfolding worked_at panels answers
  reads_kept [] ps qs h g = refl
  reads_kept (b ∷ bs) ps qs h g =
      let now = sym (entry_inside_law P ps b) ∙ and_left (read_inside P (answered ps b)) _ g in
      let next = apply (entry_outcome ps (entry_of b)) ps in
      let later = and_right (read_inside P (answered ps b)) (all (read_inside P) (worked_at next bs)) g in
      go (of_part b) refl now (λ os s. reads_kept bs next os s later)
    where
      go : (c : Bool) → of_part b ≡ c → answered_inside P ps (entry_of b) ≡ true →
          ((os : Panel) → SamePart (apply (entry_outcome ps (entry_of b)) ps) os → all (read_inside P) (worked_at os (keep of_part bs)) ≡ true) →
          all (read_inside P) (worked_at qs (if c then b ∷ keep of_part bs else keep of_part bs)) ≡ true
      go true m now ih =
          rw (entry_inside_law P qs b ∙ answered_same ps qs (entry_of b) h now m, ih _ (same_in ps qs (entry_of b) h now m))
      go false m now ih = ih qs (same_out ps qs (entry_of b) h now m)

  -- ── a list of runs from fresh

  module _ (h : History) where
    -- The part's entries.
    part_entries_law : part_entries P h ≡ keep of_part (all_entries h)
    unfolding part_entries part_worked
    part_entries_law = entries_kept (worked h) ∙ ap (keep of_part) (entries_worked h)

    -- The runs of the list with all others left out return the same, and work these entries.
    left_runs : Kept h.runs (others_left_out P h).runs
    unfolding others_left_out
    left_runs = runs_kept h.site h.runs (begun h) (begun_taken h)

    left_returns : returns h.site (begun h) (others_left_out P h).runs ≡ returns h.site (begun h) h.runs
    unfolding begun others_left_out
    left_returns = (from_fresh_law (others_left_out P h)).returned ∙ left_runs.same_returns ∙ sym (from_fresh_law h).returned

    left_entries : all_entries (others_left_out P h) ≡ keep of_part (all_entries h)
    unfolding all_entries
    left_entries = (from_fresh_law (others_left_out P h)).entered ∙ left_runs.same_entries ∙ ap (keep of_part) (sym (from_fresh_law h).entered)

    -- All that it works are the part's.
    left_worked : part_worked P (others_left_out P h) ≡ worked (others_left_out P h)
    unfolding part_worked
    left_worked = rw (worked_list (others_left_out P h), left_entries) (worked_kept (all_entries h) _)

    -- It is self-contained.
    left_contained : SelfContained P h → SelfContained P (others_left_out P h)
    unfolding others_left_out
    left_contained c =
        let fresh = fresh_panel (records h.site) in
        let inside = fresh_inside P (records h.site) c.site in
        let same : SamePart fresh fresh = record { same_sites = refl; same_records = refl; first_inside = inside; second_inside = inside } in
        record {
          site = c.site;
          reads = rw (worked_list (others_left_out P h), left_entries) (reads_kept (all_entries h) fresh fresh same (rw (← worked_list h) c.reads));
        }

-- Both lists are self-contained with the same records and entries of the part, so isolation gives the answers and the state.
pub others_left_out_law : OthersLeftOut
unfolding OthersLeftOut Isolation part_records part_entries part_answers others_left_out
others_left_out_law P h c =
    let g = others_left_out P h in
    let e = entries_worked g ∙ left_entries P h ∙ sym (part_entries_law P h) in
    let i = isolation P g h (left_contained P h c) c refl (ap worked_entries (left_worked P h) ∙ e) in
    (e, ap (map (λ (w : Worked). w.answer)) (sym (left_worked P h)) ∙ i.0, i.1, left_returns P h)
