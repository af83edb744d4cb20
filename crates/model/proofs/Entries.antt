-- The i-th entry of a run that is worked: the state that it finds, and its answer.
use Rattle.std.specs.Prelude.{if◌then◌else◌, Ok, Err}
use Prim.Native.Nat.{ℕ, zero, suc, ◌+◌, ◌*◌, ◌/◌, ◌%◌, ◌≤◌, ◌<◌}
use native.Mathlib.Omega.{arith}
use native.Mathlib.Nat.{zero-add, suc-add, suc-mul, add_comm}
use mathlib.Core.Path.{◌≡◌, refl, sym, ◌∙◌, ap}
use mathlib.Core.List.{List, [], ◌∷◌, map}
use mathlib.Core.Bool.{Bool, true, false, not, ◌||◌}
use lib.Dec.{ltb, eqb}
use lib.ListN.{length, take, drop, get_or, length-map, get_or-map}
use lib.Seq.{length-take-le, take-take, take-nil}
use borrow.Author.Tests.{eqb-true, eq-eqb, ltb-false, le-ltb, not-false}
use Rattle.octets.specs.Octets.{groups}
use Rattle.octets.proofs.GroupLaws.{length_groups}
use Rattle.model.specs.State.{Panel, panel, state_length, state_of, well_formed}
use Rattle.model.specs.Entry.{entry_of, entries, answer_bytes}
use Rattle.model.specs.Step.{apply, entry_outcome, after, answers}
use Rattle.model.specs.Calls.{Returned, is_worked, fresh_returned, check_state, run_returned, run_journal}
use Rattle.model.specs.Lists.{Run, run_on, answers_in, first_of}
use Rattle.model.proofs.Laws.{or_left, or_right}
use Rattle.model.proofs.Runs.{passed_check, worked_through, site_accepted, site_worked, answers_back}
use Rattle.model.specs.declared.Entry.{Entry}
use Rattle.model.specs.declared.Refusal.TheVariants.{StateLength, StateForm, JournalLength, AnswersLength}

-- ── what a worked run passed

-- A site of whole records, and a state as long as its states are.
pub lengths : (site state : List ℕ) → is_worked (fresh_returned site state) ≡ true → (length site % 32 ≡ 0) × (length state ≡ state_length site)
unfolding fresh_returned is_worked
lengths site state w =
    let f = worked_through (fresh_returned site state) w in
    let s = site_worked site state f in
    let p = passed_check (not (eqb (length state) (state_length site))) (Err StateLength) (Ok tt) refl (rw s at f) in
    ((site_accepted site s).whole_records, eqb-true (length state) (state_length site) (not-false _ p.0))

pub record RunAccepted (site state : List ℕ) (r : Run) : Type 0 where
  pub fresh_worked : is_worked (fresh_returned site state) ≡ true
  pub well : well_formed site state ≡ true
  pub whole_entries : length r.journal % 24 ≡ 0
  pub not_long : length r.journal ≤ 65520
  pub answers_length : length r.answers ≡ length r.journal / 24 * 16

-- A check that is made first hands on what it returns.
pub first_passed : (first next : Returned) → (if not (is_worked first) then first else next) ≡ Ok tt → (is_worked first ≡ true) × (next ≡ Ok tt)
unfolding is_worked
first_passed first next h = go (is_worked first) refl h
  where
    go : (c : Bool) → is_worked first ≡ c → (if not c then first else next) ≡ Ok tt → (is_worked first ≡ true) × (next ≡ Ok tt)
    go true w h = (w, h)
    go false w h = let z : true ≡ false = rw h at w in (cc, cc)

pub run_accepted : (site state : List ℕ) (r : Run) → is_worked (run_on site state r).returned ≡ true → RunAccepted site state r
unfolding run_on run_journal run_returned check_state is_worked
run_accepted site state r w =
    let s = first_passed (check_state site state) _ (worked_through (run_returned site state r.journal r.answers) w) in
    let f = first_passed (fresh_returned site state) _ (worked_through (check_state site state) s.0) in
    let g = passed_check (not (well_formed site state)) (Err StateForm) _ refl f.1 in
    let j = passed_check (not (eqb (length r.journal % 24) 0) || ltb 65520 (length r.journal)) (Err JournalLength) _ refl s.1 in
    let a = passed_check (not (eqb (length r.answers) (length r.journal / 24 * 16))) (Err AnswersLength) _ refl j.1 in
    record {
      fresh_worked = f.0;
      well = not-false (well_formed site state) g.0;
      whole_entries = eqb-true (length r.journal % 24) 0 (not-false _ (or_left (not (eqb (length r.journal % 24) 0)) _ j.0));
      not_long = ltb-false 65520 (length r.journal) (or_right (not (eqb (length r.journal % 24) 0)) (ltb 65520 (length r.journal)) j.0);
      answers_length = eqb-true (length r.answers) (length r.journal / 24 * 16) (not-false _ a.0);
    }

-- And what passes these is worked.
pub accepted_run : (site state : List ℕ) (r : Run) → RunAccepted site state r → is_worked (run_on site state r).returned ≡ true
unfolding run_on run_journal run_returned check_state is_worked
accepted_run site state r a =
    rw (a.fresh_worked, a.well, a.whole_entries, le-ltb 65520 (length r.journal) a.not_long, eq-eqb (length r.answers) (length r.journal / 24 * 16) a.answers_length)

-- ── the first i entries

-- The groups of a list that is cut behind its i-th group.
groups_first : (size i n : ℕ) (s : List ℕ) → i ≤ n → groups size i (take (i * size) s) ≡ take i (groups size n s)
unfolding groups
groups_first size zero n s h = refl
groups_first size (suc i) zero s h = absurd (omega arith)
groups_first size (suc i) (suc n) s h =
    let m : suc i * size ≡ size + i * size = suc-mul i size ∙ add_comm (i * size) size in
    let t : take size (take (suc i * size) s) ≡ take size s = take-take size (suc i * size) s (rw m (omega arith)) in
    let d : drop size (take (suc i * size) s) ≡ take (i * size) (drop size s) = rw m (drop_take size (i * size) s) in
    rw (t, d) (ap (λ gs. take size s ∷ gs) (groups_first size i n (drop size s) (omega arith)))
  where
    drop_take : (k m : ℕ) (l : List ℕ) → drop k (take (k + m) l) ≡ take m (drop k l)
    drop_take zero m l = rw (zero-add m)
    drop_take (suc k) m [] = rw suc-add (sym (take-nil m))
    drop_take (suc k) m (x ∷ l) = rw suc-add (drop_take k m l)

-- The i-th answer is that of the i-th entry at the panel that the entries before it leave.
answers_at : (i : ℕ) (es : List Entry) (ps : Panel) → i < length es →
    get_or (map answer_bytes (answers ps es)) i [] ≡ answer_bytes (entry_outcome (after ps (take i es)) (get_or es i (entry_of []))).answer
unfolding after answers
answers_at i [] ps h = absurd (omega arith)
answers_at zero (e ∷ es) ps h = refl
answers_at (suc i) (e ∷ es) ps h = answers_at i es (apply (entry_outcome ps e) ps) (omega arith)

module _ (site state : List ℕ) (r : Run) (w : is_worked (run_on site state r).returned ≡ true) where
  pub length_entries : length (entries r.journal) ≡ length r.journal / 24
  unfolding entries
  length_entries = length_groups 24 (length r.journal / 24) r.journal

  -- They are a run that is worked.
  first_worked : (i : ℕ) → i ≤ length r.journal / 24 → is_worked (run_on site state (first_of i r)).returned ≡ true
  unfolding first_of
  first_worked i h =
      let a = run_accepted site state r w in
      let l = a.whole_entries in
      let m = a.answers_length in
      let b = a.not_long in
      let j : length (take (i * 24) r.journal) ≡ i * 24 = length-take-le (i * 24) r.journal (omega arith) in
      let k : length (take (i * 16) r.answers) ≡ i * 16 = length-take-le (i * 16) r.answers (omega arith) in
      accepted_run site state (first_of i r)
      (record {
        fresh_worked = a.fresh_worked;
        well = a.well;
        whole_entries = rw j (omega arith);
        not_long = rw j (omega arith);
        answers_length = rw (j, k) (omega arith);
      })

  first_entries : (i : ℕ) → i ≤ length r.journal / 24 → entries (first_of i r).journal ≡ take i (entries r.journal)
  unfolding first_of entries
  first_entries i h =
      let j : length (take (i * 24) r.journal) ≡ i * 24 = length-take-le (i * 24) r.journal (omega arith) in
      let n : length (take (i * 24) r.journal) / 24 ≡ i = rw j (omega arith) in
      rw n (groups_first 24 i (length r.journal / 24) r.journal h)

  -- The state that the i-th entry finds.
  pub state_at : (i : ℕ) → i ≤ length r.journal / 24 → (run_on site state (first_of i r)).state ≡ state_of (after (panel site state) (take i (map entry_of (entries r.journal))))
  unfolding run_on run_journal
  state_at i h =
      rw (first_worked i h, first_entries i h) (ap (λ fs. state_of (after (panel site state) fs)) (map_take entry_of i (entries r.journal)))
    where
      map_take : (f : List ℕ → Entry) (i : ℕ) (l : List (List ℕ)) → map f (take i l) ≡ take i (map f l)
      map_take f zero l = refl
      map_take f (suc i) [] = refl
      map_take f (suc i) (x ∷ l) = ap (λ fs. f x ∷ fs) (map_take f i l)

  -- Its answer.
  pub answer_at : (i : ℕ) → i < length r.journal / 24 →
      get_or (answers_in (run_on site state r).answers) i []
      ≡ answer_bytes (entry_outcome (after (panel site state) (take i (map entry_of (entries r.journal)))) (entry_of (get_or (entries r.journal) i []))).answer
  unfolding run_on run_journal
  answer_at i h =
      let n : length (map entry_of (entries r.journal)) ≡ length r.journal / 24 = length-map (entries r.journal) entry_of ∙ length_entries in
      rw (w, answers_back (answers (panel site state) (map entry_of (entries r.journal))))
      (answers_at i (map entry_of (entries r.journal)) (panel site state) (omega (arith, n))
      ∙ ap (λ e. answer_bytes (entry_outcome (after (panel site state) (take i (map entry_of (entries r.journal)))) e).answer) (get_or-map entry_of (entries r.journal) i []))
