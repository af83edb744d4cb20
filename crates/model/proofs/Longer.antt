-- The longer state and the shorter one give each journal the same: `half_state`. Each well-formed state of one kind comes from one of the other, and so do
-- the fresh ones.
use Rattle.std.specs.Prelude.{if◌then◌else◌, Option, Some, None, Ok, Err}
use Prim.Native.Nat.{ℕ, ◌*◌, ◌/◌, ◌%◌, ◌≤◌}
use native.Mathlib.Omega.{arith}
use mathlib.Core.Path.{◌≡◌, refl, sym, ◌∙◌, ap, ap₂}
use mathlib.Core.List.{List, [], ◌∷◌, ◌++◌, map, map-map, flatten}
use mathlib.Core.Bool.{Bool, true, false, not, ◌||◌}
use lib.Dec.{eqb}
use lib.ListN.{length, take, drop}
use lib.Seq.{take-length}
use borrow.Author.Tests.{eq-eqb, eqb-true, not-false}
use Rattle.std.proofs.lemmas.List.{nil_from_length}
use Rattle.octets.specs.Octets.{same}
use Rattle.octets.proofs.Laws.{same_eq}
use Rattle.octets.proofs.GroupLaws.{length_groups}
use Rattle.model.specs.Words.{all, zeros}
use Rattle.model.specs.Numbers.{NONE}
use Rattle.model.specs.Site.{record_kind, is_at, records}
use Rattle.model.specs.Accept.{clear}
use Rattle.model.specs.State.{Pair, Panel, kept_kind, kept, state_size, state_length, panel, sites, state_of, find_by, find, store, write, fresh_record, fresh, record_well_as, record_well, well_formed}
use Rattle.model.specs.Entry.{entry_of, entries, answer_bytes}
use Rattle.model.specs.Step.{write_of, apply, entry_outcome, after, answers}
use Rattle.model.specs.Calls.{Returned, is_worked, check_site, fresh_returned, check_state, journal_returned, run_result, run_returned, run_journal}
use Rattle.model.specs.Lists.{Run, run_on, results}
use Rattle.model.specs.Longer.{long_panel, long_fresh_record, long_fresh, long_record_well, long_well_formed, check_long_state, long_run_on, long_results, shorter, long_record, longer, with_shorter}
use Rattle.model.specs.Demands.{HalfState, ShorterWell, LongerWell, FreshHalf}
use Rattle.model.proofs.Laws.{and_left, and_right, only, all_write_of, if_any}
use Rattle.model.proofs.SameOutcome.{Agree, outcome_agree}
use Rattle.model.proofs.Flat.{kept_number, kept_at, total, whole, sites_paired, whole_paired, paired_back, length_state_of, state_of_paired, after_back, length_after, sites_panel, state_of_panel, total_state, fresh_panel, panel_fresh, length_fresh}
use Rattle.model.proofs.Runs.{passed_check, Accepted, site_accepted, worked_through}
use Rattle.model.proofs.Entries.{first_passed}
use Rattle.model.proofs.KeptWell.{state_taken}
use Rattle.model.proofs.WellStep.{well_after}
use Rattle.model.specs.declared.Refusal.TheVariants.{StateLength, StateForm}
use Rattle.model.specs.declared.Entry.{Entry}
use Rattle.model.specs.declared.Outcome.{Outcome}
use Rattle.model.specs.declared.Write.{Write}
use Rattle.model.specs.declared.RecordKind.{RecordKind}
use Rattle.model.specs.declared.RecordKind.TheVariants.{OfZone, OfPoint, OfRule, OfCredential, OfFactor}

-- ── a panel whose rules and factors have no state

erase_pair : Pair → Pair
erase_pair x = (x.0, if kept x.0 then x.1 else [])

erase : Panel → Panel
erase ps = map erase_pair ps

unfoldable erase_kept : (x : Pair) → kept x.0 ≡ true → erase_pair x ≡ x
unfolding erase_pair
erase_kept x h = rw h

sites_erase : (ps : Panel) → sites (erase ps) ≡ sites ps
unfolding erase erase_pair
sites_erase [] = refl
sites_erase (x ∷ xs) = ap (λ ss. x.0 ∷ ss) (sites_erase xs)

-- What has state is found in it as it was, and written as it was.
find_erase : (q : List ℕ → Bool) → ((s : List ℕ) → q s ≡ true → kept s ≡ true) → (ps : Panel) → find_by q (erase ps) ≡ find_by q ps
unfolding erase erase_pair
find_erase q h [] = refl
find_erase q h (x ∷ xs) = go (q x.0) refl (find_erase q h xs)
  where
    go : (c : Bool) → q x.0 ≡ c → find_by q (erase xs) ≡ find_by q xs → (if c then erase_pair x else find_by q (erase xs)) ≡ (if c then x else find_by q xs)
    go true e ih = rw (h x.0 e)
    go false e ih = ih

store_erase : (k i : ℕ) (b : List ℕ) → kept_number k ≡ true → (ps : Panel) → store k i b (erase ps) ≡ erase (store k i b ps)
unfolding erase erase_pair store
store_erase k i b h [] = refl
store_erase k i b h (x ∷ xs) = go (is_at k i x.0) refl (store_erase k i b h xs)
  where
    go : (c : Bool) → is_at k i x.0 ≡ c → store k i b (erase xs) ≡ erase (store k i b xs) →
        (if c then (x.0, b) ∷ erase xs else erase_pair x ∷ store k i b (erase xs)) ≡ erase (if c then (x.0, b) ∷ xs else x ∷ store k i b xs)
    go true e ih = rw (kept_at k i x.0 h e)
    go false e ih = ap (λ qs. erase_pair x ∷ qs) ih

write_erase : {I S : Type 0} (k : ℕ) (i : I → ℕ) (b : S → List ℕ) → kept_number k ≡ true → (w : Option (Write I S)) (ps : Panel) →
    write_of k i b w (erase ps) ≡ erase (write_of k i b w ps)
unfolding write
write_erase k i b h None ps = refl
write_erase k i b h (Some w) ps = go (eqb (i w.instance) NONE)
  where
    go : (c : Bool) → (if c then erase ps else store k (i w.instance) (b w.state) (erase ps)) ≡ erase (if c then ps else store k (i w.instance) (b w.state) ps)
    go true = refl
    go false = store_erase k (i w.instance) (b w.state) h ps

apply_erase : (o : Outcome) (ps : Panel) → apply o (erase ps) ≡ erase (apply o ps)
unfolding apply
apply_erase o ps = rw (write_erase 1 _ _ refl o.zone_from ps, write_erase 1 _ _ refl o.zone_to _, write_erase 4 _ _ refl o.credential _, write_erase 2 _ _ refl o.point _)

erase_agree : (ps : Panel) → Agree (erase ps) ps
unfolding find
erase_agree ps =
    record {
      objects = λ k i h. find_erase (is_at k i) (λ s. kept_at k i s h) ps;
      factors = λ c e. rw (sites_erase ps) refl;
      rules = λ first second point to time. rw (sites_erase ps) refl;
    }

-- So entries get the same answers, and leave it so.
after_erase : (es : List Entry) (ps : Panel) → after (erase ps) es ≡ erase (after ps es)
unfolding after
after_erase [] ps = refl
after_erase (e ∷ es) ps =
    rw (outcome_agree (erase ps) ps (erase_agree ps) e, apply_erase (entry_outcome ps e) ps) (after_erase es (apply (entry_outcome ps e) ps))

answers_erase : (es : List Entry) (ps : Panel) → answers (erase ps) es ≡ answers ps es
unfolding answers
answers_erase [] ps = refl
answers_erase (e ∷ es) ps =
    rw (outcome_agree (erase ps) ps (erase_agree ps) e, apply_erase (entry_outcome ps e) ps)
    (ap (λ rs. (entry_outcome ps e).answer ∷ rs) (answers_erase es (apply (entry_outcome ps e) ps)))

-- The bytes that it holds are those of what has state.
state_erase : (ps : Panel) → state_of (erase ps) ≡ state_of (only kept ps)
unfolding erase erase_pair state_of flatten
state_erase [] = refl
state_erase (x ∷ xs) = go (kept x.0) (state_erase xs)
  where
    go : (c : Bool) → state_of (erase xs) ≡ state_of (only kept xs) →
        (if c then x.1 else []) ++ state_of (erase xs) ≡ state_of (if c then x ∷ only kept xs else only kept xs)
    go true ih = ap (λ bs. x.1 ++ bs) ih
    go false ih = ih

-- ── the panels of the two states

-- 32 bytes for every record.
long_size : List ℕ → ℕ
long_size s = 32

long_total : (ss : List (List ℕ)) → total long_size ss ≡ length ss * 32
unfolding long_size
long_total [] = omega arith
long_total (s ∷ ss) = omega (arith, long_total ss)

long_kept : (s : List ℕ) → kept s ≡ true → long_size s ≡ 32
unfolding long_size
long_kept s h = refl

erase_whole : (ps : Panel) → all (whole long_size) ps ≡ true → all (whole state_size) (erase ps) ≡ true
unfolding erase erase_pair long_size state_size
erase_whole [] a = refl
erase_whole (x ∷ xs) a = rw (go (kept x.0)) (erase_whole xs (and_right (whole long_size x) (all (whole long_size) xs) a))
  where
    go : (c : Bool) → eqb (length (if c then x.1 else [])) (if c then 32 else 0) ≡ true
    go true = and_left (whole long_size x) (all (whole long_size) xs) a
    go false = refl

module _ (site long : List ℕ) (as_long : length long ≡ length site) where
  long_fits : total long_size (records site) ≤ length long
  unfolding records
  long_fits = omega (arith, as_long, long_total (records site), length_groups 32 (length site / 32) site)

  long_whole : all (whole long_size) (long_panel site long) ≡ true
  unfolding long_panel long_size
  long_whole = whole_paired long_size (records site) long long_fits

  long_sites : sites (long_panel site long) ≡ records site
  unfolding long_panel long_size
  long_sites = sites_paired long_size (records site) long

  erase_sites : sites (erase (long_panel site long)) ≡ records site
  erase_sites = sites_erase (long_panel site long) ∙ long_sites

  panel_shorter : panel site (shorter site long) ≡ erase (long_panel site long)
  unfolding panel shorter
  panel_shorter =
      rw (← state_erase (long_panel site long))
      (rw erase_sites at (paired_back state_size (erase (long_panel site long)) (erase_whole (long_panel site long) long_whole)))

  length_shorter : length (shorter site long) ≡ state_length site
  unfolding shorter
  length_shorter =
      rw (← state_erase (long_panel site long))
      (length_state_of state_size (erase (long_panel site long)) (erase_whole (long_panel site long) long_whole) ∙ ap (total state_size) erase_sites ∙ total_state site)

-- ── well formed

-- What has no state is well formed with whatever stands beside it.
pub none_well : (ss : List (List ℕ)) (s t : List ℕ) → kept s ≡ false → record_well ss (s, t) ≡ true
unfolding kept record_well
none_well ss s t h = go (record_kind s) h
  where
    go : (k : Option RecordKind) → kept_kind k ≡ false → record_well_as k ss (s, t) ≡ true
    go (Some OfZone) h = cc
    go (Some OfPoint) h = cc
    go (Some OfRule) h = refl
    go (Some OfCredential) h = cc
    go (Some OfFactor) h = refl
    go None h = refl

-- What has no state has zeros in the longer one.
zero_else : Pair → Bool
zero_else x = kept x.0 || clear 0 32 x.1

module _ (ss : List (List ℕ)) where
  -- So a longer state is well formed where the shorter one is, and has zeros for the others.
  well_parts : (ps : Panel) → all (long_record_well ss) ps ≡ true → (all (record_well ss) (erase ps) ≡ true) × (all zero_else ps ≡ true)
  unfolding erase erase_pair long_record_well zero_else
  well_parts [] a = (refl, refl)
  well_parts (x ∷ xs) a =
      let rest = well_parts xs (and_right (long_record_well ss x) (all (long_record_well ss) xs) a) in
      go (kept x.0) refl (and_left (long_record_well ss x) (all (long_record_well ss) xs) a) rest.0 rest.1
    where
      go : (c : Bool) → kept x.0 ≡ c → (if c then record_well ss x else clear 0 32 x.1) ≡ true → all (record_well ss) (erase xs) ≡ true → all zero_else xs ≡ true →
          (all (record_well ss) ((x.0, if c then x.1 else []) ∷ erase xs) ≡ true) × (all zero_else (x ∷ xs) ≡ true)
      go true e w r z = (rw (w, r), rw (e, z))
      go false e w r z = (rw (none_well ss x.0 [] e, r), rw (e, w, z))

  well_joined : (ps : Panel) → all (record_well ss) (erase ps) ≡ true → all zero_else ps ≡ true → all (long_record_well ss) ps ≡ true
  unfolding erase erase_pair long_record_well zero_else
  well_joined [] r z = refl
  well_joined (x ∷ xs) r z =
      let rest = well_joined xs (and_right (record_well ss (erase_pair x)) (all (record_well ss) (erase xs)) r) (and_right (zero_else x) (all zero_else xs) z) in
      rw (go (kept x.0) (and_left (record_well ss (erase_pair x)) (all (record_well ss) (erase xs)) r) (and_left (zero_else x) (all zero_else xs) z), rest)
    where
      go : (c : Bool) → record_well ss (x.0, if c then x.1 else []) ≡ true → c || clear 0 32 x.1 ≡ true → (if c then record_well ss x else clear 0 32 x.1) ≡ true
      go true r z = r
      go false r z = z

-- Entries leave the zeros.
zero_apply : (o : Outcome) (ps : Panel) → all zero_else ps ≡ true → all zero_else (apply o ps) ≡ true
unfolding apply zero_else
zero_apply o ps a =
    all_write_of zero_else 2 _ _ o.point _ (if_any _ o.point (λ w x i h. rw (kept_at 2 _ x.0 refl i)))
    (all_write_of zero_else 4 _ _ o.credential _ (if_any _ o.credential (λ w x i h. rw (kept_at 4 _ x.0 refl i)))
    (all_write_of zero_else 1 _ _ o.zone_to _ (if_any _ o.zone_to (λ w x i h. rw (kept_at 1 _ x.0 refl i)))
    (all_write_of zero_else 1 _ _ o.zone_from ps (if_any _ o.zone_from (λ w x i h. rw (kept_at 1 _ x.0 refl i))) a)))

zero_after : (es : List Entry) (ps : Panel) → all zero_else ps ≡ true → all zero_else (after ps es) ≡ true
unfolding after
zero_after [] ps a = a
zero_after (e ∷ es) ps a = zero_after es (apply (entry_outcome ps e) ps) (zero_apply (entry_outcome ps e) ps a)

-- ── runs

module _ (site long : List ℕ) (as_long : length long ≡ length site) (well : long_well_formed site long ≡ true) where
  parts : (all (record_well (records site)) (erase (long_panel site long)) ≡ true) × (all zero_else (long_panel site long) ≡ true)
  unfolding long_well_formed
  parts = well_parts (records site) (long_panel site long) well

  shorter_well : well_formed site (shorter site long) ≡ true
  unfolding well_formed
  shorter_well = rw (panel_shorter site long as_long) parts.0

  -- Both are checked alike.
  same_check : check_state site (shorter site long) ≡ check_long_state site long
  unfolding check_state fresh_returned check_long_state
  same_check =
      rw (eq-eqb (length (shorter site long)) (state_length site) (length_shorter site long as_long), eq-eqb (length long) (length site) as_long, shorter_well, well)
      (go (is_worked (check_site site)) refl)
    where
      go : (c : Bool) → is_worked (check_site site) ≡ c →
          (if not (is_worked (if not c then check_site site else Ok tt)) then (if not c then check_site site else Ok tt) else Ok tt) ≡ (if not c then check_site site else Ok tt)
      go true e = unfold is_worked in refl
      go false e = rw e

  -- A site is accepted where a run on its longer state is worked.
  long_accepted : (journal answered : List ℕ) → is_worked (journal_returned (check_long_state site long) journal answered) ≡ true → Accepted site
  unfolding check_long_state
  long_accepted journal answered w =
      let c = first_passed (check_long_state site long) _ (worked_through (journal_returned (check_long_state site long) journal answered) w) in
      let s = first_passed (check_site site) _ (worked_through (check_long_state site long) c.0) in
      site_accepted site (worked_through (check_site site) s.0)

  module _ (r : Run) where
    entered : List Entry
    entered = map entry_of (entries r.journal)

    -- The bytes that entries leave are read as they left them.
    long_back : long_panel site (state_of (after (long_panel site long) entered)) ≡ after (long_panel site long) entered
    unfolding long_panel long_size
    long_back = after_back long_size long_kept (records site) long (long_fits site long as_long) entered

    shorter_back : shorter site (state_of (after (long_panel site long) entered)) ≡ state_of (after (erase (long_panel site long)) entered)
    unfolding shorter
    shorter_back = rw (long_back, after_erase entered (long_panel site long)) (sym (state_erase (after (long_panel site long) entered)))

    -- A run gives the same, and leaves each kept record the same bytes.
    half_run : run_on site (shorter site long) r ≡ with_shorter site (long_run_on site long r)
    unfolding run_on run_journal run_returned long_run_on with_shorter entered
    half_run =
        rw (same_check, panel_shorter site long as_long, answers_erase entered (long_panel site long))
        (go (journal_returned (check_long_state site long) r.journal r.answers))
      where
        bytes : List ℕ
        bytes = flatten (map answer_bytes (answers (long_panel site long) entered))

        go : (x : Returned) →
            run_result x (if is_worked x then state_of (after (erase (long_panel site long)) entered) else shorter site long) (if is_worked x then bytes else r.answers)
            ≡ run_result x (shorter site (if is_worked x then state_of (after (long_panel site long) entered) else long)) (if is_worked x then bytes else r.answers)
        go x = at_worked (is_worked x)
          where
            at_worked : (c : Bool) →
                run_result x (if c then state_of (after (erase (long_panel site long)) entered) else shorter site long) (if is_worked x then bytes else r.answers)
                ≡ run_result x (shorter site (if c then state_of (after (long_panel site long) entered) else long)) (if is_worked x then bytes else r.answers)
            at_worked true = ap (λ t. run_result x t (if is_worked x then bytes else r.answers)) (sym shorter_back)
            at_worked false = refl

    worked_length : Accepted site → length (state_of (after (long_panel site long) entered)) ≡ length site
    unfolding long_panel long_size records
    worked_length a =
        omega (
          arith,
          length_after long_size long_kept (records site) long (long_fits site long as_long) entered,
          long_total (records site),
          length_groups 32 (length site / 32) site,
          a.whole_records,
        )

    worked_well : Accepted site → long_well_formed site (state_of (after (long_panel site long) entered)) ≡ true
    unfolding long_well_formed
    worked_well a =
        let w = well_after (records site) a.names_all_exist entered (erase (long_panel site long)) (erase_sites site long as_long) parts.0 in
        rw long_back
        (well_joined (records site) (after (long_panel site long) entered) (rw (after_erase entered (long_panel site long)) at w)
        (zero_after entered (long_panel site long) parts.1))

    -- And it leaves such a longer state.
    abbrev left : List ℕ
    left = (long_run_on site long r).state

    long_left : (length left ≡ length site) × (long_well_formed site left ≡ true)
    unfolding long_run_on entered
    long_left = go (is_worked (journal_returned (check_long_state site long) r.journal r.answers)) refl
      where
        go : (c : Bool) → is_worked (journal_returned (check_long_state site long) r.journal r.answers) ≡ c →
            (length (if c then state_of (after (long_panel site long) entered) else long) ≡ length site)
            × (long_well_formed site (if c then state_of (after (long_panel site long) entered) else long) ≡ true)
        go true w = let a = long_accepted r.journal r.answers w in (worked_length a, worked_well a)
        go false w = (as_long, well)

pub half_state : HalfState
unfolding HalfState results long_results with_shorter
half_state site long [] as_long well = refl
half_state site long (r ∷ rs) as_long well =
    let left = long_left site long as_long well r in
    rw (half_run site long as_long well r)
    (ap (λ xs. with_shorter site (long_run_on site long r) ∷ xs) (half_state site (long_run_on site long r).state rs left.0 left.1))

-- ── each state has its other one

-- A longer state that its check accepts is as long as the site and well formed, and its site is accepted.
record LongTaken (site long : List ℕ) : Type 0 where
  site_accepts : check_site site ≡ Ok tt
  as_long : length long ≡ length site
  well : long_well_formed site long ≡ true

long_taken : (site long : List ℕ) → check_long_state site long ≡ Ok tt → LongTaken site long
unfolding check_long_state
long_taken site long h =
    let s = first_passed (check_site site) _ h in
    let l = passed_check (not (eqb (length long) (length site))) (Err StateLength) _ (unfold is_worked in refl) s.1 in
    let w = passed_check (not (long_well_formed site long)) (Err StateForm) (Ok tt) (unfold is_worked in refl) l.1 in
    record {
      site_accepts = worked_through (check_site site) s.0;
      as_long = eqb-true (length long) (length site) (not-false _ l.0);
      well = not-false _ w.0;
    }

-- The zeros of what has no state are put back.
zeros_of : (t : List ℕ) → length t ≡ 32 → clear 0 32 t ≡ true → t ≡ zeros 32
unfolding clear
zeros_of t l h = let e = (same_eq (take 32 t) (zeros 32)).0 h in rw (← l, take-length t) at e

records_back : (ps : Panel) → all (whole long_size) ps ≡ true → all zero_else ps ≡ true → map long_record (erase ps) ≡ map (λ (x : Pair). x.1) ps
unfolding erase erase_pair long_record zero_else long_size
records_back [] a z = refl
records_back (x ∷ xs) a z =
    let l = eqb-true (length x.1) 32 (and_left (whole long_size x) (all (whole long_size) xs) a) in
    ap₂ ◌∷◌ (go (kept x.0) l (and_left (zero_else x) (all zero_else xs) z))
    (records_back xs (and_right (whole long_size x) (all (whole long_size) xs) a) (and_right (zero_else x) (all zero_else xs) z))
  where
    go : (c : Bool) → length x.1 ≡ 32 → c || clear 0 32 x.1 ≡ true → (if c then (if c then x.1 else []) else zeros 32) ≡ x.1
    go true l z = refl
    go false l z = sym (zeros_of x.1 l z)

-- As long as the site, where that is of whole records.
long_bytes : (site : List ℕ) → length site % 32 ≡ 0 → total long_size (records site) ≡ length site
unfolding records
long_bytes site w = omega (arith, long_total (records site), length_groups 32 (length site / 32) site, w)

pub shorter_well_law : ShorterWell
unfolding ShorterWell longer flatten state_of
shorter_well_law site long h =
    let t = long_taken site long h in
    let a = site_accepted site t.site_accepts in
    let p = parts site long t.as_long t.well in (
      same_check site long t.as_long t.well ∙ h,
      rw (panel_shorter site long t.as_long, records_back (long_panel site long) (long_whole site long t.as_long) p.1)
          (unfold long_panel long_size in state_of_paired long_size (records site) long (t.as_long ∙ sym (long_bytes site a.whole_records))),
    )

-- A panel whose rules and factors get records of zeros.
lengthened : Panel → Panel
lengthened ps = map (λ (x : Pair). (x.0, long_record x)) ps

sites_lengthened : (ps : Panel) → sites (lengthened ps) ≡ sites ps
unfolding lengthened
sites_lengthened [] = refl
sites_lengthened (x ∷ xs) = ap (λ ss. x.0 ∷ ss) (sites_lengthened xs)

state_lengthened : (ps : Panel) → state_of (lengthened ps) ≡ flatten (map long_record ps)
unfolding lengthened state_of
state_lengthened ps = ap flatten (map-map (λ (x : Pair). x.1) (λ (x : Pair). (x.0, long_record x)) ps)

whole_lengthened : (ps : Panel) → all (whole state_size) ps ≡ true → all (whole long_size) (lengthened ps) ≡ true
unfolding lengthened long_record long_size state_size
whole_lengthened [] a = refl
whole_lengthened (x ∷ xs) a =
    rw (go (kept x.0) (and_left (whole state_size x) (all (whole state_size) xs) a), whole_lengthened xs (and_right (whole state_size x) (all (whole state_size) xs) a))
  where
    go : (c : Bool) → eqb (length x.1) (if c then 32 else 0) ≡ true → eqb (length (if c then x.1 else zeros 32)) 32 ≡ true
    go true h = h
    go false h = refl

erase_lengthened : (ps : Panel) → all (whole state_size) ps ≡ true → erase (lengthened ps) ≡ ps
unfolding erase erase_pair lengthened long_record state_size
erase_lengthened [] a = refl
erase_lengthened (x ∷ xs) a =
    ap₂ ◌∷◌ (go (kept x.0) (and_left (whole state_size x) (all (whole state_size) xs) a))
    (erase_lengthened xs (and_right (whole state_size x) (all (whole state_size) xs) a))
  where
    go : (c : Bool) → eqb (length x.1) (if c then 32 else 0) ≡ true → ◌≡◌ {A = Pair} (x.0, if c then (if c then x.1 else zeros 32) else []) x
    go true h = refl
    go false h = ap (λ t. (x.0, t)) (sym (nil_from_length x.1 (eqb-true (length x.1) 0 h)))

zero_lengthened : (ps : Panel) → all zero_else (lengthened ps) ≡ true
unfolding lengthened long_record zero_else clear same
zero_lengthened [] = refl
zero_lengthened (x ∷ xs) = rw (go (kept x.0), zero_lengthened xs)
  where
    go : (c : Bool) → c || same (take 32 (drop 0 (if c then x.1 else zeros 32))) (zeros 32) ≡ true
    go true = refl
    go false = refl

module _ (site state : List ℕ) (same_length : length state ≡ state_length site) where
  panel_whole : all (whole state_size) (panel site state) ≡ true
  unfolding panel
  panel_whole = whole_paired state_size (records site) state (omega (arith, same_length, total_state site))

  lengthened_sites : sites (lengthened (panel site state)) ≡ records site
  lengthened_sites = sites_lengthened (panel site state) ∙ sites_panel site state

  longer_panel : long_panel site (longer site state) ≡ lengthened (panel site state)
  unfolding long_panel longer long_size
  longer_panel =
      rw (← state_lengthened (panel site state))
      (rw lengthened_sites at (paired_back long_size (lengthened (panel site state)) (whole_lengthened (panel site state) panel_whole)))

  length_longer : length (longer site state) ≡ total long_size (records site)
  unfolding longer
  length_longer =
      rw (← state_lengthened (panel site state))
      (length_state_of long_size (lengthened (panel site state)) (whole_lengthened (panel site state) panel_whole) ∙ ap (total long_size) lengthened_sites)

  shorter_longer : shorter site (longer site state) ≡ state
  unfolding shorter
  shorter_longer =
      rw (longer_panel, ← state_erase (lengthened (panel site state)), erase_lengthened (panel site state) panel_whole) (state_of_panel site state same_length)

  longer_well : well_formed site state ≡ true → long_well_formed site (longer site state) ≡ true
  unfolding well_formed long_well_formed
  longer_well w =
      rw longer_panel
      (well_joined (records site) (lengthened (panel site state)) (rw (erase_lengthened (panel site state) panel_whole) w) (zero_lengthened (panel site state)))

pub longer_well_law : LongerWell
unfolding LongerWell check_long_state is_worked
longer_well_law site state h =
    let t = state_taken site state h in
    let a = site_accepted site t.site_accepts in
    let l : length (longer site state) ≡ length site = length_longer site state t.as_long ∙ long_bytes site a.whole_records in (
      rw (t.site_accepts, eq-eqb (length (longer site state)) (length site) l, longer_well site state t.as_long t.well),
      shorter_longer site state t.as_long,
    )

-- ── the fresh ones

records_fresh : (ss : List (List ℕ)) → map long_record (fresh_panel ss) ≡ map long_fresh_record ss
unfolding long_record long_fresh_record
records_fresh [] = refl
records_fresh (s ∷ ss) = ap (λ ts. (if kept s then fresh_record s else zeros 32) ∷ ts) (records_fresh ss)

fresh_longer : (site : List ℕ) → longer site (fresh site) ≡ long_fresh site
unfolding longer long_fresh
fresh_longer site = rw (panel_fresh site) (ap flatten (records_fresh (records site)))

pub fresh_half : FreshHalf
unfolding FreshHalf
fresh_half site = (rw (← fresh_longer site) (shorter_longer site (fresh site) (length_fresh site)), fresh_longer site)
