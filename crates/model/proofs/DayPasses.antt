-- Day passes: last grant, and days left beside the dates of the credential's grants, after every list of runs from fresh.
use Rattle.std.specs.Prelude.{if◌then◌else◌, Option, Some, None}
use Prim.Native.Nat.{ℕ, suc, ◌+◌, ◌-◌, ◌/◌, ◌<◌}
use native.Mathlib.Omega.{arith}
use mathlib.Core.Path.{◌≡◌, refl, ◌∙◌}
use mathlib.Core.List.{List, [], ◌∷◌, map}
use mathlib.Core.Bool.{Bool, true, false, not, ◌&&◌, ◌||◌, and-false, false≢true}
use lib.Dec.{ltb, leb, eqb}
use borrow.Author.Tests.{eqb-true, eqb-false, eq-eqb, ne_eqb, ltb-true, ltb-false, leb-true, le-leb, not-true}
use Rattle.model.specs.Words.{any, all, bit_of}
use Rattle.model.specs.Numbers as n
use Rattle.model.specs.Numbers.{NONE, NEVER, UNLIMITED}
use Rattle.model.specs.Site.{records, point_of}
use Rattle.model.specs.State.{Pair, Panel, find, credential_state_of, fresh_with, fresh_credential}
use Rattle.model.specs.Entry.{entry_of, object_kind, arguments_fit, in_form}
use Rattle.model.specs.Checks.{event_of}
use Rattle.model.specs.Effects.{named, date, loses_day, days_after, credential_after, answer_with, outcome_with, outcome_of}
use Rattle.model.specs.Step.{unchanged, refuse, situation_of, rules_at, factor_outcome, count_outcome, adjusted, adjust_outcome, disable_after, disable_outcome, locks, service_outcome, worked_outcome, entry_outcome, apply, panels, after, answers}
use Rattle.model.specs.Lists.{Worked, History}
use Rattle.model.specs.DayPasses.{is_grant_of, grant_times, times_granted, dates_granted, days_in_site, last_of, taken_since, days_taken, never_fall, different}
use Rattle.model.specs.Demands.{LastGrant, DaysTaken, DaysOfAdmission}
use Rattle.model.specs.declared.Situation.{Situation}
use Rattle.model.specs.declared.Entry.{Entry}
use Rattle.model.specs.declared.Outcome.{Outcome}
use Rattle.model.specs.declared.CredentialState.{CredentialState}
use Rattle.model.specs.declared.Operation.{Operation}
use Rattle.model.specs.declared.Operation.TheVariants.{Factor, SetCount, AdjustCount, SetDisable, SetService}
use Rattle.model.proofs.Laws.{if_holds, and_left, and_right, There, sites_apply}
use Rattle.model.proofs.Outcomes.{entry_holds}
use Rattle.model.proofs.RoundTrip.{event_back, credential_named_back}
use Rattle.model.proofs.Flat.{fresh_panel}
use Rattle.model.proofs.Runs.{object_found, object_real, object_there, worked_at, all_entries, worked_list}
use Rattle.model.proofs.Granted.{granted_days}
use Rattle.model.proofs.Credentials.{held, held_by, held_apply, grants, named_number, state_read, held_fresh, state_left_law}

-- ── what an outcome leaves of days and last grant

-- A grant at that time takes one of the days of the state s.
unfoldable takes_day : ℕ → CredentialState → Bool
takes_day time s = not (eqb s.days UNLIMITED) && (eqb s.last_grant NEVER || ltb (date s.last_grant) (date time))

-- A grant takes a day or not, becomes the last grant, is at a known time and finds a day left; any other answer leaves both.
record Leaves (c : ℕ) (e : Entry) (s : CredentialState) (o : Outcome) : Type 0 where
  days : (held_by c o s).days ≡ (if grants c o.answer && takes_day e.time s then s.days - 1 else s.days)
  last : (held_by c o s).last_grant ≡ (if grants c o.answer then e.time else s.last_grant)
  known : grants c o.answer ≡ true → (eqb e.time NEVER ≡ false) × (eqb s.days 0 ≡ false)

-- An outcome that writes no credential, and does not grant.
leaves_none : (c : ℕ) (e : Entry) (s : CredentialState) (o : Outcome) → o.credential ≡ None → eqb o.answer.event n.granted ≡ false →
    Leaves c e s o
unfolding held_by
leaves_none c e s o k h = record { days = rw (k, h); last = rw (k, h); known = λ g. absurd (false≢true (rw h at g)) }

leaves_refuse : (c : ℕ) (e : Entry) (s : CredentialState) (r : ℕ) → Leaves c e s (refuse r)
unfolding refuse unchanged
leaves_refuse c e s r = leaves_none c e s (refuse r) refl refl

module _ (c : ℕ) (not_none : eqb c NONE ≡ false) (e : Entry) where
  -- Any event x of a factor read whose situation holds the state of c, if the answer names c.
  leaves_event : (v : Situation) (s : CredentialState) (x : ℕ) → (eqb (named v x).0 c ≡ true → v.credential_state ≡ s) →
      (eqb (named v x).0 c ≡ true → eqb x n.granted ≡ true → (eqb e.time NEVER ≡ false) × (eqb s.days 0 ≡ false)) →
      Leaves c e s (outcome_of v e x)
  unfolding held_by outcome_of outcome_with answer_with
  leaves_event v s x same_state known = go (eqb x n.no_event) refl (eqb (named v x).0 c) refl (eqb x n.granted) refl
    where
      go : (f : Bool) → eqb x n.no_event ≡ f → (b : Bool) → eqb (named v x).0 c ≡ b → (d : Bool) → eqb x n.granted ≡ d → Leaves c e s (outcome_of v e x)
      go true r b p d q = leaves_none c e s (outcome_of v e x) (rw r) (rw (eqb-true x 0 r))
      go false r false p d q =
          record { days = simp (r, p, and-false); last = simp (r, p, and-false); known = λ g. absurd (false≢true (simp (p, and-false) at g)) }
      go false r true p true q =
          let k = same_state p in
          record {
            days = unfold credential_after days_after loses_day takes_day in rw (r, p, q, k);
            last = unfold credential_after in rw (r, p, q);
            known = λ g. known p q;
          }
      go false r true p false q =
          let k = same_state p in
          record {
            days = unfold credential_after days_after loses_day in rw (r, p, q, k);
            last = unfold credential_after in rw (r, p, q, k);
            known = λ g. absurd (false≢true (rw q at g));
          }

  -- "time never" is refused.
  timed : (o : Option Operation) → in_form o e ≡ true → eqb e.time NEVER ≡ false
  unfolding in_form
  timed o f = not-true (eqb e.time NEVER) (and_right (arguments_fit o e && eqb e.spare 0 && ltb e.instance NONE) _ f)

  -- Operation 1, at the point's records x.
  leaves_factor : (ps : Panel) (x : Pair) → in_form (Some Factor) e ≡ true → Leaves c e (held c ps) (factor_outcome ps e x)
  unfolding factor_outcome unchanged
  leaves_factor ps x f =
      let v = situation_of ps e x in
      let event = event_of v (rules_at ps e x) e in
      if_holds (Leaves c e (held c ps)) (point_of x.0).out_of_service (unchanged _) (outcome_of v e event)
      (leaves_none c e (held c ps) (unchanged _) refl refl)
      (leaves_event v (held c ps) event (λ p. state_read c not_none e ps x (named_number c not_none v event p))
      (λ p q. (timed (Some Factor) f, rw (state_read c not_none e ps x (named_number c not_none v event p)) at (granted_days ps e x (eqb-true event 1 q)))))

  -- Operation 4, at the records x of the credential that it names.
  leaves_disable : (ps : Panel) (x : Pair) → find n.access_credential e.instance ps ≡ x →
      Leaves c e (held c ps) (disable_outcome e (credential_state_of x.1))
  unfolding held_by disable_outcome disable_after
  leaves_disable ps x f = go (eqb e.instance c) refl
    where
      go : (b : Bool) → eqb e.instance c ≡ b → Leaves c e (held c ps) (disable_outcome e (credential_state_of x.1))
      go true p =
          let k : credential_state_of x.1 ≡ held c ps = unfold held in rw (← f, eqb-true e.instance c p) in
          record { days = rw (p, k); last = rw (p, k); known = λ g. absurd (false≢true g) }
      go false p = record { days = rw p; last = rw p; known = λ g. absurd (false≢true g) }

  -- The operation at its object's records x.
  leaves_worked : (ps : Panel) (o : Option Operation) (x : Pair) → find (object_kind o) e.instance ps ≡ x → in_form o e ≡ true →
      Leaves c e (held c ps) (worked_outcome o ps e x)
  unfolding count_outcome adjust_outcome service_outcome
  leaves_worked ps (Some Factor) x f i = leaves_factor ps x i
  leaves_worked ps (Some SetCount) x f i = leaves_none c e (held c ps) (count_outcome e _) refl refl
  leaves_worked ps (Some AdjustCount) x f i =
      if_holds (Leaves c e (held c ps)) (ltb _ (adjusted _ e.amount)) (refuse _) (count_outcome e _)
      (leaves_refuse c e (held c ps) _) (leaves_none c e (held c ps) (count_outcome e _) refl refl)
  leaves_worked ps (Some SetDisable) x f i = leaves_disable ps x f
  leaves_worked ps (Some SetService) x f i =
      leaves_none c e (held c ps) (service_outcome e _ _) refl (if_holds (λ k. eqb k n.granted ≡ false) (locks e) 7 8 refl refl)
  leaves_worked ps None x f i = leaves_refuse c e (held c ps) _

  -- Any entry.
  leaves_entry : (ps : Panel) → Leaves c e (held c ps) (entry_outcome ps e)
  leaves_entry ps =
      entry_holds (λ o. Leaves c e (held c ps)) ps e (λ o r d. leaves_refuse c e (held c ps) r) (λ o x f i g. leaves_worked ps o x f i)

-- ── a list of entries

-- The days that grants at these times take where the last one was at `last`.
unfoldable taken_from : ℕ → List ℕ → ℕ
taken_from last ts = if eqb last NEVER then days_taken (map date ts) else taken_since (date last) (map date ts)

taken_none : (last : ℕ) → taken_from last [] ≡ 0
unfolding taken_from taken_since days_taken
taken_none last = if_holds (λ k. k ≡ 0) (eqb last NEVER) 0 0 refl refl

-- A grant at a known time t, and those at ts after it: k days are left, of d before it and of f after it.
taken_grant : (last t : ℕ) (ts : List ℕ) (d f k : ℕ) → eqb t NEVER ≡ false → eqb d 0 ≡ false →
    f ≡ (if eqb last NEVER || ltb (date last) (date t) then d - 1 else d) → k + taken_from t ts ≡ f → k + taken_from last (t ∷ ts) ≡ d
unfolding taken_from taken_since days_taken
taken_grant last t ts d f k known left e h =
    let z = eqb-false d 0 left in
    let y : k + taken_since (date t) (map date ts) ≡ f = rw known at h in
    go (eqb last NEVER) (ltb (date last) (date t)) e y z
  where
    go : (a b : Bool) → f ≡ (if a || b then d - 1 else d) → k + taken_since (date t) (map date ts) ≡ f → (d ≡ 0 → ⊥) →
        k + (if a then suc (taken_since (date t) (map date ts)) else bit_of b + taken_since (date t) (map date ts)) ≡ d
    go true b e y z = omega arith
    go false true e y z = omega arith
    go false false e y z = omega arith

-- The state s, of limited days, after any entry: of k days left the grants at ts after it took the others.
taken_next : (c : ℕ) (e : Entry) (s : CredentialState) (o : Outcome) → Leaves c e s o → s.days < UNLIMITED → (k : ℕ) (ts : List ℕ) →
    k + taken_from (held_by c o s).last_grant ts ≡ (held_by c o s).days →
    k + taken_from s.last_grant (if grants c o.answer then e.time ∷ ts else ts) ≡ s.days
unfolding takes_day
taken_next c e s o left limited k ts h = go (grants c o.answer) left.known left.days (rw left.last at h)
  where
    u : eqb s.days UNLIMITED ≡ false
    u = ne_eqb s.days UNLIMITED (λ d. omega arith)

    go : (a : Bool) → (a ≡ true → (eqb e.time NEVER ≡ false) × (eqb s.days 0 ≡ false)) →
        (held_by c o s).days ≡ (if a && takes_day e.time s then s.days - 1 else s.days) →
        k + taken_from (if a then e.time else s.last_grant) ts ≡ (held_by c o s).days →
        k + taken_from s.last_grant (if a then e.time ∷ ts else ts) ≡ s.days
    go true known d h = taken_grant s.last_grant e.time ts s.days (held_by c o s).days k (known refl).0 (known refl).1 (rw u at d) h
    go false known d h = h ∙ d

-- They stay limited.
limited_next : (c : ℕ) (e : Entry) (s : CredentialState) (o : Outcome) → Leaves c e s o → s.days < UNLIMITED → (held_by c o s).days < UNLIMITED
limited_next c e s o left limited =
    rw left.days (if_holds (λ d. d < UNLIMITED) (grants c o.answer && takes_day e.time s) (s.days - 1) s.days (omega arith) limited)

module _ (c : ℕ) (not_none : eqb c NONE ≡ false) where
  -- The time of the first entry, if it is granted, and those of the others.
  times_next : (b : List ℕ) (bs : List (List ℕ)) (ps : Panel) →
      grant_times c (worked_at ps (b ∷ bs))
      ≡ (if grants c (entry_outcome ps (entry_of b)).answer
      then (entry_of b).time ∷ grant_times c (worked_at (apply (entry_outcome ps (entry_of b)) ps) bs)
      else grant_times c (worked_at (apply (entry_outcome ps (entry_of b)) ps) bs))
  unfolding grant_times is_grant_of worked_at panels answers
  times_next b bs ps =
      rw (event_back (entry_outcome ps (entry_of b)).answer, credential_named_back (entry_outcome ps (entry_of b)).answer)
      (go (grants c (entry_outcome ps (entry_of b)).answer) _ _)
    where
      go : (g : Bool) (w : Worked) (ws : List Worked) →
          map (λ (w : Worked). (entry_of w.entry).time) (if g then w ∷ ws else ws)
          ≡ (if g then (entry_of w.entry).time ∷ map (λ (w : Worked). (entry_of w.entry).time) ws else map (λ (w : Worked). (entry_of w.entry).time) ws)
      go true w ws = refl
      go false w ws = refl

  -- Last grant after any list of entries.
  last_entries : (bs : List (List ℕ)) (ps : Panel) → There n.access_credential c ps →
      (held c (after ps (map entry_of bs))).last_grant ≡ last_of (held c ps).last_grant (grant_times c (worked_at ps bs))
  unfolding after last_of
  last_entries [] ps g = unfold grant_times worked_at panels in refl
  last_entries (b ∷ bs) ps g =
      let e = entry_of b in
      let o = entry_outcome ps e in
      let l : (held c (apply o ps)).last_grant ≡ (if grants c o.answer then e.time else (held c ps).last_grant)
      = rw (held_apply c not_none o ps g) (leaves_entry c not_none e ps).last in
      rw (last_entries bs (apply o ps) (rw sites_apply g), times_next b bs ps, l) (go (grants c o.answer) _ _ _)
    where
      go : (a : Bool) (t last : ℕ) (ts : List ℕ) → last_of (if a then t else last) ts ≡ last_of last (if a then t ∷ ts else ts)
      go true t last ts = refl
      go false t last ts = refl

  -- Days left after any list of entries, and the days that its grants took, of limited days.
  days_entries : (bs : List (List ℕ)) (ps : Panel) → There n.access_credential c ps → (held c ps).days < UNLIMITED →
      (held c (after ps (map entry_of bs))).days + taken_from (held c ps).last_grant (grant_times c (worked_at ps bs)) ≡ (held c ps).days
  unfolding after
  days_entries [] ps g limited =
      unfold grant_times worked_at panels in (let z = taken_none (held c ps).last_grant in omega arith)
  days_entries (b ∷ bs) ps g limited =
      let e = entry_of b in
      let o = entry_outcome ps e in
      let left = leaves_entry c not_none e ps in
      let h = held_apply c not_none o ps g in
      rw (times_next b bs ps)
      (taken_next c e (held c ps) o left limited _ _
      (rw h at (days_entries bs (apply o ps) (rw sites_apply g) (rw h (limited_next c e (held c ps) o left limited)))))

-- ── lists of runs from fresh

-- The grants of the list, by its entries from the fresh panel.
times_granted_law : (h : History) (c : ℕ) → times_granted c h ≡ grant_times c (worked_at (fresh_panel (records h.site)) (all_entries h))
unfolding times_granted
times_granted_law h c = rw (worked_list h)

pub last_grant_law : LastGrant
unfolding LastGrant fresh_credential fresh_with
last_grant_law h c x =
    let ps = fresh_panel (records h.site) in
    rw (state_left_law h c, times_granted_law h c)
    (rw (held_fresh c (records h.site) (object_found h n.access_credential c x)) at (last_entries c (object_real h n.access_credential c x) (all_entries h) ps (object_there h n.access_credential c x)))

pub days_taken_law : DaysTaken
unfolding DaysTaken dates_granted days_in_site fresh_credential fresh_with taken_from
days_taken_law h c x limited =
    let ps = fresh_panel (records h.site) in
    let f = held_fresh c (records h.site) (object_found h n.access_credential c x) in
    rw (state_left_law h c, times_granted_law h c)
    (rw f at (days_entries c (object_real h n.access_credential c x) (all_entries h) ps (object_there h n.access_credential c x) (rw f limited)))

-- ── dates that never fall

-- A date before all of these is none of them.
none_later : (d e : ℕ) (es : List ℕ) → d < e → all (leb e) es ≡ true → any (eqb d) es ≡ false
none_later d e [] l a = refl
none_later d e (f ∷ fs) l a =
    let m = leb-true e f (and_left (leb e f) (all (leb e) fs) a) in
    rw (ne_eqb d f (λ q. omega arith), none_later d e fs l (and_right (leb e f) (all (leb e) fs) a))

-- Where they never fall, each new date is later than the last.
taken_different : (d : ℕ) (ds : List ℕ) → all (leb d) ds ≡ true → never_fall ds ≡ true → suc (taken_since d ds) ≡ different (d ∷ ds)
unfolding never_fall taken_since different
taken_different d [] a f = refl
taken_different d (e ∷ es) a f = go (ltb d e) refl (taken_different e es later (and_right (all (leb e) es) (never_fall es) f))
  where
    later : all (leb e) es ≡ true
    later = and_left (all (leb e) es) (never_fall es) f

    go : (b : Bool) → ltb d e ≡ b → suc (taken_since e es) ≡ different (e ∷ es) →
        suc (bit_of b + taken_since e es) ≡ (if eqb d e || any (eqb d) es then different (e ∷ es) else suc (different (e ∷ es)))
    go true l ih =
        let m = ltb-true d e l in
        rw (ne_eqb d e (λ q. omega arith), none_later d e es m later) (omega arith)
    go false l ih =
        let m = ltb-false d e l in
        let k = leb-true d e (and_left (leb d e) (all (leb d) es) a) in
        rw (eq-eqb d e (omega arith)) (omega arith)

dates_taken : (ds : List ℕ) → never_fall ds ≡ true → days_taken ds ≡ different ds
unfolding never_fall days_taken
dates_taken [] f = unfold different in refl
dates_taken (d ∷ ds) f = taken_different d ds (and_left (all (leb d) ds) (never_fall ds) f) (and_right (all (leb d) ds) (never_fall ds) f)

pub days_of_admission : DaysOfAdmission
unfolding DaysOfAdmission DaysTaken
days_of_admission h c x limited f = rw (← dates_taken (dates_granted c h) f) (days_taken_law h c x limited)

-- Times that never fall have dates that never fall.
dates_later : (t : ℕ) (ts : List ℕ) → all (leb t) ts ≡ true → all (leb (date t)) (map date ts) ≡ true
unfolding date
dates_later t [] a = refl
dates_later t (u ∷ us) a =
    let m = leb-true t u (and_left (leb t u) (all (leb t) us) a) in
    rw (le-leb (t / 86400) (u / 86400) (omega arith), dates_later t us (and_right (leb t u) (all (leb t) us) a))

pub dates_never_fall : (ts : List ℕ) → never_fall ts ≡ true → never_fall (map date ts) ≡ true
unfolding never_fall
dates_never_fall [] f = refl
dates_never_fall (t ∷ ts) f =
    rw (dates_later t ts (and_left (all (leb t) ts) (never_fall ts) f), dates_never_fall ts (and_right (all (leb t) ts) (never_fall ts) f))
