-- Wrong codes: a credential's wrong tries and disable after every list of runs from fresh, and the wrong tries that a grant finds.
use Rattle.std.specs.Prelude.{if◌then◌else◌, Option, Some, None}
use Prim.Native.Nat.{ℕ, ◌+◌}
use native.Mathlib.Omega.{arith}
use mathlib.Core.Path.{◌≡◌, refl, sym, ◌∙◌, ap, ap₂, subst}
use mathlib.Core.List.{List, [], ◌∷◌, ◌++◌, map}
use mathlib.Core.Bool.{Bool, true, false, not, ◌&&◌, ◌||◌, and-false, and-true, false≢true, true≢false}
use lib.Dec.{ltb, leb, eqb}
use lib.ListN.{drop, get_or}
use borrow.Author.Tests.{eqb-true, eqb-false, leb-false, lt-ltb}
use Rattle.octets.specs.Octets.{field}
use Rattle.model.specs.Words.{missing}
use Rattle.model.specs.Numbers as n
use Rattle.model.specs.Numbers.{NONE}
use Rattle.model.specs.Site.{records, point_of, credential_of, find_in}
use Rattle.model.specs.State.{Pair, Panel, sites, find_by, find, panel, credential_state_of, fresh_with, fresh_credential, below_most, well_formed}
use Rattle.model.specs.Entry.{entry_of, answer_bytes, operation_of, object_kind}
use Rattle.model.specs.Checks.{event_of}
use Rattle.model.specs.Effects.{named, is_wrong_try, wrong_tries_with, reaches_most, wrong_tries_after, disable_reached, credential_after, answer_with, outcome_with, outcome_of}
use Rattle.model.specs.Step.{unchanged, refuse, situation_of, rules_at, factor_outcome, count_outcome, adjusted, adjust_outcome, disable_after, disable_outcome, locks, service_outcome, worked_outcome, entry_outcome, apply, panels, after, answers}
use Rattle.model.specs.Calls.{is_worked, check_state, run_returned, run_journal}
use Rattle.model.specs.Lists.{Run, run_on, Worked, worked_by, worked_in, History}
use Rattle.model.specs.DayPasses.{is_grant_of, state_left}
use Rattle.model.specs.WrongTries.{is_try_of, sets_disable, is_disable_of, Tried, tried, tried_once, tried_by, tried_after, most_tries, tried_of, tries_in, tries_since}
use Rattle.model.specs.Demands.{WrongTries, GrantBelowMost}
use Rattle.model.specs.declared.Credential.{Credential}
use Rattle.model.specs.declared.Situation.{Situation}
use Rattle.model.specs.declared.Entry.{Entry}
use Rattle.model.specs.declared.Answer.{Answer}
use Rattle.model.specs.declared.Outcome.{Outcome}
use Rattle.model.specs.declared.CredentialState.{CredentialState}
use Rattle.model.specs.declared.Operation.{Operation}
use Rattle.model.specs.declared.Operation.TheVariants.{Factor, SetCount, AdjustCount, SetDisable, SetService}
use Rattle.model.proofs.Laws.{if_holds, There, find_in_sites, sites_apply}
use Rattle.model.proofs.RoundTrip.{event_back, refusal_back, credential_named_back}
use Rattle.model.proofs.Flat.{fresh_panel, sites_fresh, sites_after, sites_panel}
use Rattle.model.proofs.Runs.{real_number, worked_through, site_accepted, accepted, worked_at, entries_in, list_worked, all_entries, worked_list}
use Rattle.model.proofs.Well.{credential_found}
use Rattle.model.proofs.KeptWell.{Taken, state_taken}
use Rattle.model.proofs.Outcomes.{entry_holds}
use Rattle.model.proofs.Granted.{granted_enabled}
use Rattle.model.proofs.Credentials.{is_credential, held, held_by, held_apply, grants, credential_read_law, named_number, state_read, held_fresh, state_left_law}

-- ── one entry, by the fields of its answer

-- The wrong tries and the disable of a state.
abbrev tried_in : CredentialState → Tried
tried_in s = tried s.wrong_tries s.disable

-- The answer is a wrong try of the credential c.
abbrev is_try : ℕ → Answer → Bool
is_try c a = (eqb a.event n.denied_authentication_factor_timeout || eqb a.event n.denied_incorrect_authentication_factor) && eqb a.credential.0 c

-- The answer accepts an operation 4 on it.
abbrev disables : ℕ → Option Operation → Entry → Answer → Bool
disables c o e a = sets_disable o && eqb e.instance c && eqb a.refusal n.not_refused

-- What the entry makes of wrong tries and disable.
unfoldable tried_with : ℕ → ℕ → Option Operation → Entry → Answer → Tried → Tried
tried_with most c o e a t =
    if disables c o e a then tried 0 e.argument else
    if grants c a then tried 0 t.disable else
    if not (eqb most 0) && is_try c a then tried_once most t else
    t

tried_answer : (most c : ℕ) (ps : Panel) (b : List ℕ) (a : Answer) (t : Tried) →
    tried_by most c (record { found = ps; entry = b; answer = answer_bytes a }) t ≡ tried_with most c (operation_of (entry_of b).operation) (entry_of b) a t
unfolding tried_by is_disable_of is_grant_of is_try_of tried_with
tried_answer most c ps b a t = rw (event_back a, refusal_back a, credential_named_back a)

-- ── what an outcome leaves of them

-- They are those that the answer shows; and what is granted was not locked out.
record Tries (most c : ℕ) (e : Entry) (s : CredentialState) (o : Option Operation) (u : Outcome) : Type 0 where
  left : tried_in (held_by c u s) ≡ tried_with most c o e u.answer (tried_in s)
  enabled : grants c u.answer ≡ true → eqb s.disable n.disable_lockout ≡ false

module _ (most c : ℕ) (e : Entry) (s : CredentialState) where
  -- An outcome that writes no credential, neither grants nor is a wrong try, and is no accepted operation 4.
  tries_none : (o : Option Operation) (u : Outcome) → u.credential ≡ None → disables c o e u.answer ≡ false → grants c u.answer ≡ false →
      is_try c u.answer ≡ false → Tries most c e s o u
  unfolding held_by tried_with
  tries_none o u k d g m = record { left = simp (k, d, g, m, and-false); enabled = λ h. absurd (false≢true (rw g at h)) }

  tries_refuse : (o : Option Operation) (r : ℕ) → eqb r n.not_refused ≡ false → Tries most c e s o (refuse r)
  unfolding refuse unchanged
  tries_refuse o r d = tries_none o (refuse r) refl (simp (d, and-false)) refl refl

module _ (c : ℕ) (not_none : eqb c NONE ≡ false) (most : ℕ) (e : Entry) where
  -- The state after an event that is no grant; w says whether it is a wrong try that counts.
  after_try : (v : Situation) (x : ℕ) (w : Bool) → is_wrong_try v x ≡ w → eqb x n.granted ≡ false →
      tried_in (credential_after v e x)
      ≡ (if w then tried_once v.credential.most_wrong_tries (tried_in v.credential_state) else tried_in v.credential_state)
  unfolding credential_after wrong_tries_after disable_reached reaches_most wrong_tries_with tried_once
  after_try v x false w q = rw (q, w)
  after_try v x true w q = rw (q, w) (choose (leb v.credential.most_wrong_tries (v.credential_state.wrong_tries + 1)))
    where
      choose : (d : Bool) →
          tried (if d then 0 else v.credential_state.wrong_tries + 1) (if d then n.disable_lockout else v.credential_state.disable)
          ≡ (if d then tried 0 n.disable_lockout else tried (v.credential_state.wrong_tries + 1) v.credential_state.disable)
      choose true = refl
      choose false = refl

  -- The state after a grant.
  after_grant : (v : Situation) (x : ℕ) → x ≡ n.granted → tried_in (credential_after v e x) ≡ tried 0 v.credential_state.disable
  unfolding credential_after wrong_tries_after disable_reached reaches_most is_wrong_try
  after_grant v x q = simp (q, and-false)

  -- Any event x of a factor read whose situation has the state and the most of c, if the answer names c.
  tries_event : (v : Situation) (s : CredentialState) (x : ℕ) →
      (eqb (named v x).0 c ≡ true → (v.credential_state ≡ s) × (v.credential.most_wrong_tries ≡ most)) →
      (eqb (named v x).0 c ≡ true → eqb x n.granted ≡ true → eqb s.disable n.disable_lockout ≡ false) →
      Tries most c e s (Some Factor) (outcome_of v e x)
  unfolding held_by outcome_of outcome_with answer_with tried_with is_wrong_try
  tries_event v s x same enabled = go (eqb x n.no_event) refl (eqb (named v x).0 c) refl (eqb x n.granted) refl
    where
      counted : Bool
      counted = not (eqb most 0) && (eqb x n.denied_authentication_factor_timeout || eqb x n.denied_incorrect_authentication_factor)

      go : (f : Bool) → eqb x n.no_event ≡ f → (b : Bool) → eqb (named v x).0 c ≡ b → (d : Bool) → eqb x n.granted ≡ d → Tries most c e s (Some Factor) (outcome_of v e x)
      go true r b p d q =
          let z = eqb-true x 0 r in
          tries_none most c e s (Some Factor) (outcome_of v e x) (rw r) refl (rw z) (rw z)
      go false r false p d q = record { left = simp (r, p, and-false); enabled = λ g. absurd (false≢true (simp (p, and-false) at g)) }
      go false r true p true q =
          let k = same p in
          record { left = rw (r, p, q) (after_grant v x (eqb-true x 1 q) ∙ ap (λ (t : CredentialState). tried 0 t.disable) k.0); enabled = λ g. enabled p q }
      go false r true p false q =
          let k = same p in
          record {
            left =
                simp (r, p, q, and-true)
                (after_try v x counted (rw k.1) q ∙ ap₂ (λ m (t : CredentialState). if counted then tried_once m (tried_in t) else tried_in t) k.1 k.0);
            enabled = λ g. absurd (false≢true (rw q at g));
          }

  -- Operation 1, at the point's records x.
  tries_factor : (ps : Panel) (x : Pair) → (credential_of (find_in (is_credential c) (sites ps))).most_wrong_tries ≡ most →
      Tries most c e (held c ps) (Some Factor) (factor_outcome ps e x)
  unfolding factor_outcome unchanged
  tries_factor ps x m =
      let v = situation_of ps e x in
      let event = event_of v (rules_at ps e x) e in
      if_holds (Tries most c e (held c ps) (Some Factor)) (point_of x.0).out_of_service (unchanged _) (outcome_of v e event)
      (tries_none most c e (held c ps) (Some Factor) (unchanged _) refl refl refl refl)
      (tries_event v (held c ps) event
      (λ p. let k = named_number c not_none v event p in
      (state_read c not_none e ps x k, rw (k, m) at (ap (λ (d : Credential). d.most_wrong_tries) (credential_read_law ps e x (rw k not_none)))))
      (λ p q. rw (state_read c not_none e ps x (named_number c not_none v event p)) at (granted_enabled ps e x (eqb-true event 1 q))))

  -- Operation 4, at the records x of the credential that it names.
  tries_disable : (s t : CredentialState) → Tries most c e s (Some SetDisable) (disable_outcome e t)
  unfolding held_by disable_outcome disable_after tried_with
  tries_disable s t = go (eqb e.instance c) refl
    where
      go : (b : Bool) → eqb e.instance c ≡ b → Tries most c e s (Some SetDisable) (disable_outcome e t)
      go true p = record { left = rw p; enabled = λ g. absurd (false≢true g) }
      go false p = record { left = simp (p, and-false); enabled = λ g. absurd (false≢true g) }

  -- The operation at its object's records x.
  tries_worked : (ps : Panel) → (credential_of (find_in (is_credential c) (sites ps))).most_wrong_tries ≡ most → (o : Option Operation) (x : Pair) →
      Tries most c e (held c ps) o (worked_outcome o ps e x)
  unfolding count_outcome adjust_outcome service_outcome
  tries_worked ps m (Some Factor) x = tries_factor ps x m
  tries_worked ps m (Some SetCount) x = tries_none most c e (held c ps) (Some SetCount) (count_outcome e _) refl refl refl refl
  tries_worked ps m (Some AdjustCount) x =
      if_holds (Tries most c e (held c ps) (Some AdjustCount)) (ltb _ (adjusted _ e.amount)) (refuse _) (count_outcome e _)
      (tries_refuse most c e (held c ps) (Some AdjustCount) _ refl) (tries_none most c e (held c ps) (Some AdjustCount) (count_outcome e _) refl refl refl refl)
  tries_worked ps m (Some SetDisable) x = tries_disable (held c ps) _
  tries_worked ps m (Some SetService) x =
      tries_none most c e (held c ps) (Some SetService) (service_outcome e _ _) refl refl
      (if_holds (λ k. eqb k n.granted && eqb NONE c ≡ false) (locks e) 7 8 refl refl)
      (if_holds (λ k. (eqb k n.denied_authentication_factor_timeout || eqb k n.denied_incorrect_authentication_factor) && eqb NONE c ≡ false) (locks e) 7 8 refl refl)
  tries_worked ps m None x = tries_refuse most c e (held c ps) None _ refl

  -- Any entry.
  tries_entry : (ps : Panel) → (credential_of (find_in (is_credential c) (sites ps))).most_wrong_tries ≡ most →
      Tries most c e (held c ps) (operation_of e.operation) (entry_outcome ps e)
  tries_entry ps m =
      entry_holds (Tries most c e (held c ps)) ps e (tries_refuse most c e (held c ps)) (λ o x f i g. tries_worked ps m o x)

-- ── a list of entries

-- A list with an element is not empty.
not_empty : (before later : List Worked) (w : Worked) → [] ≡ before ++ w ∷ later → true ≡ false
not_empty [] later w s = cc
not_empty (x ∷ before) later w s = cc

module _ (c : ℕ) (not_none : eqb c NONE ≡ false) (most : ℕ) where
  -- Wrong tries and disable after any list of entries.
  tried_entries : (bs : List (List ℕ)) (ps : Panel) → There n.access_credential c ps →
      (credential_of (find_in (is_credential c) (sites ps))).most_wrong_tries ≡ most →
      tried_in (held c (after ps (map entry_of bs))) ≡ tried_after most c (tried_in (held c ps)) (worked_at ps bs)
  unfolding after tried_after worked_at panels answers
  tried_entries [] ps g m = refl
  tried_entries (b ∷ bs) ps g m =
      let e = entry_of b in
      let o = entry_outcome ps e in
      let l : tried_in (held c (apply o ps)) ≡ tried_by most c (record { found = ps; entry = b; answer = answer_bytes o.answer }) (tried_in (held c ps))
      = rw (held_apply c not_none o ps g, tried_answer most c ps b o.answer (tried_in (held c ps))) (tries_entry c not_none most e ps m).left in
      tried_entries bs (apply o ps) (rw sites_apply g) (rw sites_apply m) ∙ ap (λ t. tried_after most c t (worked_at (apply o ps) bs)) l

-- ── the wrong tries that a grant finds

-- Unless it is locked out, its wrong tries are those since they were last zeroed, fewer than the most.
Below : ℕ → ℕ → Tried → Type 0
Below most since t = eqb t.disable n.disable_lockout ≡ false → (t.tries ≡ since) × (ltb since most ≡ true)

-- Those since they were last zeroed, after one entry.
abbrev since_with : ℕ → Option Operation → Entry → Answer → ℕ → ℕ
since_with c o e a since = if disables c o e a || grants c a then 0 else if is_try c a then since + 1 else since

below_next : (c most : ℕ) → eqb most 0 ≡ false → (o : Option Operation) (e : Entry) (a : Answer) (since : ℕ) (t : Tried) → Below most since t →
    Below most (since_with c o e a since) (tried_with most c o e a t)
unfolding Below tried_with tried_once
below_next c most set o e a since t h = rw set (go (disables c o e a) (grants c a) (is_try c a) (leb most (t.tries + 1)) refl)
  where
    zero_below : ltb 0 most ≡ true
    zero_below = lt-ltb 0 most (let z = eqb-false most 0 set in omega arith)

    go : (d g m r : Bool) → leb most (t.tries + 1) ≡ r →
        let u =
        if d then tried 0 e.argument else
        if g then tried 0 t.disable else
        if m then (if r then tried 0 n.disable_lockout else tried (t.tries + 1) t.disable) else
        t in
        let k = if d || g then 0 else if m then since + 1 else since in
        eqb u.disable n.disable_lockout ≡ false → (u.tries ≡ k) × (ltb k most ≡ true)
    go true g m r l f = (refl, zero_below)
    go false true m r l f = (refl, zero_below)
    go false false true true l f = absurd (true≢false f)
    go false false true false l f =
        let b = (h f).0 in
        (rw b, rw (← b) (lt-ltb (t.tries + 1) most (leb-false most (t.tries + 1) l)))
    go false false false r l f = h f

module _ (c : ℕ) (not_none : eqb c NONE ≡ false) (most : ℕ) where
  -- The entries before a grant, in any list of entries.
  grant_finds : eqb most 0 ≡ false → (bs : List (List ℕ)) (ps : Panel) (since : ℕ) → There n.access_credential c ps →
      (credential_of (find_in (is_credential c) (sites ps))).most_wrong_tries ≡ most → Below most since (tried_in (held c ps)) →
      (before later : List Worked) (w : Worked) → worked_at ps bs ≡ before ++ w ∷ later → is_grant_of c w ≡ true →
      ltb (tries_since c since before) most ≡ true
  unfolding worked_at panels answers tries_since is_grant_of is_try_of is_disable_of Below
  grant_finds set [] ps since g m h before later w s k = absurd (true≢false (not_empty before later w s))
  grant_finds set (b ∷ bs) ps since g m h [] later w s k =
      let o = entry_outcome ps (entry_of b) in
      let a = rw (event_back o.answer, credential_named_back o.answer) at (ap (λ ws. is_grant_of c (get_or ws 0 w)) s ∙ k) in
      (h ((tries_entry c not_none most (entry_of b) ps m).enabled a)).1
  grant_finds set (b ∷ bs) ps since g m h (x ∷ before) later w s k =
      let e = entry_of b in
      let o = entry_outcome ps e in
      let left = ap tried_in (held_apply c not_none o ps g) ∙ (tries_entry c not_none most e ps m).left in
      let next = subst (Below most (since_with c (operation_of e.operation) e o.answer since)) (sym left) (below_next c most set _ e o.answer since _ h) in
      rw (← ap (λ ws. get_or ws 0 x) s, event_back o.answer, refusal_back o.answer, credential_named_back o.answer)
      (grant_finds set bs (apply o ps) _ (rw sites_apply g) (rw sites_apply m) next before later w (ap (drop 1) s) k)

-- ── lists of runs from fresh

-- A credential of the site.
tried_there : (h : History) (c : ℕ) → missing (find_in (is_credential c) (records h.site)) ≡ false → tried_in (state_left c h) ≡ tried_of c h
unfolding tried_of most_tries fresh_credential fresh_with
tried_there h c g =
    let ss = records h.site in
    let real = real_number n.access_credential c ss (accepted h).fields_in_range g in
    let t = tried_entries c real (most_tries c h.site) (all_entries h) (fresh_panel ss) (rw (sites_fresh ss) g) (rw (sites_fresh ss)) in
    rw (state_left_law h c, worked_list h) (rw (held_fresh c ss g) at t)

-- A record that is missing is empty.
not_there : (s : List ℕ) → missing s ≡ true → s ≡ []
not_there [] g = refl
not_there (x ∷ s) g = cc

-- A number that no credential of the site has: nothing is found of it.
nobody_found : (c : ℕ) (ps : Panel) → missing (find_by (is_credential c) ps).0 ≡ true → find_by (is_credential c) ps ≡ ([], [])
nobody_found c [] g = refl
nobody_found c (x ∷ xs) g = go (is_credential c x.0) refl g (nobody_found c xs)
  where
    empty : (s : List ℕ) → missing s ≡ true → is_credential c s ≡ true → true ≡ false
    empty [] m a = unfold field in sym a
    empty (y ∷ s) m a = sym m

    go : (b : Bool) → is_credential c x.0 ≡ b → missing (if b then x else find_by (is_credential c) xs).0 ≡ true →
        (missing (find_by (is_credential c) xs).0 ≡ true → find_by (is_credential c) xs ≡ ([], [])) →
        (if b then x else find_by (is_credential c) xs) ≡ ([], [])
    go true a m ih = absurd (true≢false (empty x.0 m a))
    go false a m ih = ih m

module _ (c : ℕ) where
  -- No operation 4 on it is accepted.
  nobody_disabled : (e : Entry) (ps : Panel) → missing (find n.access_credential c ps).0 ≡ true →
      disables c (operation_of e.operation) e (entry_outcome ps e).answer ≡ false
  unfolding refuse unchanged
  nobody_disabled e ps g =
      entry_holds (λ o (u : Outcome). disables c o e u.answer ≡ false) ps e (λ o r d. simp (d, and-false)) (λ o x f i m. worked o x f m)
    where
      named_there : (b : Bool) → eqb e.instance c ≡ b → missing (find n.access_credential e.instance ps).0 ≡ false → b ≡ false
      named_there true p m = rw (eqb-true e.instance c p, g) at m
      named_there false p m = refl

      worked : (o : Option Operation) (x : Pair) → find (object_kind o) e.instance ps ≡ x → missing x.0 ≡ false →
          disables c o e (worked_outcome o ps e x).answer ≡ false
      worked (Some Factor) x f m = refl
      worked (Some SetCount) x f m = refl
      worked (Some AdjustCount) x f m = refl
      worked (Some SetDisable) x f m = rw (named_there _ refl (rw f m))
      worked (Some SetService) x f m = refl
      worked None x f m = refl

  -- So no entry shows anything of it.
  nobody_tried : (bs : List (List ℕ)) (ps : Panel) → missing (find_in (is_credential c) (sites ps)) ≡ true →
      tried_after 0 c (tried 0 0) (worked_at ps bs) ≡ tried 0 0
  unfolding tried_after worked_at panels answers tried_with find
  nobody_tried [] ps g = refl
  nobody_tried (b ∷ bs) ps g =
      let e = entry_of b in
      let o = entry_outcome ps e in
      let d = nobody_disabled e ps (rw (find_in_sites (is_credential c) ps) g) in
      let t = rw d at (tried_answer 0 c ps b o.answer (tried 0 0)) in
      ap (λ k. tried_after 0 c k (worked_at (apply o ps) bs)) (t ∙ if_holds (λ k. k ≡ tried 0 0) (grants c o.answer) (tried 0 0) (tried 0 0) refl refl)
      ∙ nobody_tried bs (apply o ps) (rw sites_apply g)

  tried_nobody : (h : History) → missing (find_in (is_credential c) (records h.site)) ≡ true → tried_in (state_left c h) ≡ tried_of c h
  unfolding held find credential_state_of tried_of most_tries credential_of field
  tried_nobody h g =
      let ss = records h.site in
      let ps = after (fresh_panel ss) (map entry_of (all_entries h)) in
      let found = nobody_found c ps (rw (find_in_sites (is_credential c) ps, sites_after (map entry_of (all_entries h)) (fresh_panel ss), sites_fresh ss) g) in
      rw (state_left_law h c, found, not_there (find_in (is_credential c) ss) g, worked_list h)
      (sym (nobody_tried (all_entries h) (fresh_panel ss) (rw (sites_fresh ss) g)))

pub wrong_tries_law : WrongTries
unfolding WrongTries
wrong_tries_law h c =
    let t = either (missing (find_in (is_credential c) (records h.site))) refl in
    (ap (λ (k : Tried). k.tries) t, ap (λ (k : Tried). k.disable) t)
  where
    either : (b : Bool) → missing (find_in (is_credential c) (records h.site)) ≡ b → tried_in (state_left c h) ≡ tried_of c h
    either true g = tried_nobody c h g
    either false g = tried_there h c g

-- ── lists of runs on any state

-- Where the site or the state is turned back, no entry is worked.
none_worked : (site : List ℕ) (rs : List Run) (state : List ℕ) → is_worked (check_state site state) ≡ false → worked_in site state rs ≡ []
unfolding worked_in worked_by run_on run_journal run_returned
none_worked site [] state h = refl
none_worked site (r ∷ rs) state h = rw (h, h) (none_worked site rs state h)

-- In a well-formed state a credential's wrong tries are below its most.
below_taken : (site state : List ℕ) (c : ℕ) → Taken site state → eqb (most_tries c site) 0 ≡ false →
    Below (most_tries c site) (tries_in c site state) (tried_in (held c (panel site state)))
unfolding Below most_tries tries_in held below_most well_formed find
below_taken site state c t set f =
    let b = rw (find_in_sites, sites_panel site state, set) at (credential_found (records site) (panel site state) t.well c).tries in
    (refl, b)

pub grant_below_most : GrantBelowMost
unfolding GrantBelowMost
grant_below_most site state rs c before later w s k = taken (is_worked (check_state site state)) refl
  where
    Finds : Type 0
    Finds = eqb (most_tries c site) 0 || ltb (tries_since c (tries_in c site state) before) (most_tries c site) ≡ true

    counted : Taken site state → missing (find_in (is_credential c) (records site)) ≡ false → (b : Bool) → eqb (most_tries c site) 0 ≡ b →
        b || ltb (tries_since c (tries_in c site state) before) (most_tries c site) ≡ true
    counted t g true z = refl
    counted t g false z =
        let a = site_accepted site t.site_accepts in
        grant_finds c (real_number n.access_credential c (records site) a.fields_in_range g) (most_tries c site) z (entries_in site state rs) (panel site state) (tries_in c site state)
        (rw (sites_panel site state) g) (unfold most_tries in rw (sites_panel site state)) (below_taken site state c t z) before later w
        (sym (list_worked site rs state t.as_long) ∙ s) k

    there : Taken site state → (b : Bool) → missing (find_in (is_credential c) (records site)) ≡ b → Finds
    there t true g = unfold most_tries credential_of field in rw (not_there (find_in (is_credential c) (records site)) g)
    there t false g = counted t g _ refl

    taken : (b : Bool) → is_worked (check_state site state) ≡ b → Finds
    taken true v = there (state_taken site state (worked_through _ v)) _ refl
    taken false v = absurd (true≢false (not_empty before later w (sym (none_worked site rs state v) ∙ s)))
