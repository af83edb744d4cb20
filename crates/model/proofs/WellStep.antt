-- Where the records of a panel are well formed, they are so after every entry.
use Rattle.std.specs.Prelude.{if◌then◌else◌, Option, Some, None}
use Rattle.std.specs.Option.{IfSome}
use Rattle.std.proofs.lemmas.Option.{IfSome_then}
use Prim.Native.Nat.{ℕ}
use mathlib.Core.Path.{◌≡◌, refl, ◌∙◌, ap}
use mathlib.Core.List.{List, [], ◌∷◌}
use mathlib.Core.Bool.{Bool, true, false, not, ◌&&◌, ◌||◌, true≢false}
use lib.Dec.{ltb, leb, eqb}
use borrow.Author.Tests.{eqb-true, not-true, leb-false, lt-ltb}
use Rattle.model.specs.Words.{all, missing}
use Rattle.model.specs.Numbers as n
use Rattle.model.specs.Numbers.{NONE}
use Rattle.model.specs.Site.{zone_id, credential_id, point_of, credential_of, is_at, find_in}
use Rattle.model.specs.Accept.{exists, none_or_exists, names_exist}
use Rattle.model.specs.State.{Pair, Panel, sites, find, store, write, zone_bytes, point_state_of, credential_state_of, below_most, record_well}
use Rattle.model.specs.Entry.{object_kind, in_form}
use Rattle.model.specs.Checks.{relinquished, still_locked, waiting, authentication_of, into_zone, event_of}
use Rattle.model.specs.Effects.{named, is_failure, failures_before, failures_with, locks_out, point_after, is_wrong_try, wrong_tries_with, reaches_most, wrong_tries_after, disable_reached, zone_after, credential_after, outcome_with, outcome_of}
use Rattle.model.specs.Step.{write_of, unchanged, refuse, factor_read, number_read, credential_at, situation_of, rules_at, factor_outcome, count_outcome, adjusted, adjust_outcome, disable_after, disable_outcome, locks, service_after, service_outcome, worked_outcome, entry_outcome, apply, after}
use Rattle.model.proofs.Laws.{if_holds, and_left, and_right, or_right, kind_at, find_in_sites, if_any, all_write_of, sites_write_of, sites_apply}
use Rattle.model.proofs.Outcomes.{entry_holds}
use Rattle.model.proofs.Credentials.{credential_read_law}
use Rattle.model.proofs.Well.{none_fits, exists_fits, none_below, if_below, PointSound, CredentialSound, zone_well_law, point_well_law, credential_well_law, point_found, credential_found, credential_sought, to_fits, number_fits}
use Rattle.model.specs.declared.ZoneId.{ZoneId}
use Rattle.model.specs.declared.CredentialId.{CredentialId}
use Rattle.model.specs.declared.PointId.{PointId}
use Rattle.model.specs.declared.PointState.{PointState}
use Rattle.model.specs.declared.CredentialState.{CredentialState}
use Rattle.model.specs.declared.Situation.{Situation}
use Rattle.model.specs.declared.Verdict.{Verdict}
use Rattle.model.specs.declared.Entry.{Entry}
use Rattle.model.specs.declared.Answer.{Answer}
use Rattle.model.specs.declared.Write.{Write}
use Rattle.model.specs.declared.Outcome.{Outcome}
use Rattle.model.specs.declared.Operation.{Operation}
use Rattle.model.specs.declared.Operation.TheVariants.{Factor, SetCount, AdjustCount, SetDisable, SetService}

-- ── the states that a factor read leaves, for every situation and event

-- The situation has sound states, and its references are NONE or exist.
record Seen (ss : List (List ℕ)) (v : Situation) : Type 0 where
  point : PointSound ss v.point.most_failures v.point_state
  to : none_or_exists ss n.access_zone v.point.zone_to.0 ≡ true
  number : none_or_exists ss n.access_credential v.number.0 ≡ true
  credential : CredentialSound ss v.credential.most_wrong_tries v.credential_state

-- A point that is still locked answers 161.
locked_event : (v : Situation) (rules : Verdict) (e : Entry) → still_locked v e ≡ true → event_of v rules e ≡ n.denied_lockout
unfolding event_of authentication_of
locked_event v rules e h = rw h

-- The events that are failures where a most is set.
failing : ℕ → Bool
failing x = eqb x n.denied_unknown_credential || eqb x n.denied_authentication_factor_error

-- An event that is a failure is not one that is none.
not_failing : (k x : ℕ) → failing k ≡ false → failing x ≡ true → eqb x k ≡ false
not_failing k x a b = go (eqb x k) refl
  where
    go : (c : Bool) → eqb x k ≡ c → c ≡ false
    go true e = cc (eqb-true x k e)
    go false e = refl

module _ (ss : List (List ℕ)) (v : Situation) (e : Entry) (x : ℕ) (h : Seen ss v) where
  most : ℕ
  most = v.point.most_failures

  -- A point that is locked afterwards waits for nobody: a failure locked it, or it was locked before.
  free_after : (still_locked v e ≡ true → x ≡ n.denied_lockout) →
      not (point_after v e x).locked || eqb (point_after v e x).waiting_credential.0 NONE ≡ true
  unfolding point_after locks_out is_failure still_locked failing
  free_after l = go (locks_out v e x) (still_locked v e) refl refl
    where
      go : (c d : Bool) → locks_out v e x ≡ c → still_locked v e ≡ d →
          not (c || d)
          || eqb
          (if eqb x n.no_event then v.number else
          if eqb x n.denied_lockout then v.point_state.waiting_credential else credential_id NONE).0 NONE ≡ true
      go true d o s =
          let f : is_failure v x ≡ true = search and_left in
          let g : failing x ≡ true = and_right (not (eqb v.point.most_failures 0)) (failing x) f in
          rw (not_failing n.no_event x refl g, not_failing n.denied_lockout x refl g)
      go false true o s =
          let k : v.point_state.locked ≡ true = search and_left in
          rw (l s) (rw k at h.point.free)
      go false false o s = refl

  -- The failures so far are below the most.
  fails_before : below_most (failures_before v e) most ≡ true
  unfolding failures_before most
  fails_before =
      if_below (relinquished v e) most 0 v.point_state.failures (λ r. none_below most) (λ r. h.point.fails)

  -- A failure that does not lock the point leaves its failures below the most.
  fails_with : locks_out v e x ≡ false → is_failure v x ≡ true → below_most (failures_with v e) most ≡ true
  unfolding locks_out is_failure below_most most
  fails_with o f =
      let m : eqb most 0 ≡ false = not-true (eqb most 0) (search and_left) in
      let b : leb most (failures_with v e) ≡ false = rw f at o in
      rw m (lt-ltb (failures_with v e) most (leb-false most (failures_with v e) b))

  -- The failures afterwards are below the most.
  fails_after : below_most (point_after v e x).failures most ≡ true
  unfolding point_after
  fails_after =
      if_below (eqb x n.granted || locks_out v e x) most 0 _ (λ g. none_below most)
      (λ g. if_below (is_failure v x) most (failures_with v e) (failures_before v e)
      (fails_with (or_right (eqb x n.granted) (locks_out v e x) g)) (λ f. fails_before))

  -- The point's state afterwards is sound.
  point_after_law : (still_locked v e ≡ true → x ≡ n.denied_lockout) → PointSound ss v.point.most_failures (point_after v e x)
  unfolding point_after most
  point_after_law l =
      record {
        waits =
            if_holds (λ (c : CredentialId). none_or_exists ss n.access_credential c.0 ≡ true) (eqb x n.no_event) v.number _ h.number
            (if_holds (λ (c : CredentialId). none_or_exists ss n.access_credential c.0 ≡ true) (eqb x n.denied_lockout) v.point_state.waiting_credential
            (credential_id NONE) h.point.waits (none_fits ss n.access_credential));
        free = free_after l;
        fails = fails_after;
      }

  -- A wrong try that does not reach the most leaves the wrong tries below it.
  tries_with : reaches_most v x ≡ false → is_wrong_try v x ≡ true → below_most (wrong_tries_with v) v.credential.most_wrong_tries ≡ true
  unfolding reaches_most is_wrong_try below_most
  tries_with o f =
      let m : eqb v.credential.most_wrong_tries 0 ≡ false = not-true (eqb v.credential.most_wrong_tries 0) (search and_left) in
      let b : leb v.credential.most_wrong_tries (wrong_tries_with v) ≡ false = rw f at o in
      rw m (lt-ltb (wrong_tries_with v) v.credential.most_wrong_tries (leb-false v.credential.most_wrong_tries (wrong_tries_with v) b))

  -- The credential's state afterwards is sound.
  credential_after_law : none_or_exists ss n.access_point e.instance ≡ true →
      CredentialSound ss v.credential.most_wrong_tries (credential_after v e x)
  unfolding credential_after zone_after disable_reached wrong_tries_after
  credential_after_law p =
      record {
        disabled =
            if_holds (λ d. leb d n.largest_disable ≡ true) (reaches_most v x) n.disable_lockout v.credential_state.disable refl
            h.credential.disabled;
        inside =
            if_holds zone_fits (not (eqb x n.granted)) v.credential_state.zone _ h.credential.inside
            (if_holds zone_fits (into_zone v) v.point.zone_to _ h.to
            (if_holds zone_fits (not (eqb v.point.zone_from.0 NONE)) (zone_id NONE) v.credential_state.zone
            (none_fits ss n.access_zone) h.credential.inside));
        seen = p;
        tries =
            if_below (eqb x n.granted || reaches_most v x) v.credential.most_wrong_tries 0 _ (λ g. none_below v.credential.most_wrong_tries)
            (λ g. if_below (is_wrong_try v x) v.credential.most_wrong_tries (wrong_tries_with v) v.credential_state.wrong_tries
            (tries_with (or_right (eqb x n.granted) (reaches_most v x) g)) (λ f. h.credential.tries));
      }
    where
      zone_fits : ZoneId → Type 0
      zone_fits z = none_or_exists ss n.access_zone z.0 ≡ true

-- ── outcomes that leave sound states

-- A point's state that is written is sound for the most failures of that point.
abbrev PointKept : List (List ℕ) → Write PointId PointState → Type 0
PointKept ss w = PointSound ss (point_of (find_in (is_at n.access_point w.instance.0) ss)).most_failures w.state

-- A credential's for its most wrong tries, unless it is NONE.
abbrev CredentialKept : List (List ℕ) → Write CredentialId CredentialState → Type 0
CredentialKept ss w =
    eqb w.instance.0 NONE ≡ false →
    CredentialSound ss (credential_of (find_in (is_at n.access_credential w.instance.0) ss)).most_wrong_tries w.state

-- All that an outcome writes is sound.
record Sound (ss : List (List ℕ)) (o : Outcome) : Type 0 where
  point : IfSome o.point (PointKept ss)
  credential : IfSome o.credential (CredentialKept ss)

-- An outcome that writes nothing.
sound_unchanged : (ss : List (List ℕ)) (a : Answer) → Sound ss (unchanged a)
unfolding unchanged
sound_unchanged ss a = record { point = tt; credential = tt }

-- An outcome that writes a count.
sound_count : (ss : List (List ℕ)) (e : Entry) (counted : ℕ) → Sound ss (count_outcome e counted)
unfolding count_outcome
sound_count ss e counted = record { point = tt; credential = tt }

-- An adjustment of a count.
sound_adjust : (ss : List (List ℕ)) (e : Entry) (counted : ℕ) → Sound ss (adjust_outcome e counted)
unfolding adjust_outcome refuse
sound_adjust ss e counted =
    if_holds (Sound ss) (ltb n.largest_count (adjusted counted e.amount)) (refuse n.refused_count)
    (count_outcome e (adjusted counted e.amount)) (sound_unchanged ss _) (sound_count ss e (adjusted counted e.amount))

-- The outcome of a factor read at a point that exists.
sound_outcome : (ss : List (List ℕ)) (v : Situation) (e : Entry) (x : ℕ) → Seen ss v →
    (still_locked v e ≡ true → x ≡ n.denied_lockout) → v.point ≡ point_of (find_in (is_at n.access_point e.instance) ss) →
    (eqb v.number.0 NONE ≡ false → v.credential ≡ credential_of (find_in (is_at n.access_credential v.number.0) ss)) →
    none_or_exists ss n.access_point e.instance ≡ true → Sound ss (outcome_of v e x)
unfolding outcome_of outcome_with named
sound_outcome ss v e x h l p c i =
    record {
      point = rw (← p) (point_after_law ss v e x h l);
      credential =
          if_holds (λ o. IfSome o (CredentialKept ss)) (eqb x n.no_event) None (Some _) tt
          (go (not (waiting v) && (eqb x n.denied_lockout || eqb x n.denied_authentication_factor_error)));
    }
  where
    go : (b : Bool) → eqb (if b then credential_id NONE else v.number).0 NONE ≡ false →
        CredentialSound ss (credential_of (find_in (is_at n.access_credential (if b then credential_id NONE else v.number).0) ss)).most_wrong_tries
        (credential_after v e x)
    go true d = absurd (true≢false d)
    go false d = rw (← c d) (credential_after_law ss v e x h i)

-- A point that operation 5 locks or unlocks has a sound state afterwards.
service_after_law : (ss : List (List ℕ)) (most : ℕ) (e : Entry) (p : PointState) → PointSound ss most p →
    PointSound ss most (service_after e p)
unfolding service_after
service_after_law ss most e p h =
    record {
      waits =
          if_holds (λ (c : CredentialId). none_or_exists ss n.access_credential c.0 ≡ true) (locks e) (credential_id NONE) p.waiting_credential (none_fits ss n.access_credential) h.waits;
      free = go (locks e);
      fails = if_below (locks e) most p.failures 0 (λ l. h.fails) (λ l. none_below most);
    }
  where
    go : (c : Bool) → not c || eqb (if c then credential_id NONE else p.waiting_credential).0 NONE ≡ true
    go true = refl
    go false = refl

-- ── the outcome of an entry at a panel of well-formed records

module _ (ss : List (List ℕ)) (ps : Panel) (of_site : sites ps ≡ ss) (well : all (record_well ss) ps ≡ true) (e : Entry) where
  -- The site record of what is found.
  found_site : (k i : ℕ) → (find k i ps).0 ≡ find_in (is_at k i) ss
  unfolding find
  found_site k i = rw (← of_site) (find_in_sites (is_at k i) ps)

  -- What is found exists.
  found_fits : (k i : ℕ) → missing (find k i ps).0 ≡ false → none_or_exists ss k i ≡ true
  unfolding exists
  found_fits k i g = exists_fits ss k i (rw (← found_site k i, g))

  -- Operation 4.
  sound_disable : in_form (Some SetDisable) e ≡ true →
      Sound ss (disable_outcome e (credential_state_of (find n.access_credential e.instance ps).1))
  unfolding disable_outcome disable_after in_form
  sound_disable f =
      let c = credential_found ss ps well e.instance in
      record {
        point = tt;
        credential = λ i. record { disabled = search and_left; inside = c.inside; seen = c.seen; tries = none_below _ };
      }

  -- Operation 5.
  sound_service : (counted : ℕ) → Sound ss (service_outcome e (point_state_of (find n.access_point e.instance ps).1) counted)
  unfolding service_outcome
  sound_service counted =
      record {
        point =
            rw (← found_site n.access_point e.instance) (service_after_law ss _ e _ (point_found ss ps well e.instance));
        credential = tt;
      }

  module _ (names : all (names_exist ss) ss ≡ true) where
    -- The situation of a factor read.
    situation_seen : Seen ss (situation_of ps e (find n.access_point e.instance ps))
    unfolding situation_of number_read factor_read credential_at
    situation_seen =
        record {
          point = point_found ss ps well e.instance;
          to = rw (found_site n.access_point e.instance) (to_fits ss names e.instance);
          number = rw of_site (number_fits ss names e _ (point_found ss ps well e.instance).waits);
          credential = credential_sought ss ps well _;
        }

    -- The credential of a factor read is that of its number.
    read_credential : let v = situation_of ps e (find n.access_point e.instance ps) in
        eqb v.number.0 NONE ≡ false → v.credential ≡ credential_of (find_in (is_at n.access_credential v.number.0) ss)
    read_credential d = rw (← of_site) (credential_read_law ps e _ d)

    -- Operation 1.
    sound_factor : missing (find n.access_point e.instance ps).0 ≡ false →
        Sound ss (factor_outcome ps e (find n.access_point e.instance ps))
    unfolding factor_outcome situation_of
    sound_factor g =
        let p = find n.access_point e.instance ps in
        let v = situation_of ps e p in
        if_holds (Sound ss) (point_of p.0).out_of_service (unchanged _) (outcome_of v e _) (sound_unchanged ss _)
        (sound_outcome ss v e _ situation_seen (locked_event v (rules_at ps e p) e)
        (ap point_of (found_site n.access_point e.instance)) read_credential (found_fits n.access_point e.instance g))

    -- Every operation, at an object that is found.
    sound_worked : (o : Option Operation) (x : Pair) → find (object_kind o) e.instance ps ≡ x → in_form o e ≡ true → missing x.0 ≡ false →
        Sound ss (worked_outcome o ps e x)
    unfolding refuse
    sound_worked (Some Factor) x p f g = rw (← p) (sound_factor (rw p g))
    sound_worked (Some SetCount) x p f g = sound_count ss e e.amount
    sound_worked (Some AdjustCount) x p f g = sound_adjust ss e _
    sound_worked (Some SetDisable) x p f g = rw (← p) (sound_disable f)
    sound_worked (Some SetService) x p f g = rw (← p) (sound_service _)
    sound_worked None x p f g = sound_unchanged ss _

    -- Every entry.
    sound_entry : Sound ss (entry_outcome ps e)
    unfolding refuse
    sound_entry = entry_holds (λ o. Sound ss) ps e (λ o r d. sound_unchanged ss _) sound_worked

-- ── the panel after an entry, and after a list of them

module _ (t : Pair → Bool) (k i : ℕ) (b : List ℕ) where
  -- The bytes that are written pass beside the site record that is found.
  Passes : List (List ℕ) → Type 0
  Passes ss = is_at k i (find_in (is_at k i) ss) ≡ true → t (find_in (is_at k i) ss, b) ≡ true

  -- Then a write keeps what all records pass.
  all_store_found : (ps : Panel) → Passes (sites ps) → all t ps ≡ true → all t (store k i b ps) ≡ true
  unfolding store Passes
  all_store_found [] h a = refl
  all_store_found (x ∷ xs) h a =
      go (is_at k i x.0) refl h (λ g. all_store_found xs g (and_right (t x) (all t xs) a))
    where
      go : (c : Bool) → is_at k i x.0 ≡ c →
          (is_at k i (if c then x.0 else find_in (is_at k i) (sites xs)) ≡ true →
          t (if c then x.0 else find_in (is_at k i) (sites xs), b) ≡ true) →
          (Passes (sites xs) → all t (store k i b xs) ≡ true) →
          all t (if c then (x.0, b) ∷ xs else x ∷ store k i b xs) ≡ true
      go true e h ih = rw (h e, and_right (t x) (all t xs) a)
      go false e h ih = rw (and_left (t x) (all t xs) a, ih h)

  -- So does a write to NONE or of such bytes.
  all_write_found : (ps : Panel) → (eqb i NONE ≡ false → Passes (sites ps)) → all t ps ≡ true → all t (write k i b ps) ≡ true
  unfolding write
  all_write_found ps h a = go (eqb i NONE) refl
    where
      go : (c : Bool) → eqb i NONE ≡ c → all t (if c then ps else store k i b ps) ≡ true
      go true e = a
      go false e = all_store_found ps (h e) a

-- And a write that an outcome makes or not.
all_write_of_found : {I S : Type 0} (t : Pair → Bool) (k : ℕ) (i : I → ℕ) (b : S → List ℕ) (o : Option (Write I S)) (ps : Panel) →
    IfSome o (λ w. eqb (i w.instance) NONE ≡ false → Passes t k (i w.instance) (b w.state) (sites ps)) → all t ps ≡ true →
    all t (write_of k i b o ps) ≡ true
all_write_of_found t k i b None ps h a = a
all_write_of_found t k i b (Some w) ps h a = all_write_found t k (i w.instance) (b w.state) ps h a

-- A count that is written is well formed.
zone_kept : (ss : List (List ℕ)) (w : Write ZoneId ℕ) (x : Pair) → is_at n.access_zone w.instance.0 x.0 ≡ true → record_well ss x ≡ true →
    record_well ss (x.0, zone_bytes w.state) ≡ true
zone_kept ss w x p q = zone_well_law ss x.0 w.state (kind_at n.access_zone w.instance.0 x.0 p)

-- An outcome that leaves sound states leaves well-formed records.
apply_well : (ss : List (List ℕ)) (o : Outcome) (ps : Panel) → sites ps ≡ ss → Sound ss o → all (record_well ss) ps ≡ true →
    all (record_well ss) (apply o ps) ≡ true
unfolding apply Passes
apply_well ss o ps of_site h a =
    all_write_of_found (record_well ss) n.access_point _ _ o.point _
    (simp (sites_write_of, of_site)
    (IfSome_then o.point h.point (λ w p d q. point_well_law ss _ w.state (kind_at n.access_point w.instance.0 _ q) p)))
    (all_write_of_found (record_well ss) n.access_credential _ _ o.credential _
    (simp (sites_write_of, of_site)
    (IfSome_then o.credential h.credential (λ w p d q. credential_well_law ss _ w.state (kind_at n.access_credential w.instance.0 _ q) (p d))))
    (all_write_of (record_well ss) n.access_zone _ _ o.zone_to _ (if_any _ o.zone_to (zone_kept ss))
    (all_write_of (record_well ss) n.access_zone _ _ o.zone_from ps (if_any _ o.zone_from (zone_kept ss)) a)))

-- One entry leaves well-formed records.
pub step_well : (ss : List (List ℕ)) → all (names_exist ss) ss ≡ true → (e : Entry) (ps : Panel) → sites ps ≡ ss →
    all (record_well ss) ps ≡ true → all (record_well ss) (apply (entry_outcome ps e) ps) ≡ true
step_well ss names e ps of_site a = apply_well ss (entry_outcome ps e) ps of_site (sound_entry ss ps of_site a e names) a

-- So does a list of them.
pub well_after : (ss : List (List ℕ)) → all (names_exist ss) ss ≡ true → (es : List Entry) (ps : Panel) → sites ps ≡ ss →
    all (record_well ss) ps ≡ true → all (record_well ss) (after ps es) ≡ true
unfolding after
well_after ss names [] ps of_site a = a
well_after ss names (e ∷ es) ps of_site a =
    well_after ss names es (apply (entry_outcome ps e) ps) (sites_apply (entry_outcome ps e) ps ∙ of_site)
    (step_well ss names e ps of_site a)
