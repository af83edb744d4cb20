-- A grant is earned: what the order of checks passed where it comes to event 1.
use Rattle.std.specs.Prelude.{if◌then◌else◌, Option, Some, None, is_none}
use Rattle.std.specs.Option.{unwrap_or, option_or}
use Prim.Native.Nat.{ℕ, ◌≤◌, ◌<◌}
use native.Mathlib.Omega.{arith}
use mathlib.Core.Path.{◌≡◌, refl, sym, ◌∙◌, ap}
use mathlib.Core.List.{List, [], ◌∷◌, map}
use mathlib.Core.Bool.{Bool, true, false, not, ◌&&◌, ◌||◌, and-false, or-true}
use lib.Dec.{ltb, leb, eqb}
use lib.ListN.{get_or, take}
use borrow.Author.Tests.{eqb-true, eqb-false, eq-eqb, ltb-false, leb-true, not-true, not-false}
use Rattle.octets.specs.Octets.{same}
use Rattle.octets.proofs.Laws.{same_refl}
use Rattle.model.specs.Words.{any, all, missing}
use Rattle.model.specs.Numbers as n
use Rattle.model.specs.Numbers.{NONE}
use Rattle.model.specs.Site.{point_id, credential_id, records, kind, instance, enabled, negative, role, factor_disable, point_of, is_at, find_in}
use Rattle.model.specs.State.{Pair, Panel, sites, find, point_state_of, count, record_well, panel, well_formed}
use Rattle.model.specs.Entry.{entry_of, entries, operation_of, object_kind}
use Rattle.model.specs.Checks.{still_locked, waiting, overdue, presents, identifying, confirming, factor_for, credential_read, disabled_factor, disabled_event, first_of_two, authentication_of, authentication, inactive, validity_of, validity, of_rights, enabled_rule, location_fits, time_fits, verdict, passback_violated, into_zone, at_lower_limit, at_upper_limit, authorization_of, authorization, passage, permission, entitlement, event_of}
use Rattle.model.specs.Effects.{named, answer_with, outcome_with, outcome_of}
use Rattle.model.specs.Step.{no_answer, zone_to, unchanged, refuse, factor_read, disable_of, number_read, situation_of, rules_at, factor_outcome, count_outcome, adjusted, adjust_outcome, disable_outcome, locks, service_outcome, worked_outcome, entry_outcome, after, credential_at}
use Rattle.model.specs.Earned.{FittingRule, forbidden, Authorized, EarnedAt, Earned}
use Rattle.model.specs.Calls.{fresh_returned}
use Rattle.model.specs.Lists.{run_on, first_of, event_in, credential_in}
use Rattle.model.specs.Demands.{GrantEarned}
use Rattle.model.proofs.Laws.{if_holds, and_left, and_right, found_in}
use Rattle.model.proofs.Outcomes.{entry_holds}
use Rattle.model.proofs.RoundTrip.{event_back, credential_named_back}
use Rattle.model.proofs.Flat.{sites_after, sites_panel, panel_back}
use Rattle.model.proofs.Runs.{site_accepted, site_worked, worked_through}
use Rattle.model.proofs.Entries.{lengths, run_accepted, state_at, answer_at}
use Rattle.model.proofs.Well.{CredentialSound, credential_sought}
use Rattle.model.proofs.WellStep.{well_after}
use Rattle.model.specs.declared.CredentialId.{CredentialId}
use Rattle.model.specs.declared.Situation.{Situation}
use Rattle.model.specs.declared.Verdict.{Verdict}
use Rattle.model.specs.declared.Entry.{Entry}
use Rattle.model.specs.declared.Outcome.{Outcome}
use Rattle.model.specs.declared.Operation.{Operation}
use Rattle.model.specs.declared.Operation.TheVariants.{Factor, SetCount, AdjustCount, SetDisable, SetService}

-- ── a chain that comes to 1 passed each check whose event is not 1

-- The checks come to event 1: they give it, or they give none.
abbrev Passes : Option ℕ → Type 0
Passes o = unwrap_or o 1 ≡ 1

passed : (c : Bool) (x : ℕ) (o next : Option ℕ) → eqb x 1 ≡ false → Passes (option_or (if c then Some x else o) next) →
    (c ≡ false) × Passes (option_or o next)
passed true x o next n h = absurd (eqb-false x 1 n h)
passed false x o next n h = (refl, h)

-- Either of two events other than 1.
other : (c : Bool) (x y : ℕ) → eqb x 1 ≡ false → eqb y 1 ≡ false → eqb (if c then x else y) 1 ≡ false
other = if_holds (λ x. eqb x 1 ≡ false)

-- No disabled factor is granted.
disabled_factor_law : (d : ℕ) → eqb (disabled_factor d) 1 ≡ false
unfolding disabled_factor
disabled_factor_law d =
    other (eqb d 1) 147 _ refl (other (eqb d 2) 143 _ refl (other (eqb d 3) 144 _ refl (other (eqb d 4) 145 146 refl refl)))

-- A factor matched, and it is not disabled.
enabled_factor : (d : Option ℕ) (x : ℕ) (o next : Option ℕ) → eqb x 1 ≡ false →
    Passes (option_or (if is_none d then Some x else option_or (disabled_event d) o) next) → (d ≡ Some 0) × Passes (option_or o next)
enabled_factor None x o next n h = absurd (eqb-false x 1 n h)
enabled_factor (Some d) x o next n h = go (eqb d 0) refl h
  where
    go : (c : Bool) → eqb d 0 ≡ c → Passes (option_or (option_or (if c then None else Some (disabled_factor d)) o) next) →
        (Some d ≡ Some 0) × Passes (option_or o next)
    go true z h = (ap Some (eqb-true d 0 z), h)
    go false z h = absurd (eqb-false (disabled_factor d) 1 (disabled_factor_law d) h)

record Authenticated (v : Situation) (e : Entry) : Type 0 where
  not_locked : still_locked v e ≡ false
  in_time : overdue v e ≡ false
  no_error : eqb e.argument 1 ≡ false
  factor_enabled : v.factor_disable ≡ Some 0
  not_first : first_of_two v ≡ false

-- Steps 1 to 4.
authenticated : (v : Situation) (e : Entry) (next : Option ℕ) → Passes (option_or (authentication (authentication_of v e)) next) →
    Authenticated v e × Passes next
unfolding authentication_of
authenticated v e next h =
    let a = passed (still_locked v e) 161 _ next refl h in
    let b = passed (overdue v e) 131 _ next refl a.1 in
    let c = passed (eqb e.argument 1) 148 _ next refl b.1 in
    let d = enabled_factor v.factor_disable _ _ next (other (waiting v) 132 129 refl refl) c.1 in
    let f = passed (first_of_two v) 0 None next refl d.1 in
    (record { not_locked = a.0; in_time = b.0; no_error = c.0; factor_enabled = d.0; not_first = f.0 }, f.1)

record Valid (v : Situation) (e : Entry) : Type 0 where
  active : v.credential.activation ≤ e.time
  unexpired : e.time ≤ v.credential.expiry
  not_disabled : eqb v.credential_state.disable 1 ≡ false
  not_manual : eqb v.credential_state.disable 2 ≡ false
  not_lockout : eqb v.credential_state.disable 3 ≡ false
  days : eqb v.credential_state.days 0 ≡ false
  uses : eqb v.credential_state.uses 0 ≡ false
  not_absent : inactive v.credential_state.last_use v.credential.absentee_days e.time ≡ false

-- Step 5.
valid : (v : Situation) (e : Entry) (next : Option ℕ) → Passes (option_or (validity (validity_of v e)) next) → Valid v e × Passes next
unfolding validity_of
valid v e next h =
    let a = passed (ltb e.time v.credential.activation) 151 _ next refl h in
    let b = passed (ltb v.credential.expiry e.time) 152 _ next refl a.1 in
    let c = passed (eqb v.credential_state.disable 1) 158 _ next refl b.1 in
    let d = passed (eqb v.credential_state.disable 2) 153 _ next refl c.1 in
    let f = passed (eqb v.credential_state.disable 3) 154 _ next refl d.1 in
    let g = passed (eqb v.credential_state.days 0) 155 _ next refl f.1 in
    let i = passed (eqb v.credential_state.uses 0) 156 _ next refl g.1 in
    let j = passed (inactive v.credential_state.last_use v.credential.absentee_days e.time) 157 _ next refl i.1 in (
      record {
        active = ltb-false e.time v.credential.activation a.0;
        unexpired = ltb-false v.credential.expiry e.time b.0;
        not_disabled = c.0;
        not_manual = d.0;
        not_lockout = f.0;
        days = g.0;
        uses = i.0;
        not_absent = j.0;
      },
      j.1,
    )

-- A record of a list that passes a test.
record Witness (q : List ℕ → Bool) (ss : List (List ℕ)) : Type 0 where
  one : List ℕ
  among : any (same one) ss ≡ true
  passes : q one ≡ true

-- Where any does.
some : (q : List ℕ → Bool) (ss : List (List ℕ)) → any q ss ≡ true → Witness q ss
some q [] h = record { one = []; among = h; passes = cc }
some q (s ∷ ss) h = go (q s) refl h (some q ss)
  where
    go : (c : Bool) → q s ≡ c → c || any q ss ≡ true → (any q ss ≡ true → Witness q ss) → Witness q (s ∷ ss)
    go true p h later = record { one = s; among = rw (same_refl s); passes = p }
    go false p h later =
        let x = later h in
        record { one = x.one; among = rw (x.among, or-true); passes = x.passes }

-- Step 9: the rules at the point of a situation.
module _ (v : Situation) (ss : List (List ℕ)) (e : Entry) where
  -- What they say.
  unfoldable said : Verdict
  said = verdict v.credential.first_rights v.credential.second_rights (point_id e.instance) v.point.zone_to e.time ss

  -- A positive rule that fits is in the site.
  positive_rule : said.positive_fits ≡ true → FittingRule v ss e
  unfolding said verdict enabled_rule
  positive_rule h =
      let x = some _ ss h in
      let s = x.one in
      let rights = of_rights v.credential.first_rights s || of_rights v.credential.second_rights s in
      let located = location_fits (point_id e.instance) v.point.zone_to s in
      let a = and_left (rights && enabled s) (not (negative s) && located && time_fits e.time s) x.passes in
      let b = and_right (rights && enabled s) (not (negative s) && located && time_fits e.time s) x.passes in
      let c = and_left (not (negative s) && located) (time_fits e.time s) b in
      record {
        rule = s;
        in_site = x.among;
        has_rights = and_left rights (enabled s) a;
        is_enabled = and_right rights (enabled s) a;
        is_positive = not-true (negative s) (and_left (not (negative s)) located c);
        place_fits = and_right (not (negative s)) located c;
        is_in_time = and_right (not (negative s) && located) (time_fits e.time s) b;
      }

  -- No negative rule fits.
  negative_rule : said.negative_fits ≡ false → forbidden v ss e ≡ false
  unfolding said verdict forbidden
  negative_rule h = h

-- Steps 7 to 10, and what is next.
authorized : (v : Situation) (ss : List (List ℕ)) (e : Entry) (next : Option ℕ) →
    Passes (option_or (authorization (authorization_of v (said v ss e) e)) next) → Authorized v ss e × Passes next
unfolding authorization_of
authorized v ss e next h =
    let rules = said v ss e in
    let a = passed (eqb v.point.mode 2) 128 _ next refl h in
    let b = passed (ltb v.credential.threat_authority v.point.threat_level) 137 _ next refl a.1 in
    let c = passed (eqb v.point.mode 0 && rules.negative_fits) 135 _ next refl b.1 in
    let d = passed (eqb v.point.mode 0 && not rules.positive_fits) _ _ next (other rules.positive_located 136 _ refl (other (into_zone v) 133 134 refl refl)) c.1 in
    let f = passed (passback_violated v e && eqb v.zone_to.passback 1) 138 _ next refl d.1 in
    let g = passed (at_lower_limit v) 141 _ next refl f.1 in
    let i = passed (at_upper_limit v) 142 _ next refl g.1 in (
      record {
        not_deny_all = a.0;
        authority = ltb-false v.credential.threat_authority v.point.threat_level b.0;
        fitting_rule = λ m. positive_rule v ss e (not-false rules.positive_fits (rw (eq-eqb v.point.mode 0 m) at d.0));
        not_forbidden = λ m. negative_rule v ss e (rw (eq-eqb v.point.mode 0 m) at c.0);
        no_hard_passback = f.0;
        above_lower_limit = g.0;
        below_upper_limit = i.0;
      },
      i.1,
    )

-- Step 11.
counted : (v : Situation) → Passes (passage v) → v.point.count_adjust && v.zone_to.counting && eqb v.count_to n.largest_count ≡ false
unfolding passage
counted v = go (v.point.count_adjust && v.zone_to.counting && eqb v.count_to n.largest_count)
  where
    go : (c : Bool) → Passes (if c then Some 164 else None) → c ≡ false
    go true h = absurd (omega arith)
    go false h = refl

-- All of the order of checks; master exemption skips steps 7 to 10.
record Passed (v : Situation) (ss : List (List ℕ)) (e : Entry) : Type 0 where
  authentic : Authenticated v e
  is_valid : Valid v e
  is_authorized : v.credential.master ≡ false → Authorized v ss e
  is_countable : v.point.count_adjust && v.zone_to.counting && eqb v.count_to n.largest_count ≡ false

-- Steps 6 to 11.
permitted : (v : Situation) (ss : List (List ℕ)) (e : Entry) → Passes (permission v (said v ss e) e) →
    (v.credential.master ≡ false → Authorized v ss e) × Passes (passage v)
unfolding permission
permitted v ss e = go v.credential.master
  where
    go : (c : Bool) → Passes (if c then passage v else option_or (authorization (authorization_of v (said v ss e) e)) (passage v)) →
        (c ≡ false → Authorized v ss e) × Passes (passage v)
    go true h = ((λ m. cc), h)
    go false h = let a = authorized v ss e (passage v) h in ((λ m. a.0), a.1)

passed_all : (v : Situation) (ss : List (List ℕ)) (e : Entry) → event_of v (said v ss e) e ≡ 1 → Passed v ss e
unfolding event_of entitlement
passed_all v ss e h =
    let a = authenticated v e _ h in
    let b = valid v e _ a.1 in
    let c = permitted v ss e b.1 in
    record { authentic = a.0; is_valid = b.0; is_authorized = c.0; is_countable = counted v c.1 }

-- ── the entry that is granted

-- What is found is among the records.
found_among : (q : List ℕ → Bool) (ss : List (List ℕ)) → missing (find_in q ss) ≡ false → any (same (find_in q ss)) ss ≡ true
found_among q [] h = cc
found_among q (s ∷ ss) h = go (q s) h (found_among q ss)
  where
    go : (c : Bool) → missing (if c then s else find_in q ss) ≡ false → (missing (find_in q ss) ≡ false → any (same (find_in q ss)) ss ≡ true) →
        same (if c then s else find_in q ss) s || any (same (if c then s else find_in q ss)) ss ≡ true
    go true h ih = rw (same_refl s)
    go false h ih = rw (ih h, or-true)

-- The factor that was found: it is in the site, passes the test asked, and is of the credential read.
record Matched (c : CredentialId) (e : Entry) (ss : List (List ℕ)) : Type 0 where
  in_site : any (same (factor_for c e ss)) ss ≡ true
  passes :
      (if not (eqb c.0 NONE) then confirming (credential_read c (factor_for c e ss)) e.argument e.value (factor_for c e ss)
      else identifying e.argument e.value (factor_for c e ss)) ≡ true
  of_credential : credential_id (instance (factor_for c e ss)) ≡ credential_read c (factor_for c e ss)

module _ (c : CredentialId) (e : Entry) (ss : List (List ℕ)) where
  -- Nobody is waited for: an identifying factor. Else a confirming one of the credential waited for.
  first_factor : eqb c.0 NONE ≡ true → factor_for c e ss ≡ find_in (identifying e.argument e.value) ss
  unfolding factor_for
  first_factor n = rw n

  second_factor : eqb c.0 NONE ≡ false → factor_for c e ss ≡ find_in (confirming c e.argument e.value) ss
  unfolding factor_for
  second_factor n = rw n

  first_read : eqb c.0 NONE ≡ true → (f : List ℕ) → missing f ≡ false → credential_read c f ≡ credential_id (instance f)
  unfolding credential_read
  first_read n f h = rw (n, h)

  second_read : eqb c.0 NONE ≡ false → (f : List ℕ) → credential_read c f ≡ c
  unfolding credential_read
  second_read n f = rw n

  confirming_instance : (f : List ℕ) → confirming c e.argument e.value f ≡ true → credential_id (instance f) ≡ c
  unfolding confirming
  confirming_instance f h =
      ap credential_id (eqb-true (instance f) c.0 (and_right (eqb (kind f) 5) (eqb (instance f) c.0) (and_left (is_at 5 c.0 f) (eqb (role f) 2 && presents e.argument e.value f) h)))

  matched : missing (factor_for c e ss) ≡ false → Matched c e ss
  matched = go (eqb c.0 NONE) refl
    where
      go : (d : Bool) → eqb c.0 NONE ≡ d → missing (factor_for c e ss) ≡ false → Matched c e ss
      go true n h =
          let f = first_factor n in
          let g : missing (find_in (identifying e.argument e.value) ss) ≡ false = rw f at h in
          record {
            in_site = rw f (found_among (identifying e.argument e.value) ss g);
            passes = rw (n, f) (found_in (identifying e.argument e.value) ss g);
            of_credential = sym (first_read n (factor_for c e ss) h);
          }
      go false n h =
          let f = second_factor n in
          let g : missing (find_in (confirming c e.argument e.value) ss) ≡ false = rw f at h in
          let q = found_in (confirming c e.argument e.value) ss g in
          record {
            in_site = rw f (found_among (confirming c e.argument e.value) ss g);
            passes = rw (n, second_read n (factor_for c e ss), f) q;
            of_credential = rw (second_read n (factor_for c e ss), f) (confirming_instance (find_in (confirming c e.argument e.value) ss) q);
          }

-- Where two factors are wanted, the credential read is the one waited for.
confirmed : (v : Situation) (f : List ℕ) → first_of_two v ≡ false → v.point.factors_wanted ≡ 2 →
    v.point_state.waiting_credential ≡ credential_read v.point_state.waiting_credential f
unfolding first_of_two waiting
confirmed v f h two = go (eqb v.point_state.waiting_credential.0 NONE) refl (rw (eq-eqb v.point.factors_wanted 2 two) at h)
  where
    go : (c : Bool) → eqb v.point_state.waiting_credential.0 NONE ≡ c → not (not c) && true ≡ false →
        v.point_state.waiting_credential ≡ credential_read v.point_state.waiting_credential f
    go true n h = cc
    go false n h = unfold credential_read in rw n

no_disable : (d : ℕ) → leb d 3 ≡ true → eqb d 1 ≡ false → eqb d 2 ≡ false → eqb d 3 ≡ false → d ≡ 0
no_disable d l a b c =
    let z : d ≤ 3 = leb-true d 3 l in
    let x = eqb-false d 1 a in
    let y = eqb-false d 2 b in
    let w = eqb-false d 3 c in
    omega arith

-- The factor that was read is there, and not disabled.
found_enabled : (f : List ℕ) → disable_of f ≡ Some 0 → (missing f ≡ false) × (factor_disable f ≡ 0)
found_enabled f = go (missing f)
  where
    go : (c : Bool) → (if c then None else Some (factor_disable f)) ≡ Some 0 → (c ≡ false) × (factor_disable f ≡ 0)
    go true h = cc
    go false h = (refl, cc)

-- The situation of a granted entry, at the point's records p. The credential's disable is in range and its wrong tries are below its most in a
-- well-formed state.
granted_situation : (ps : Panel) (e : Entry) (p : Pair) → (point_of p.0).out_of_service ≡ false →
    CredentialSound (sites ps) (situation_of ps e p).credential.most_wrong_tries (situation_of ps e p).credential_state → event_of (situation_of ps e p) (rules_at ps e p) e ≡ 1 →
    EarnedAt (situation_of ps e p) (sites ps) (factor_read ps e p) e (number_read ps e p)
unfolding situation_of factor_read number_read rules_at said waiting
granted_situation ps e p s d h =
    let a = passed_all (situation_of ps e p) (sites ps) e h in
    let c = a.is_valid in
    let f = found_enabled (factor_read ps e p) a.authentic.factor_enabled in
    let m = matched (point_state_of p.1).waiting_credential e (sites ps) f.0 in
    record {
      in_service = s;
      not_locked = a.authentic.not_locked;
      no_error = a.authentic.no_error;
      in_site = m.in_site;
      matched = m.passes;
      of_credential = m.of_credential;
      factor_enabled = f.1;
      confirmed = confirmed (situation_of ps e p) (factor_read ps e p) a.authentic.not_first;
      in_time = a.authentic.in_time;
      active = c.active;
      unexpired = c.unexpired;
      credential_enabled = no_disable (situation_of ps e p).credential_state.disable d.disabled c.not_disabled c.not_manual c.not_lockout;
      days_left = positive (situation_of ps e p).credential_state.days c.days;
      uses_left = positive (situation_of ps e p).credential_state.uses c.uses;
      tries_left = d.tries;
      not_absent = c.not_absent;
      authorized = a.is_authorized;
      countable = a.is_countable;
    }
  where
    positive : (k : ℕ) → eqb k 0 ≡ false → 0 < k
    positive k h = let x = eqb-false k 0 h in omega arith

-- Its credential has days left, in every state.
pub granted_days : (ps : Panel) (e : Entry) (p : Pair) → event_of (situation_of ps e p) (rules_at ps e p) e ≡ 1 →
    eqb (situation_of ps e p).credential_state.days 0 ≡ false
unfolding rules_at situation_of said
granted_days ps e p h = (passed_all (situation_of ps e p) (sites ps) e h).is_valid.days

-- It is not locked out.
pub granted_enabled : (ps : Panel) (e : Entry) (p : Pair) → event_of (situation_of ps e p) (rules_at ps e p) e ≡ 1 →
    eqb (situation_of ps e p).credential_state.disable n.disable_lockout ≡ false
unfolding rules_at situation_of said
granted_enabled ps e p h = (passed_all (situation_of ps e p) (sites ps) e h).is_valid.not_lockout

-- An entry that is answered with event 1: a factor read at a point in service, whose order of checks came to 1.
record Grant (o : Option Operation) (ps : Panel) (e : Entry) (x : Pair) (credential : CredentialId) : Type 0 where
  is_factor : o ≡ (Some Factor)
  in_service : (point_of x.0).out_of_service ≡ false
  event : event_of (situation_of ps e x) (rules_at ps e x) e ≡ 1
  number : credential ≡ number_read ps e x

Granting : Option Operation → Panel → Entry → Pair → Outcome → Type 0
Granting o ps e x u = u.answer.event ≡ 1 → Grant o ps e x u.answer.credential

granting_refuse : (n : ℕ) (o : Option Operation) (ps : Panel) (e : Entry) (x : Pair) → Granting o ps e x (refuse n)
unfolding Granting refuse unchanged
granting_refuse n o ps e x h = absurd (omega arith)

-- Event 1 names the credential that was read.
named_one : (v : Situation) (x : ℕ) → x ≡ 1 → named v x ≡ v.number
unfolding named
named_one v x h = rw (h, and-false (not (waiting v)))

granting_outcome : (ps : Panel) (e : Entry) (x : Pair) → (point_of x.0).out_of_service ≡ false →
    Granting (Some Factor) ps e x (outcome_of (situation_of ps e x) e (event_of (situation_of ps e x) (rules_at ps e x) e))
unfolding Granting outcome_of outcome_with answer_with
granting_outcome ps e x s h =
    record {
      is_factor = refl;
      in_service = s;
      event = h;
      number = named_one (situation_of ps e x) (event_of (situation_of ps e x) (rules_at ps e x) e) h ∙ (unfold situation_of in refl);
    }

granting_factor : (ps : Panel) (e : Entry) (x : Pair) → Granting (Some Factor) ps e x (factor_outcome ps e x)
unfolding Granting factor_outcome unchanged
granting_factor ps e x = go (point_of x.0).out_of_service refl
  where
    go : (c : Bool) → (point_of x.0).out_of_service ≡ c →
        Granting (Some Factor) ps e x
        (if c then unchanged (no_answer 0 (point_state_of x.1).tag (count (zone_to ps x).1))
        else outcome_of (situation_of ps e x) e (event_of (situation_of ps e x) (rules_at ps e x) e))
    go true s = λ h. absurd (omega arith)
    go false s = granting_outcome ps e x s

granting_worked : (o : Option Operation) (ps : Panel) (e : Entry) (x : Pair) → Granting o ps e x (worked_outcome o ps e x)
unfolding Granting count_outcome adjust_outcome disable_outcome service_outcome
granting_worked (Some Factor) ps e x = granting_factor ps e x
granting_worked (Some SetCount) ps e x = λ h. absurd (omega arith)
granting_worked (Some AdjustCount) ps e x =
    if_holds (Granting (Some AdjustCount) ps e x) (ltb _ (adjusted _ e.amount)) (refuse _) (count_outcome e _) (granting_refuse _ (Some AdjustCount) ps e x) (λ h. absurd (omega arith))
granting_worked (Some SetDisable) ps e x = λ h. absurd (omega arith)
granting_worked (Some SetService) ps e x =
    λ h. absurd (if_holds (λ n. n ≡ 1 → ⊥) (locks e) 7 8 (λ z. omega arith) (λ z. omega arith) h)
granting_worked None ps e x = granting_refuse _ None ps e x

granting_entry : (ps : Panel) (e : Entry) → Granting (operation_of e.operation) ps e (find (object_kind (operation_of e.operation)) e.instance ps) (entry_outcome ps e)
granting_entry ps e =
    entry_holds (λ o. Granting o ps e (find (object_kind o) e.instance ps)) ps e (λ o r d. granting_refuse r o ps e _)
    (λ o x f i g. rw f (granting_worked o ps e x))

-- At a panel whose state is well formed.
earned_entry : (ps : Panel) (e : Entry) → all (record_well (sites ps)) ps ≡ true → (entry_outcome ps e).answer.event ≡ 1 →
    (operation_of e.operation ≡ (Some Factor)) × Earned ps e (entry_outcome ps e).answer.credential
unfolding Earned Granting
earned_entry ps e w h =
    let g = granting_entry ps e h in
    let p = find n.access_point e.instance ps in
    let k : find (object_kind (operation_of e.operation)) e.instance ps ≡ p = ap (λ o. find (object_kind o) e.instance ps) g.is_factor in
    let c : (entry_outcome ps e).answer.credential ≡ number_read ps e p = g.number ∙ ap (number_read ps e) k in (
      g.is_factor,
      rw c (granted_situation ps e p (ap (λ (x : Pair). (point_of x.0).out_of_service) (sym k) ∙ g.in_service)
          credential_read_law (ap (λ x. event_of (situation_of ps e x) (rules_at ps e x) e) (sym k) ∙ g.event)),
    )
  where
    credential_read_law : let v = situation_of ps e (find n.access_point e.instance ps) in
        CredentialSound (sites ps) v.credential.most_wrong_tries v.credential_state
    credential_read_law = unfold situation_of credential_at in credential_sought (sites ps) ps w (number_read ps e _).0

-- ── every run that is worked through

pub grant_earned : GrantEarned
unfolding GrantEarned well_formed
grant_earned site state r i w l g =
    let passed_run = run_accepted site state r w in
    let accept = site_accepted site (site_worked site state (worked_through (fresh_returned site state) passed_run.fresh_worked)) in
    let long = (lengths site state passed_run.fresh_worked).1 in
    let es = map entry_of (entries r.journal) in
    let ps = after (panel site state) (take i es) in
    let e = entry_of (get_or (entries r.journal) i []) in
    let a = answer_at site state r w i l in
    let s : sites ps ≡ records site = sites_after (take i es) (panel site state) ∙ sites_panel site state in
    let k = well_after (records site) accept.names_all_exist (take i es) (panel site state) (sites_panel site state) passed_run.well in
    let v : (entry_outcome ps e).answer.event ≡ 1 = sym (ap event_in a ∙ event_back (entry_outcome ps e).answer) ∙ g in
    let m = earned_entry ps e (rw s k) v in
    let b : panel site (run_on site state (first_of i r)).state ≡ ps = ap (panel site) (state_at site state r w i (omega arith)) ∙ panel_back site state long (take i es) in
    (m.0, rw (b, ap credential_in a ∙ credential_named_back (entry_outcome ps e).answer) m.1)
