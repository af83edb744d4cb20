-- An entry of the part reads the part's records alone: its outcome at the panel is its outcome at them.
use Rattle.std.specs.Prelude.{if◌then◌else◌, Option, Some, None}
use Prim.Native.Nat.{ℕ}
use mathlib.Core.Path.{◌≡◌, refl, sym, ◌∙◌, ap}
use mathlib.Core.List.{List, [], ◌∷◌}
use mathlib.Core.Bool.{Bool, true, false, not, ◌&&◌, ◌||◌, beq}
use lib.Dec.{eqb}
use borrow.Author.Tests.{eqb-true, not-true}
use Rattle.octets.specs.Octets.{field}
use Rattle.model.specs.Words.{keep, any, all, missing}
use Rattle.model.specs.Numbers as n
use Rattle.model.specs.Numbers.{NONE}
use Rattle.model.specs.Site.{kind, instance, reference, point_of, credential_of, enabled, negative, is_at, find_in}
use Rattle.model.specs.State.{Pair, Panel, sites, find, seek, count, point_state_of}
use Rattle.model.specs.Entry.{operation_of, object_kind, in_form}
use Rattle.model.specs.Checks.{relinquished, still_locked, waiting, identifying, confirming, factor_for, of_rights, enabled_rule, location_fits, time_fits, verdict, event_of}
use Rattle.model.specs.Effects.{outcome_of}
use Rattle.model.specs.Step.{no_answer, unchanged, refuse, factor_read, number_read, zone_to, zone_from, credential_at, situation_of, rules_at, factor_outcome, worked_outcome, outcome_as, entry_outcome, apply}
use Rattle.model.specs.Part.{Part, member, holds, belongs, on_side, credential_inside, inside, identified, identified_inside, read_inside_as}
use Rattle.model.specs.declared.ZoneId.{ZoneId}
use Rattle.model.specs.declared.PointId.{PointId}
use Rattle.model.specs.declared.CredentialId.{CredentialId}
use Rattle.model.specs.declared.RightsId.{RightsId}
use Rattle.model.specs.declared.Entry.{Entry}
use Rattle.model.specs.declared.Operation.{Operation}
use Rattle.model.specs.declared.Operation.TheVariants.{Factor, SetCount, AdjustCount, SetDisable, SetService}
use Rattle.model.proofs.Laws.{and_left, and_right, kind_at, only, find_only, find_keep, any_keep, sites_only, all_found, found}
use Rattle.model.proofs.Border.{beq_is, side_is, none_side, holds_at, wait_inside, pair_inside, PointInside, point_inside_law, number_side, stopped, stopped_event, stopped_event_law, nobody, Alike, alike_same, stopped_alike, Read, halted, taken, read_as, answered_inside_as, answered_inside, worked_inside}

-- What is not there is no factor.
factor_there : (s : List ℕ) → kind s ≡ n.authentication_factor → missing s ≡ false
unfolding field
factor_there [] h = cc
factor_there (x ∷ s) h = refl

module _ (P : Part) where
  -- ── what is found of the part is found among the part's records

  -- An object of the part.
  pub find_part : (k i : ℕ) (ps : Panel) → member P k i ≡ true → find k i (only (holds P) ps) ≡ find k i ps
  unfolding find
  find_part k i ps h = find_only (holds P) (is_at k i) ps (λ a. holds_at P k i _ a ∙ h)

  -- What a reference into the part names.
  seek_part : (k i : ℕ) (ps : Panel) → on_side P k i true ≡ true → seek k i (only (holds P) ps) ≡ seek k i ps
  unfolding seek
  seek_part k i ps h = go (eqb i NONE) refl
    where
      go : (c : Bool) → eqb i NONE ≡ c → (if c then ([], []) else find k i (only (holds P) ps)) ≡ (if c then ([], []) else find k i ps)
      go true none = refl
      go false none = find_part k i ps (side_is P k i true h none)

  -- A factor is the part's where its credential is.
  holds_factor : (s : List ℕ) → kind s ≡ n.authentication_factor → holds P s ≡ member P n.access_credential (instance s)
  unfolding holds member
  holds_factor s h = rw h

  -- An identifying factor, if its credential is not across the border.
  identified_part : (e : Entry) (s : List ℕ) → missing s || beq (member P n.access_credential (instance s)) true ≡ true →
      identifying e.argument e.value s ≡ true → holds P s ≡ true
  unfolding identifying
  identified_part e s g a =
      let k = eqb-true (kind s) n.authentication_factor (and_left (eqb (kind s) n.authentication_factor) _ a) in
      holds_factor s k ∙ beq_is (member P n.access_credential (instance s)) true (rw (factor_there s k) at g)

  -- A confirming factor of a credential of the part.
  confirmed_part : (c : CredentialId) (e : Entry) (s : List ℕ) → member P n.access_credential c.0 ≡ true →
      confirming c e.argument e.value s ≡ true → holds P s ≡ true
  unfolding confirming member
  confirmed_part c e s h a = holds_at P n.authentication_factor c.0 s (and_left (is_at n.authentication_factor c.0 s) _ a) ∙ h

  -- The factor that a point looks for.
  factor_part : (c : CredentialId) (e : Entry) (ss : List (List ℕ)) → on_side P n.access_credential c.0 true ≡ true →
      (eqb c.0 NONE ≡ true → missing (identified ss e) || beq (member P n.access_credential (instance (identified ss e))) true ≡ true) →
      factor_for c e (keep (holds P) ss) ≡ factor_for c e ss
  unfolding factor_for identified
  factor_part c e ss h g = go (eqb c.0 NONE) refl
    where
      go : (d : Bool) → eqb c.0 NONE ≡ d →
          (if d then identified (keep (holds P) ss) e else find_in (confirming c e.argument e.value) (keep (holds P) ss))
          ≡ (if d then identified ss e else find_in (confirming c e.argument e.value) ss)
      go true none = find_keep (holds P) (identifying e.argument e.value) ss (λ a. identified_part e _ (g none) a)
      go false none =
          find_keep (holds P) (confirming c e.argument e.value) ss
          (λ a. confirmed_part c e _ (side_is P n.access_credential c.0 true h none) a)

  -- ── the rules

  -- A rule of rights of the part is the part's.
  rights_part : (r : RightsId) (s : List ℕ) → on_side P n.access_rule r.0 true ≡ true → of_rights r s ≡ true → holds P s ≡ true
  rights_part r s h a =
      holds_at P n.access_rule r.0 s (and_right (not (eqb r.0 NONE)) (is_at n.access_rule r.0 s) a)
      ∙ side_is P n.access_rule r.0 true h (not-true (eqb r.0 NONE) (and_left (not (eqb r.0 NONE)) (is_at n.access_rule r.0 s) a))

  -- A rule of either of two.
  rule_part : (first second : RightsId) (s : List ℕ) → on_side P n.access_rule first.0 true ≡ true → on_side P n.access_rule second.0 true ≡ true →
      enabled_rule first second s ≡ true → holds P s ≡ true
  unfolding enabled_rule
  rule_part first second s h g a = go (of_rights first s) refl (and_left (of_rights first s || of_rights second s) (enabled s) a)
    where
      go : (c : Bool) → of_rights first s ≡ c → c || of_rights second s ≡ true → holds P s ≡ true
      go true e f = rights_part first s h e
      go false e f = rights_part second s g f

  -- What the rules of rights of the part say.
  verdict_part : (first second : RightsId) (point : PointId) (to : ZoneId) (time : ℕ) (ss : List (List ℕ)) →
      on_side P n.access_rule first.0 true ≡ true → on_side P n.access_rule second.0 true ≡ true →
      verdict first second point to time (keep (holds P) ss) ≡ verdict first second point to time ss
  unfolding verdict
  verdict_part first second point to time ss h g =
      λ i. record {
        negative_fits = rules (λ s. negative s && location_fits point to s && time_fits time s) i;
        positive_fits = rules (λ s. not (negative s) && location_fits point to s && time_fits time s) i;
        positive_located = rules (λ s. not (negative s) && location_fits point to s) i;
      }
    where
      rules : (q : List ℕ → Bool) →
          any (λ s. enabled_rule first second s && q s) (keep (holds P) ss) ≡ any (λ s. enabled_rule first second s && q s) ss
      rules q =
          any_keep (holds P) (λ s. enabled_rule first second s && q s)
          (λ s a. rule_part first second s h g (and_left (enabled_rule first second s) (q s) a)) ss

  -- The rights that a credential names are the part's.
  record Rights (s : List ℕ) : Type 0 where
    first : on_side P n.access_rule (credential_of s).first_rights.0 true ≡ true
    second : on_side P n.access_rule (credential_of s).second_rights.0 true ≡ true

  -- A credential that is not there names none.
  rights_missing : (s : List ℕ) → missing s ≡ true → Rights s
  unfolding credential_of reference
  rights_missing [] h = record { first = none_side P n.access_rule true; second = none_side P n.access_rule true }
  rights_missing (x ∷ s) h = record { first = cc; second = cc }

  -- A credential of the part.
  rights_of : (i : ℕ) (x : Pair) → is_at n.access_credential i x.0 ≡ true → pair_inside P x ≡ true →
      member P n.access_credential i ≡ true → Rights x.0
  unfolding pair_inside inside credential_inside
  rights_of i x a h m =
      let k = kind_at n.access_credential i x.0 a in
      let f = rw (k, holds_at P n.access_credential i x.0 a, m) at (and_left (inside P x.0) (wait_inside P x) h) in
      record {
        first = and_left _ (on_side P n.access_rule (credential_of x.0).second_rights.0 true) f;
        second = and_right (on_side P n.access_rule (credential_of x.0).first_rights.0 true) _ f;
      }

  -- ── a factor read at a point of the part: x is the point's records

  module _ (ps : Panel) (e : Entry) (x : Pair) (m : member P n.access_point e.instance ≡ true) (k : PointInside P e.instance x) where
    -- The point's zones.
    zone_to_part : zone_to (only (holds P) ps) x ≡ zone_to ps x
    unfolding zone_to
    zone_to_part = seek_part n.access_zone _ ps (rw m at k.zone_to)

    zone_from_part : zone_from (only (holds P) ps) x ≡ zone_from ps x
    unfolding zone_from
    zone_from_part = seek_part n.access_zone _ ps (rw m at k.zone_from)

    module _ (g : eqb (point_state_of x.1).waiting_credential.0 NONE ≡ true → identified_inside P (sites ps) e ≡ true) where
      -- The factor that is read.
      factor_read_part : factor_read (only (holds P) ps) e x ≡ factor_read ps e x
      unfolding factor_read identified_inside
      factor_read_part =
          rw (sites_only (holds P) ps)
          (factor_part (point_state_of x.1).waiting_credential e (sites ps) (rw m at k.waits) (λ none. rw m at (g none)))

      -- Its credential is the part's, or NONE.
      number_part : on_side P n.access_credential (number_read ps e x).0 true ≡ true
      unfolding number_read factor_read
      number_part = rw m at (number_side P (point_state_of x.1).waiting_credential e (sites ps) k.waits g)

      -- The credential's records.
      credential_part : credential_at (only (holds P) ps) e x ≡ credential_at ps e x
      unfolding credential_at number_read
      credential_part = rw factor_read_part (seek_part n.access_credential _ ps number_part)

      -- All that the order of checks looks at.
      situation_part : situation_of (only (holds P) ps) e x ≡ situation_of ps e x
      unfolding situation_of number_read
      situation_part = rw (zone_to_part, zone_from_part, factor_read_part, credential_part)

      module _ (a : all (pair_inside P) ps ≡ true) where
        -- The rights that the credential names are the part's.
        rights_read : Rights (credential_at ps e x).0
        unfolding credential_at seek find
        rights_read = go (eqb (number_read ps e x).0 NONE) (missing (find n.access_credential (number_read ps e x).0 ps).0) refl refl
          where
            go : (c d : Bool) → eqb (number_read ps e x).0 NONE ≡ c → missing (find n.access_credential (number_read ps e x).0 ps).0 ≡ d →
                Rights (if c then ([], []) else find n.access_credential (number_read ps e x).0 ps).0
            go true d none q = rights_missing [] refl
            go false true none q = rights_missing _ q
            go false false none q =
                rights_of (number_read ps e x).0 _ (found (is_at n.access_credential (number_read ps e x).0) ps q)
                (all_found (pair_inside P) (is_at n.access_credential (number_read ps e x).0) ps a q)
                (side_is P n.access_credential (number_read ps e x).0 true number_part none)

        -- What the rules say.
        rules_part : rules_at (only (holds P) ps) e x ≡ rules_at ps e x
        unfolding rules_at
        rules_part =
            rw (situation_part, sites_only (holds P) ps)
            (unfold situation_of in verdict_part _ _ _ _ _ (sites ps) rights_read.first rights_read.second)

        -- The outcome at a point in service.
        taken_part :
            outcome_of (situation_of (only (holds P) ps) e x) e (event_of (situation_of (only (holds P) ps) e x) (rules_at (only (holds P) ps) e x) e)
            ≡ outcome_of (situation_of ps e x) e (event_of (situation_of ps e x) (rules_at ps e x) e)
        taken_part = rw (situation_part, rules_part)

    -- The situation of nobody's card.
    nobody_part : nobody (situation_of (only (holds P) ps) e x) ≡ nobody (situation_of ps e x)
    unfolding nobody situation_of
    nobody_part = rw (zone_to_part, zone_from_part)

    -- A read that is stopped: the outcome is that of nobody's card.
    halted_part : waiting (situation_of ps e x) ≡ false → stopped (situation_of ps e x) e ≡ true →
        Alike
        (outcome_of (situation_of (only (holds P) ps) e x) e (event_of (situation_of (only (holds P) ps) e x) (rules_at (only (holds P) ps) e x) e))
        (outcome_of (situation_of ps e x) e (event_of (situation_of ps e x) (rules_at ps e x) e))
    unfolding situation_of waiting relinquished still_locked
    halted_part w s =
        let part = situation_of (only (holds P) ps) e x in
        let whole = situation_of ps e x in
        let locked = still_locked whole e in
        let a = stopped_alike part e locked w in
        let b = stopped_alike whole e locked w in
        rw (stopped_event_law part (rules_at (only (holds P) ps) e x) e w s, stopped_event_law whole (rules_at ps e x) e w s)
        (record {
          same_answer = a.same_answer ∙ ap (λ v. (outcome_of v e (stopped_event whole e)).answer) nobody_part ∙ sym b.same_answer;
          same_writes = λ qs. a.same_writes qs ∙ ap (λ v. apply (outcome_of v e (stopped_event whole e)) qs) nobody_part ∙ sym (b.same_writes qs);
        })

    -- The outcome.
    factor_outcome_part : all (pair_inside P) ps ≡ true → read_inside_as (Some Factor) P ps e x ≡ true →
        Alike (factor_outcome (only (holds P) ps) e x) (factor_outcome ps e x)
    unfolding factor_outcome
    factor_outcome_part a g = rw zone_to_part (go (point_of x.0).out_of_service refl)
      where
        served : Read P ps e x →
            Alike
            (outcome_of (situation_of (only (holds P) ps) e x) e (event_of (situation_of (only (holds P) ps) e x) (rules_at (only (holds P) ps) e x) e))
            (outcome_of (situation_of ps e x) e (event_of (situation_of ps e x) (rules_at ps e x) e))
        served (halted w s) = halted_part w s
        served (taken i) = alike_same (taken_part i a)

        go : (c : Bool) → (point_of x.0).out_of_service ≡ c →
            Alike
            (if c then unchanged (no_answer n.not_refused (point_state_of x.1).tag (count (zone_to ps x).1))
            else outcome_of (situation_of (only (holds P) ps) e x) e (event_of (situation_of (only (holds P) ps) e x) (rules_at (only (holds P) ps) e x) e))
            (if c then unchanged (no_answer n.not_refused (point_state_of x.1).tag (count (zone_to ps x).1))
            else outcome_of (situation_of ps e x) e (event_of (situation_of ps e x) (rules_at ps e x) e))
        go true s = alike_same refl
        go false s = served (read_as P ps e x s g)

  -- ── an entry of the part

  -- Every operation at its object x.
  worked_part : (o : Option Operation) (ps : Panel) (e : Entry) (x : Pair) → all (pair_inside P) ps ≡ true →
      is_at (object_kind o) e.instance x.0 ≡ true → pair_inside P x ≡ true → read_inside_as o P ps e x ≡ true →
      member P (object_kind o) e.instance ≡ true →
      Alike (worked_outcome o (only (holds P) ps) e x) (worked_outcome o ps e x)
  worked_part (Some Factor) ps e x a q h g m = factor_outcome_part ps e x m (point_inside_law P e.instance x q h) a g
  worked_part (Some SetCount) ps e x a q h g m = alike_same refl
  worked_part (Some AdjustCount) ps e x a q h g m = alike_same refl
  worked_part (Some SetDisable) ps e x a q h g m = alike_same refl
  worked_part (Some SetService) ps e x a q h g m = alike_same (rw (zone_to_part ps e x m (point_inside_law P e.instance x q h)))
  worked_part None ps e x a q h g m = alike_same refl

  -- An entry under an operation: refused or worked.
  as_part : (o : Option Operation) (ps : Panel) (e : Entry) → all (pair_inside P) ps ≡ true →
      answered_inside_as P o ps e (find (object_kind o) e.instance ps) ≡ true → member P (object_kind o) e.instance ≡ true →
      Alike (outcome_as o (only (holds P) ps) e (find (object_kind o) e.instance ps)) (outcome_as o ps e (find (object_kind o) e.instance ps))
  unfolding outcome_as find
  as_part o ps e a g m = go (in_form o e) (missing (find (object_kind o) e.instance ps).0) refl refl
    where
      go : (c d : Bool) → in_form o e ≡ c → missing (find (object_kind o) e.instance ps).0 ≡ d →
          Alike
          (if not c then refuse n.refused_form else
          if d then refuse n.refused_no_object else
          worked_outcome o (only (holds P) ps) e (find (object_kind o) e.instance ps))
          (if not c then refuse n.refused_form else
          if d then refuse n.refused_no_object else
          worked_outcome o ps e (find (object_kind o) e.instance ps))
      go false d f q = alike_same refl
      go true true f q = alike_same refl
      go true false f q =
          worked_part o ps e _ a (found (is_at (object_kind o) e.instance) ps q)
          (all_found (pair_inside P) (is_at (object_kind o) e.instance) ps a q) (worked_inside P o ps e _ g f q) m

  -- An entry of the part has at the panel the outcome that it has at the part's records alone.
  pub outcome_part : (ps : Panel) (e : Entry) → all (pair_inside P) ps ≡ true → answered_inside P ps e ≡ true → belongs P e ≡ true →
      Alike (entry_outcome (only (holds P) ps) e) (entry_outcome ps e)
  unfolding entry_outcome belongs answered_inside
  outcome_part ps e a g m =
      rw (find_part (object_kind (operation_of e.operation)) e.instance ps m) (as_part (operation_of e.operation) ps e a g m)
