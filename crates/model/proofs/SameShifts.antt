-- Sites that differ in their shifts alone: their rules say the same, so that every list of runs is answered alike.
use Rattle.std.specs.Prelude.{if◌then◌else◌, Option, Some, None, Ok}
use Prim.Native.Nat.{ℕ, ◌*◌}
use mathlib.Core.Path.{◌≡◌, refl, sym, ◌∙◌, ap}
use mathlib.Core.List.{List, [], ◌∷◌, map, flatten}
use mathlib.Core.Bool.{Bool, true, false, not, ◌&&◌, ◌||◌, or-true, or_self, and-or_distrib_left, false≢true}
use lib.Dec.{eqb}
use lib.ListN.{length, take, drop}
use borrow.Author.Tests.{eqb-true, ne_eqb, not-false}
use Rattle.octets.specs.Octets.{same}
use Rattle.octets.proofs.Laws.{same_eq}
use Rattle.model.specs.Words.{missing, keep, any, all}
use Rattle.model.specs.Numbers as n
use Rattle.model.specs.Numbers.{NONE}
use Rattle.model.specs.Site.{kind, record_kind, records, negative, is_at, find_in}
use Rattle.model.specs.Accept.{in_range, exists, none_or_exists}
use Rattle.model.specs.State.{Pair, Panel, kept, state_size, state_length, paired, panel, sites, state_of, find, point_state_of, credential_state_of, fresh_record, fresh, point_well, credential_well, record_well_as, record_well, well_formed}
use Rattle.model.specs.Entry.{entry_of, entries, answer_bytes}
use Rattle.model.specs.Checks.{identifying, confirming, factor_for, enabled_rule, location_fits, crosses_midnight, time_fits, verdict}
use Rattle.model.specs.Step.{entry_outcome, apply, after, answers}
use Rattle.model.specs.Calls.{Returned, is_worked, check_site, fresh_returned, check_state, run_result, run_returned, run_journal}
use Rattle.model.specs.Lists.{Run, run_on, results}
use Rattle.model.specs.Shifts.{is_rule, not_rule, is_shift, until_midnight, since_midnight, stands, stands_halved, is_half, stands_whole, Halved}
use Rattle.model.specs.Demands.{SameShifts, FreshShifts}
use Rattle.model.specs.declared.ZoneId.{ZoneId}
use Rattle.model.specs.declared.PointId.{PointId}
use Rattle.model.specs.declared.CredentialId.{CredentialId}
use Rattle.model.specs.declared.RightsId.{RightsId}
use Rattle.model.specs.declared.Entry.{Entry}
use Rattle.model.specs.declared.Outcome.{Outcome}
use Rattle.model.specs.declared.RecordKind.{RecordKind}
use Rattle.model.specs.declared.RecordKind.TheVariants.{OfZone, OfPoint, OfRule, OfCredential, OfFactor}
use Rattle.model.proofs.Laws.{and_left, and_right, kind_at, only, only_apply, find_only, sites_only, find_keep, sites_apply}
use Rattle.model.proofs.SameOutcome.{Agree, outcome_agree}
use Rattle.std.proofs.lemmas.List.{nil_from_length}
use Rattle.model.proofs.Flat.{kept_number, whole, whole_left, sites_panel, fresh_keep}
use Rattle.model.proofs.Longer.{none_well}
use Rattle.model.proofs.Runs.{site_accepted}
use Rattle.model.proofs.Entries.{lengths, run_accepted}
use Rattle.model.proofs.Shifts.{whole_rule, Like, until_like, since_like, fits_halves, shift_rule}

-- ── tests of records that a shift passes exactly when one of its halves does

-- A test that the one that stands there passes.
any_stands : (q : List ℕ → Bool) (s : List ℕ) → q s ≡ true → (ss : List (List ℕ)) → stands ss s ≡ true → any q ss ≡ true
any_stands q s p [] h = h
any_stands q s p (t ∷ ts) h = go (same s t) refl h (any_stands q s p ts)
  where
    go : (c : Bool) → same s t ≡ c → c || stands ts s ≡ true → (stands ts s ≡ true → any q ts ≡ true) → q t || any q ts ≡ true
    go true e h ih = rw (sym ((same_eq s t).0 e), p)
    go false e h ih = rw (ih h) (or-true (q t))

-- The test q is such a test of the records that pass the test ok.
module _ (ok q : List ℕ → Bool) (by_halves : (s : List ℕ) → ok s ≡ true → is_shift s ≡ true → q s ≡ q (until_midnight s) || q (since_midnight s)) where
  -- What passes in the one site passes in the other, as it is or by a half.
  one_halved : (ts : List (List ℕ)) (s : List ℕ) → ok s ≡ true → stands_halved ts s ≡ true → q s ≡ true → any q ts ≡ true
  unfolding stands_halved
  one_halved ts s r h p = go (stands ts s) refl h
    where
      halves : (a b : Bool) → q (until_midnight s) ≡ a → q (since_midnight s) ≡ b → a || b ≡ true → stands ts (until_midnight s) ≡ true
          → stands ts (since_midnight s) ≡ true → any q ts ≡ true
      halves true b e f o u v = any_stands q (until_midnight s) e ts u
      halves false b e f o u v = any_stands q (since_midnight s) (f ∙ o) ts v

      go : (c : Bool) → stands ts s ≡ c → c || is_shift s && stands ts (until_midnight s) && stands ts (since_midnight s) ≡ true → any q ts ≡ true
      go true e h = any_stands q s p ts e
      go false e h =
          let both = and_left (is_shift s && stands ts (until_midnight s)) (stands ts (since_midnight s)) h in
          let i = and_left (is_shift s) (stands ts (until_midnight s)) both in
          halves (q (until_midnight s)) (q (since_midnight s)) refl refl (sym (by_halves s r i) ∙ p) (and_right (is_shift s) (stands ts (until_midnight s)) both)
          (and_right (is_shift s && stands ts (until_midnight s)) (stands ts (since_midnight s)) h)

  any_halved : (ts ss : List (List ℕ)) → all ok ss ≡ true → all (stands_halved ts) ss ≡ true → any q ss ≡ true → any q ts ≡ true
  any_halved ts [] r h p = absurd (false≢true p)
  any_halved ts (s ∷ ss) r h p =
      go (q s) refl p (any_halved ts ss (and_right (ok s) (all ok ss) r) (and_right (stands_halved ts s) (all (stands_halved ts) ss) h))
    where
      go : (c : Bool) → q s ≡ c → c || any q ss ≡ true → (any q ss ≡ true → any q ts ≡ true) → any q ts ≡ true
      go true e p ih = one_halved ts s (and_left (ok s) (all ok ss) r) (and_left (stands_halved ts s) (all (stands_halved ts) ss) h) e
      go false e p ih = ih p

  -- And back: a half passes only where its shift does.
  half_passes : (t : List ℕ) → q t ≡ true → (ss : List (List ℕ)) → all ok ss ≡ true → any (is_half t) ss ≡ true → any q ss ≡ true
  half_passes t p [] r h = h
  half_passes t p (s ∷ ss) r h =
      go (is_shift s) (same (until_midnight s) t) (same (since_midnight s) t) refl refl refl h (half_passes t p ss (and_right (ok s) (all ok ss) r))
    where
      whole : is_shift s ≡ true → q (until_midnight s) || q (since_midnight s) ≡ true → q s || any q ss ≡ true
      whole i o = rw (by_halves s (and_left (ok s) (all ok ss) r) i ∙ o)

      rest : any q ss ≡ true → q s || any q ss ≡ true
      rest h = rw h (or-true (q s))

      go : (a b c : Bool) → is_shift s ≡ a → same (until_midnight s) t ≡ b → same (since_midnight s) t ≡ c → a && (b || c) || any (is_half t) ss ≡ true
          → (any (is_half t) ss ≡ true → any q ss ≡ true) → q s || any q ss ≡ true
      go false b c i u v h ih = rest (ih h)
      go true true c i u v h ih = whole i (rw ((same_eq (until_midnight s) t).0 u, p))
      go true false true i u v h ih = whole i (rw ((same_eq (since_midnight s) t).0 v, p) (or-true (q (until_midnight s))))
      go true false false i u v h ih = rest (ih h)

  any_whole : (ss ts : List (List ℕ)) → all ok ss ≡ true → all (stands_whole ss) ts ≡ true → any q ts ≡ true → any q ss ≡ true
  unfolding stands_whole
  any_whole ss [] r h p = absurd (false≢true p)
  any_whole ss (t ∷ ts) r h p =
      go (q t) refl p (and_left (stands_whole ss t) (all (stands_whole ss) ts) h) (any_whole ss ts r (and_right (stands_whole ss t) (all (stands_whole ss) ts) h))
    where
      one : (d : Bool) → stands ss t ≡ d → q t ≡ true → d || any (is_half t) ss ≡ true → any q ss ≡ true
      one true f e h = any_stands q t e ss f
      one false f e h = half_passes t e ss r h

      go : (c : Bool) → q t ≡ c → c || any q ts ≡ true → stands_whole ss t ≡ true → (any q ts ≡ true → any q ss ≡ true) → any q ss ≡ true
      go true e p h ih = one (stands ss t) refl e h
      go false e p h ih = ih p

  -- So the same tests are passed in both.
  pub any_same : (ss ts : List (List ℕ)) → all ok ss ≡ true → Halved ss ts → any q ss ≡ any q ts
  any_same ss ts r h = both (any q ss) (any q ts) (any_halved ts ss r h.halved) (any_whole ss ts r h.whole)
    where
      both : (a b : Bool) → (a ≡ true → b ≡ true) → (b ≡ true → a ≡ true) → a ≡ b
      both true b f g = sym (f refl)
      both false true f g = g refl
      both false false f g = refl

-- ── what the rules say

module _ (first second : RightsId) (point : PointId) (to : ZoneId) (time : ℕ) where
  -- A half is a rule of the same rights, sign and location.
  like_rule : (s t : List ℕ) → Like s t → enabled_rule first second t ≡ enabled_rule first second s
  unfolding enabled_rule
  like_rule s t l = rw (l.same_kind, l.same_instance, l.same_flags)

  like_location : (s t : List ℕ) → Like s t → location_fits point to t ≡ location_fits point to s
  unfolding location_fits
  like_location s t l = rw (l.same_flags, l.same_place_kind, l.same_place)

  -- A rule of a sign that fits in location; in location and time.
  abbrev located : (Bool → Bool) → List ℕ → Bool
  located sign s = enabled_rule first second s && (sign (negative s) && location_fits point to s)

  abbrev timely : (Bool → Bool) → List ℕ → Bool
  timely sign s = enabled_rule first second s && (sign (negative s) && location_fits point to s && time_fits time s)

  module _ (sign : Bool → Bool) (s : List ℕ) where
    -- What is asked of its rights and its location, it passes where the shift does.
    like_asked : (ask : Bool → Bool → Bool) (t : List ℕ) → Like s t
        → ask (enabled_rule first second t) (sign (negative t) && location_fits point to t) ≡ ask (enabled_rule first second s) (sign (negative s) && location_fits point to s)
    like_asked ask t l = rw (like_rule s t l, like_location s t l, l.same_flags)

    module _ (r : in_range s ≡ true) (i : is_shift s ≡ true) where
      until : Like s (until_midnight s)
      until = until_like s (whole_rule s (shift_rule s r i))

      since : Like s (since_midnight s)
      since = since_like s (whole_rule s (shift_rule s r i))

      located_halves : located sign s ≡ located sign (until_midnight s) || located sign (since_midnight s)
      located_halves = rw (like_asked ◌&&◌ (until_midnight s) until, like_asked ◌&&◌ (since_midnight s) since) (sym (or_self (located sign s)))

      timely_halves : timely sign s ≡ timely sign (until_midnight s) || timely sign (since_midnight s)
      unfolding is_shift
      timely_halves =
          let within : List ℕ → Bool → Bool → Bool = λ t a b. a && (b && time_fits time t) in
          rw (
            like_asked (within (until_midnight s)) (until_midnight s) until,
            like_asked (within (since_midnight s)) (since_midnight s) since,
            fits_halves s (shift_rule s r i) (and_right (is_rule s) (crosses_midnight s) i) time,
          )
          (rw (and-or_distrib_left (sign (negative s) && location_fits point to s) (time_fits time (until_midnight s)) (time_fits time (since_midnight s)))
          (and-or_distrib_left (enabled_rule first second s) _ _))

  verdict_same : (ss ts : List (List ℕ)) → all in_range ss ≡ true → Halved ss ts → verdict first second point to time ss ≡ verdict first second point to time ts
  unfolding verdict
  verdict_same ss ts r h =
      λ i. record {
        negative_fits = any_same in_range (timely (λ c. c)) (timely_halves (λ c. c)) ss ts r h i;
        positive_fits = any_same in_range (timely not) (timely_halves not) ss ts r h i;
        positive_located = any_same in_range (located not) (located_halves not) ss ts r h i;
      }

-- ── panels that differ in their rules alone, and whose rules say the same

record ButRules (ps qs : Panel) : Type 0 where
  same_others : only not_rule ps ≡ only not_rule qs
  same_rules : (first second : RightsId) (point : PointId) (to : ZoneId) (time : ℕ) →
      verdict first second point to time (sites ps) ≡ verdict first second point to time (sites qs)

-- What is of another kind is found among the others.
pub kind_not_rule : (k : ℕ) → eqb k n.access_rule ≡ false → (s : List ℕ) → kind s ≡ k → not_rule s ≡ true
kind_not_rule k h s e = rw (e, h)

kept_not_rule : (k : ℕ) → kept_number k ≡ true → eqb k n.access_rule ≡ false
kept_not_rule k h = ne_eqb k n.access_rule (λ e. let z : false ≡ true = rw e at h in cc)

module _ (ps : Panel) where
  find_other : (k i : ℕ) → eqb k n.access_rule ≡ false → find k i (only not_rule ps) ≡ find k i ps
  unfolding find
  find_other k i h = find_only not_rule (is_at k i) ps (λ a. kind_not_rule k h _ (kind_at k i _ a))

  factor_other : (c : CredentialId) (e : Entry) → factor_for c e (sites (only not_rule ps)) ≡ factor_for c e (sites ps)
  unfolding factor_for
  factor_other c e = rw (sites_only not_rule ps) (go (eqb c.0 NONE))
    where
      factor : (s : List ℕ) → eqb (kind s) n.authentication_factor ≡ true → not_rule s ≡ true
      factor s h = kind_not_rule n.authentication_factor refl s (eqb-true (kind s) n.authentication_factor h)

      identified : (s : List ℕ) → identifying e.argument e.value s ≡ true → not_rule s ≡ true
      identified s h = factor s (unfold identifying in and_left (eqb (kind s) n.authentication_factor) _ h)

      confirmed : (s : List ℕ) → confirming c e.argument e.value s ≡ true → not_rule s ≡ true
      confirmed s h =
          factor s (unfold confirming in and_left (eqb (kind s) n.authentication_factor) _ (and_left (is_at n.authentication_factor c.0 s) _ h))

      go : (d : Bool) →
          (if d then find_in (identifying e.argument e.value) (keep not_rule (sites ps)) else find_in (confirming c e.argument e.value) (keep not_rule (sites ps)))
          ≡ (if d then find_in (identifying e.argument e.value) (sites ps) else find_in (confirming c e.argument e.value) (sites ps))
      go true = find_keep not_rule (identifying e.argument e.value) (sites ps) (identified _)
      go false = find_keep not_rule (confirming c e.argument e.value) (sites ps) (confirmed _)

-- So an entry reads the same in both, and leaves two such panels.
but_rules_agree : (ps qs : Panel) → ButRules ps qs → Agree ps qs
but_rules_agree ps qs b =
    record {
      objects = λ k i h. let r = kept_not_rule k h in sym (find_other ps k i r) ∙ ap (find k i) b.same_others ∙ find_other qs k i r;
      factors = λ c e. sym (factor_other ps c e) ∙ ap (λ xs. factor_for c e (sites xs)) b.same_others ∙ factor_other qs c e;
      rules = b.same_rules;
    }

but_rules_apply : (o : Outcome) (ps qs : Panel) → ButRules ps qs → ButRules (apply o ps) (apply o qs)
but_rules_apply o ps qs b =
    record {
      same_others = others_apply ps ∙ ap (apply o) b.same_others ∙ sym (others_apply qs);
      same_rules = λ first second point to time. rw (sites_apply o ps, sites_apply o qs) (b.same_rules first second point to time);
    }
  where
    others_apply : (ps : Panel) → only not_rule (apply o ps) ≡ apply o (only not_rule ps)
    others_apply ps = only_apply not_rule (λ k i. not (eqb k n.access_rule)) (λ k i s h. rw (kind_at k i s h)) o ps

-- Every list of entries.
same_list : (es : List Entry) (ps qs : Panel) → ButRules ps qs → (answers ps es ≡ answers qs es) × (only not_rule (after ps es) ≡ only not_rule (after qs es))
unfolding answers after
same_list [] ps qs b = (refl, b.same_others)
same_list (e ∷ es) ps qs b =
    let o = outcome_agree ps qs (but_rules_agree ps qs b) e in
    rw o
    (let rest = same_list es (apply (entry_outcome qs e) ps) (apply (entry_outcome qs e) qs) (but_rules_apply (entry_outcome qs e) ps qs b) in
    (ap (λ rs. (entry_outcome qs e).answer ∷ rs) rest.0, rest.1))

-- ── the same state

-- A rule has none.
rule_none : (s : List ℕ) → not_rule s ≡ false → kept s ≡ false
unfolding kept
rule_none s h = let k : kind s ≡ 3 = eqb-true (kind s) 3 (not-false _ h) in rw k

keep_others : (ss : List (List ℕ)) → keep kept (keep not_rule ss) ≡ keep kept ss
keep_others [] = refl
keep_others (s ∷ ss) = go (not_rule s) refl (keep_others ss)
  where
    go : (c : Bool) → not_rule s ≡ c → keep kept (keep not_rule ss) ≡ keep kept ss → keep kept (if c then s ∷ keep not_rule ss else keep not_rule ss) ≡ keep kept (s ∷ ss)
    go true e ih = rw ih
    go false e ih = rw (rule_none s e, ih)

-- So the others have the whole state, and a panel of the others holds the same bytes.
only_paired : (ss : List (List ℕ)) (state : List ℕ) → only not_rule (paired state_size ss state) ≡ paired state_size (keep not_rule ss) state
unfolding paired state_size
only_paired [] state = refl
only_paired (s ∷ ss) state = go (not_rule s) refl (only_paired ss (drop (state_size s) state))
  where
    go : (c : Bool) → not_rule s ≡ c → only not_rule (paired state_size ss (drop (state_size s) state)) ≡ paired state_size (keep not_rule ss) (drop (state_size s) state) →
        (if c then (s, take (state_size s) state) ∷ only not_rule (paired state_size ss (drop (state_size s) state)) else only not_rule (paired state_size ss (drop (state_size s) state)))
        ≡ paired state_size (if c then s ∷ keep not_rule ss else keep not_rule ss) state
    go true e ih = ap (λ ps. (s, take (state_size s) state) ∷ ps) ih
    go false e ih = ih ∙ ap (λ c. paired state_size (keep not_rule ss) (drop (if c then 32 else 0) state)) (rule_none s e)

state_only : (ps : Panel) → all (whole state_size) ps ≡ true → state_of (only not_rule ps) ≡ state_of ps
unfolding state_of flatten state_size
state_only [] a = refl
state_only (x ∷ xs) a = go (not_rule x.0) refl (state_only xs (and_right (whole state_size x) (all (whole state_size) xs) a))
  where
    go : (c : Bool) → not_rule x.0 ≡ c → state_of (only not_rule xs) ≡ state_of xs → state_of (if c then x ∷ only not_rule xs else only not_rule xs) ≡ state_of (x ∷ xs)
    go true e ih = rw ih
    go false e ih = rw (nil_from_length x.1 (eqb-true (length x.1) 0 (rw (rule_none x.0 e) at (and_left (whole state_size x) (all (whole state_size) xs) a))), ih)

well_others : (ss : List (List ℕ)) (ps : Panel) → all (record_well ss) ps ≡ all (record_well ss) (only not_rule ps)
well_others ss [] = refl
well_others ss (x ∷ xs) = go (not_rule x.0) refl (well_others ss xs)
  where
    go : (c : Bool) → not_rule x.0 ≡ c → all (record_well ss) xs ≡ all (record_well ss) (only not_rule xs) →
        all (record_well ss) (x ∷ xs) ≡ all (record_well ss) (if c then x ∷ only not_rule xs else only not_rule xs)
    go true e ih = rw ih
    go false e ih = rw (none_well ss x.0 x.1 (rule_none x.0 e), ih)

module _ (ss ts : List (List ℕ)) (h : Halved ss ts) where
  -- What is of another kind than a rule is there in both.
  pub exists_same : (k i : ℕ) → eqb k n.access_rule ≡ false → exists ss k i ≡ exists ts k i
  unfolding exists
  exists_same k i e =
      let among : (rs : List (List ℕ)) → find_in (is_at k i) (keep not_rule rs) ≡ find_in (is_at k i) rs =
      λ rs. find_keep not_rule (is_at k i) rs (λ a. kind_not_rule k e _ (kind_at k i _ a)) in
      ap (λ s. not (missing s)) (sym (among ss) ∙ ap (find_in (is_at k i)) h.others ∙ among ts)

  -- So a record is well formed in both or in neither.
  record_same : (x : Pair) → record_well ss x ≡ record_well ts x
  unfolding record_well point_well credential_well none_or_exists
  record_same x = go (record_kind x.0)
    where
      go : (k : Option RecordKind) → record_well_as k ss x ≡ record_well_as k ts x
      go (Some OfZone) = refl
      go (Some OfPoint) = rw (exists_same n.access_credential (point_state_of x.1).waiting_credential.0 refl)
      go (Some OfRule) = refl
      go (Some OfCredential) = rw (exists_same n.access_zone (credential_state_of x.1).zone.0 refl, exists_same n.access_point (credential_state_of x.1).last_point.0 refl)
      go (Some OfFactor) = refl
      go None = refl

  records_same : (ps : Panel) → all (record_well ss) ps ≡ all (record_well ts) ps
  records_same [] = refl
  records_same (x ∷ xs) = rw (record_same x, records_same xs)

-- ── runs on the same state

module _ (site other : List ℕ) (h : Halved (records site) (records other)) where
  length_same : state_length site ≡ state_length other
  unfolding state_length
  length_same = ap (λ ss. 32 * length ss) (sym (keep_others (records site)) ∙ ap (keep kept) h.others ∙ keep_others (records other))

  module _ (state : List ℕ) where
    panel_same : only not_rule (panel site state) ≡ only not_rule (panel other state)
    unfolding panel
    panel_same = only_paired (records site) state ∙ ap (λ ss. paired state_size ss state) h.others ∙ sym (only_paired (records other) state)

    well_same : well_formed site state ≡ well_formed other state
    unfolding well_formed
    well_same =
        well_others (records site) (panel site state) ∙ records_same (records site) (records other) h (only not_rule (panel site state))
        ∙ ap (all (record_well (records other))) panel_same ∙ sym (well_others (records other) (panel other state))

    module _ (accepts : check_site site ≡ Ok tt) (other_accepts : check_site other ≡ Ok tt) (r : Run) where
      returned_same : run_returned site state r.journal r.answers ≡ run_returned other state r.journal r.answers
      unfolding run_returned check_state fresh_returned
      returned_same = rw (accepts, other_accepts, length_same, well_same)

      entered : List Entry
      entered = map entry_of (entries r.journal)

      list_same : (answers (panel site state) entered ≡ answers (panel other state) entered)
          × (only not_rule (after (panel site state) entered) ≡ only not_rule (after (panel other state) entered))
      list_same =
          same_list entered (panel site state) (panel other state)
          (record {
            same_others = panel_same;
            same_rules = λ first second point to time.
                rw (sites_panel site state, sites_panel other state)
                (verdict_same first second point to time (records site) (records other) (site_accepted site accepts).fields_in_range h);
          })

      state_same : length state ≡ state_length site → state_of (after (panel site state) entered) ≡ state_of (after (panel other state) entered)
      state_same l =
          sym (state_only (after (panel site state) entered) (whole_left site state l entered)) ∙ ap state_of list_same.1
          ∙ state_only (after (panel other state) entered) (whole_left other state (l ∙ length_same) entered)

      as_long : is_worked (run_returned other state r.journal r.answers) ≡ true → length state ≡ state_length site
      unfolding run_on run_journal
      as_long w = (lengths other state (run_accepted other state r w).fresh_worked).1 ∙ sym length_same

      run_same : run_on site state r ≡ run_on other state r
      unfolding run_on run_journal entered
      run_same = rw (returned_same, list_same.0) (go (is_worked (run_returned other state r.journal r.answers)) refl)
        where
          x : Returned
          x = run_returned other state r.journal r.answers

          bytes : List ℕ
          bytes = if is_worked x then flatten (map answer_bytes (answers (panel other state) entered)) else r.answers

          go : (c : Bool) → is_worked x ≡ c →
              run_result x (if c then state_of (after (panel site state) entered) else state) bytes ≡ run_result x (if c then state_of (after (panel other state) entered) else state) bytes
          go true w = ap (λ t. run_result x t bytes) (state_same (as_long w))
          go false w = refl

pub same_shifts : SameShifts
unfolding SameShifts results
same_shifts site other state [] a b h = refl
same_shifts site other state (r ∷ rs) a b h =
    let e = run_same site other h state a b r in
    rw e (ap (λ xs. run_on other state r ∷ xs) (same_shifts site other (run_on other state r).state rs a b h))

pub fresh_shifts : FreshShifts
unfolding FreshShifts fresh
fresh_shifts site other h =
    sym (fresh_keep not_rule rule_none (records site)) ∙ ap (λ ss. flatten (map fresh_record ss)) h.others ∙ fresh_keep not_rule rule_none (records other)
