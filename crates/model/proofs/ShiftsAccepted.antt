-- Sites that differ in their shifts alone: refusals 2, 3 and 4 are the same.
use Rattle.std.specs.Prelude.{if◌then◌else◌, Option, Some, None, Ok, Err}
use Prim.Native.Nat.{ℕ, zero, suc, ◌*◌, ◌/◌, ◌%◌, ◌≤◌}
use native.Mathlib.Omega.{arith}
use mathlib.Core.Path.{◌≡◌, refl, sym, ◌∙◌, ap}
use mathlib.Core.List.{List, [], ◌∷◌}
use mathlib.Core.Bool.{Bool, true, false, not, ◌&&◌, ◌||◌, and-false, or_self, false≢true}
use lib.Dec.{ltb, eqb}
use lib.ListN.{length, drop, length-drop}
use lib.Seq.{length-take-le}
use borrow.Author.Tests.{eqb-true, ne_eqb}
use Rattle.octets.specs.Octets.{groups}
use Rattle.model.specs.Words.{keep, any, all}
use Rattle.model.specs.Numbers as n
use Rattle.model.specs.Site.{kind, record_kind, instance, point_of, everywhere, location_kind, location, records}
use Rattle.model.specs.Accept.{real, in_range_as, in_range, twins, twice, exists, none_or_exists, names_exist_as, names_exist}
use Rattle.model.specs.Calls.{Returned, check_site}
use Rattle.model.specs.Shifts.{is_rule, not_rule, is_shift, until_midnight, since_midnight, Halved}
use Rattle.model.specs.Demands.{returns_other, AcceptedShifts}
use Rattle.model.specs.declared.RecordKind.{RecordKind}
use Rattle.model.specs.declared.RecordKind.TheVariants.{OfZone, OfPoint, OfRule, OfCredential, OfFactor}
use Rattle.model.specs.declared.Refusal.TheVariants.{SiteLength, SiteField, SiteTwice, SiteMissing}
use Rattle.model.proofs.Laws.{and_left, and_right, any_keep}
use Rattle.model.proofs.Flat.{Sized}
use Rattle.model.proofs.Shifts.{RuleRange, rule_range, rule_location, whole_rule, Like, until_like, since_like, range_halves, shift_rule}
use Rattle.model.proofs.SameShifts.{any_same, exists_same}

-- ── refusal 2

-- Every record has 32 bytes.
sized_groups : (k : ℕ) (s : List ℕ) → k * 32 ≤ length s → Sized 32 (groups 32 k s) ≡ true
unfolding groups
sized_groups zero s h = refl
sized_groups (suc k) s h = rw (length-take-le 32 s (omega arith)) (sized_groups k (drop 32 s) (simp length-drop (omega arith)))

sized_records : (site : List ℕ) → Sized 32 (records site) ≡ true
unfolding records
sized_records site = sized_groups (length site / 32) site (omega arith)

-- All records are in range, or some are not.
all_any : (q : List ℕ → Bool) (ss : List (List ℕ)) → all q ss ≡ not (any (λ s. not (q s)) ss)
all_any q [] = refl
all_any q (s ∷ ss) = go (q s) (all_any q ss)
  where
    go : (c : Bool) → all q ss ≡ not (any (λ s. not (q s)) ss) → c && all q ss ≡ not (not c || any (λ s. not (q s)) ss)
    go true ih = ih
    go false ih = refl

all_in_range : (site other : List ℕ) → Halved (records site) (records other) → all in_range (records site) ≡ all in_range (records other)
all_in_range site other h =
    all_any in_range (records site)
    ∙ ap not (any_same (λ s. eqb (length s) 32) (λ s. not (in_range s)) of_whole (records site) (records other) (sized_records site) h)
    ∙ sym (all_any in_range (records other))
  where
    of_whole : (s : List ℕ) → eqb (length s) 32 ≡ true → is_shift s ≡ true → not (in_range s) ≡ not (in_range (until_midnight s)) || not (in_range (since_midnight s))
    of_whole s w = let e = eqb-true (length s) 32 w in range_halves s (omega arith)

-- ── refusal 3: rules are never twins

rule_twins : (s t : List ℕ) → is_rule s ≡ true → twins s t ≡ false
unfolding twins
rule_twins s t r = rw (eqb-true (kind s) n.access_rule r) (and-false (eqb n.access_rule (kind t)))

twins_other : (s t : List ℕ) → twins s t ≡ true → not_rule t ≡ true
twins_other s t h = go (is_rule t) refl
  where
    same_kind : kind s ≡ kind t
    same_kind = unfold twins in eqb-true (kind s) (kind t) (and_left (eqb (kind s) (kind t)) _ h)

    go : (c : Bool) → is_rule t ≡ c → not c ≡ true
    go true r = absurd (false≢true (sym (rule_twins s t (rw same_kind r)) ∙ h))
    go false r = refl

any_none : (q : List ℕ → Bool) → ((s : List ℕ) → q s ≡ false) → (ss : List (List ℕ)) → any q ss ≡ false
any_none q none [] = refl
any_none q none (s ∷ ss) = rw (none s) (any_none q none ss)

twice_other : (ss : List (List ℕ)) → twice (keep not_rule ss) ≡ twice ss
unfolding twice
twice_other [] = refl
twice_other (s ∷ ss) = go (is_rule s) refl (twice_other ss)
  where
    go : (c : Bool) → is_rule s ≡ c → twice (keep not_rule ss) ≡ twice ss
        → twice (if not c then s ∷ keep not_rule ss else keep not_rule ss) ≡ any (twins s) ss || twice ss
    go true r ih = rw (any_none (twins s) (λ t. rule_twins s t r) ss, ih)
    go false r ih = rw (any_keep not_rule (twins s) (twins_other s) ss, ih)

-- ── refusal 4

module _ (ss ts : List (List ℕ)) (h : Halved ss ts) where
  -- So what a record in range names is: a rule names a zone or a point.
  names_same : (s : List ℕ) → in_range s ≡ true → names_exist ss s ≡ names_exist ts s
  unfolding names_exist none_or_exists in_range
  names_same s r = go (record_kind s) (and_right (real (instance s)) (in_range_as (record_kind s) s) r)
    where
      place : (c : Bool) → everywhere s ≡ c → RuleRange s → c || exists ss (location_kind s) (location s) ≡ c || exists ts (location_kind s) (location s)
      place true e p = refl
      place false e p =
          exists_same ss ts h (location_kind s) (location s) (ne_eqb (location_kind s) n.access_rule (λ k. omega (arith, (rule_location s p e).1)))

      go : (k : Option RecordKind) → in_range_as k s ≡ true → names_exist_as k ss s ≡ names_exist_as k ts s
      go (Some OfZone) r = refl
      go (Some OfPoint) r = rw (exists_same ss ts h n.access_zone (point_of s).zone_to.0 refl, exists_same ss ts h n.access_zone (point_of s).zone_from.0 refl)
      go (Some OfRule) r = place (everywhere s) refl (rule_range s r)
      go (Some OfCredential) r = refl
      go (Some OfFactor) r = exists_same ss ts h n.access_credential (instance s) refl
      go None r = refl

-- A half names what its shift does.
names_like : (ts : List (List ℕ)) (s t : List ℕ) → kind s ≡ n.access_rule → Like s t → names_exist ts t ≡ names_exist ts s
unfolding names_exist
names_like ts s t k l = rw (l.same_kind, k, l.same_flags, l.same_place_kind, l.same_place)

names_halves : (ts : List (List ℕ)) (s : List ℕ) → in_range s ≡ true → is_shift s ≡ true
    → not (names_exist ts s) ≡ not (names_exist ts (until_midnight s)) || not (names_exist ts (since_midnight s))
unfolding is_shift
names_halves ts s r i =
    let k = eqb-true (kind s) n.access_rule (and_left (is_rule s) _ i) in
    let long = whole_rule s (shift_rule s r i) in
    rw (names_like ts s (until_midnight s) k (until_like s long), names_like ts s (since_midnight s) k (since_like s long)) (sym (or_self (not (names_exist ts s))))

all_same : (ok q r : List ℕ → Bool) → ((s : List ℕ) → ok s ≡ true → q s ≡ r s) → (ss : List (List ℕ)) → all ok ss ≡ true → all q ss ≡ all r ss
all_same ok q r e [] o = refl
all_same ok q r e (s ∷ ss) o = rw (e s (and_left (ok s) (all ok ss) o), all_same ok q r e ss (and_right (ok s) (all ok ss) o))

all_names : (ss ts : List (List ℕ)) → Halved ss ts → all in_range ss ≡ true → all (names_exist ss) ss ≡ all (names_exist ts) ts
all_names ss ts h r =
    all_same in_range (names_exist ss) (names_exist ts) (names_same ss ts h) ss r ∙ all_any (names_exist ts) ss
    ∙ ap not (any_same in_range (λ s. not (names_exist ts s)) (names_halves ts) ss ts r h) ∙ sym (all_any (names_exist ts) ts)

-- ── the number

abbrev wrong_length : List ℕ → Bool
wrong_length site = not (eqb (length site % n.record_size) 0) || ltb n.largest_site (length site)

length_passed : (c : Bool) (x : Returned) → returns_other (Err SiteLength) (if c then Err SiteLength else x) ≡ true → c ≡ false
length_passed true x h = absurd (false≢true h)
length_passed false x h = refl

pub accepted_shifts : AcceptedShifts
unfolding AcceptedShifts check_site
accepted_shifts site other s o h =
    rw (
      length_passed (wrong_length site) _ s,
      length_passed (wrong_length other) _ o,
      ← all_in_range site other h,
      ← twice_other (records other),
      ← h.others,
      twice_other (records site),
    )
    (go (all in_range (records site)) refl)
  where
    rest : Bool → List (List ℕ) → Returned
    rest c ss = if not c then Err SiteField else if twice (records site) then Err SiteTwice else if not (all (names_exist ss) ss) then Err SiteMissing else Ok tt

    go : (c : Bool) → all in_range (records site) ≡ c → rest c (records site) ≡ rest c (records other)
    go true r = rw (all_names (records site) (records other) h r)
    go false r = refl
