-- A rule of the rights that fits in location is of one of the classes that are walked, so what the rules of those find is what all records find.
use Rattle.std.specs.Prelude.{if◌then◌else◌}
use Prim.Native.Nat.{ℕ}
use mathlib.Core.Path.{◌≡◌, refl, sym, ◌∙◌}
use mathlib.Core.List.{List}
use mathlib.Core.Bool.{Bool, true, false, not, ◌&&◌, ◌||◌, or-true, false≢true}
use lib.Dec.{eqb}
use lib.ListN.{take}
use borrow.Author.Tests.{eqb-true, eq-eqb}
use Rattle.model.specs.Words.{keep, any}
use Rattle.model.specs.Numbers.{NONE, access_zone, access_point, access_rule}
use Rattle.model.specs.Site.{kind, instance, enabled, negative, everywhere, location_kind, location, is_at}
use Rattle.model.specs.Checks.{of_rights, enabled_rule, location_fits, time_fits, verdict}
use Rattle.model.proofs.Laws.{and_left, and_right, any_keep}
use Rattle.index.specs.Index.{rule_class, class_of_rule, in_class}
use Rattle.model.specs.declared.RightsId.{RightsId}
use Rattle.rules.specs.declared.Asked.{Asked}
use Rattle.rules.specs.Walk.{findings, in_some, rule_classes, class_count}

-- A rule of the rights; one that fits in location.
abbrev rule : Asked → List ℕ → Bool
rule a s = enabled_rule a.first a.second s

abbrev located : Asked → List ℕ → Bool
located a s = location_fits a.point a.to s

module _ (rights : RightsId) (s : List ℕ) (r : of_rights rights s ≡ true) where
  has_rights : is_at access_rule rights.0 s ≡ true
  has_rights = and_right (not (eqb rights.0 NONE)) (is_at access_rule rights.0 s) r

  is_rule_law : eqb (kind s) access_rule ≡ true
  is_rule_law = and_left (eqb (kind s) access_rule) (eqb (instance s) rights.0) has_rights

  rule_class_law : class_of_rule s ≡ if everywhere s then rule_class rights.0 0 0 else rule_class rights.0 (location_kind s) (location s)
  unfolding class_of_rule
  rule_class_law = rw (eqb-true (instance s) rights.0 (and_right (eqb (kind s) access_rule) (eqb (instance s) rights.0) has_rights))

  -- A rule of a rights number that fits in location is of one of that number's classes: what holds of each of the three holds of its own.
  in_rights : (a : Asked) (Q : ℕ → Type 0) → located a s ≡ true
      → Q (rule_class rights.0 0 0) → Q (rule_class rights.0 access_point a.point.0) → Q (rule_class rights.0 access_zone a.to.0) → Q (class_of_rule s)
  unfolding location_fits
  in_rights a Q l x y z = rw rule_class_law (go (everywhere s) at_point refl l)
    where
      at_point : Bool
      at_point = eqb (location_kind s) access_point && eqb (location s) a.point.0

      at_zone : Bool
      at_zone = eqb (location_kind s) access_zone && eqb (location s) a.to.0

      place : (k i : ℕ) → eqb (location_kind s) k && eqb (location s) i ≡ true → Q (rule_class rights.0 k i)
          → Q (rule_class rights.0 (location_kind s) (location s))
      place k i e q =
          let f = and_left (eqb (location_kind s) k) (eqb (location s) i) e in
          let g = and_right (eqb (location_kind s) k) (eqb (location s) i) e in
          rw (eqb-true (location_kind s) k f, eqb-true (location s) i g) q

      go : (e p : Bool) → at_point ≡ p → e || p || at_zone && not (eqb a.to.0 NONE) ≡ true
          → Q (if e then rule_class rights.0 0 0 else rule_class rights.0 (location_kind s) (location s))
      go true p f h = x
      go false true f h = place access_point a.point.0 f y
      go false false f h = place access_zone a.to.0 (and_left at_zone (not (eqb a.to.0 NONE)) h) z

-- The classes that are walked.
abbrev walked : Asked → List ℕ
walked a = take (class_count a) (rule_classes a)

-- Every rule that fits in rights and location is of one of them: where those of the second number are not walked, it is of the first.
walks_all : (a : Asked) (s : List ℕ) → rule a s ≡ true → located a s ≡ true → in_some (walked a) s ≡ true
unfolding enabled_rule class_count
walks_all a s e l = go (of_rights a.first s) refl again refl (and_left (of_rights a.first s || of_rights a.second s) (enabled s) e)
  where
    again : Bool
    again = eqb a.second.0 a.first.0 || eqb a.second.0 NONE

    own : (c : ℕ) → eqb c c ≡ true
    own c = eq-eqb c c refl

    Found : Bool → ℕ → Type 0
    Found t c = any (eqb c) (take (if t then 3 else 6) (rule_classes a)) ≡ true

    none : (x y : Bool) → eqb a.second.0 a.first.0 ≡ x → eqb a.second.0 NONE ≡ y → x || y ≡ true → of_rights a.first s ≡ false → of_rights a.second s ≡ false
    none true y p q h f = rw (eqb-true a.second.0 a.first.0 p) f
    none false true p q h f = rw q
    none false false p q h f = cc

    go : (x : Bool) → of_rights a.first s ≡ x → (t : Bool) → again ≡ t → x || of_rights a.second s ≡ true
        → any (λ c. in_class c s) (take (if t then 3 else 6) (rule_classes a)) ≡ true
    go true f true g h = rw (is_rule_law a.first s f) (in_rights a.first s f a (Found true) l (simp own) (simp (own, or-true)) (simp (own, or-true)))
    go true f false g h = rw (is_rule_law a.first s f) (in_rights a.first s f a (Found false) l (simp own) (simp (own, or-true)) (simp (own, or-true)))
    go false f true g h = absurd (false≢true (sym (none (eqb a.second.0 a.first.0) (eqb a.second.0 NONE) refl refl g f) ∙ h))
    go false f false g h = rw (is_rule_law a.second s h) (in_rights a.second s h a (Found false) l (simp (own, or-true)) (simp (own, or-true)) (simp (own, or-true)))

-- Only such rules pass the tests of a verdict.
module _ (a : Asked) (ss : List (List ℕ)) where
  any_located : (t : List ℕ → Bool) → ((s : List ℕ) → t s ≡ true → located a s ≡ true)
      → any (λ s. rule a s && t s) (keep (in_some (walked a)) ss) ≡ any (λ s. rule a s && t s) ss
  any_located t fits =
      any_keep (in_some (walked a)) (λ s. rule a s && t s)
      (λ s e. walks_all a s (and_left (rule a s) (t s) e) (fits s (and_right (rule a s) (t s) e))) ss

  any_timely : (t : List ℕ → Bool)
      → any (λ s. rule a s && (t s && located a s && time_fits a.time s)) (keep (in_some (walked a)) ss)
      ≡ any (λ s. rule a s && (t s && located a s && time_fits a.time s)) ss
  any_timely t =
      any_located (λ s. t s && located a s && time_fits a.time s)
      (λ s e. and_right (t s) (located a s) (and_left (t s && located a s) (time_fits a.time s) e))

  pub found_all : findings a (keep (in_some (walked a)) ss) ≡ findings a ss
  unfolding verdict
  found_all =
      rw (
        any_timely negative,
        any_timely (λ s. not (negative s)),
        any_located (λ s. not (negative s) && located a s) (λ s. and_right (not (negative s)) (located a s)),
      )
