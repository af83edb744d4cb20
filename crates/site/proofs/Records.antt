-- The records of a site: what is found of them or is not, what passes, and what a rule in range names.
use denote.Ref.{Bor}
use Rattle.std.specs.Prelude.{if◌then◌else◌, cond, Option, Some, find, option_copied}
use Rattle.std.specs.Option.{unwrap_or}
use Prim.Native.Nat.{ℕ, zero, suc, ◌+◌, ◌<◌}
use Rattle.std.specs.List.{list_all, list_any, range_with_len}
use mathlib.Core.Path.{◌≡◌, refl, ap}
use mathlib.Core.List.{List, [], ◌∷◌}
use mathlib.Core.Bool.{Bool, true, false, ◌&&◌, ◌||◌, and-false}
use native.Mathlib.Omega.{arith}
use lib.Dec.{eqb, eqb-suc-zero}
use lib.ListN.{length, drop, get_or}
use Rattle.model.specs.Words.{missing, any, all}
use Rattle.model.specs.Numbers.{access_zone, access_point, access_rule}
use Rattle.model.specs.Site.{kind, record_kind, instance, everywhere, location_kind, find_in}
use Rattle.model.specs.Accept.{real, rule_in_range, in_range_as, in_range, twins, twice}
use Rattle.model.specs.declared.RecordKind.TheVariants.{OfRule}
use Rattle.model.proofs.Laws.{and_left, and_right}
use Rattle.model.proofs.Shifts.{rule_range, rule_location}
use Rattle.std.proofs.lemmas.List.{drop_more, drop_all}

-- What is missing has no bytes.
pub no_bytes : (s : List ℕ) → eqb (length s) 0 ≡ missing s
no_bytes [] = refl
no_bytes (x ∷ s) = eqb-suc-zero (length s)

-- What the library finds.
pub find_is : (q : List ℕ → Bool) (ss : List (List ℕ)) → unwrap_or (find q ss) [] ≡ find_in q ss
find_is q [] = refl
find_is q (s ∷ ss) = go (q s) (find_is q ss)
  where
    go : (c : Bool) → unwrap_or (find q ss) [] ≡ find_in q ss → unwrap_or (cond c (Some s) (find q ss)) [] ≡ if c then s else find_in q ss
    go true h = refl
    go false h = h

-- The part that is handed back of what is found.
pub part_found : {part : List ℕ} {xs ss : List (List ℕ)} (q : List ℕ → Bool) (o : Option (Bor (List ℕ)))
    → part ≡ unwrap_or (option_copied o) [] → option_copied o ≡ find q xs → xs ≡ ss → part ≡ find_in q ss
part_found {ss = ss} q o p e r = rw (p, e, r) (find_is q ss)

-- What the library's `all` answers.
pub all_is : {A : Type 0} (q : A → Bool) (xs : List A) → list_all q xs ≡ all q xs
all_is q [] = refl
all_is q (x ∷ xs) = ap (λ c. q x && c) (all_is q xs)

-- Where every record passes, the i-th does; where one does not, not every one does.
module _ (q : List ℕ → Bool) where
  pub all_at : (ss : List (List ℕ)) → all q ss ≡ true → (i : ℕ) (s : List ℕ) → i < length ss → q (get_or ss i s) ≡ true
  all_at [] h i d l = elim l [ ]
  all_at (s ∷ ss) h zero d l = and_left (q s) (all q ss) h
  all_at (s ∷ ss) h (suc i) d l = all_at ss (and_right (q s) (all q ss) h) i d (omega arith)

  pub all_not : (ss : List (List ℕ)) (i : ℕ) (s : List ℕ) → i < length ss → q (get_or ss i s) ≡ false → all q ss ≡ false
  all_not [] i d l h = elim l [ ]
  all_not (s ∷ ss) zero d l h = rw h
  all_not (s ∷ ss) (suc i) d l h = rw (all_not ss i d (omega arith) h) (and-false (q s))

-- The same twice: the record at i with one after it, or two of those after it.
pub twice_turn : (ss : List (List ℕ)) (i : ℕ) → i < length ss
    → twice (drop i ss) ≡ any (twins (get_or ss i [])) (drop (i + 1) ss) || twice (drop (i + 1) ss)
unfolding twice
twice_turn ss i h = rw (drop_more ss i [] h)

-- So it is where each of them in turn is tried.
pub twice_of : (ss : List (List ℕ)) (n i : ℕ) → i + n ≡ length ss → list_any (λ j. any (twins (get_or ss j [])) (drop (j + 1) ss)) (range_with_len i n) ≡ twice (drop i ss)
unfolding twice
twice_of ss zero i e = rw (drop_all i ss (omega arith))
twice_of ss (suc n) i e = rw (twice_turn ss i (omega arith), twice_of ss n (i + 1) (omega arith))

-- A rule has no twin.
pub rule_alone : (s : List ℕ) (ss : List (List ℕ)) → kind s ≡ access_rule → any (twins s) ss ≡ false
unfolding twins
rule_alone s [] k = refl
rule_alone s (t ∷ ss) k = rw (k, and-false) (rule_alone s ss k)

-- A rule in range: a location that is not a zone is a point.
pub rule_in_range_law : (s : List ℕ) → in_range s ≡ true → record_kind s ≡ (Some OfRule) → rule_in_range s ≡ true
unfolding in_range
rule_in_range_law s h k = rw k at (and_right (real (instance s)) (in_range_as (record_kind s) s) h)

pub point_location : (s : List ℕ) → rule_in_range s ≡ true → everywhere s ≡ false → (location_kind s ≡ access_zone → ⊥) → location_kind s ≡ access_point
point_location s h e z = let k = rule_location s (rule_range s h) e in omega (arith, k.0, k.1)
