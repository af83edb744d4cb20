-- The place of the first record that passes a test: along the chain of its bucket, and among the records of its kind.
use Rattle.std.specs.Prelude.{if◌then◌else◌, Option, Some, None, position}
use Rattle.std.specs.List.{position_from}
use Rattle.std.specs.Option.{option_map, option_map_or}
use Rattle.std.proofs.lemmas.Iterator.Adapters.{position_from-zero}
use Prim.Native.Nat.{ℕ, suc, ◌+◌, ◌-◌, ◌%◌, ◌≤◌, ◌<◌, max, min}
use mathlib.Core.Path.{◌≡◌, refl, sym, ap, ◌∙◌}
use mathlib.Core.List.{List, [], ◌∷◌, ◌++◌}
use mathlib.Core.Bool.{Bool, true, false}
use native.Mathlib.Nat.{add-suc}
use native.Mathlib.Numerals.{add-one}
use native.Mathlib.Omega.{arith}
use lib.Dec.{eqb, ltb}
use lib.ListN.{length, take, drop, get_or, length-drop}
use lib.Seq.{drop-drop, length-take-le}
use Rattle.std.proofs.lemmas.List.{drop_all, drop_more, take_all, take-append-drop}
use borrow.Author.Tests.{ltb-true, ltb-false}
use Rattle.model.specs.Site.{kind}
use Rattle.index.specs.Index.{kind_classes, bucket_of, record_of, ChainFrom, kind_class, first_from, next_in, OfBucket}
use Rattle.index.specs.Place.{place_from}
use Rattle.index.proofs.Walks.{next_high, next_end, next_again, past, onward, onward_chain, chain_record, chain_at}

-- From where the last of a class was passed on there is none, nor where there is none at all.
class_ends : (c last end : ℕ) (ss : List (List ℕ)) → (next_in kind_class c 0 ss < length ss → next_in kind_class c last ss ≡ length ss)
    → next_in kind_class c 0 ss ≤ end → end ≤ length ss → (end < length ss → last ≤ end) → next_in kind_class c end ss ≡ length ss
class_ends c last end ss e f h l = go (ltb end (length ss)) refl
  where
    go : (t : Bool) → ltb end (length ss) ≡ t → next_in kind_class c end ss ≡ length ss
    go true t =
        let n : next_in kind_class c last ss ≡ length ss = e (omega (arith, ltb-true end (length ss) t)) in
        let m : last ≤ end = l (ltb-true end (length ss) t) in
        let z : last + (end - last) ≡ end = omega arith in
        rw z at (next_again kind_class c last ss (end - last) (omega arith)) ∙ n
    go false t =
        let z : end ≡ length ss = omega (arith, ltb-false end (length ss) t) in
        rw z (next_end kind_class c (length ss) ss (omega arith))

module _ (q : List ℕ → Bool) where
  pub place_passes : (k : ℕ) (s : List ℕ) (ss : List (List ℕ)) → q s ≡ false → place_from q k (s ∷ ss) ≡ place_from q (suc k) ss
  unfolding place_from
  place_passes k s ss h = rw h

  -- The record at i passes, or there is none.
  pub place_here : (ss : List (List ℕ)) (i : ℕ) → i < length ss → q (get_or ss i []) ≡ true → place_from q i (drop i ss) ≡ Some i
  unfolding place_from
  place_here ss i h t = rw (drop_more ss i [] h, t)

  pub place_end : (ss : List (List ℕ)) (i : ℕ) → length ss ≤ i → place_from q i (drop i ss) ≡ None
  unfolding place_from
  place_end ss i h = rw (drop_all i ss h)

  -- Where the first record is counted as k, the place is k more.
  place_more : (k j : ℕ) (ss : List (List ℕ)) → place_from q (k + j) ss ≡ option_map (λ i. k + i) (place_from q j ss)
  unfolding place_from
  place_more k j [] = refl
  place_more k j (s ∷ ss) = go (q s) (place_more k (suc j) ss)
    where
      go : (t : Bool) → place_from q (k + suc j) ss ≡ option_map (λ i. k + i) (place_from q (suc j) ss)
          → if t then Some (k + j) else place_from q (suc (k + j)) ss ≡ option_map (λ i. k + i) (if t then Some j else place_from q (suc j) ss)
      go true ih = refl
      go false ih = rw (← add-suc k j) ih

  -- It is what `position` gives.
  position_place : (k : ℕ) (ss : List (List ℕ)) → position_from q k ss ≡ place_from q k ss
  unfolding place_from
  position_place k [] = refl
  position_place k (s ∷ ss) = rw (add-one k, position_place (suc k) ss)

  pub place_position : (ss : List (List ℕ)) → position q ss ≡ place_from q 0 ss
  place_position ss = position_from-zero q ss ∙ position_place 0 ss

  -- Where none of the later records passes, only the earlier ones decide.
  place_before : (k : ℕ) (ss ts : List (List ℕ)) → place_from q (k + length ss) ts ≡ None → place_from q k (ss ++ ts) ≡ place_from q k ss
  unfolding place_from
  place_before k [] ts e = let z : k + 0 ≡ k = omega arith in rw z at e
  place_before k (s ∷ ss) ts e =
      let z : k + suc (length ss) ≡ suc k + length ss = omega arith in
      ap (λ p. if q s then Some k else p) (place_before (suc k) ss ts (rw z at e))

  place_cut : (first end : ℕ) (ss : List (List ℕ)) → first ≤ end → end ≤ length ss → place_from q end (drop end ss) ≡ None
      → place_from q first (drop first ss) ≡ place_from q first (take (end - first) (drop first ss))
  place_cut first end ss l h e =
      let n : length (take (end - first) (drop first ss)) ≡ end - first = length-take-le (end - first) (drop first ss) (simp length-drop (omega arith)) in
      let z : first + (end - first) ≡ end = omega arith in
      ap (place_from q first) (sym (take-append-drop (end - first) (drop first ss)))
      ∙ place_before first (take (end - first) (drop first ss)) (drop (end - first) (drop first ss)) (rw (n, drop-drop, z) e)

  module _ (ss : List (List ℕ)) where
    -- Only records of a bucket pass: the first record of its chain from the m-th on decides.
    module _ {b m chain : ℕ} (has : (s : List ℕ) → q s ≡ true → bucket_of s ≡ b) (x : ChainFrom b m ss chain) (l : m ≤ length ss) (j : ℕ) (r : j ≡ record_of chain) where
      pub chain_of_bucket : OfBucket b j ss
      chain_of_bucket = rw r (record { high = rw (chain_record x l) (next_high bucket_of b m ss l); here = (chain_at x l).here })

      pub place_chain : place_from q j (drop j ss) ≡ place_from q m (drop m ss)
      place_chain = rw r (onward_chain (place_from q) q place_passes ss b has x l refl)

    -- The record at i does not pass: what comes after it decides.
    pub place_after : (i : ℕ) → i < length ss → q (get_or ss i []) ≡ false → place_from q (i + 1) (drop (i + 1) ss) ≡ place_from q i (drop i ss)
    place_after i h n = past (place_from q) q place_passes ss i h n refl

    -- The records of a kind: none is before the first of its class, nor after the last.
    module _ (kd : ℕ) (has : (s : List ℕ) → q s ≡ true → kind s ≡ kd) where
      class_on : (m : ℕ) → place_from q m (drop m ss)
          ≡ place_from q (next_in kind_class (kd % kind_classes) m ss) (drop (next_in kind_class (kd % kind_classes) m ss) ss)
      class_on m = sym (onward (place_from q) q place_passes ss kind_class (kd % kind_classes) (λ s t. ap (λ k. k % kind_classes) (has s t)) m refl)

      first_on : (from first : ℕ) → from ≤ first → (from < first → first ≡ next_in kind_class (kd % kind_classes) 0 ss)
          → place_from q from (drop from ss) ≡ place_from q first (drop first ss)
      first_on from first l e = go (ltb from first) refl
        where
          go : (t : Bool) → ltb from first ≡ t → place_from q from (drop from ss) ≡ place_from q first (drop first ss)
          go true t =
              let w : first ≡ next_in kind_class (kd % kind_classes) 0 ss = e (ltb-true from first t) in
              let z : 0 + from ≡ from = omega arith in
              let n : next_in kind_class (kd % kind_classes) from ss ≡ first =
              rw z at (next_again kind_class (kd % kind_classes) 0 ss from (omega arith)) ∙ sym w in
              rw n at (class_on from)
          go false t = let z : from ≡ first = omega (arith, ltb-false from first t) in rw z

      -- What is sought from a number on, where `first` is not before the first of the class, and `end` not after the last.
      pub place_scan : (from head last first end : ℕ) (found : Option ℕ) → from ≤ length ss → head ≡ next_in kind_class (kd % kind_classes) 0 ss
          → (next_in kind_class (kd % kind_classes) 0 ss < length ss → next_in kind_class (kd % kind_classes) last ss ≡ length ss)
          → first ≡ max head from → end ≡ max first (min last (length ss)) → found ≡ place_from q 0 (take (end - first) (drop first ss))
          → option_map (λ i. first + i) found ≡ place_from q from (drop from ss)
      place_scan from head last first end found h e f p r o =
          let l : next_in kind_class (kd % kind_classes) 0 ss ≤ length ss = next_high kind_class (kd % kind_classes) 0 ss (omega arith) in
          let n : next_in kind_class (kd % kind_classes) end ss ≡ length ss =
          class_ends (kd % kind_classes) last end ss f (omega arith) (omega arith) (λ m. omega arith) in
          let none : place_from q end (drop end ss) ≡ None = rw n at (class_on end) ∙ place_end ss (length ss) (omega arith) in
          let z : first + 0 ≡ first = omega arith in
          sym (first_on from first (omega arith) (λ m. omega arith) ∙ place_cut first end ss (omega arith) (omega arith) none
          ∙ rw z at (place_more first 0 (take (end - first) (drop first ss))) ∙ ap (option_map (λ i. first + i)) (sym o))

-- The first of a class is the first record that passes the test for it.
module _ (class : List ℕ → ℕ) (c : ℕ) where
  first_place : (k j : ℕ) (ss : List (List ℕ))
      → first_from class c (k + j) ss ≡ option_map_or (λ i. k + i) (place_from (λ s. eqb (class s) c) j ss) (k + j + length ss)
  unfolding first_from place_from
  first_place k j [] = omega arith
  first_place k j (s ∷ ss) = go (eqb (class s) c) (first_place k (suc j) ss)
    where
      go : (t : Bool) → first_from class c (k + suc j) ss ≡ option_map_or (λ i. k + i) (place_from (λ s. eqb (class s) c) (suc j) ss) (k + suc j + length ss)
          → if t then k + j else first_from class c (suc (k + j)) ss
          ≡ option_map_or (λ i. k + i) (if t then Some j else place_from (λ s. eqb (class s) c) (suc j) ss) (k + j + suc (length ss))
      go true h = refl
      go false h = let z : k + j + suc (length ss) ≡ k + suc j + length ss = omega arith in rw (← add-suc k j, z) h

  -- From the k-th record on it is what `position` gives, k more, or the number of records. The library cuts the slice by its length.
  pub next_position : (k : ℕ) (ss : List (List ℕ)) (found : Option ℕ) → k ≤ length ss
      → found ≡ position (λ s. eqb (class s) c) (take (length ss - k) (drop k ss)) → next_in class c k ss ≡ option_map_or (λ i. k + i) found (length ss)
  unfolding next_in
  next_position k ss found h e =
      let z : k + 0 ≡ k = omega arith in
      let n : k + length (drop k ss) ≡ length ss = omega (arith, length-drop k ss) in
      let o : take (length ss - k) (drop k ss) ≡ drop k ss = take_all (length ss - k) (drop k ss) (omega (arith, n)) in
      let p : found ≡ place_from (λ s. eqb (class s) c) 0 (drop k ss) = rw o at e ∙ place_position (λ s. eqb (class s) c) (drop k ss) in
      rw p (rw (z, n) at (first_place k 0 (drop k ss)))
