-- The records of a class, such as a bucket or a kind, from a number on; the chains of an index; walks over what is left from the i-th record on.
use Rattle.std.specs.Prelude.{if◌then◌else◌}
use Prim.Native.Nat.{ℕ, zero, suc, ◌+◌, ◌-◌, ◌/◌, ◌%◌, ◌≤◌, ◌<◌, max}
use mathlib.Core.Path.{◌≡◌, refl, sym, ◌∙◌}
use mathlib.Core.List.{List, [], ◌∷◌}
use mathlib.Core.Bool.{Bool, true, false, false≢true}
use native.Mathlib.Nat.{add-zero}
use native.Mathlib.Numerals.{add-one}
use native.Mathlib.Omega.{arith}
use lib.Dec.{eqb, ltb}
use lib.ListN.{length, drop, get_or, length-drop}
use lib.Seq.{drop-cons, drop-drop, get_or-drop}
use Rattle.std.proofs.lemmas.List.{drop_all}
use borrow.Author.Tests.{eqb-true, eqb-false, ne_eqb, ltb-true, ltb-false}
use Rattle.model.specs.Site.{kind}
use Rattle.index.specs.Index.{buckets, kind_classes, bucket_of, tags_of, chain_scale, record_of, kind_class, first_from, next_in, head, kind_head, kind_last, link, after, ChainFrom, IndexedFrom}

-- Records by a class, such as their bucket or their kind.
module _ (class : List ℕ → ℕ) where
  -- Where the first record of a class stands.
  record Found (c from : ℕ) (ss : List (List ℕ)) (j : ℕ) : Type 0 where
    low : from ≤ j
    high : j ≤ from + length ss
    here : j - from < length ss → class (get_or ss (j - from) []) ≡ c

  found : (c from : ℕ) (ss : List (List ℕ)) → Found c from ss (first_from class c from ss)
  unfolding first_from
  found c from [] = record { low = omega arith; high = omega arith; here = λ h. absurd (omega arith) }
  found c from (s ∷ ss) = go (eqb (class s) c) refl (found c (suc from) ss)
    where
      go : (t : Bool) → eqb (class s) c ≡ t → Found c (suc from) ss (first_from class c (suc from) ss) →
          Found c from (s ∷ ss) (if t then from else first_from class c (suc from) ss)
      go true e h =
          let d : from - from ≡ 0 = omega arith in
          record { low = omega arith; high = omega arith; here = λ _. rw d (eqb-true (class s) c e) }
      go false e h =
          let d : first_from class c (suc from) ss - from ≡ suc (first_from class c (suc from) ss - suc from) = omega (arith, h.low) in
          record { low = omega (arith, h.low); high = omega (arith, h.high); here = λ l. rw d (h.here (omega (arith, h.low))) }

  module _ (c i : ℕ) (ss : List (List ℕ)) where
    next_low : i ≤ next_in class c i ss
    unfolding next_in
    next_low = (found c i (drop i ss)).low

    pub next_high : i ≤ length ss → next_in class c i ss ≤ length ss
    unfolding next_in
    next_high h = omega (arith, (found c i (drop i ss)).high, length-drop i ss)

    next_here : next_in class c i ss < length ss → class (get_or ss (next_in class c i ss) []) ≡ c
    unfolding next_in
    next_here h =
        let f = found c i (drop i ss) in
        let z : i + (first_from class c i (drop i ss) - i) ≡ first_from class c i (drop i ss) = omega (arith, f.low) in
        rw (z) at (rw (get_or-drop) at (f.here (simp length-drop (omega (arith, f.low)))))

    -- The record at i, or the next after it.
    pub next_turn : i < length ss → next_in class c i ss ≡ if eqb (class (get_or ss i [])) c then i else next_in class c (i + 1) ss
    unfolding next_in first_from
    next_turn h = rw (add-one i, drop-cons ss i [] h)

    pub next_end : length ss ≤ i → next_in class c i ss ≡ i
    unfolding next_in first_from
    next_end h = rw (drop_all i ss h)

  -- What is next from the k-th on is next from all up to it.
  pub next_again : (c k : ℕ) (ss : List (List ℕ)) (d : ℕ) → k + d ≤ next_in class c k ss → next_in class c (k + d) ss ≡ next_in class c k ss
  next_again c k ss zero h = rw (add-zero k)
  next_again c k ss (suc d) h = go (ltb (k + d) (length ss)) refl (next_again c k ss d (omega arith))
    where
      passed : k + d < length ss → (t : Bool) → eqb (class (get_or ss (k + d) [])) c ≡ t → next_in class c (k + d) ss ≡ next_in class c k ss
          → next_in class c (k + d) ss ≡ next_in class c (k + d + 1) ss
      passed l true e ih = absurd (omega (arith, ih, rw e at (next_turn c (k + d) ss l)))
      passed l false e ih = rw e at (next_turn c (k + d) ss l)

      go : (t : Bool) → ltb (k + d) (length ss) ≡ t → next_in class c (k + d) ss ≡ next_in class c k ss → next_in class c (k + suc d) ss ≡ next_in class c k ss
      go true e ih =
          let z : k + suc d ≡ k + d + 1 = omega arith in
          rw z (sym (passed (ltb-true (k + d) (length ss) e) (eqb (class (get_or ss (k + d) [])) c) refl ih) ∙ ih)
      go false e ih = absurd (omega (arith, ih, next_end c (k + d) ss (ltb-false (k + d) (length ss) e)))

  -- What passes over the records of other classes may go on from the next record of the class.
  module _ {A : Type 0} (f : ℕ → List (List ℕ) → A) (c : ℕ)
      (over : (k : ℕ) (s : List ℕ) (ss : List (List ℕ)) → eqb (class s) c ≡ false → f k (s ∷ ss) ≡ f (suc k) ss) where
    skips : (from : ℕ) (ss : List (List ℕ)) → f from ss ≡ f (first_from class c from ss) (drop (first_from class c from ss - from) ss)
    unfolding first_from
    skips from [] = let d : from - from ≡ 0 = omega arith in rw d
    skips from (s ∷ ss) = go (eqb (class s) c) refl (skips (suc from) ss)
      where
        go : (t : Bool) → eqb (class s) c ≡ t →
            f (suc from) ss ≡ f (first_from class c (suc from) ss) (drop (first_from class c (suc from) ss - suc from) ss) →
            f from (s ∷ ss) ≡ f (if t then from else first_from class c (suc from) ss) (drop ((if t then from else first_from class c (suc from) ss) - from) (s ∷ ss))
        go true e h = let d : from - from ≡ 0 = omega arith in rw d
        go false e h =
            let d : first_from class c (suc from) ss - from ≡ suc (first_from class c (suc from) ss - suc from) = omega (arith, (found c (suc from) ss).low) in
            over from s ss e ∙ h ∙ rw d

    skip : (i : ℕ) (ss : List (List ℕ)) → f i (drop i ss) ≡ f (next_in class c i ss) (drop (next_in class c i ss) ss)
    unfolding next_in
    skip i ss =
        let z : i + (first_from class c i (drop i ss) - i) ≡ first_from class c i (drop i ss) = omega (arith, (found c i (drop i ss)).low) in
        rw z at (rw drop-drop at (skips i (drop i ss)))

-- A chain of a bucket, or what is left of it: its first record is of the bucket, and its tags are those from there on.
pub record Chain (b : ℕ) (ss : List (List ℕ)) (chain : ℕ) : Type 0 where
  pub here : record_of chain < length ss → bucket_of (get_or ss (record_of chain) []) ≡ b
  pub tagged : chain / chain_scale ≡ tags_of b (drop (record_of chain) ss)

-- The first record of a bucket's chain is the next of the bucket.
module _ {b m : ℕ} {ss : List (List ℕ)} {chain : ℕ} (x : ChainFrom b m ss chain) (l : m ≤ length ss) where
  pub chain_record : record_of chain ≡ next_in bucket_of b m ss
  chain_record = omega (arith, x.is, x.few, next_high bucket_of b m ss l)

  pub chain_at : Chain b ss chain
  unfolding tags_of
  chain_at =
      let t : chain / chain_scale ≡ tags_of b (drop m ss) = omega (arith, x.is, x.few, next_high bucket_of b m ss l) in
      record { here = rw chain_record (next_here bucket_of b m ss); tagged = t ∙ rw chain_record (skip bucket_of (λ j. tags_of b) b other m ss) }
    where
      other : (j : ℕ) (s : List ℕ) (ts : List (List ℕ)) → eqb (bucket_of s) b ≡ false → tags_of b (s ∷ ts) ≡ tags_of b ts
      other j s ts n = rw n

-- A walk over the records from the k-th on that has come to i: along the chain of a bucket, or, where that is left, over the records of a kind.
pub record Walk {A : Type 0} (f : ℕ → List (List ℕ) → A) (b k : ℕ) (w : A) (ss : List (List ℕ)) (along : Bool) (i : ℕ) : Type 0 where
  pub low : k ≤ i
  pub high : i ≤ length ss
  pub here : along ≡ true → i < length ss → bucket_of (get_or ss i []) ≡ b
  pub left : f i (drop i ss) ≡ w

-- What passes over each record that a test does not pass.
module _ {A : Type 0} (f : ℕ → List (List ℕ) → A) (q : List ℕ → Bool)
    (passes : (k : ℕ) (s : List ℕ) (ss : List (List ℕ)) → q s ≡ false → f k (s ∷ ss) ≡ f (suc k) ss) (ss : List (List ℕ)) where
  -- The record at i does not pass: what is left after it decides. This is a turn of a walk, one by one or along a chain.
  pub past : {w : A} (i : ℕ) → i < length ss → q (get_or ss i []) ≡ false → f i (drop i ss) ≡ w → f (i + 1) (drop (i + 1) ss) ≡ w
  past i h n l =
      let p : f i (drop i ss) ≡ f (i + 1) (drop (i + 1) ss) = rw (add-one i, drop-cons ss i [] h) (passes i (get_or ss i []) (drop (suc i) ss) n) in
      sym p ∙ l

  -- Only records of a class pass the test: from the m-th record on, the next of the class decides.
  pub onward : (class : List ℕ → ℕ) (c : ℕ) → ((s : List ℕ) → q s ≡ true → class s ≡ c) → {w : A} (m : ℕ) → f m (drop m ss) ≡ w
      → f (next_in class c m ss) (drop (next_in class c m ss) ss) ≡ w
  onward class c has m p = sym (skip class f c (λ k s ts h. passes k s ts (misses s h)) m ss) ∙ p
    where
      misses : (s : List ℕ) → eqb (class s) c ≡ false → q s ≡ false
      misses s e = go (q s) refl
        where
          go : (t : Bool) → q s ≡ t → t ≡ false
          go true p = absurd (eqb-false (class s) c e (has s p))
          go false p = refl

  -- Only records of a bucket pass the test.
  module _ (b : ℕ) (has : (s : List ℕ) → q s ≡ true → bucket_of s ≡ b) where
    -- From the m-th record on, the first of the bucket's chain decides.
    pub onward_chain : {w : A} {m chain : ℕ} → ChainFrom b m ss chain → m ≤ length ss → f m (drop m ss) ≡ w → f (record_of chain) (drop (record_of chain) ss) ≡ w
    onward_chain {m = m} x l p = rw (chain_record x l) (onward bucket_of b has m p)

    module _ (k : ℕ) (index : List ℕ) (x : IndexedFrom k ss index) where
      chained : {w : A} {m chain : ℕ} → (along : Bool) (j : ℕ) → ChainFrom b m ss chain → k ≤ m → m ≤ length ss → f m (drop m ss) ≡ w → j ≡ record_of chain
          → Walk f b k w ss along j
      chained {m = m} along j c l h p e =
          let n : k ≤ record_of _ = omega (arith, next_low bucket_of b m ss, chain_record c h) in
          let o : record_of _ ≤ length ss = omega (arith, next_high bucket_of b m ss h, chain_record c h) in
          rw e (record { low = n; high = o; here = λ t. (chain_at c h).here; left = onward_chain c h p })

      -- The first record of the bucket, with what decides from the k-th on.
      pub walk_from : (along : Bool) (i : ℕ) → b < buckets → i ≡ record_of (head b index) → Walk f b k (f k (drop k ss)) ss along i
      walk_from along i l e = chained along i (record { is = x.heads b l; few = x.few }) (omega arith) x.within refl e

      -- The record at i does not pass. A chain that was left is not taken up again.
      pub walk_past : {w : A} (kd : ℕ) → ((s : List ℕ) → q s ≡ true → kind s ≡ kd) → (along next : Bool) (i j : ℕ) → (next ≡ true → along ≡ true)
          → i < length ss → Walk f b k w ss along i → q (get_or ss i []) ≡ false → j ≡ after along kd i ss index → Walk f b k w ss next j
      walk_past kd kinds true next i j o h y n e =
          let c : ChainFrom b (i + 1) ss (link i index) = record { is = rw (y.here refl h) at (x.links i y.low h); few = x.few } in
          chained next j c (omega (arith, y.low)) (omega arith) (past i h n y.left) e
      walk_past kd kinds false next i j o h y n e =
          let l : k ≤ next_in kind kd (i + 1) ss = omega (arith, y.low, next_low kind kd (i + 1) ss) in
          let m : next_in kind kd (i + 1) ss ≤ length ss = next_high kind kd (i + 1) ss (omega arith) in
          rw e (record { low = l; high = m; here = λ t. absurd (false≢true (o t)); left = onward kind kd kinds (i + 1) (past i h n y.left) })

-- The next of a kind is the next from the next of its class on.
by_class : (kd i : ℕ) (ss : List (List ℕ)) → next_in kind kd i ss ≡ next_in kind kd (next_in kind_class (kd % kind_classes) i ss) ss
unfolding next_in first_from
by_class kd i ss = skip kind_class (first_from kind kd) (kd % kind_classes) other i ss
  where
    other : (j : ℕ) (s : List ℕ) (ts : List (List ℕ)) → eqb (kind_class s) (kd % kind_classes) ≡ false → first_from kind kd j (s ∷ ts) ≡ first_from kind kd (suc j) ts
    other j s ts e = rw (ne_eqb (kind s) kd (λ q. eqb-false (kind_class s) (kd % kind_classes) e (rw q refl)))

-- The next of a kind after the i-th is not before the first of its class.
kind_after : (kd k i : ℕ) (ss : List (List ℕ)) → k ≤ i → i < next_in kind_class (kd % kind_classes) k ss
    → next_in kind kd (i + 1) ss ≡ next_in kind kd (next_in kind_class (kd % kind_classes) k ss) ss
kind_after kd k i ss l h =
    let z : k + (i + 1 - k) ≡ i + 1 = omega arith in
    let a : next_in kind_class (kd % kind_classes) (i + 1) ss ≡ next_in kind_class (kd % kind_classes) k ss = rw z at (next_again kind_class (kd % kind_classes) k ss (i + 1 - k) (omega arith)) in
    rw a at (by_class kd (i + 1) ss)

pub kind_later : (kd k i first : ℕ) (ss : List (List ℕ)) → k ≤ i → first ≡ next_in kind_class (kd % kind_classes) k ss
    → next_in kind kd (max first (i + 1)) ss ≡ next_in kind kd (i + 1) ss
kind_later kd k i first ss l e = go (ltb first (i + 1)) refl
  where
    go : (t : Bool) → ltb first (i + 1) ≡ t → next_in kind kd (max first (i + 1)) ss ≡ next_in kind kd (i + 1) ss
    go true q = let z : max first (i + 1) ≡ i + 1 = omega (arith, ltb-true first (i + 1) q) in rw z
    go false q =
        let z : max first (i + 1) ≡ first = omega (arith, ltb-false first (i + 1) q) in
        rw (z, e) (sym (kind_after kd k i ss l (omega (arith, ltb-false first (i + 1) q))))

-- After the last of its class there is none of a kind, nor where the class is empty.
kind_end : (kd last i : ℕ) (ss : List (List ℕ)) → last ≤ i → i < length ss → next_in kind_class (kd % kind_classes) (last + 1) ss ≡ length ss
    → next_in kind kd (i + 1) ss ≡ length ss
kind_end kd last i ss l h e =
    let z : last + 1 + (i - last) ≡ i + 1 = omega arith in
    let a : next_in kind_class (kd % kind_classes) (i + 1) ss ≡ length ss = rw z at (next_again kind_class (kd % kind_classes) (last + 1) ss (i - last) (omega arith)) ∙ e in
    rw a at (by_class kd (i + 1) ss) ∙ next_end kind kd (length ss) ss (omega arith)

pub kind_past : (k : ℕ) (ss : List (List ℕ)) (index : List ℕ) → IndexedFrom k ss index → (kd i : ℕ) → k ≤ i → i < length ss → kind_last (kd % kind_classes) index ≤ i
    → next_in kind kd (i + 1) ss ≡ length ss
kind_past k ss index x kd i l h p = go (ltb (kind_head c index) (length ss)) refl
  where
    c : ℕ
    c = kd % kind_classes

    go : (t : Bool) → ltb (kind_head c index) (length ss) ≡ t → next_in kind kd (i + 1) ss ≡ length ss
    go true q = kind_end kd (kind_last c index) i ss p h (x.lasts c (omega arith) (ltb-true (kind_head c index) (length ss) q))
    go false q =
        let e : next_in kind_class c k ss ≡ length ss =
        omega (arith, ltb-false (kind_head c index) (length ss) q, x.kinds c (omega arith), next_high kind_class c k ss x.within) in
        kind_after kd k i ss l (omega arith) ∙ rw e (next_end kind kd (length ss) ss (omega arith))
