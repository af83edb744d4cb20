-- Laws of the panel: what a test keeps of it, what is found in it, what a write changes of it.
use Rattle.std.specs.Prelude.{if◌then◌else◌, Option, Some, None}
use Rattle.std.specs.Option.{IfSome}
use Rattle.std.proofs.lemmas.Bool.{and_parts, or_parts}
use Prim.Native.Nat.{ℕ, ◌≤◌}
use native.Mathlib.Omega.{arith}
use mathlib.Core.Path.{◌≡◌, refl, sym, ◌∙◌}
use mathlib.Core.List.{List, [], ◌∷◌, ◌++◌}
use mathlib.Core.Bool.{Bool, true, false, ◌&&◌, ◌||◌, and-false}
use lib.Dec.{eqb}
use lib.ListN.{length}
use borrow.Author.Tests.{eqb-true}
use Rattle.model.specs.Words.{keep, any, all, missing}
use Rattle.model.specs.Numbers.{NONE}
use Rattle.model.specs.Site.{kind, instance, is_at, find_in}
use Rattle.model.specs.State.{Pair, Panel, find_by, find, store, write, sites}
use Rattle.model.specs.Step.{write_of, apply}
use Rattle.model.specs.declared.Write.{Write}
use Rattle.model.specs.declared.Outcome.{Outcome}

-- ── tests

-- What holds of two holds of the one that is taken.
pub if_holds : {A : Type 0} (Q : A → Type 0) (c : Bool) (a b : A) → Q a → Q b → Q (if c then a else b)
if_holds Q true a b p q = p
if_holds Q false a b p q = q

pub and_left : (a b : Bool) → a && b ≡ true → a ≡ true
and_left a b e = (and_parts a b e).0

pub and_right : (a b : Bool) → a && b ≡ true → b ≡ true
and_right a b e = (and_parts a b e).1

pub or_left : (a b : Bool) → a || b ≡ false → a ≡ false
or_left a b e = (or_parts a b e).0

pub or_right : (a b : Bool) → a || b ≡ false → b ≡ false
or_right a b e = (or_parts a b e).1

-- A record of a kind and instance has that kind, and that instance.
pub kind_at : (k i : ℕ) (s : List ℕ) → is_at k i s ≡ true → kind s ≡ k
kind_at k i s h = eqb-true (kind s) k (and_left _ (eqb (instance s) i) h)

pub instance_at : (k i : ℕ) (s : List ℕ) → is_at k i s ≡ true → instance s ≡ i
instance_at k i s h = eqb-true (instance s) i (and_right (eqb (kind s) k) _ h)

-- ── what a test keeps of a list

module _ {A : Type 0} (q : A → Bool) where
  -- Of two lists, one after the other.
  pub keep_append : (xs ys : List A) → keep q (xs ++ ys) ≡ keep q xs ++ keep q ys
  keep_append [] ys = refl
  keep_append (x ∷ xs) ys = rw (keep_append xs ys) (go (q x))
    where
      go : (c : Bool) → (if c then x ∷ keep q xs ++ keep q ys else keep q xs ++ keep q ys) ≡ (if c then x ∷ keep q xs else keep q xs) ++ keep q ys
      go true = refl
      go false = refl

  -- No more than there are.
  pub length_keep : (xs : List A) → length (keep q xs) ≤ length xs
  length_keep [] = omega arith
  length_keep (x ∷ xs) = go (q x) (length_keep xs)
    where
      go : (c : Bool) → length (keep q xs) ≤ length xs → length (if c then x ∷ keep q xs else keep q xs) ≤ length (x ∷ xs)
      go true ih = omega arith
      go false ih = omega arith

-- ── what a test on site records keeps of the panel

abbrev pub only : (List ℕ → Bool) → Panel → Panel
only w ps = keep (λ (x : Pair). w x.0) ps

module _ (w : List ℕ → Bool) (k i : ℕ) (b : List ℕ) where
  -- the records of that kind and instance do not pass: writing one changes nothing that is kept
  pub only_store_out : (out : (s : List ℕ) → is_at k i s ≡ true → w s ≡ false) (ps : Panel) → only w (store k i b ps) ≡ only w ps
  unfolding store
  only_store_out out [] = refl
  only_store_out out (x ∷ xs) = go (is_at k i x.0) refl (only_store_out out xs)
    where
      go : (c : Bool) → is_at k i x.0 ≡ c → only w (store k i b xs) ≡ only w xs →
          only w (if c then (x.0, b) ∷ xs else x ∷ store k i b xs) ≡ only w (x ∷ xs)
      go true e ih = rw (out x.0 e)
      go false e ih = rw ih

  -- and nothing that is kept is written
  pub store_only_out : (out : (s : List ℕ) → is_at k i s ≡ true → w s ≡ false) (ps : Panel) → store k i b (only w ps) ≡ only w ps
  unfolding store
  store_only_out out [] = refl
  store_only_out out (x ∷ xs) = go (w x.0) refl (store_only_out out xs)
    where
      miss : (c : Bool) → is_at k i x.0 ≡ c → w x.0 ≡ true → is_at k i x.0 ≡ false
      miss true e f = cc (out x.0 e)
      miss false e f = e

      go : (c : Bool) → w x.0 ≡ c → store k i b (only w xs) ≡ only w xs →
          store k i b (if c then x ∷ only w xs else only w xs) ≡ (if c then x ∷ only w xs else only w xs)
      go true e ih = rw (miss (is_at k i x.0) refl e, ih)
      go false e ih = ih

  -- they pass: the write stays in what is kept
  pub only_store_in : (inn : (s : List ℕ) → is_at k i s ≡ true → w s ≡ true) (ps : Panel) → only w (store k i b ps) ≡ store k i b (only w ps)
  unfolding store
  only_store_in inn [] = refl
  only_store_in inn (x ∷ xs) = go (is_at k i x.0) (w x.0) refl refl (only_store_in inn xs)
    where
      go : (c d : Bool) → is_at k i x.0 ≡ c → w x.0 ≡ d → only w (store k i b xs) ≡ store k i b (only w xs) →
          only w (if c then (x.0, b) ∷ xs else x ∷ store k i b xs) ≡ store k i b (if d then x ∷ only w xs else only w xs)
      go true true e f ih = rw (f, e)
      go true false e f ih = cc (inn x.0 e)
      go false true e f ih = rw (ih, f, e)
      go false false e f ih = rw (ih, f)

  -- writing and keeping commute, where the records of that kind and instance are all kept or all not
  pub only_store : (c : Bool) (agree : (s : List ℕ) → is_at k i s ≡ true → w s ≡ c) (ps : Panel) → only w (store k i b ps) ≡ store k i b (only w ps)
  only_store true agree ps = only_store_in agree ps
  only_store false agree ps = only_store_out agree ps ∙ sym (store_only_out agree ps)

-- a test that the kind and the instance of a record decide: after an outcome, what is kept is what was kept with the same outcome
module _ (w : List ℕ → Bool) (v : ℕ → ℕ → Bool) (agree : (k i : ℕ) (s : List ℕ) → is_at k i s ≡ true → w s ≡ v k i) where
  only_write : (k i : ℕ) (b : List ℕ) (ps : Panel) → only w (write k i b ps) ≡ write k i b (only w ps)
  unfolding write
  only_write k i b ps = go (eqb i NONE)
    where
      go : (c : Bool) → only w (if c then ps else store k i b ps) ≡ (if c then only w ps else store k i b (only w ps))
      go true = refl
      go false = only_store w k i b (v k i) (agree k i) ps

  only_write_of : {I S : Type 0} (k : ℕ) (i : I → ℕ) (b : S → List ℕ) (o : Option (Write I S)) (ps : Panel) →
      only w (write_of k i b o ps) ≡ write_of k i b o (only w ps)
  only_write_of k i b None ps = refl
  only_write_of k i b (Some u) ps = only_write k (i u.instance) (b u.state) ps

  pub only_apply : (o : Outcome) (ps : Panel) → only w (apply o ps) ≡ apply o (only w ps)
  unfolding apply
  only_apply o ps = simp only_write_of

-- what is found is found among what is kept, if it is kept
pub find_only : (w q : List ℕ → Bool) (ps : Panel) → (q (find_by q ps).0 ≡ true → w (find_by q ps).0 ≡ true) →
    find_by q (only w ps) ≡ find_by q ps
find_only w q [] h = refl
find_only w q (x ∷ xs) h = go (q x.0) (w x.0) refl refl h (find_only w q xs)
  where
    go : (c d : Bool) → q x.0 ≡ c → w x.0 ≡ d →
        (q (if c then x else find_by q xs).0 ≡ true → w (if c then x else find_by q xs).0 ≡ true) →
        ((q (find_by q xs).0 ≡ true → w (find_by q xs).0 ≡ true) → find_by q (only w xs) ≡ find_by q xs) →
        find_by q (if d then x ∷ only w xs else only w xs) ≡ (if c then x else find_by q xs)
    go true true e f h ih = rw e
    go true false e f h ih = cc (h e)
    go false true e f h ih = rw (e, ih h)
    go false false e f h ih = ih h

-- the same among site records: what is kept of them, what is found, which tests are passed
pub sites_only : (w : List ℕ → Bool) (ps : Panel) → sites (only w ps) ≡ keep w (sites ps)
sites_only w [] = refl
sites_only w (x ∷ xs) = go (w x.0) (sites_only w xs)
  where
    go : (c : Bool) → sites (only w xs) ≡ keep w (sites xs) →
        sites (if c then x ∷ only w xs else only w xs) ≡ (if c then x.0 ∷ keep w (sites xs) else keep w (sites xs))
    go true ih = rw ih
    go false ih = ih

pub find_keep : (w q : List ℕ → Bool) (ss : List (List ℕ)) → (q (find_in q ss) ≡ true → w (find_in q ss) ≡ true) →
    find_in q (keep w ss) ≡ find_in q ss
find_keep w q [] h = refl
find_keep w q (s ∷ ss) h = go (q s) (w s) refl refl h (find_keep w q ss)
  where
    go : (c d : Bool) → q s ≡ c → w s ≡ d →
        (q (if c then s else find_in q ss) ≡ true → w (if c then s else find_in q ss) ≡ true) →
        ((q (find_in q ss) ≡ true → w (find_in q ss) ≡ true) → find_in q (keep w ss) ≡ find_in q ss) →
        find_in q (if d then s ∷ keep w ss else keep w ss) ≡ (if c then s else find_in q ss)
    go true true e f h ih = rw e
    go true false e f h ih = cc (h e)
    go false true e f h ih = rw (e, ih h)
    go false false e f h ih = ih h

pub any_keep : (w q : List ℕ → Bool) → ((s : List ℕ) → q s ≡ true → w s ≡ true) → (ss : List (List ℕ)) →
    any q (keep w ss) ≡ any q ss
any_keep w q h [] = refl
any_keep w q h (s ∷ ss) = go (q s) (w s) refl refl (any_keep w q h ss)
  where
    go : (c d : Bool) → q s ≡ c → w s ≡ d → any q (keep w ss) ≡ any q ss →
        any q (if d then s ∷ keep w ss else keep w ss) ≡ c || any q ss
    go true true e f ih = rw e
    go true false e f ih = cc (h s e)
    go false true e f ih = rw (e, ih)
    go false false e f ih = ih

-- what all records pass, the found one passes
pub all_found : (t : Pair → Bool) (q : List ℕ → Bool) (ps : Panel) → all t ps ≡ true → missing (find_by q ps).0 ≡ false →
    t (find_by q ps) ≡ true
all_found t q [] a g = cc
all_found t q (x ∷ xs) a g = go (q x.0) g (all_found t q xs (and_right (t x) (all t xs) a))
  where
    go : (c : Bool) → missing (if c then x else find_by q xs).0 ≡ false →
        (missing (find_by q xs).0 ≡ false → t (find_by q xs) ≡ true) → t (if c then x else find_by q xs) ≡ true
    go true g ih = and_left (t x) (all t xs) a
    go false g ih = ih g

-- a write keeps what all records pass, if the written record passes
pub all_store : (t : Pair → Bool) (k i : ℕ) (b : List ℕ) → ((x : Pair) → is_at k i x.0 ≡ true → t x ≡ true → t (x.0, b) ≡ true) →
    (ps : Panel) → all t ps ≡ true → all t (store k i b ps) ≡ true
unfolding store
all_store t k i b h [] a = refl
all_store t k i b h (x ∷ xs) a = go (is_at k i x.0) refl (all_store t k i b h xs (and_right (t x) (all t xs) a))
  where
    go : (c : Bool) → is_at k i x.0 ≡ c → all t (store k i b xs) ≡ true →
        all t (if c then (x.0, b) ∷ xs else x ∷ store k i b xs) ≡ true
    go true e ih = rw (h x e (and_left (t x) (all t xs) a), and_right (t x) (all t xs) a)
    go false e ih = rw (and_left (t x) (all t xs) a, ih)

-- a write leaves the site as it is
pub sites_store : (k i : ℕ) (b : List ℕ) (ps : Panel) → sites (store k i b ps) ≡ sites ps
unfolding store
sites_store k i b [] = refl
sites_store k i b (x ∷ xs) = go (is_at k i x.0) (sites_store k i b xs)
  where
    go : (c : Bool) → sites (store k i b xs) ≡ sites xs → sites (if c then (x.0, b) ∷ xs else x ∷ store k i b xs) ≡ x.0 ∷ sites xs
    go true ih = refl
    go false ih = rw ih

-- what is found is found in the site
pub find_in_sites : (q : List ℕ → Bool) (ps : Panel) → (find_by q ps).0 ≡ find_in q (sites ps)
find_in_sites q [] = refl
find_in_sites q (x ∷ xs) = go (q x.0) (find_in_sites q xs)
  where
    go : (c : Bool) → (find_by q xs).0 ≡ find_in q (sites xs) → (if c then x else find_by q xs).0 ≡ (if c then x.0 else find_in q (sites xs))
    go true ih = refl
    go false ih = ih

-- what is found passes the test, or is empty
pub found : (q : List ℕ → Bool) (ps : Panel) → missing (find_by q ps).0 ≡ false → q (find_by q ps).0 ≡ true
found q [] g = cc
found q (x ∷ xs) g = go (q x.0) refl g (found q xs)
  where
    go : (c : Bool) → q x.0 ≡ c → missing (if c then x else find_by q xs).0 ≡ false →
        (missing (find_by q xs).0 ≡ false → q (find_by q xs).0 ≡ true) → q (if c then x else find_by q xs).0 ≡ true
    go true e g ih = e
    go false e g ih = ih g

sites_write : (k i : ℕ) (b : List ℕ) (ps : Panel) → sites (write k i b ps) ≡ sites ps
unfolding write
sites_write k i b ps = if_holds (λ qs. sites qs ≡ sites ps) (eqb i NONE) ps (store k i b ps) refl (sites_store k i b ps)

pub sites_write_of : {I S : Type 0} (k : ℕ) (i : I → ℕ) (b : S → List ℕ) (o : Option (Write I S)) (ps : Panel) →
    sites (write_of k i b o ps) ≡ sites ps
sites_write_of k i b None ps = refl
sites_write_of k i b (Some w) ps = sites_write k (i w.instance) (b w.state) ps

pub sites_apply : (o : Outcome) (ps : Panel) → sites (apply o ps) ≡ sites ps
unfolding apply
sites_apply o ps = simp sites_write_of

-- an object of kind k and number i has a record
abbrev pub There : ℕ → ℕ → Panel → Type 0
There k i ps = missing (find_in (is_at k i) (sites ps)) ≡ false

-- what is found after a write: what was found, if the test passes no record that is written
find_store_other : (q : List ℕ → Bool) (k i : ℕ) (b : List ℕ) → ((s : List ℕ) → is_at k i s ≡ true → q s ≡ false) → (ps : Panel) →
    find_by q (store k i b ps) ≡ find_by q ps
unfolding store
find_store_other q k i b h [] = refl
find_store_other q k i b h (x ∷ xs) = go (is_at k i x.0) refl (find_store_other q k i b h xs)
  where
    go : (c : Bool) → is_at k i x.0 ≡ c → find_by q (store k i b xs) ≡ find_by q xs →
        find_by q (if c then (x.0, b) ∷ xs else x ∷ store k i b xs) ≡ find_by q (x ∷ xs)
    go true e ih = rw (h x.0 e)
    go false e ih = rw ih

-- and what is written to a record that is there
find_store_same : (k i : ℕ) (b : List ℕ) (ps : Panel) → missing (find_by (is_at k i) ps).0 ≡ false → (find_by (is_at k i) (store k i b ps)).1 ≡ b
unfolding store
find_store_same k i b [] g = cc
find_store_same k i b (x ∷ xs) g = go (is_at k i x.0) refl g (find_store_same k i b xs)
  where
    go : (c : Bool) → is_at k i x.0 ≡ c → missing (if c then x else find_by (is_at k i) xs).0 ≡ false →
        (missing (find_by (is_at k i) xs).0 ≡ false → (find_by (is_at k i) (store k i b xs)).1 ≡ b) →
        (find_by (is_at k i) (if c then (x.0, b) ∷ xs else x ∷ store k i b xs)).1 ≡ b
    go true e g ih = rw e
    go false e g ih = rw e (ih g)

-- the record of kind m and number j, after a write to a record of another kind
find_write_other : (m j k i : ℕ) (b : List ℕ) (ps : Panel) → eqb k m ≡ false → find m j (write k i b ps) ≡ find m j ps
unfolding write find
find_write_other m j k i b ps d =
    if_holds (λ qs. find_by (is_at m j) qs ≡ find_by (is_at m j) ps) (eqb i NONE) ps (store k i b ps) refl
    (find_store_other (is_at m j) k i b (λ s a. rw (kind_at k i s a, d)) ps)

pub find_write_of_other : {I S : Type 0} (m j k : ℕ) (i : I → ℕ) (b : S → List ℕ) (o : Option (Write I S)) (ps : Panel) → eqb k m ≡ false →
    find m j (write_of k i b o ps) ≡ find m j ps
find_write_of_other m j k i b None ps d = refl
find_write_of_other m j k i b (Some w) ps d = find_write_other m j k (i w.instance) (b w.state) ps d

-- and to one of its kind
find_write_same : (m j : ℕ) → eqb j NONE ≡ false → (i : ℕ) (b : List ℕ) (ps : Panel) → There m j ps →
    (find m j (write m i b ps)).1 ≡ (if eqb i j then b else (find m j ps).1)
unfolding write find
find_write_same m j not_none i b ps g = go (eqb i j) refl
  where
    go : (d : Bool) → eqb i j ≡ d →
        (find_by (is_at m j) (if eqb i NONE then ps else store m i b ps)).1 ≡ (if d then b else (find_by (is_at m j) ps).1)
    go true e = rw (eqb-true i j e, not_none) (find_store_same m j b ps (rw (find_in_sites (is_at m j) ps) g))
    go false e =
        if_holds (λ qs. (find_by (is_at m j) qs).1 ≡ (find_by (is_at m j) ps).1) (eqb i NONE) ps (store m i b ps) refl
        (rw (find_store_other (is_at m j) m i b (λ s a. rw (instance_at m i s a, e, and-false)) ps))

-- the state that a write leaves an object of number j and state s; i is the number of an instance
abbrev pub left_by : {I S : Type 0} → (I → ℕ) → ℕ → Option (Write I S) → S → S
left_by i j None s = s
left_by i j (Some w) s = if eqb (i w.instance) j then w.state else s

-- that of a write that is made or not
pub left_if : {I S : Type 0} (i : I → ℕ) (j : ℕ) (c : Bool) (w : Write I S) (s : S) →
    left_by i j (if c then Some w else None) s ≡ (if c && eqb (i w.instance) j then w.state else s)
left_if i j true w s = refl
left_if i j false w s = refl

-- it is what is read of the object's record afterwards, where r reads what b writes
pub read_write_of : {I S : Type 0} (m : ℕ) (i : I → ℕ) (b : S → List ℕ) (r : List ℕ → S) → ((s : S) → r (b s) ≡ s) → (j : ℕ) →
    eqb j NONE ≡ false → (o : Option (Write I S)) (ps : Panel) → There m j ps →
    r (find m j (write_of m i b o ps)).1 ≡ left_by i j o (r (find m j ps).1)
read_write_of m i b r back j not_none None ps g = refl
read_write_of m i b r back j not_none (Some w) ps g =
    rw (find_write_same m j not_none (i w.instance) (b w.state) ps g) (go (eqb (i w.instance) j))
  where
    go : (c : Bool) → r (if c then b w.state else (find m j ps).1) ≡ (if c then w.state else r (find m j ps).1)
    go true = back w.state
    go false = refl

-- what all site records pass, the found one passes
pub all_found_in : (t q : List ℕ → Bool) (ss : List (List ℕ)) → all t ss ≡ true → missing (find_in q ss) ≡ false → t (find_in q ss) ≡ true
all_found_in t q [] a g = cc
all_found_in t q (s ∷ ss) a g = go (q s) g (all_found_in t q ss (and_right (t s) (all t ss) a))
  where
    go : (c : Bool) → missing (if c then s else find_in q ss) ≡ false →
        (missing (find_in q ss) ≡ false → t (find_in q ss) ≡ true) → t (if c then s else find_in q ss) ≡ true
    go true g ih = and_left (t s) (all t ss) a
    go false g ih = ih g

all_write : (t : Pair → Bool) (k i : ℕ) (b : List ℕ) (ps : Panel) →
    ((x : Pair) → is_at k i x.0 ≡ true → t x ≡ true → t (x.0, b) ≡ true) → all t ps ≡ true → all t (write k i b ps) ≡ true
unfolding write
all_write t k i b ps h a = if_holds (λ qs. all t qs ≡ true) (eqb i NONE) ps (store k i b ps) a (all_store t k i b h ps a)

-- what holds of all holds of the one that is there
pub if_any : {A : Type 0} (Q : A → Type 0) (o : Option A) → ((a : A) → Q a) → IfSome o Q
if_any Q None h = tt
if_any Q (Some a) h = h a

pub all_write_of : {I S : Type 0} (t : Pair → Bool) (k : ℕ) (i : I → ℕ) (b : S → List ℕ) (o : Option (Write I S)) (ps : Panel) →
    IfSome o (λ w. (x : Pair) → is_at k (i w.instance) x.0 ≡ true → t x ≡ true → t (x.0, b w.state) ≡ true) → all t ps ≡ true →
    all t (write_of k i b o ps) ≡ true
all_write_of t k i b None ps h a = a
all_write_of t k i b (Some w) ps h a = all_write t k (i w.instance) (b w.state) ps h a

-- what is found among site records passes the test
pub found_in : (q : List ℕ → Bool) (ss : List (List ℕ)) → missing (find_in q ss) ≡ false → q (find_in q ss) ≡ true
found_in q [] g = cc
found_in q (s ∷ ss) g = go (q s) refl g (found_in q ss)
  where
    go : (c : Bool) → q s ≡ c → missing (if c then s else find_in q ss) ≡ false →
        (missing (find_in q ss) ≡ false → q (find_in q ss) ≡ true) → q (if c then s else find_in q ss) ≡ true
    go true e g ih = e
    go false e g ih = ih g
