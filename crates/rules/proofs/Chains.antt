-- The walk along a chain for the rules of a class: its start, a turn of it, its end; and the scan of all records.
use Rattle.std.specs.Prelude.{if◌then◌else◌}
use Rattle.std.specs.List.{fold}
use Prim.Native.Nat.{ℕ, suc, ◌+◌, ◌/◌, ◌%◌, ◌≤◌, ◌<◌}
use mathlib.Core.Path.{◌≡◌, sym, ◌∙◌}
use mathlib.Core.List.{List, [], ◌∷◌}
use mathlib.Core.Bool.{Bool, true, false}
use native.Mathlib.Omega.{arith}
use lib.Dec.{eqb}
use lib.ListN.{length, drop, get_or, length-drop}
use Rattle.std.proofs.lemmas.List.{drop_more}
use borrow.Author.Tests.{eqb-true}
use Rattle.model.specs.Words.{keep, bit}
use Rattle.model.specs.Numbers.{access_rule}
use Rattle.model.specs.Site.{kind}
use Rattle.model.specs.Checks.{verdict}
use Rattle.model.specs.declared.Verdict.{Verdict}
use Rattle.model.proofs.Laws.{and_left, and_right}
use Rattle.index.specs.Index.{chain_scale, tags, class_of_rule, bucket_of, in_class, record_of, ChainFrom}
use Rattle.index.proofs.Tags.{some_left, none_left}
use Rattle.index.proofs.Walks.{Chain, onward_chain, chain_at}
use Rattle.rules.specs.declared.Asked.{Asked}
use Rattle.rules.specs.Walk.{findings, both, Gains}
use Rattle.rules.proofs.Verdicts.{both_nothing, both_assoc, both_comm, found_none, found_first, found_at}

-- What is found so far, with what the rules of the class find that are left, and the rest.
abbrev carried : Asked → ℕ → Verdict → Verdict → ℕ → List (List ℕ) → Verdict
carried a c v rest k ss = both v (both (findings a (keep (in_class c) ss)) rest)

-- A walk for the rules of a class from one verdict on: what it found, and the chain that is left.
pub record ClassWalk (a : Asked) (c : ℕ) (ss : List (List ℕ)) (from v : Verdict) (chain : ℕ) : Type 0 where
  pub at : Chain (c / tags) ss chain
  pub left : (rest : Verdict) → carried a c from rest 0 ss ≡ findings a ss → carried a c v rest (record_of chain) (drop (record_of chain) ss) ≡ findings a ss

module _ (a : Asked) (c : ℕ) (ss : List (List ℕ)) where
  passes : (v rest : Verdict) (k : ℕ) (s : List ℕ) (ts : List (List ℕ)) → in_class c s ≡ false → carried a c v rest k (s ∷ ts) ≡ carried a c v rest (suc k) ts
  passes v rest k s ts h = rw h

  -- A rule of the class is in its bucket.
  has : (s : List ℕ) → in_class c s ≡ true → bucket_of s ≡ c / tags
  unfolding bucket_of
  has s h =
      let k = and_left (eqb (kind s) access_rule) (eqb (class_of_rule s) c) h in
      rw (eqb-true (kind s) access_rule k, eqb-true (class_of_rule s) c (and_right (eqb (kind s) access_rule) (eqb (class_of_rule s) c) h))

  -- The record at i adds what it finds alone, whether it is of the class or not.
  adds : (v rest : Verdict) (i : ℕ) {u : Verdict} → i < length ss → u ≡ both v (findings a (get_or ss i [] ∷ [])) → carried a c v rest i (drop i ss) ≡ findings a ss
      → carried a c u rest (i + 1) (drop (i + 1) ss) ≡ findings a ss
  adds v rest i h t e = rw t (go (in_class c s) (rw (drop_more ss i [] h) at e))
    where
      s : List ℕ
      s = get_or ss i []

      later : List (List ℕ)
      later = keep (in_class c) (drop (i + 1) ss)

      one : Verdict
      one = findings a (s ∷ [])

      go : (x : Bool) → both v (both (findings a (if x then s ∷ later else later)) rest) ≡ findings a ss → both (both v one) (both (findings a later) rest) ≡ findings a ss
      go true p = rw (both_assoc v one, ← both_assoc one) (rw (found_first a s later) at p)
      go false p = rw (both_comm v one, both_assoc one, p) (found_at a ss i h)

  -- From the m-th record on the chain of the bucket decides.
  walk_on : (from v : Verdict) {m chain : ℕ} → m ≤ length ss → ChainFrom (c / tags) m ss chain
      → ((rest : Verdict) → carried a c from rest 0 ss ≡ findings a ss → carried a c v rest m (drop m ss) ≡ findings a ss) → ClassWalk a c ss from v chain
  walk_on from v l x e =
      record { at = chain_at x l; left = λ rest p. onward_chain (carried a c v rest) (in_class c) (passes v rest) ss (c / tags) has x l (e rest p) }

module _ {a : Asked} {c : ℕ} {ss : List (List ℕ)} where
  pub walk_start : {v : Verdict} {chain : ℕ} → ChainFrom (c / tags) 0 ss chain → ClassWalk a c ss v v chain
  walk_start {v} x = walk_on a c ss v v (omega arith) x (λ rest p. p)

  module _ {from v : Verdict} {chain : ℕ} (y : ClassWalk a c ss from v chain) {held : Bool} (t : held ≡ bit (chain / chain_scale) (c % tags)) where
    -- As long as the chain may hold a rule of the class, a record is left; then none of the class is.
    pub walk_goes_on : {i : ℕ} → held ≡ true → i ≡ record_of chain → i < length ss
    walk_goes_on h e =
        omega (arith, length-drop (record_of chain) ss, some_left (c / tags) (c % tags) (drop (record_of chain) ss) (rw (← y.at.tagged) (sym t ∙ h)))

    pub walk_turn : {i next : ℕ} {u : Verdict} → held ≡ true → i ≡ record_of chain → u ≡ both v (findings a (get_or ss i [] ∷ []))
        → ChainFrom (bucket_of (get_or ss i [])) (i + 1) ss next → ClassWalk a c ss from u next
    walk_turn {i} {u = u} h e f x =
        let l : i < length ss = walk_goes_on h e in
        walk_on a c ss from u (omega arith) (rw (y.at.here (rw e at l)) at (rw e at x)) (λ rest p. adds a c ss v rest (record_of chain) (rw e at l) (rw e at f) (y.left rest p))

    pub walk_end : held ≡ false → Gains a (in_class c) ss from v
    unfolding both verdict
    walk_end h rest p = rw (none_left c (drop (record_of chain) ss) (rw (← y.at.tagged) (sym t ∙ h))) at (y.left rest p)

-- The same of all records, one by one.
scan_on : (a : Asked) (v : Verdict) (ss : List (List ℕ)) → fold (λ w s. both w (findings a (s ∷ []))) v ss ≡ both v (findings a ss)
scan_on a v [] = sym (found_none a v)
scan_on a v (s ∷ ss) =
    rw (found_first a s ss, ← both_assoc v (findings a (s ∷ [])) (findings a ss)) (scan_on a (both v (findings a (s ∷ []))) ss)

pub scan_finds : (a : Asked) (ss : List (List ℕ)) {v r : Verdict} → (v.negative_fits ≡ false) × ((v.positive_fits ≡ false) × (v.positive_located ≡ false))
    → r ≡ fold (λ w s. both w (findings a (s ∷ []))) v ss → r ≡ findings a ss
scan_finds a ss {v} e f = f ∙ scan_on a v ss ∙ both_nothing e (findings a ss)
