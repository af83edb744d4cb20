-- The laws of verdicts: in any order and any number of times they find the same, and what a record finds all records find.
use Rattle.std.specs.Prelude.{if◌then◌else◌}
use Prim.Native.Nat.{ℕ, zero, suc, ◌<◌}
use mathlib.Core.Path.{◌≡◌, refl}
use mathlib.Core.List.{List, [], ◌∷◌}
use mathlib.Core.Bool.{Bool, true, false, ◌||◌, or_assoc, or_comm, or_self, or-false, or-true}
use native.Mathlib.Omega.{arith}
use lib.ListN.{length, get_or}
use Rattle.model.specs.Words.{keep, any}
use Rattle.model.specs.Checks.{verdict}
use Rattle.model.specs.declared.Verdict.{Verdict}
use Rattle.rules.specs.declared.Asked.{Asked}
use Rattle.rules.specs.Walk.{findings, both}

pub both_assoc : (u v w : Verdict) → both (both u v) w ≡ both u (both v w)
unfolding both
both_assoc u v w = simp or_assoc

pub both_comm : (v w : Verdict) → both v w ≡ both w v
unfolding both
both_comm v w =
    rw (
      or_comm v.negative_fits w.negative_fits,
      or_comm v.positive_fits w.positive_fits,
      or_comm v.positive_located w.positive_located,
    )

both_same : (v : Verdict) → both v v ≡ v
unfolding both
both_same v = simp or_self

-- Where nothing is found yet, nothing is added.
pub both_nothing : {v : Verdict} → (v.negative_fits ≡ false) × ((v.positive_fits ≡ false) × (v.positive_located ≡ false)) → (w : Verdict) → both v w ≡ w
unfolding both
both_nothing e w = rw (e.0, e.1.0, e.1.1)

-- What no record finds, what the first finds, and the others.
pub found_none : (a : Asked) (v : Verdict) → both v (findings a []) ≡ v
unfolding both verdict
found_none a v = simp or-false

pub found_first : (a : Asked) (s : List ℕ) (ss : List (List ℕ)) → findings a (s ∷ ss) ≡ both (findings a (s ∷ [])) (findings a ss)
unfolding both verdict
found_first a s ss = simp or-false

-- What the i-th record finds is among what all find.
pub found_at : (a : Asked) (ss : List (List ℕ)) (i : ℕ) → i < length ss → both (findings a (get_or ss i [] ∷ [])) (findings a ss) ≡ findings a ss
found_at a [] i h = absurd (omega arith)
found_at a (s ∷ ss) zero h = rw (found_first a s ss, ← both_assoc, both_same)
found_at a (s ∷ ss) (suc i) h =
    let r = get_or ss i [] in
    rw (found_first a s ss, ← both_assoc (findings a (r ∷ [])) (findings a (s ∷ [])) (findings a ss), both_comm (findings a (r ∷ [])) (findings a (s ∷ [])), both_assoc, found_at a ss i (omega arith))

-- What the records find that either of two tests keeps.
any_either : (t p q : List ℕ → Bool) (ss : List (List ℕ)) → any t (keep (λ s. p s || q s) ss) ≡ any t (keep p ss) || any t (keep q ss)
any_either t p q [] = refl
any_either t p q (s ∷ ss) = go (t s) refl (p s) (q s) (any_either t p q ss)
  where
    go : (x : Bool) → t s ≡ x → (c d : Bool) → any t (keep (λ s. p s || q s) ss) ≡ any t (keep p ss) || any t (keep q ss)
        → any t (if c || d then s ∷ keep (λ s. p s || q s) ss else keep (λ s. p s || q s) ss)
        ≡ any t (if c then s ∷ keep p ss else keep p ss) || any t (if d then s ∷ keep q ss else keep q ss)
    go x e false false ih = ih
    go true e true d ih = rw e
    go true e false true ih = rw e (simp or-true)
    go false e true true ih = rw e ih
    go false e true false ih = rw e ih
    go false e false true ih = rw e ih

pub found_either : (a : Asked) (p q : List ℕ → Bool) (ss : List (List ℕ))
    → findings a (keep (λ s. p s || q s) ss) ≡ both (findings a (keep p ss)) (findings a (keep q ss))
unfolding both verdict
found_either a p q ss = simp any_either
