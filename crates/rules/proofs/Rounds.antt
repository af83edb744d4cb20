-- The round of the classes of what is asked: its start, a turn of it, its end.
use Prim.Native.Nat.{ℕ, suc, ◌+◌, ◌≤◌, ◌<◌}
use mathlib.Core.Path.{◌≡◌, refl, ◌∙◌}
use mathlib.Core.List.{List, [], ◌∷◌}
use mathlib.Core.Bool.{false}
use native.Mathlib.Numerals.{add-one}
use lib.ListN.{length, take, drop, get_or, drop_of_length-le}
use lib.Seq.{drop-cons}
use Rattle.model.specs.Words.{keep}
use Rattle.model.specs.declared.Verdict.{Verdict}
use Rattle.index.specs.Index.{in_class}
use Rattle.rules.specs.declared.Asked.{Asked}
use Rattle.rules.specs.Walk.{findings, both, Gains, in_some, rule_classes, class_count}
use Rattle.rules.proofs.Verdicts.{both_nothing, found_none, found_either}
use Rattle.rules.proofs.Places.{found_all}

-- At the k-th class: what is found so far, with what the rules of the classes left find, is what all records find.
pub record Round (a : Asked) (ss : List (List ℕ)) (cs : List ℕ) (v : Verdict) (k : ℕ) : Type 0 where
  pub left : both v (findings a (keep (in_some (drop k cs)) ss)) ≡ findings a ss

pub round_start : {a : Asked} {ss : List (List ℕ)} {v : Verdict} → (v.negative_fits ≡ false) × ((v.positive_fits ≡ false) × (v.positive_located ≡ false))
    → Round a ss (take (class_count a) (rule_classes a)) v 0
round_start {a} {ss} e = record { left = both_nothing e _ ∙ found_all a ss }

none_kept : (ss : List (List ℕ)) → keep (in_some []) ss ≡ []
none_kept [] = refl
none_kept (s ∷ ss) = none_kept ss

module _ {a : Asked} {ss : List (List ℕ)} {cs : List ℕ} {v : Verdict} {k : ℕ} (y : Round a ss cs v k) where
  pub round_turn : {u : Verdict} → k < length cs → Gains a (in_class (get_or cs k 0)) ss v u → Round a ss cs u (k + 1)
  round_turn h g =
      let later = in_some (drop (suc k) cs) in
      record { left = rw (add-one k) (g (findings a (keep later ss)) (rw (← found_either a (in_class (get_or cs k 0)) later ss) (rw (drop-cons cs k 0 h) at y.left))) }

  pub round_end : length cs ≤ k → v ≡ findings a ss
  round_end h = rw found_none at (rw (drop_of_length-le cs h, none_kept ss) at y.left)
