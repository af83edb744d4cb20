-- The kinds of records that an arm of a match names: an outcome that is the same for each of them is that for the kind that came to the arm.
use mathlib.Core.Path.{◌≡◌, sym, ◌∙◌, ap}
use mathlib.Core.List.{List, [], ◌∷◌}
use mathlib.Core.Logic.{◌⊎◌, inl, inr}
use Rattle.model.specs.declared.RecordKind.{RecordKind}

-- A kind is one of these.
abbrev pub Among : List RecordKind → RecordKind → Type 0
Among [] k = ⊥
Among (j ∷ []) k = k ≡ j
Among (j ∷ i ∷ js) k = (k ≡ j) ⊎ Among (i ∷ js) k

module _ {A : Type 0} (g : RecordKind → A) (r : A) where
  -- For each of these kinds the outcome is r.
  abbrev pub Each : List RecordKind → Type 0
  Each [] = Unit
  Each (j ∷ js) = (r ≡ g j) × Each js

  -- And so it is for one of them.
  pub kind_among : (js : List RecordKind) → Each js → (k : RecordKind) → Among js k → r ≡ g k
  kind_among [] es k h = absurd h
  kind_among (j ∷ []) es k h = es.0 ∙ ap g (sym h)
  kind_among (j ∷ i ∷ js) es k (inl e) = es.0 ∙ ap g (sym e)
  kind_among (j ∷ i ∷ js) es k (inr h) = kind_among (i ∷ js) es.1 k h
