-- Worked cases, so that a wrong definition is refused at a fact: of two records that fit, the place is that of the first; where none fits, there is none.
use Rattle.std.specs.Prelude.{Some, None}
use mathlib.Core.Path.{◌≡◌, refl}
use mathlib.Core.Bool.{true, false}
use mathlib.Core.List.{[], ◌∷◌}
use Rattle.index.specs.Place.{place_from}

pub first_of_two_law : place_from (λ s. true) 0 ([] ∷ [] ∷ []) ≡ Some 0
unfolding place_from
first_of_two_law = refl

pub none_of_two : place_from (λ s. false) 0 ([] ∷ [] ∷ []) ≡ None
unfolding place_from
none_of_two = refl
