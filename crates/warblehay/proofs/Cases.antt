-- What C gets of a reading, computed: the factor of 002's card; format and value as they were where nothing is made.
use mathlib.Core.Path.{◌≡◌, refl}
use mathlib.Core.List.{[], ◌∷◌}
use Rattle.wiegand.specs.Wiegand.{read_wiegand26}
use Rattle.wiegand.proofs.Cases.{readers}
use Rattle.warblehay.specs.Numbered.{numbered_reading}

pub record ReadingCases : Type 0 where
  made :
      numbered_reading (read_wiegand26 50725019 26) 165 (1 ∷ 2 ∷ 3 ∷ 4 ∷ 5 ∷ 6 ∷ 7 ∷ 8 ∷ [])
      ≡ (0, 8, 0 ∷ 0 ∷ 0 ∷ 0 ∷ 0 ∷ 131 ∷ 0 ∷ 77 ∷ [])
  turned_away :
      numbered_reading (read_wiegand26 50725019 27) 165 (1 ∷ 2 ∷ 3 ∷ 4 ∷ 5 ∷ 6 ∷ 7 ∷ 8 ∷ [])
      ≡ (17, 165, 1 ∷ 2 ∷ 3 ∷ 4 ∷ 5 ∷ 6 ∷ 7 ∷ 8 ∷ [])

pub reading_cases : ReadingCases
unfolding readers
reading_cases = record { made = refl; turned_away = refl }
