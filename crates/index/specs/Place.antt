-- Where a record stands among the records of a site, and its state record among those of the state.
use Rattle.std.specs.Prelude.{ℕ, suc, List, [], ◌∷◌, Bool, if◌then◌else◌, Option, Some, None}
use Rattle.model.specs.State.{state_place}
use Rattle.index.specs.declared.Place.{Place}

-- Both, of the i-th record.
abbrev pub place_at : ℕ → List (List ℕ) → Place
place_at i ss = record { site = i; state = state_place i ss }

-- The place of the first record that passes a test, the first of the list counted as `from`. The library's `position_from` is the same
-- (`position_place`), but it counts on by `from + 1`, which does not compute to `suc from`: each step of a proof would be rewritten.
unfoldable pub place_from : (List ℕ → Bool) → ℕ → List (List ℕ) → Option ℕ
place_from q from [] = None
place_from q from (s ∷ ss) = if q s then Some from else place_from q (suc from) ss
