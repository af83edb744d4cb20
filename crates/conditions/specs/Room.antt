-- An event leaves room for one more in Zone_To's count, if it counts there.
use Rattle.std.specs.Prelude.{ℕ, ◌≡◌, true}
use Rattle.model.specs.Numbers as n
use Rattle.model.specs.Effects.{counts}
use Rattle.model.specs.declared.Situation.{Situation}

abbrev pub Room : Situation → ℕ → Type 0
Room v x = counts v x v.zone_to.counting ≡ true → v.count_to ≡ n.largest_count → ⊥
