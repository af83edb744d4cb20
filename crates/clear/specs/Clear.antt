-- Bytes with the first n of them made one byte; all of them, where there are fewer.
use Rattle.std.specs.Prelude.{ℕ, zero, suc, List, [], ◌∷◌}

unfoldable pub with_first : ℕ → ℕ → List ℕ → List ℕ
with_first zero byte bytes = bytes
with_first (suc n) byte [] = []
with_first (suc n) byte (b ∷ bytes) = byte ∷ with_first n byte bytes
