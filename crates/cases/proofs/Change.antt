-- A record, an entry or a state with some of its fields made other numbers.
use Prim.Native.Nat.{ℕ}
use mathlib.Core.Path.{◌≡◌, refl}
use mathlib.Core.List.{List, [], ◌∷◌}
use Rattle.octets.specs.Octets.{put}
use Rattle.model.proofs.Open.{definitions}
use Rattle.model.proofs.Build.{zone, examples}

-- An offset, a width and a number.
abbrev pub Field : Type 0
Field = ℕ × ℕ × ℕ

-- The bytes with each of the fields put, in turn.
unfoldable pub with_fields : List Field → List ℕ → List ℕ
with_fields [] bytes = bytes
with_fields ((at, width, value) ∷ fs) bytes = with_fields fs (put at width value bytes)

pub sampled : with_fields ((8, 4, 0x01020304) ∷ (2, 1, 2) ∷ []) (zone 7 0) ≡
    0x01 ∷ 0x01 ∷ 0x02 ∷ 0x00 ∷ 0x00 ∷ 0x00 ∷ 0x00 ∷ 0x07 ∷ 0x01 ∷ 0x02 ∷ 0x03 ∷ 0x04 ∷ 0x00 ∷ 0x00 ∷ 0x00 ∷ 0x00
    ∷ 0x00 ∷ 0x00 ∷ 0x00 ∷ 0x00 ∷ 0x00 ∷ 0x00 ∷ 0x00 ∷ 0x00 ∷ 0x00 ∷ 0x00 ∷ 0x00 ∷ 0x00 ∷ 0x00 ∷ 0x00 ∷ 0x00 ∷ 0x00 ∷ []
unfolding definitions examples with_fields put
sampled = refl
