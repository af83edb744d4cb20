-- What stands in a group of bytes stands in the whole list, at the group's place: one law for every size of groups, every group, offset and width.
use mathlib.Core.Path.{◌≡◌, ap, ◌∙◌}
use mathlib.Core.List.{List, []}
use Prim.Native.Nat.{ℕ, ◌+◌, ◌-◌, ◌*◌, ◌≤◌, ◌<◌}
use native.Mathlib.Nat.{mul_comm}
use native.Mathlib.Omega.{arith}
use lib.ListN.{take, drop, get_or}
use lib.Seq.{drop-drop, take-take}
use Rattle.std.proofs.lemmas.List.{drop-take}
use Rattle.octets.specs.Octets.{field, groups}
use Rattle.octets.proofs.Laws.{field_part}
use Rattle.octets.proofs.GroupLaws.{group_at}

-- The bytes of a part are those of the whole at its place there.
part_bytes : (at w from n : ℕ) (s : List ℕ) → at + w ≤ n → take w (drop at (take n (drop from s))) ≡ take w (drop (from + at) s)
part_bytes at w from n s h =
    let e : n ≡ at + (n - at) = omega arith in
    ap (λ (k : ℕ). take w (drop at (take k (drop from s)))) e
    ∙ rw (drop-take at (n - at) (drop from s), take-take w (n - at) (drop at (drop from s)) (omega arith), drop-drop at from s)

module _ (size n i at w : ℕ) (s : List ℕ) (h : i < n) (k : at + w ≤ size) where
  -- The bytes of the i-th group from an offset on are the list's own.
  pub bytes_in_place : take w (drop at (get_or (groups size n s) i [])) ≡ take w (drop (size * i + at) s)
  bytes_in_place = rw (group_at size n i s h, part_bytes at w (i * size) size s k, mul_comm i size)

  -- And so is the number in them.
  pub field_in_place : field at w (get_or (groups size n s) i []) ≡ field (size * i + at) w s
  field_in_place = rw (group_at size n i s h, field_part at w (i * size) size s k, mul_comm i size)
