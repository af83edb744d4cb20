-- The laws of groups of bytes, each for every size.
use mathlib.Core.Path.{◌≡◌, refl, ap, ◌∙◌}
use mathlib.Core.List.{List, [], ◌∷◌, flatten}
use Prim.Native.Nat.{ℕ, zero, suc, ◌*◌, ◌≤◌, ◌<◌}
use native.Mathlib.Nat.{zero-mul, suc-mul, add_comm, mul-le-mul_right, not-suc-le-zero, le_of_suc-le-suc}
use native.Mathlib.Omega.{arith}
use lib.ListN.{length, take, drop, get_or, length-take, length-drop}
use lib.Seq.{drop-drop, take-add, take_all}
use Rattle.std.specs.Simd.{first_chunks}
use Rattle.octets.specs.Octets.{groups}

-- There are as many groups as are asked for.
pub length_groups : (size n : ℕ) (s : List ℕ) → length (groups size n s) ≡ n
unfolding groups
length_groups size zero s = refl
length_groups size (suc n) s = ap suc (length_groups size n (drop size s))

-- The library's chunks of a list are its groups.
pub chunks_groups : (size n : ℕ) (s : List ℕ) → first_chunks size n s ≡ groups size n s
unfolding groups
chunks_groups size zero s = refl
chunks_groups size (suc n) s = ap (λ (gs : List (List ℕ)). take size s ∷ gs) (chunks_groups size n (drop size s))

-- The i-th group is the part of the list from i * size on.
pub group_at : (size n i : ℕ) (s : List ℕ) → i < n → get_or (groups size n s) i [] ≡ take size (drop (i * size) s)
unfolding groups
group_at size zero i s h = absurd (not-suc-le-zero h)
group_at size (suc n) zero s h = rw zero-mul
group_at size (suc n) (suc i) s h =
    group_at size n i (drop size s) (le_of_suc-le-suc h)
    ∙ rw (drop-drop (i * size) size s, suc-mul i size, add_comm (i * size) size)

-- A group has its size where the list has the groups' bytes.
pub length_group : (size n i : ℕ) (s : List ℕ) → i < n → n * size ≤ length s → length (get_or (groups size n s) i []) ≡ size
length_group size n i s h fits =
    let m : suc i * size ≤ n * size = mul-le-mul_right size h in
    rw (group_at size n i s h) (simp (length-take, length-drop) (omega (arith, suc-mul i size)))

-- The groups one after the other are the part of the list that they cover.
pub groups_joined : (size n : ℕ) (s : List ℕ) → flatten (groups size n s) ≡ take (n * size) s
unfolding groups flatten
groups_joined size zero s = rw (zero-mul size)
groups_joined size (suc n) s =
    rw (groups_joined size n (drop size s), suc-mul n size, add_comm (n * size) size, take-add size (n * size) s)

-- Where they cover all of it, they give the list back.
pub joined_back : (size n : ℕ) (s : List ℕ) → length s ≡ n * size → flatten (groups size n s) ≡ s
joined_back size n s h = groups_joined size n s ∙ take_all (n * size) s (omega arith)
