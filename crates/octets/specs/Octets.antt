-- Numbers in bytes, the first byte the highest; groups of bytes; comparison of two runs of bytes.
-- Document 01: "Numbers are big-endian, unsigned unless noted; offsets in bytes."
use Rattle.std.specs.Prelude.{ℕ, zero, suc, ◌+◌, ◌*◌, ◌/◌, ◌%◌, ◌^◌, List, [], ◌∷◌, ◌++◌, Bool, true, false, ◌&&◌, eqb, take, drop, get_or}

-- The number in the `width` bytes from `at` on. A byte past the end of the list reads as 0.
unfoldable pub field : ℕ → ℕ → List ℕ → ℕ
field at zero bytes = 0
field at (suc width) bytes = field at width bytes * 256 + get_or bytes (at + width) 0

-- The `width` bytes of a number. The first one takes what the others leave, so that every number is read back;
-- of a number below 256 ^ width it is a byte like the others.
unfoldable pub digits : ℕ → ℕ → List ℕ
digits zero value = []
digits (suc width) value = value / 256 ^ width ∷ digits width (value % 256 ^ width)

-- The bytes with a number put in the `width` bytes from `at` on.
unfoldable pub put : ℕ → ℕ → ℕ → List ℕ → List ℕ
put at width value bytes = take at bytes ++ (digits width value ++ drop (at + width) bytes)

-- The first `count` groups of `size` bytes.
unfoldable pub groups : ℕ → ℕ → List ℕ → List (List ℕ)
groups size zero bytes = []
groups size (suc count) bytes = take size bytes ∷ groups size count (drop size bytes)

-- The bytes with the i-th part of `size` bytes made `part`.
unfoldable pub with_part : ℕ → ℕ → List ℕ → List ℕ → List ℕ
with_part size i part bytes = take (i * size) bytes ++ (part ++ drop (i * size + size) bytes)

-- Two runs of bytes are the same.
unfoldable pub same : List ℕ → List ℕ → Bool
same [] [] = true
same [] (y ∷ ys) = false
same (x ∷ xs) [] = false
same (x ∷ xs) (y ∷ ys) = eqb x y && same xs ys
