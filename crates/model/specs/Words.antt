-- The words that the definitions are written in: tests over lists, lists of zeros.
use Rattle.std.specs.Prelude.{if◌then◌else◌, ℕ, ◌/◌, ◌%◌, ◌^◌, List, [], ◌∷◌, Bool, true, false, ◌&&◌, ◌||◌, leb, eqb, replicate}

module _ {A : Type 0} where
  -- The elements that pass the test, in order.
  abbrev pub keep : (A → Bool) → List A → List A
  keep q [] = []
  keep q (x ∷ xs) = if q x then x ∷ keep q xs else keep q xs

  -- Some element passes the test.
  abbrev pub any : (A → Bool) → List A → Bool
  any q [] = false
  any q (x ∷ xs) = q x || any q xs

  -- Every element passes the test.
  abbrev pub all : (A → Bool) → List A → Bool
  all q [] = true
  all q (x ∷ xs) = q x && all q xs

-- n zero bytes.
abbrev pub zeros : ℕ → List ℕ
zeros n = replicate n 0

-- Bit i of a byte or of a longer number, bit 0 the lowest.
abbrev pub bit : ℕ → ℕ → Bool
bit byte i = eqb (byte / 2 ^ i % 2) 1

-- A flag as a byte: 0 or 1.
abbrev pub bit_of : Bool → ℕ
bit_of true = 1
bit_of false = 0

-- A number within bounds, both allowed.
abbrev pub within : ℕ → ℕ → ℕ → Bool
within low high n = leb low n && leb n high

-- A record that was not found is the empty list.
abbrev pub missing : List ℕ → Bool
missing [] = true
missing (x ∷ xs) = false
