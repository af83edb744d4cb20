-- The laws of a bit of a number.
use Prim.Native.Nat.{ℕ, suc, ◌+◌, ◌/◌, ◌%◌, ◌^◌}
use native.Mathlib.Nat.{add_comm}
use native.Mathlib.Numerals.{add-one}
use mathlib.Core.Path.{◌≡◌}
use lib.Pow.{shr-shr, field, mod-mod-pow}
use Rattle.model.specs.Words.{bit}

-- Bit a of what stands above the low b bits.
pub bit_above : (n a b : ℕ) → bit (n / 2 ^ b) a ≡ bit n (a + b)
bit_above n a b = rw (shr-shr n b a, add_comm b a)

-- A low bit is that of the number without what stands above it.
pub bit_mod : (k w n : ℕ) → bit (n % 2 ^ (suc k + w)) w ≡ bit n w
bit_mod k w n =
    let e : n / 2 ^ w % 2 ^ suc k % 2 ≡ n / 2 ^ w % 2 = rw (add-one k) at (mod-mod-pow (n / 2 ^ w) k 1) in
    rw (field n (suc k) w, e)
