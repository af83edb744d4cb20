-- Parity: what one bit does to it, where a bit of a number is changed, and which parity bits are right.
use Rattle.std.specs.Prelude.{if◌then◌else◌}
use mathlib.Core.Path.{◌≡◌, refl, sym, ap, ◌∙◌}
use mathlib.Core.List.{List, ◌∷◌, ◌++◌}
use mathlib.Core.Bool.{Bool, true, false, not}
use Prim.Native.Nat.{ℕ, zero, suc, ◌+◌, ◌-◌, ◌/◌, ◌%◌, ◌^◌, ◌≤◌, ◌<◌}
use native.Mathlib.Nat.{zero-add, add_comm, add_left_comm, mod-eq_of_lt}
use native.Mathlib.Numerals.{one-add}
use native.Mathlib.Omega.{arith}
use lib.Dec.{eqb}
use lib.ListN.{length, take, drop, length-append}
use lib.Seq.{take-append-le, drop-append-le, take-append-add, drop-append-add}
use Rattle.model.specs.Words.{bit, bit_of}
use Rattle.wiegand.specs.Wiegand.{bits, number_of, number_of_ones, is_even, is_odd, first_parity, last_parity}
use Rattle.wiegand.specs.Theorems.{changed}
use Rattle.wiegand.proofs.Bits.{length_bits, bits_join, number_bits, number_lt, bits_number, number_append, ones_append}

-- ── even and odd

other_parity : (a b : ℕ) → a + b ≡ 1 → eqb b 0 ≡ not (eqb a 0)
other_parity zero b h = let e : b ≡ 1 = omega arith in rw e
other_parity (suc zero) b h = let e : b ≡ 0 = omega arith in rw e
other_parity (suc (suc a)) b h = absurd (omega arith)

even_suc : (n : ℕ) → is_even (suc n) ≡ not (is_even n)
unfolding is_even
even_suc n = other_parity (n % 2) (suc n % 2) (omega arith)

-- The parity with one bit more.
even_bit : (b : Bool) (n : ℕ) → is_even (bit_of b + n) ≡ (if b then not (is_even n) else is_even n)
even_bit true n = rw (one-add n) (even_suc n)
even_bit false n = rw (zero-add n)

odd_bit : (b : Bool) (n : ℕ) → is_odd (n + bit_of b) ≡ not (if b then not (is_even n) else is_even n)
unfolding is_odd
odd_bit b n = rw (add_comm n (bit_of b), even_bit b n)

-- The other bit makes the other parity.
other_bit : (b e : Bool) → (if not b then not e else e) ≡ not (if b then not e else e)
other_bit true true = refl
other_bit true false = refl
other_bit false true = refl
other_bit false false = refl

even_not : (b : Bool) (n : ℕ) → is_even (bit_of (not b) + n) ≡ not (is_even (bit_of b + n))
even_not b n = rw (even_bit (not b) n, even_bit b n) (other_bit b (is_even n))

-- The parity bit that makes the number of ones even, and no other bit.
made_even : (e : Bool) → (if not e then not e else e) ≡ true
made_even true = refl
made_even false = refl

makes_even : (b e : Bool) → (if b then not e else e) ≡ true → b ≡ not e
makes_even true true h = sym h
makes_even true false h = refl
makes_even false true h = refl
makes_even false false h = h

pub even_with : (n : ℕ) → is_even (bit_of (is_odd n) + n) ≡ true
unfolding is_odd
even_with n = rw (even_bit (not (is_even n)) n) (made_even (is_even n))

pub even_only : (b : Bool) (n : ℕ) → is_even (bit_of b + n) ≡ true → b ≡ is_odd n
unfolding is_odd
even_only b n h = makes_even b (is_even n) (sym (even_bit b n) ∙ h)

-- The parity bit that makes it odd, and no other bit.
made_odd : (e : Bool) → not (if e then not e else e) ≡ true
made_odd true = refl
made_odd false = refl

makes_odd : (b e : Bool) → not (if b then not e else e) ≡ true → b ≡ e
makes_odd true true h = refl
makes_odd true false h = sym h
makes_odd false true h = h
makes_odd false false h = refl

pub odd_with : (n : ℕ) → is_odd (n + bit_of (is_even n)) ≡ true
odd_with n = rw (odd_bit (is_even n) n) (made_odd (is_even n))

pub odd_only : (b : Bool) (n : ℕ) → is_odd (n + bit_of b) ≡ true → b ≡ is_even n
odd_only b n h = makes_odd b (is_even n) (sym (odd_bit b n) ∙ h)

-- ── one bit of a list

even_other : (xs ys : List Bool) (b : Bool) → is_even (number_of_ones (xs ++ not b ∷ ys)) ≡ not (is_even (number_of_ones (xs ++ b ∷ ys)))
unfolding number_of_ones
even_other xs ys b =
    rw (
      ones_append xs (not b ∷ ys),
      ones_append xs (b ∷ ys),
      add_left_comm (number_of_ones xs) (bit_of (not b)) (number_of_ones ys),
      add_left_comm (number_of_ones xs) (bit_of b) (number_of_ones ys),
    ) (even_not b (number_of_ones xs + number_of_ones ys))

-- Behind the first 13 bits it is in the last 13 alone.
first_kept : (xs ys : List Bool) (b : Bool) → 13 ≤ length xs → first_parity (xs ++ not b ∷ ys) ≡ first_parity (xs ++ b ∷ ys)
unfolding first_parity
first_kept xs ys b h = rw (take-append-le 13 xs (not b ∷ ys) h, take-append-le 13 xs (b ∷ ys) h)

last_other : (xs ys : List Bool) (b : Bool) → 13 ≤ length xs → last_parity (xs ++ not b ∷ ys) ≡ not (last_parity (xs ++ b ∷ ys))
unfolding last_parity is_odd
last_other xs ys b h = rw (drop-append-le 13 xs (not b ∷ ys) h, drop-append-le 13 xs (b ∷ ys) h, even_other (drop 13 xs) ys b)

-- Among the first 13 it is in these alone.
first_other : (xs ys : List Bool) (b : Bool) (k : ℕ) → length xs + suc k ≡ 13 → first_parity (xs ++ not b ∷ ys) ≡ not (first_parity (xs ++ b ∷ ys))
unfolding first_parity
first_other xs ys b k h =
    let t = rw h at (take-append-add xs (not b ∷ ys) (suc k)) in
    let u = rw h at (take-append-add xs (b ∷ ys) (suc k)) in
    rw (t, u) (even_other xs (take k ys) b)

last_kept : (xs ys : List Bool) (b : Bool) (k : ℕ) → length xs + suc k ≡ 13 → last_parity (xs ++ not b ∷ ys) ≡ last_parity (xs ++ b ∷ ys)
unfolding last_parity
last_kept xs ys b k h =
    let t = rw h at (drop-append-add xs (not b ∷ ys) (suc k)) in
    let u = rw h at (drop-append-add xs (b ∷ ys) (suc k)) in
    rw (t, u)

-- ── one bit of a number

-- The number of bits, one of which is changed.
number_other : (m : ℕ) (xs ys : List Bool) (b : Bool) → m ≡ number_of (xs ++ b ∷ ys)
    → (if b then m - 2 ^ length ys else m + 2 ^ length ys) ≡ number_of (xs ++ not b ∷ ys)
unfolding number_of
number_other m xs ys true h = rw (h, number_append xs (true ∷ ys), number_append xs (false ∷ ys)) (omega arith)
number_other m xs ys false h = rw (h, number_append xs (true ∷ ys), number_append xs (false ∷ ys)) (omega arith)

-- The bits of a number of a + suc i bits, with b for bit i.
abbrev with_bit : ℕ → ℕ → ℕ → Bool → List Bool
with_bit a i n b = bits a (n / 2 ^ suc i) ++ b ∷ bits i n

length_with : (a i n : ℕ) (b : Bool) → length (with_bit a i n b) ≡ a + suc i
length_with a i n b = rw (length-append (bits a (n / 2 ^ suc i)) (b ∷ bits i n), length_bits a (n / 2 ^ suc i), length_bits i n)

bits_with : (a i n : ℕ) → bits (a + suc i) n ≡ with_bit a i n (bit n i)
unfolding bits
bits_with a i n = bits_join a (suc i) n

changed_number : (a i n : ℕ) → n < 2 ^ (a + suc i) → changed i n ≡ number_of (with_bit a i n (not (bit n i)))
unfolding changed
changed_number a i n h =
    let e : n ≡ number_of (with_bit a i n (bit n i)) = sym (mod-eq_of_lt h) ∙ sym (number_bits (a + suc i) n) ∙ ap number_of (bits_with a i n) in
    rw (length_bits i n) at (number_other n (bits a (n / 2 ^ suc i)) (bits i n) (bit n i) e)

-- A changed bit is the other one, and all others are as they were.
changed_with : (a i n : ℕ) → a + suc i ≡ 26 → n < 67108864
    → (changed i n < 67108864) × (bits 26 (changed i n) ≡ with_bit a i n (not (bit n i))) × (bits 26 n ≡ with_bit a i n (bit n i))
changed_with a i n e l =
    let ws = with_bit a i n (not (bit n i)) in
    let c : changed i n ≡ number_of ws = changed_number a i n (rw e l) in
    let k : length ws ≡ 26 = length_with a i n (not (bit n i)) ∙ e in
    (rw c (rw k at (number_lt ws)), rw c (rw k at (bits_number ws)), rw e at (bits_with a i n))

-- ── one of 26 bits

-- Among the last 13 a changed bit makes the last parity the other one, and keeps the first.
pub last_changed : (i n : ℕ) → i < 13 → n < 67108864
    → (changed i n < 67108864)
    × (first_parity (bits 26 (changed i n)) ≡ first_parity (bits 26 n))
    × (last_parity (bits 26 (changed i n)) ≡ not (last_parity (bits 26 n)))
last_changed i n h l =
    let xs = bits (25 - i) (n / 2 ^ suc i) in
    let t = changed_with (25 - i) i n (omega arith) l in
    let k : 13 ≤ length xs = rw (length_bits (25 - i) (n / 2 ^ suc i)) (omega arith) in
    rw (t.1, t.2) (t.0, first_kept xs (bits i n) (bit n i) k, last_other xs (bits i n) (bit n i) k)

-- Among the first 13 the other way round.
pub first_changed : (i n : ℕ) → 13 ≤ i → i < 26 → n < 67108864
    → (changed i n < 67108864)
    × (first_parity (bits 26 (changed i n)) ≡ not (first_parity (bits 26 n)))
    × (last_parity (bits 26 (changed i n)) ≡ last_parity (bits 26 n))
first_changed i n g h l =
    let xs = bits (25 - i) (n / 2 ^ suc i) in
    let t = changed_with (25 - i) i n (omega arith) l in
    let k : length xs + suc (i - 13) ≡ 13 = rw (length_bits (25 - i) (n / 2 ^ suc i)) (omega arith) in
    rw (t.1, t.2) (t.0, first_other xs (bits i n) (bit n i) (i - 13) k, last_kept xs (bits i n) (bit n i) (i - 13) k)
