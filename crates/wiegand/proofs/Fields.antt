-- The parts of 26 bits as numbers: their halves, facility and card.
use mathlib.Core.Path.{◌≡◌, refl, sym, ap, ◌∙◌}
use mathlib.Core.List.{[], ◌∷◌}
use mathlib.Core.Bool.{Bool, true, false, not}
use Prim.Native.Nat.{ℕ, zero, suc, ◌+◌, ◌*◌, ◌/◌, ◌%◌, ◌-◌, ◌<◌}
use native.Mathlib.Nat.{mod-eq_of_lt, mod-lt}
use native.Mathlib.Omega.{arith}
use lib.Count.{ones}
use lib.Dec.{eqb, lit<}
use lib.ListN.{drop, length-append}
use lib.Pow.{high, low}
use Rattle.model.specs.Words.{bit_of}
use Rattle.wiegand.specs.Wiegand.{bits, number_of, number_of_ones, facility_of, card_of, first_parity, last_parity, is_even, is_odd, between, first_parity_bit, last_parity_bit, written, write_wiegand26}
use Rattle.wiegand.proofs.Bits.{length_bits, bits_join, bits_mod, take_bits, drop_bits, number_bits, number_append, ones_bits}

pub first_parity_law : (n : ℕ) → first_parity (bits 26 n) ≡ is_even (ones (n / 8192 % 8192))
unfolding first_parity
first_parity_law n = rw (take_bits 13 13 n, ones_bits 13 (n / 8192))

pub last_parity_law : (n : ℕ) → last_parity (bits 26 n) ≡ is_odd (ones (n % 8192))
unfolding last_parity
last_parity_law n = rw (drop_bits 13 13 n, ones_bits 13 n)

pub facility_number : (n : ℕ) → facility_of (bits 26 n) ≡ n / 131072 % 256
unfolding facility_of
facility_number n = rw (drop_bits 1 25 n, take_bits 8 17 n, number_bits 8 (n / 131072))

pub card_number : (n : ℕ) → card_of (bits 26 n) ≡ n / 2 % 65536
unfolding card_of
card_number n = rw (drop_bits 9 17 n, take_bits 16 1 n, number_bits 16 (n / 2))

-- ── the way back

-- The bits between the parity bits are those of facility and card as one number.
between_bits : (f c : ℕ) → c < 65536 → between f c ≡ bits 24 (f * 65536 + c)
unfolding between
between_bits f c h =
    let n = f * 65536 + c in
    let l : bits 16 n ≡ bits 16 c = sym (bits_mod 0 16 n) ∙ ap (bits 16) (low f 16 h) in
    rw (bits_join 8 16 n, high f 16 h, l)

-- A parity bit as a number.
even_below : (m : ℕ) → m < 2 → bit_of (eqb m 0) ≡ 1 - m
even_below zero h = refl
even_below (suc zero) h = refl
even_below (suc (suc m)) h = absurd (omega arith)

even_number : (n : ℕ) → bit_of (is_even n) ≡ 1 - n % 2
unfolding is_even
even_number n = even_below (n % 2) (mod-lt n (lit< tt))

not_number : (b : Bool) → bit_of (not b) ≡ 1 - bit_of b
not_number true = refl
not_number false = refl

odd_number : (n : ℕ) → bit_of (is_odd n) ≡ n % 2
unfolding is_odd
odd_number n = rw (not_number (is_even n), even_number n) (omega arith)

pub written_number : (f c : ℕ) → f < 256 → c < 65536
    → write_wiegand26 f c ≡ ones ((f * 65536 + c) / 4096) % 2 * 33554432 + (f * 65536 + c) * 2 + (1 - ones ((f * 65536 + c) % 4096) % 2)
unfolding write_wiegand26 written first_parity_bit last_parity_bit number_of
written_number f c a b =
    let n = f * 65536 + c in
    let m : n % 16777216 ≡ n = mod-eq_of_lt (omega arith) in
    let u : n / 4096 % 4096 ≡ n / 4096 = mod-eq_of_lt (omega arith) in
    rw (
      between_bits f c b,
      number_append (bits 24 n) (is_even (number_of_ones (drop 12 (bits 24 n))) ∷ []),
      number_bits 24 n,
      length-append (bits 24 n) (is_even (number_of_ones (drop 12 (bits 24 n))) ∷ []),
      length_bits 24 n,
      m,
      take_bits 12 12 n,
      drop_bits 12 12 n,
      ones_bits 12 (n / 4096),
      ones_bits 12 n,
      odd_number (ones (n / 4096 % 4096)),
      even_number (ones (n % 4096)),
      u,
    ) (omega arith)
