-- The laws of bits, each for every count: bits of a number and of its parts, the number of bits, their ones.
use mathlib.Core.Path.{◌≡◌, refl, sym, ap, ◌∙◌}
use mathlib.Core.List.{List, [], ◌∷◌, ◌++◌}
use mathlib.Core.Bool.{Bool, true, false}
use Prim.Native.Nat.{ℕ, zero, suc, ◌+◌, ◌*◌, ◌/◌, ◌%◌, ◌^◌, ◌<◌}
use native.Mathlib.Nat.{zero-add, suc-add, add-mul, mul_assoc, pow-succ', mod-lt, mod-one}
use native.Mathlib.Numerals.{one-add}
use native.Mathlib.Omega.{arith}
use lib.Arith.{digits_lt}
use lib.Count.{ones, ones_cat}
use lib.Dec.{lit<, eqb}
use lib.ListN.{length, take, drop, length-append}
use lib.Pow.{pow_pos, pow-add, high, low, mod-pow-add}
use lib.Seq.{take_at, drop_at}
use Rattle.model.specs.Words.{bit, bit_of}
use Rattle.model.proofs.Bits.{bit_above, bit_mod}
use Rattle.wiegand.specs.Wiegand.{bits, number_of, number_of_ones}

-- ── bits of a number

pub length_bits : (w n : ℕ) → length (bits w n) ≡ w
unfolding bits
length_bits zero n = refl
length_bits (suc w) n = ap suc (length_bits w n)

-- The first a of a + b bits are those of what stands above the low b, and the others are the low b.
pub bits_join : (a b n : ℕ) → bits (a + b) n ≡ bits a (n / 2 ^ b) ++ bits b n
unfolding bits
bits_join zero b n = rw (zero-add b)
bits_join (suc a) b n = rw (suc-add a b, bit_above n a b, bits_join a b n)

-- So taken and dropped.
pub take_bits : (a b n : ℕ) → take a (bits (a + b) n) ≡ bits a (n / 2 ^ b)
take_bits a b n = rw (bits_join a b n) (take_at (bits a (n / 2 ^ b)) (bits b n) a (length_bits a (n / 2 ^ b)))

pub drop_bits : (a b n : ℕ) → drop a (bits (a + b) n) ≡ bits b n
drop_bits a b n = rw (bits_join a b n) (drop_at (bits a (n / 2 ^ b)) (bits b n) a (length_bits a (n / 2 ^ b)))

-- Low bits are those of the number without what stands above them.
pub bits_mod : (k w n : ℕ) → bits w (n % 2 ^ (k + w)) ≡ bits w n
unfolding bits
bits_mod k zero n = refl
bits_mod k (suc w) n =
    let e : k + suc w ≡ suc k + w = omega arith in
    rw (e, bit_mod k w n, bits_mod (suc k) w n)

-- ── the number of bits

-- A number below 2 is its own bit.
bit_below : (m : ℕ) → m < 2 → bit_of (eqb m 1) ≡ m
bit_below zero h = refl
bit_below (suc zero) h = refl
bit_below (suc (suc m)) h = absurd (omega arith)

bit_number : (n i : ℕ) → bit_of (bit n i) ≡ n / 2 ^ i % 2
bit_number n i = bit_below (n / 2 ^ i % 2) (mod-lt (n / 2 ^ i) (lit< tt))

mod_suc_pow : (n w : ℕ) → n % 2 ^ suc w ≡ (n / 2 ^ w % 2) * 2 ^ w + n % 2 ^ w
mod_suc_pow n w = rw (one-add w) at (mod-pow-add n 1 w)

pub number_bits : (w n : ℕ) → number_of (bits w n) ≡ n % 2 ^ w
unfolding bits number_of
number_bits zero n = sym (mod-one n)
number_bits (suc w) n = rw (bit_number n w, length_bits w n, number_bits w n, mod_suc_pow n w)

bit_lt : (b : Bool) → bit_of b < 2
bit_lt true = lit< tt
bit_lt false = lit< tt

pub number_lt : (bs : List Bool) → number_of bs < 2 ^ length bs
unfolding number_of
number_lt [] = lit< tt
number_lt (b ∷ bs) = rw (pow-succ' 2 (length bs)) (digits_lt (bit_lt b) (number_lt bs))

bit_of_bit : (b : Bool) → eqb (bit_of b % 2) 1 ≡ b
bit_of_bit true = refl
bit_of_bit false = refl

-- Bits are those of their number.
pub bits_number : (bs : List Bool) → bits (length bs) (number_of bs) ≡ bs
unfolding bits number_of
bits_number [] = refl
bits_number (b ∷ bs) =
    let l = length bs in
    let m = number_of bs in
    let n = bit_of b * 2 ^ l + m in
    let e : n % 2 ^ (zero + l) ≡ m = rw (zero-add l) (low (bit_of b) l (number_lt bs)) in
    let r : bits l n ≡ bs = sym (bits_mod zero l n) ∙ ap (bits l) e ∙ bits_number bs in
    rw (high (bit_of b) l (number_lt bs), bit_of_bit b, r)

pub number_append : (xs ys : List Bool) → number_of (xs ++ ys) ≡ number_of xs * 2 ^ length ys + number_of ys
unfolding number_of
number_append [] ys = omega arith
number_append (x ∷ xs) ys =
    let p = 2 ^ length xs in
    let q = 2 ^ length ys in
    let e : bit_of x * (p * q) ≡ bit_of x * p * q = sym (mul_assoc (bit_of x) p q) in
    let d : (bit_of x * p + number_of xs) * q ≡ bit_of x * p * q + number_of xs * q = add-mul (bit_of x * p) (number_of xs) q in
    rw (length-append xs ys, pow-add 2 (length xs) (length ys), number_append xs ys) (omega (arith, e, d))

-- ── their ones

pub ones_append : (xs ys : List Bool) → number_of_ones (xs ++ ys) ≡ number_of_ones xs + number_of_ones ys
unfolding number_of_ones
ones_append [] ys = omega arith
ones_append (x ∷ xs) ys = rw (ones_append xs ys) (omega arith)

ones_bit : (b : Bool) → ones (bit_of b) ≡ bit_of b
unfolding ones
ones_bit true = refl
ones_bit false = refl

ones_of_bit : (n i : ℕ) → ones (n / 2 ^ i % 2) ≡ bit_of (bit n i)
ones_of_bit n i = ap ones (sym (bit_number n i)) ∙ ones_bit (bit n i)

-- The ones among the low bits are those that the machine counts.
pub ones_bits : (w n : ℕ) → number_of_ones (bits w n) ≡ ones (n % 2 ^ w)
unfolding bits number_of_ones
ones_bits zero n = sym (ap ones (mod-one n) ∙ ones_bit false)
ones_bits (suc w) n =
    let c : ones ((n / 2 ^ w % 2) * 2 ^ w + n % 2 ^ w) ≡ ones (n / 2 ^ w % 2) + ones (n % 2 ^ w) = ones_cat w (n / 2 ^ w % 2) (n % 2 ^ w) (mod-lt n (pow_pos w)) in
    rw (ones_bits w n, mod_suc_pow n w, c, ones_of_bit n w)
