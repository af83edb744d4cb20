-- What the way back writes is good and is read back, and nothing else is good.
use Rattle.std.specs.Prelude.{if◌then◌else◌}
use mathlib.Core.Path.{◌≡◌, refl, sym, ap, ap₂, ◌∙◌}
use mathlib.Core.List.{List, [], ◌∷◌, ◌++◌}
use mathlib.Core.Bool.{Bool, true, false, not, ◌&&◌, ◌||◌}
use Rattle.std.specs.Prelude.{Ok, Err}
use Prim.Native.Nat.{ℕ, suc, ◌+◌, ◌/◌, ◌%◌, ◌<◌}
use native.Mathlib.Nat.{add-zero, mod-eq_of_lt, mod-lt}
use native.Mathlib.Omega.{arith}
use lib.Dec.{eqb, leb, lit<, lit≤}
use lib.ListN.{length, take, drop, length-append}
use lib.Pow.{shr-shr}
use lib.Seq.{take-append-le, drop-append-le}
use borrow.Author.Tests.{lt-leb, leb-false, eqb-true, not-false}
use Rattle.std.proofs.lemmas.Bool.{and_parts, or_parts}
use Rattle.octets.specs.Octets.{digits}
use Rattle.octets.proofs.Laws.{field_digits}
use Rattle.model.specs.Words.{bit, bit_of, zeros}
use Rattle.wiegand.specs.declared.Factor.{Factor}
use Rattle.wiegand.specs.Wiegand.{bits, number_of, number_of_ones, is_even, is_odd, first_parity, last_parity, facility_of, card_of, factor, factor_of, reading_error, not_twenty_six_bits, read_wiegand26, between, first_parity_bit, last_parity_bit, written, write_wiegand26, format_wiegand26}
use Rattle.wiegand.specs.Theorems.{facility_in, card_in, ReadBack, OnlyWritten, NoneShared}
use Rattle.wiegand.proofs.Bits.{length_bits, bits_join, bits_mod, number_bits, number_lt, bits_number, ones_append}
use Rattle.wiegand.proofs.Fields.{facility_number, card_number, written_number}
use Rattle.wiegand.proofs.Parity.{even_with, even_only, odd_with, odd_only}

-- ── what is read

-- 26 bits become their factor.
pub read_bits : (n : ℕ) → n < 67108864 → read_wiegand26 n 26 ≡ Ok (factor_of (bits 26 n))
unfolding read_wiegand26
read_bits n h = rw (lt-leb 67108864 n h)

-- ── 26 bits, between parity bits

-- 24 bits between two.
abbrev around : Bool → List Bool → Bool → List Bool
around p bs q = p ∷ (bs ++ q ∷ [])

first_around : (p q : Bool) (bs : List Bool) → length bs ≡ 24 → first_parity (around p bs q) ≡ is_even (bit_of p + number_of_ones (take 12 bs))
unfolding first_parity number_of_ones
first_around p q bs h = rw (take-append-le 12 bs (q ∷ []) (rw h (lit≤ tt)))

last_around : (p q : Bool) (bs : List Bool) → length bs ≡ 24 → last_parity (around p bs q) ≡ is_odd (number_of_ones (drop 12 bs) + bit_of q)
unfolding last_parity number_of_ones
last_around p q bs h =
    rw (drop-append-le 12 bs (q ∷ []) (rw h (lit≤ tt)), ones_append (drop 12 bs) (q ∷ []), add-zero (bit_of q))

length_between : (f c : ℕ) → length (between f c) ≡ 24
unfolding between
length_between f c = rw (length-append (bits 8 f) (bits 16 c), length_bits 8 f, length_bits 16 c)

-- ── what the way back writes

length_written : (f c : ℕ) → length (written f c) ≡ 26
unfolding written
length_written f c =
    rw (length-append (between f c) (last_parity_bit f c ∷ []), length_between f c)

pub written_lt : (f c : ℕ) → write_wiegand26 f c < 67108864
unfolding write_wiegand26
written_lt f c = rw (length_written f c) at (number_lt (written f c))

written_bits : (f c : ℕ) → bits 26 (write_wiegand26 f c) ≡ written f c
unfolding write_wiegand26
written_bits f c = rw (length_written f c) at (bits_number (written f c))

-- Both parities are right.
pub written_first : (f c : ℕ) → first_parity (bits 26 (write_wiegand26 f c)) ≡ true
unfolding written first_parity_bit
written_first f c =
    rw (written_bits f c, first_around (first_parity_bit f c) (last_parity_bit f c) (between f c) (length_between f c))
    (even_with (number_of_ones (take 12 (between f c))))

pub written_last : (f c : ℕ) → last_parity (bits 26 (write_wiegand26 f c)) ≡ true
unfolding written last_parity_bit
written_last f c =
    rw (written_bits f c, last_around (first_parity_bit f c) (last_parity_bit f c) (between f c) (length_between f c))
    (odd_with (number_of_ones (drop 12 (between f c))))

-- ── the factor of good bits

read_good : (n : ℕ) → n < 67108864 → first_parity (bits 26 n) && last_parity (bits 26 n) ≡ true
    → read_wiegand26 n 26 ≡ Ok (factor (n / 131072 % 256) (n / 2 % 65536))
unfolding factor_of
read_good n h g = rw (read_bits n h, g, facility_number n, card_number n)

read_written : (f c : ℕ) → f < 256 → c < 65536 → read_wiegand26 (write_wiegand26 f c) 26 ≡ Ok (factor f c)
read_written f c a b =
    let n = write_wiegand26 f c in
    let w = written_number f c a b in
    let e : n / 131072 % 256 ≡ f = rw w (omega arith) in
    let d : n / 2 % 65536 ≡ c = rw w (omega arith) in
    read_good n (written_lt f c) (rw (written_first f c, written_last f c)) ∙ ap₂ (λ x y. Ok (factor x y)) e d

-- ── facility and card in the value

facility_in_law : (f c : ℕ) → facility_in (factor f c) ≡ f
unfolding facility_in factor
facility_in_law f c = field_digits 5 0 f (zeros 5) (digits 2 c) refl

card_in_law : (f c : ℕ) → card_in (factor f c) ≡ c
unfolding card_in factor digits
card_in_law f c = field_digits 6 1 c (zeros 5 ++ digits 1 f) [] refl

pub read_back : ReadBack
unfolding ReadBack
read_back f c a b = (read_written f c a b, facility_in_law f c, card_in_law f c)

-- ── what is read as format 8

-- It was not turned away, and its parities are right.
made_of : (t : Bool) (r made : Factor) → (if t then Err not_twenty_six_bits else Ok r) ≡ Ok made → (t ≡ false) × (r ≡ made)
made_of true r made h = cc
made_of false r made h = (refl, cc)

good : (g : Bool) (f c : ℕ) → (if g then factor f c else reading_error).format ≡ format_wiegand26 → g ≡ true
unfolding reading_error
good true f c h = refl
good false f c h = absurd (omega arith)

is_26 : (n k : ℕ) (made : Factor) → read_wiegand26 n k ≡ Ok made → (k ≡ 26) × (n < 67108864)
unfolding read_wiegand26
is_26 n k made h =
    let t = (made_of (not (eqb k 26) || leb 67108864 n) (factor_of (bits 26 n)) made h).0 in
    let e = or_parts (not (eqb k 26)) (leb 67108864 n) t in
    (eqb-true k 26 (not-false (eqb k 26) e.0), leb-false 67108864 n e.1)

is_good : (n : ℕ) (made : Factor) → n < 67108864 → read_wiegand26 n 26 ≡ Ok made → made.format ≡ format_wiegand26
    → first_parity (bits 26 n) && last_parity (bits 26 n) ≡ true
unfolding factor_of
is_good n made l h m =
    let e : factor_of (bits 26 n) ≡ made = (made_of false (factor_of (bits 26 n)) made (sym (read_bits n l) ∙ h)).1 in
    good (first_parity (bits 26 n) && last_parity (bits 26 n)) (facility_of (bits 26 n)) (card_of (bits 26 n)) (ap (λ r. r.format) e ∙ m)

-- 26 bits are parity bits around facility and card.
first_bit : (w n : ℕ) → bits (suc w) n ≡ bit n w ∷ bits w n
unfolding bits
first_bit w n = refl

last_bit : (n : ℕ) → bits 1 n ≡ bit n 0 ∷ []
unfolding bits
last_bit n = refl

between_middle : (n : ℕ) → between (n / 131072 % 256) (n / 2 % 65536) ≡ bits 24 (n / 2)
unfolding between
between_middle n = rw (bits_mod 0 8 (n / 131072), bits_mod 0 16 (n / 2), bits_join 8 16 (n / 2), shr-shr n 1 16)

bits_around : (n : ℕ) → bits 26 n ≡ around (bit n 25) (between (n / 131072 % 256) (n / 2 % 65536)) (bit n 0)
bits_around n = rw (first_bit 25 n, bits_join 24 1 n, last_bit n, between_middle n)

good_written : (n : ℕ) → n < 67108864 → first_parity (bits 26 n) ≡ true → last_parity (bits 26 n) ≡ true
    → n ≡ write_wiegand26 (n / 131072 % 256) (n / 2 % 65536)
unfolding write_wiegand26 written first_parity_bit last_parity_bit
good_written n h a b =
    let f = n / 131072 % 256 in
    let c = n / 2 % 65536 in
    let m = between f c in
    let p : bit n 25 ≡ first_parity_bit f c =
    even_only (bit n 25) (number_of_ones (take 12 m))
    (sym (first_around (bit n 25) (bit n 0) m (length_between f c)) ∙ sym (ap first_parity (bits_around n)) ∙ a) in
    let q : bit n 0 ≡ last_parity_bit f c =
    odd_only (bit n 0) (number_of_ones (drop 12 m))
    (sym (last_around (bit n 25) (bit n 0) m (length_between f c)) ∙ sym (ap last_parity (bits_around n)) ∙ b) in
    sym (mod-eq_of_lt h) ∙ sym (number_bits 26 n) ∙ ap number_of (bits_around n ∙ ap₂ (λ x y. around x m y) p q)

only_26 : (n : ℕ) (made : Factor) → read_wiegand26 n 26 ≡ Ok made → made.format ≡ format_wiegand26 → n < 67108864
    → (facility_in made < 256) × (card_in made < 65536) × (n ≡ write_wiegand26 (facility_in made) (card_in made))
only_26 n made h m l =
    let a = first_parity (bits 26 n) in
    let b = last_parity (bits 26 n) in
    let g = is_good n made l h m in
    let f = n / 131072 % 256 in
    let c = n / 2 % 65536 in
    let p = and_parts a b g in
    let w : n ≡ write_wiegand26 f c = good_written n l p.0 p.1 in
    let e : made ≡ factor f c = (made_of false made (factor f c) (sym h ∙ read_good n l g)).1 in
    rw (e, facility_in_law f c, card_in_law f c) (mod-lt (n / 131072) (lit< tt), mod-lt (n / 2) (lit< tt), w)

pub only_written : OnlyWritten
unfolding OnlyWritten
only_written n k made h m =
    let t = is_26 n k made h in
    let o = only_26 n made (rw t.0 at h) m t.1 in
    (t.0, o.0, o.1, o.2)

pub none_shared : NoneShared
unfolding NoneShared OnlyWritten
none_shared n other made h m e = (only_written n 26 made h m).3 ∙ sym (only_written other 26 made e m).3
