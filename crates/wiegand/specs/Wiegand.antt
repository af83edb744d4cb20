-- Document 02, job 12, "Raw 26-bit readers": the bits of a reader to the factor of a journal entry, and the way back.
use Rattle.std.specs.Prelude.{ℕ, zero, suc, ◌+◌, ◌*◌, ◌%◌, ◌^◌, List, [], ◌∷◌, ◌++◌, Bool, not, ◌&&◌, ◌||◌, leb, eqb, length, take, drop, if◌then◌else◌, Result, Ok, Err}
use Rattle.octets.specs.Octets.{digits}
use Rattle.model.specs.Words.{zeros, bit, bit_of}
use Rattle.model.specs.Numbers.{format_error}
use Rattle.wiegand.specs.declared.Factor.{Factor}
use Rattle.wiegand.specs.declared.NotTwentySixBits.{NotTwentySixBits}

-- ── "Older readers hand us 26 bits: a parity bit, 8 bits of facility, 16 of card number, a parity bit." "The bits come as one number, the
-- first bit highest, with their count."

-- The last `count` bits of a number, the first bit highest.
unfoldable pub bits : ℕ → ℕ → List Bool
bits zero number = []
bits (suc count) number = bit number count ∷ bits count number

-- The number that bits come as.
unfoldable pub number_of : List Bool → ℕ
number_of [] = 0
number_of (b ∷ bs) = bit_of b * 2 ^ length bs + number_of bs

-- "8 bits of facility", behind a parity bit.
unfoldable pub facility_of : List Bool → ℕ
facility_of bs = number_of (take 8 (drop 1 bs))

-- "16 of card number", behind these.
unfoldable pub card_of : List Bool → ℕ
card_of bs = number_of (take 16 (drop 9 bs))

-- ── "The first 13 bits must have an even number of ones, the last 13 an odd number."

unfoldable pub number_of_ones : List Bool → ℕ
number_of_ones [] = 0
number_of_ones (b ∷ bs) = bit_of b + number_of_ones bs

unfoldable pub is_even : ℕ → Bool
is_even n = eqb (n % 2) 0

unfoldable pub is_odd : ℕ → Bool
is_odd n = not (is_even n)

unfoldable pub first_parity : List Bool → Bool
first_parity bs = is_even (number_of_ones (take 13 bs))

unfoldable pub last_parity : List Bool → Bool
last_parity bs = is_odd (number_of_ones (drop 13 bs))

-- ── the factor

-- 002: "wiegand26 (8)".
abbrev pub format_wiegand26 : ℕ
format_wiegand26 = 8

-- "Good bits become a factor of the WIEGAND26 format, its octets as Annex P in 002 lays them down, right-aligned in the eight value bytes":
-- "Octet[1] = facility-code", "Octet[2..3] = card-number".
unfoldable pub factor : ℕ → ℕ → Factor
factor facility card = record { format = format_wiegand26; value = zeros 5 ++ digits 1 facility ++ digits 2 card }

-- "wrong parity becomes format 1 with value zero."
unfoldable pub reading_error : Factor
reading_error = record { format = format_error; value = zeros 8 }

-- The factor of 26 bits.
unfoldable pub factor_of : List Bool → Factor
factor_of bs = if first_parity bs && last_parity bs then factor (facility_of bs) (card_of bs) else reading_error

-- "nothing made".
abbrev pub not_twenty_six_bits : NotTwentySixBits
not_twenty_six_bits = record {}

-- The way there. "Turned away: 17, for a count that is not 26 or a number of 67,108,864 or more, nothing made."
unfoldable pub read_wiegand26 : ℕ → ℕ → Result Factor NotTwentySixBits
read_wiegand26 number count =
    if not (eqb count 26) || leb 67108864 number then Err not_twenty_six_bits else Ok (factor_of (bits 26 number))

-- "Turned away: 17"; 0 for worked through, as in document 01.
abbrev pub returned_number : Result Factor NotTwentySixBits → ℕ
returned_number (Ok made) = 0
returned_number (Err refusal) = 17

-- ── "The way back, from facility and card to bits, is wanted too."

-- The 24 bits between the parity bits.
unfoldable pub between : ℕ → ℕ → List Bool
between facility card = bits 8 facility ++ bits 16 card

-- The first parity bit: a one where the 12 bits behind it have an odd number of ones.
unfoldable pub first_parity_bit : ℕ → ℕ → Bool
first_parity_bit facility card = is_odd (number_of_ones (take 12 (between facility card)))

-- The last parity bit: a one where the 12 bits before it have an even number of ones.
unfoldable pub last_parity_bit : ℕ → ℕ → Bool
last_parity_bit facility card = is_even (number_of_ones (drop 12 (between facility card)))

-- "a parity bit, 8 bits of facility, 16 of card number, a parity bit."
unfoldable pub written : ℕ → ℕ → List Bool
written facility card = first_parity_bit facility card ∷ between facility card ++ last_parity_bit facility card ∷ []

-- The way back: the number that the bits come as.
unfoldable pub write_wiegand26 : ℕ → ℕ → ℕ
write_wiegand26 facility card = number_of (written facility card)
