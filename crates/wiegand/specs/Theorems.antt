-- What is proved of the readings: each statement is a type, and proofs/ has a theorem of it.
use Rattle.std.specs.Prelude.{ℕ, ◌+◌, ◌-◌, ◌^◌, ◌≤◌, ◌<◌, ◌≡◌, if◌then◌else◌, Ok}
use Rattle.octets.specs.Octets.{field}
use Rattle.model.specs.Words.{bit}
use Rattle.wiegand.specs.Wiegand.{factor, reading_error, read_wiegand26, write_wiegand26, format_wiegand26}
use Rattle.wiegand.specs.declared.Factor.{Factor}

-- Facility and card in the value of a factor.
unfoldable pub facility_in : Factor → ℕ
facility_in made = field 5 1 made.value

unfoldable pub card_in : Factor → ℕ
card_in made = field 6 2 made.value

-- "Reading back what was so written gives the same facility and card for all 16,777,216 pairs", as format 8 with the value as laid down.
unfoldable pub ReadBack : Type 0
ReadBack =
    (facility card : ℕ) → facility < 256 → card < 65536 →
    (read_wiegand26 (write_wiegand26 facility card) 26 ≡ Ok (factor facility card))
    × (facility_in (factor facility card) ≡ facility)
    × (card_in (factor facility card) ≡ card)

-- A number with one bit changed, bit 0 the lowest.
unfoldable pub changed : ℕ → ℕ → ℕ
changed place number = if bit number place then number - 2 ^ place else number + 2 ^ place

-- "changing just one of its 26 bits always yields format 1", with value zero.
unfoldable pub OneChanged : Type 0
OneChanged =
    (facility card place : ℕ) → place < 26 →
    read_wiegand26 (changed place (write_wiegand26 facility card)) 26 ≡ Ok reading_error

-- Beyond the request: what is read as format 8 is 26 bits, and is what the way back writes for its facility and card.
unfoldable pub OnlyWritten : Type 0
OnlyWritten =
    (number count : ℕ) (made : Factor) → read_wiegand26 number count ≡ Ok made → made.format ≡ format_wiegand26 →
    (count ≡ 26) × (facility_in made < 256) × (card_in made < 65536) × (number ≡ write_wiegand26 (facility_in made) (card_in made))

-- So no two numbers share a factor of format 8.
unfoldable pub NoneShared : Type 0
NoneShared =
    (number other : ℕ) (made : Factor) → read_wiegand26 number 26 ≡ Ok made → made.format ≡ format_wiegand26 → read_wiegand26 other 26 ≡ Ok made →
    number ≡ other

-- Beyond the request: two changed bits, one in the first 13 and one in the last 13, are found too.
unfoldable pub HalvesChanged : Type 0
HalvesChanged =
    (facility card first last : ℕ) → 13 ≤ first → first < 26 → last < 13 →
    read_wiegand26 (changed first (changed last (write_wiegand26 facility card))) 26 ≡ Ok reading_error
