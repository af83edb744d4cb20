-- The request's cases, computed: bits and numbers, cards to bits and back, bits that are turned away, wrong parities, and what parity does not find.
use Prim.Native.Nat.{ℕ}
use mathlib.Core.Path.{◌≡◌, refl}
use mathlib.Core.List.{[], ◌∷◌}
use Rattle.std.specs.Prelude.{Result, Ok, Err}
use mathlib.Core.Bool.{true, false}
use Rattle.octets.specs.Octets.{field, digits}
use Rattle.wiegand.specs.Wiegand.{bits, number_of, facility_of, card_of, number_of_ones, is_even, is_odd, first_parity, last_parity, factor, reading_error, not_twenty_six_bits, factor_of, read_wiegand26, returned_number, between, first_parity_bit, last_parity_bit, written, write_wiegand26}
use Rattle.wiegand.specs.Theorems.{facility_in, card_in, changed}
use Rattle.wiegand.specs.declared.Factor.{Factor}
use Rattle.wiegand.specs.declared.NotTwentySixBits.{NotTwentySixBits}

-- One name that opens the definitions.
unfoldable pub readers : Unit {0}
unfolding field digits bits number_of facility_of card_of number_of_ones is_even is_odd first_parity last_parity factor reading_error factor_of read_wiegand26 between first_parity_bit last_parity_bit written write_wiegand26 facility_in card_in changed
readers = tt

-- A factor of format 8 with its last three octets, as a value and as what is read; a reading error; nothing made.
value : ℕ → ℕ → ℕ → Factor
value a b c = record { format = 8; value = 0 ∷ 0 ∷ 0 ∷ 0 ∷ 0 ∷ a ∷ b ∷ c ∷ [] }

octets : ℕ → ℕ → ℕ → Result Factor NotTwentySixBits
octets a b c = Ok (value a b c)

error : Result Factor NotTwentySixBits
error = Ok (record { format = 1; value = 0 ∷ 0 ∷ 0 ∷ 0 ∷ 0 ∷ 0 ∷ 0 ∷ 0 ∷ [] })

nothing : Result Factor NotTwentySixBits
nothing = Err not_twenty_six_bits

-- ── bits and numbers

pub record BitCases : Type 0 where
  -- 11 in four bits, the first bit highest; of a longer number the last bits; no bits.
  of_number :
      bits 4 11 ∷ bits 4 2 ∷ bits 4 27 ∷ bits 0 11 ∷ []
      ≡ (true ∷ false ∷ true ∷ true ∷ []) ∷ (false ∷ false ∷ true ∷ false ∷ []) ∷ (true ∷ false ∷ true ∷ true ∷ []) ∷ [] ∷ []
  to_number : number_of (true ∷ false ∷ true ∷ true ∷ []) ∷ number_of (false ∷ false ∷ true ∷ false ∷ []) ∷ number_of [] ∷ [] ≡ 11 ∷ 2 ∷ 0 ∷ []
  ones : number_of_ones (true ∷ false ∷ true ∷ true ∷ []) ∷ number_of_ones (false ∷ false ∷ true ∷ false ∷ []) ∷ number_of_ones [] ∷ [] ≡ 3 ∷ 1 ∷ 0 ∷ []
  -- No ones are an even number of them.
  even : is_even 0 ∷ is_even 1 ∷ is_even 2 ∷ is_even 13 ∷ [] ≡ true ∷ false ∷ true ∷ false ∷ []
  odd : is_odd 0 ∷ is_odd 1 ∷ is_odd 2 ∷ is_odd 13 ∷ [] ≡ false ∷ true ∷ false ∷ true ∷ []
  -- Facility 0xA5 and card 0x1234: three bytes that differ.
  together : between 0xA5 0x1234 ≡ bits 24 0xA51234
  apart : facility_of (bits 26 0x34A2469) ∷ card_of (bits 26 0x34A2469) ∷ [] ≡ 0xA5 ∷ 0x1234 ∷ []
  in_value : facility_in (value 0xA5 0x12 0x34) ∷ card_in (value 0xA5 0x12 0x34) ∷ [] ≡ 0xA5 ∷ 0x1234 ∷ []

pub bit_cases : BitCases
unfolding readers value octets
bit_cases =
    record { of_number = refl; to_number = refl; ones = refl; even = refl; odd = refl; together = refl; apart = refl; in_value = refl }

-- ── cards to bits and back

pub record CardCases : Type 0 where
  -- 002's own card: "facility code =131 (X'83') and card number 77 (X'004D')", "(WIEGAND26, 0, X'83004D')".
  own_written : written 131 77 ≡
      true ∷ true ∷ false ∷ false ∷ false ∷ false ∷ false ∷ true ∷ true ∷ false ∷ false ∷ false ∷ false ∷ false ∷ false ∷ false ∷ false ∷ false ∷ true ∷ false ∷ false ∷ true ∷ true ∷ false ∷ true ∷ true ∷ []
  own_number : write_wiegand26 131 77 ≡ 50725019
  own_bits : bits 26 50725019 ≡ written 131 77
  own_read : read_wiegand26 50725019 26 ≡ octets 0x83 0x00 0x4D
  own_parts : facility_in (value 0x83 0x00 0x4D) ∷ card_in (value 0x83 0x00 0x4D) ∷ [] ≡ 131 ∷ 77 ∷ []
  -- The smallest and the largest facility and card; a facility and a card of one bit, at either end.
  numbers :
      write_wiegand26 0 0 ∷ write_wiegand26 0 65535 ∷ write_wiegand26 255 0 ∷ write_wiegand26 255 65535 ∷ write_wiegand26 1 32768 ∷ write_wiegand26 128 1 ∷ []
      ≡ 1 ∷ 131071 ∷ 33423361 ∷ 33554431 ∷ 196609 ∷ 50331650 ∷ []
  readings :
      read_wiegand26 1 26 ∷ read_wiegand26 131071 26 ∷ read_wiegand26 33423361 26 ∷ read_wiegand26 33554431 26 ∷ read_wiegand26 196609 26 ∷ read_wiegand26 50331650 26 ∷ []
      ≡ octets 0x00 0x00 0x00 ∷ octets 0x00 0xFF 0xFF ∷ octets 0xFF 0x00 0x00 ∷ octets 0xFF 0xFF 0xFF ∷ octets 0x01 0x80 0x00 ∷ octets 0x80 0x00 0x01 ∷ []

pub card_cases : CardCases
unfolding readers value octets
card_cases =
    record { own_written = refl; own_number = refl; own_bits = refl; own_read = refl; own_parts = refl; numbers = refl; readings = refl }

-- ── turned away, and wrong parity

pub record TurnedAwayCases : Type 0 where
  -- 67,108,863 is 26 bits, all ones: an odd number of them in the first 13. The next number is turned away.
  largest : read_wiegand26 67108863 26 ∷ read_wiegand26 67108864 26 ∷ [] ≡ error ∷ nothing ∷ []
  -- A good card with a bit above it, as a longer reader would hand it over: bit 26, and bit 32, beyond four bytes.
  longer : read_wiegand26 117833883 26 ∷ read_wiegand26 4345692315 26 ∷ [] ≡ nothing ∷ nothing ∷ []
  -- Counts of 25, 26 and 27, and of none; 282, which in one byte is 26.
  counts :
      read_wiegand26 50725019 25 ∷ read_wiegand26 50725019 26 ∷ read_wiegand26 50725019 27 ∷ read_wiegand26 50725019 0 ∷ read_wiegand26 50725019 282 ∷ []
      ≡ nothing ∷ octets 0x83 0x00 0x4D ∷ nothing ∷ nothing ∷ nothing ∷ []
  -- 1 is a good card, and a number of 25 bits as well.
  fewer : read_wiegand26 1 25 ∷ read_wiegand26 1 26 ∷ [] ≡ nothing ∷ octets 0x00 0x00 0x00 ∷ []
  -- The count is asked before parity: wrong parity in 27 bits is no reading error.
  order : read_wiegand26 0 27 ∷ read_wiegand26 0 26 ∷ [] ≡ nothing ∷ error ∷ []
  -- Their numbers.
  returned : returned_number (read_wiegand26 0 27) ∷ returned_number (read_wiegand26 0 26) ∷ [] ≡ 17 ∷ 0 ∷ []

pub turned_away_cases : TurnedAwayCases
unfolding readers value octets error nothing
turned_away_cases =
    record { largest = refl; longer = refl; counts = refl; fewer = refl; order = refl; returned = refl }

pub record ParityCases : Type 0 where
  -- The first parity wrong, the last, both at once.
  wrong : read_wiegand26 17170587 26 ∷ read_wiegand26 50725018 26 ∷ read_wiegand26 17170586 26 ∷ [] ≡ error ∷ error ∷ error ∷ []
  parities :
      first_parity (bits 26 17170587) ∷ last_parity (bits 26 17170587) ∷ first_parity (bits 26 50725018) ∷ last_parity (bits 26 50725018) ∷ []
      ≡ false ∷ true ∷ true ∷ false ∷ []
  -- The same by changed bits.
  changed_bits :
      changed 25 50725019 ∷ changed 0 50725019 ∷ changed 0 (changed 25 50725019) ∷ changed 3 0 ∷ changed 3 8 ∷ changed 3 7 ∷ []
      ≡ 17170587 ∷ 50725018 ∷ 17170586 ∷ 8 ∷ 0 ∷ 15 ∷ []
  -- Two changed bits in the same half are not found: another card, another facility.
  not_found : read_wiegand26 (changed 1 (changed 2 50725019)) 26 ∷ read_wiegand26 (changed 25 (changed 24 50725019)) 26 ∷ [] ≡ octets 0x83 0x00 0x4E ∷ octets 0x03 0x00 0x4D ∷ []

pub parity_cases : ParityCases
unfolding readers value octets error
parity_cases = record { wrong = refl; parities = refl; changed_bits = refl; not_found = refl }
