-- Document 02, job 8: "The standby panel receives the whole state over a slow line, and most of it is the zeros of rules and factors." An installed panel's
-- longer state in the middle of a day, brought to the standby panel and back, and the same journals on both. What is turned back is in Across.
use Prim.Native.Nat.{ℕ, ◌*◌}
use mathlib.Core.Path.{◌≡◌, refl}
use mathlib.Core.List.{List, [], ◌∷◌, map, flatten}
use Rattle.std.specs.Prelude.{Ok}
use lib.ListN.{length, replicate}
use Rattle.octets.specs.Octets.{digits}
use Rattle.model.specs.State.{state_length}
use Rattle.model.specs.Calls.{number, state_result, RunResult, fresh_state}
use Rattle.model.specs.Lists.{Run, run_on, results}
use Rattle.model.specs.Longer.{long_fresh, long_run_on, long_results, shorten_state, lengthen_state}
use Rattle.cases.proofs.Change.{with_fields}
use Rattle.cases.proofs.Fields.{instance, flags, mode, factors_wanted, zone_to_field, most, most_tries_field, days_given, first_rights, value}
use Rattle.cases.proofs.Bytes.{door, hall, rule, person, card, pin, entry, answered, bytes}
use Rattle.cases.proofs.WrongTries.{shows_at, types_at}
use Rattle.model.proofs.Open.{longs}

-- ── a small campus

-- Zone 7; point 2 into it, in AUTHORIZE, which wants two factors; point 3, which locks at the third failure; credential 5 by rule 9, and 6, of five days, by
-- rule 10, each with a card and a code; a rule that is disabled. Records without state stand
-- first, last and between.
unfoldable pub campus : List ℕ
campus =
    flatten
    (rule ∷ hall ∷ with_fields (flags 8 ∷ mode 0 ∷ factors_wanted 2 ∷ zone_to_field 7 ∷ []) door
    ∷ card ∷ with_fields (most_tries_field 3 ∷ first_rights 9 ∷ []) person ∷ pin
    ∷ with_fields (instance 10 ∷ []) rule ∷ with_fields (instance 3 ∷ most 3 ∷ []) door
    ∷ with_fields (instance 6 ∷ most_tries_field 3 ∷ days_given 5 ∷ first_rights 10 ∷ []) person
    ∷ with_fields (instance 6 ∷ value 0x56 ∷ []) card ∷ with_fields (instance 6 ∷ value 0x67 ∷ []) pin
    ∷ with_fields (instance 10 ∷ flags 4 ∷ []) rule ∷ [])

-- A run of entries, over other bytes.
unfoldable run : List (List ℕ) → Run
run journal = record { journal = flatten journal; answers = replicate (length journal * 16) 9 }

-- One that is turned back.
unfoldable cut : Run
cut = record { journal = 1 ∷ []; answers = [] }

-- 5 passes with card and code; an unknown card at point 3; 6's card with a wrong code, and once more: point 2 waits.
unfoldable morning : List (List ℕ)
morning =
    shows_at 2 0x100 0x55 ∷ types_at 2 0x101 0x66 ∷ shows_at 3 0x110 0x77
    ∷ shows_at 2 0x120 0x56 ∷ types_at 2 0x121 0x99 ∷ shows_at 2 0x130 0x56 ∷ []

-- 6's right code; unknown cards at point 3 until it locks, and 5's; 5 set to MANUAL, and tried; the zone's count less one; that of a zone that is not
-- there.
unfoldable afternoon : List (List ℕ)
afternoon =
    types_at 2 0x131 0x67 ∷ shows_at 3 0x140 0x77 ∷ shows_at 3 0x141 0x78 ∷ shows_at 3 0x142 0x55 ∷ entry 4 2 0x150 5 0 0
    ∷ shows_at 2 0x160 0x55 ∷ types_at 2 0x161 0x66 ∷ entry 3 0 0x170 7 0xFFFFFFFF 0 ∷ entry 3 0 0x171 8 1 0 ∷ []

-- The records of a state, as numbers of 32 bytes: of zone 7, points 2 and 3, credentials 5 and 6.
pub record Kept : Type 0 where
  pub zone : ℕ
  pub entrance : ℕ
  pub five : ℕ
  pub side : ℕ
  pub six : ℕ

-- The shorter state of them, and the longer one.
unfoldable pub short_of : Kept → List ℕ
short_of k = flatten (map (digits 32) (k.zone ∷ k.entrance ∷ k.five ∷ k.side ∷ k.six ∷ []))

unfoldable pub long_of : Kept → List ℕ
long_of k = flatten (map (digits 32) (0 ∷ k.zone ∷ k.entrance ∷ 0 ∷ k.five ∷ 0 ∷ 0 ∷ k.side ∷ k.six ∷ 0 ∷ 0 ∷ 0 ∷ []))

-- In the middle of the day, and in the evening.
unfoldable pub midday : Kept
midday =
    record {
      zone = 0x00000001_00000000000000000000000000000000000000000000000000000000;
      entrance = 0x00000005_00_00_0000_00000000_00000000_00000006_00000130_0000000000000000;
      five = 0xFFFF_FFFF_00000101_00000007_00000101_0001_00_00_00000002_00000101_00000000;
      side = 0x00000001_01_00_0000_00000000_00000110_003FFFFF_00000000_0000000000000000;
      six = 0xFFFF_0005_00000121_003FFFFF_FFFFFFFF_0084_00_01_00000002_FFFFFFFF_00000000;
    }

unfoldable evening : Kept
evening =
    record {
      zone = 0x00000001_00000000000000000000000000000000000000000000000000000000;
      entrance = 0x00000008_00_00_0000_00000000_00000000_003FFFFF_00000160_0000000000000000;
      five = 0xFFFF_FFFF_00000161_00000007_00000101_0099_02_00_00000002_00000101_00000000;
      side = 0x00000004_00_01_0000_00000141_00000110_003FFFFF_00000000_0000000000000000;
      six = 0xFFFF_0004_00000131_00000007_00000131_0001_00_00_00000002_00000131_00000000;
    }

-- The answers of the morning and of the afternoon, as numbers of 16 bytes.
unfoldable morning_answers : List ℕ
morning_answers =
    0x0000_01_00_00000001_00000005_00000000 ∷ 0x0001_01_00_00000002_00000005_00000001 ∷ 0x0081_01_00_00000001_003FFFFF_00000000
    ∷ 0x0000_01_00_00000003_00000006_00000001 ∷ 0x0084_01_00_00000004_00000006_00000001 ∷ 0x0000_01_00_00000005_00000006_00000001 ∷ []

unfoldable afternoon_answers : List ℕ
afternoon_answers =
    0x0001_01_00_00000006_00000006_00000002 ∷ 0x0081_01_00_00000002_003FFFFF_00000000 ∷ 0x0081_11_00_00000003_003FFFFF_00000000
    ∷ 0x00A1_00_00_00000004_003FFFFF_00000000 ∷ 0x0000_00_00_00000000_00000005_00000000 ∷ 0x0000_01_00_00000007_00000005_00000002
    ∷ 0x0099_01_00_00000008_00000005_00000002 ∷ 0x0000_00_00_00000000_003FFFFF_00000001 ∷ 0x0000_00_08_00000000_003FFFFF_00000000 ∷ []

-- One name that opens these.
unfoldable pub standby_open : Unit {0}
unfolding bytes longs campus run cut morning afternoon short_of long_of midday evening morning_answers afternoon_answers shows_at types_at
standby_open = tt

-- What a run gives: its number, its answers as numbers of 16 bytes, and the state.
abbrev outcome : RunResult → ℕ × List ℕ × List ℕ
outcome r = (number r.returned, answered r, r.state)

pub record Story : Type 0 where
  -- "Half the state": 12 records, of which 5 have state.
  lengths : length campus ∷ length (long_fresh campus) ∷ state_length campus ∷ [] ≡ 384 ∷ 384 ∷ 160 ∷ []
  -- The installed panel, "run as until now" from fresh, to the middle of the day; the same from the shorter fresh state.
  installed : outcome (long_run_on campus (long_fresh campus) (run morning)) ≡ (0, morning_answers, long_of midday)
  installed_shorter : outcome (run_on campus (fresh_state campus (replicate 160 9)).state (run morning)) ≡ (0, morning_answers, short_of midday)
  -- Brought to the standby panel, over other bytes: the kept records, in site sequence.
  shortened : shorten_state campus (long_of midday) (replicate 160 9) ≡ state_result (Ok tt) (short_of midday)
  -- "each journal gets the same answers and leaves each kept record the same bytes": after one that is turned back, the afternoon.
  afternoon_longer :
      map outcome (long_results campus (long_of midday) (cut ∷ run afternoon ∷ []))
      ≡ (10, [], long_of midday) ∷ (0, afternoon_answers, long_of evening) ∷ []
  afternoon_shorter :
      map outcome (results campus (short_of midday) (cut ∷ run afternoon ∷ []))
      ≡ (10, [], short_of midday) ∷ (0, afternoon_answers, short_of evening) ∷ []
  -- Brought back: the longer state of before, and that which the afternoon leaves on it; zeros over other bytes.
  brought_back : lengthen_state campus (short_of midday) (replicate 384 9) ≡ state_result (Ok tt) (long_of midday)
  evening_back : lengthen_state campus (short_of evening) (replicate 384 9) ≡ state_result (Ok tt) (long_of evening)
  evening_shortened : shorten_state campus (long_of evening) (replicate 160 9) ≡ state_result (Ok tt) (short_of evening)

pub story_cases : Story
unfolding standby_open
story_cases =
    record {
      lengths = refl;
      installed = refl;
      installed_shorter = refl;
      shortened = refl;
      afternoon_longer = refl;
      afternoon_shorter = refl;
      brought_back = refl;
      evening_back = refl;
      evening_shortened = refl;
    }
