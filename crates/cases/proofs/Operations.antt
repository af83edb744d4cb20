-- Operations 2 to 5, and refusals 7, 8 and 9 of an answer.
use Prim.Native.Nat.{ℕ}
use mathlib.Core.Path.{◌≡◌, refl}
use mathlib.Core.List.{List, [], ◌∷◌, ◌++◌}
use Rattle.model.specs.Step.{refused_number}
use Rattle.model.specs.declared.EntryRefusal.TheVariants.{Form, NoObject, Count}
use Rattle.cases.proofs.Change.{Field}
use Rattle.cases.proofs.Fields.{flags, most, relinquish, zone_to_field, tag, failures, locked, waiting_for, last_point, in_zone, entered}
use Rattle.cases.proofs.Bytes.{counted, entry, state, passing, inside, from_state, answered, worked, bytes}

-- The states of point 2 and of credential 5, where nothing wrote them.
unfoldable pub rest : List ℕ
rest =
    0x0000000A_00_00_0000_000003E8_00000384_003FFFFF_00000320_0000000000000000
    ∷ 0x0009_0008_000002BC_00000007_000003E8_0080_00_00_003FFFFF_0000028A_00000000 ∷ []

-- The answers of entries on zone 7, which holds 5.
unfoldable pub counting : List (List ℕ) → List ℕ
counting journal = answered (from_state (passing [] [] [] []) (inside 5 3 []) journal)

pub record Counting : Type 0 where
  -- "2. Set a zone's count to the amount." "Operations 2 to 4 give event 0 and tag 0"; "12 count .. (operations 2, 3: of the zone)".
  set :
      worked (from_state (passing [] [] [] []) (inside 5 3 []) (entry 2 0 100 7 0x01020304 0 ∷ []))
      ≡ 0x0000_00_00_00000000_003FFFFF_01020304
      ∷ 0x01020304_00000000000000000000000000000000000000000000000000000000
      ∷ 0x00000003_00000000000000000000000000000000000000000000000000000000 ∷ rest
  -- Any amount; a zone that does not count too.
  set_any :
      counting (entry 2 0 100 7 0xFFFFFFFF 0 ∷ entry 2 0 100 7 0 0 ∷ [])
      ++ answered (from_state (passing (flags 0 ∷ []) [] [] []) (inside 5 3 []) (entry 2 0 100 7 0x80000000 0 ∷ []))
      ≡ 0x0000_00_00_00000000_003FFFFF_FFFFFFFF ∷ 0x0000_00_00_00000000_003FFFFF_00000000
      ∷ 0x0000_00_00_00000000_003FFFFF_80000000 ∷ []
  -- "3. Adjust it by the amount, signed".
  adjust :
      worked (from_state (passing (flags 0 ∷ []) [] [] []) (inside 5 3 []) (entry 3 0 100 7 2 0 ∷ []))
      ≡ 0x0000_00_00_00000000_003FFFFF_00000007
      ∷ 0x00000007_00000000000000000000000000000000000000000000000000000000
      ∷ 0x00000003_00000000000000000000000000000000000000000000000000000000 ∷ rest
  -- "below zero becomes 0": 5 less 4, less 1, less 1; plus 0.
  falling :
      counting (entry 3 0 100 7 0xFFFFFFFC 0 ∷ entry 3 0 100 7 0xFFFFFFFF 0 ∷ entry 3 0 100 7 0xFFFFFFFF 0 ∷ entry 3 0 100 7 0 0 ∷ [])
      ≡ 0x0000_00_00_00000000_003FFFFF_00000001 ∷ 0x0000_00_00_00000000_003FFFFF_00000000
      ∷ 0x0000_00_00_00000000_003FFFFF_00000000 ∷ 0x0000_00_00_00000000_003FFFFF_00000000 ∷ []
  -- "signed": 5 and 2,147,483,647, the largest; less 2,147,483,648, the smallest, twice.
  signed :
      counting (entry 3 0 100 7 0x7FFFFFFF 0 ∷ entry 3 0 100 7 0x80000000 0 ∷ entry 3 0 100 7 0x80000000 0 ∷ [])
      ≡ 0x0000_00_00_00000000_003FFFFF_80000004 ∷ 0x0000_00_00_00000000_003FFFFF_00000004
      ∷ 0x0000_00_00_00000000_003FFFFF_00000000 ∷ []
  -- 9: "adjustment to a count above 4,294,967,295": not at it. "A refusing answer is zero but for byte 3 and credential NONE."
  above :
      answered
      (from_state (passing [] [] [] []) (inside 0xFFFFFFFE 3 [])
      (entry 3 0 100 7 2 0 ∷ entry 3 0 100 7 1 0 ∷ entry 3 0 100 7 1 0 ∷ entry 3 0 100 7 0 0 ∷ []))
      ≡ 0x0000_00_09_00000000_003FFFFF_00000000 ∷ 0x0000_00_00_00000000_003FFFFF_FFFFFFFF
      ∷ 0x0000_00_09_00000000_003FFFFF_00000000 ∷ 0x0000_00_00_00000000_003FFFFF_FFFFFFFF ∷ []
  -- Unchanged: the state.
  above_left :
      worked (from_state (passing [] [] [] []) (inside 0xFFFFFFFE 3 []) (entry 3 0 100 7 2 0 ∷ []))
      ≡ 0x0000_00_09_00000000_003FFFFF_00000000
      ∷ 0xFFFFFFFE_00000000000000000000000000000000000000000000000000000000
      ∷ 0x00000003_00000000000000000000000000000000000000000000000000000000 ∷ rest

pub counting_cases : Counting
unfolding bytes rest counting
counting_cases =
    record { set = refl; set_any = refl; adjust = refl; falling = refl; signed = refl; above = refl; above_left = refl }

-- ── operation 4

pub record Disabling : Type 0 where
  -- "4. Set a credential's disable to the argument, 0..3." "only 4 fills the credential"; "a state field not named here keeps its bytes".
  disable :
      worked (from_state (passing [] [] [] (flags 8 ∷ [])) (inside 5 3 (last_point 2 ∷ [])) (entry 4 3 100 5 0 0 ∷ []))
      ≡ 0x0000_00_00_00000000_00000005_00000000
      ∷ 0x00000005_00000000000000000000000000000000000000000000000000000000
      ∷ 0x00000003_00000000000000000000000000000000000000000000000000000000
      ∷ 0x0000000A_00_00_0000_000003E8_00000384_003FFFFF_00000320_0000000000000000
      ∷ 0x0009_0008_000002BC_00000007_000003E8_0080_03_00_00000002_0000028A_00000000 ∷ []

pub disabling : Disabling
unfolding bytes
disabling = record { disable = refl }

-- ── operation 5

-- An entry at point 2, which leads into zone 7, locks at the third failure and relinquishes after 60 seconds; with fields changed of the point
-- and of its state.
unfoldable pub service : List Field → List Field → List ℕ → List ℕ
service ds ss e =
    worked
    (from_state (passing [] [] (most 3 ∷ relinquish 60 ∷ ds) (flags 8 ∷ []))
    (counted 5 ∷ counted 3 ∷ state ss (in_zone 7 ∷ entered 1000 ∷ [])) (e ∷ []))

-- The states of the two zones; that of credential 5.
unfoldable pub zones : List ℕ
zones =
    0x00000005_00000000000000000000000000000000000000000000000000000000
    ∷ 0x00000003_00000000000000000000000000000000000000000000000000000000 ∷ []

unfoldable pub people : List ℕ
people = 0x0009_0008_000002BC_00000007_000003E8_0080_00_00_003FFFFF_0000028A_00000000 ∷ []

pub record Servicing : Type 0 where
  -- "argument 1 locks a point from now and drops its wait (event 7)"; "none sets a mark"; the count of Zone_To.
  locks :
      service [] (failures 2 ∷ waiting_for 5 ∷ []) (entry 5 1 2000 2 0 0)
      ≡ 0x0007_00_00_0000000B_003FFFFF_00000005 ∷ zones
      ++ (0x0000000B_02_01_0000_000007D0_00000384_003FFFFF_00000320_0000000000000000 ∷ people)
  -- Locked already, and out of service.
  locks_again :
      service (flags 1 ∷ []) (failures 2 ∷ locked 1 ∷ []) (entry 5 1 2000 2 0 0)
      ≡ 0x0007_00_00_0000000B_003FFFFF_00000005 ∷ zones
      ++ (0x0000000B_02_01_0000_000007D0_00000384_003FFFFF_00000320_0000000000000000 ∷ people)
  -- "0 unlocks and zeroes failures (event 8)".
  unlocks :
      service [] (failures 2 ∷ locked 1 ∷ []) (entry 5 0 2000 2 0 0)
      ≡ 0x0008_00_00_0000000B_003FFFFF_00000005 ∷ zones
      ++ (0x0000000B_00_00_0000_000003E8_00000384_003FFFFF_00000320_0000000000000000 ∷ people)
  -- The wait stays; out of service too.
  unlocks_waiting :
      service (flags 1 ∷ []) (failures 2 ∷ waiting_for 5 ∷ []) (entry 5 0 2000 2 0 0)
      ≡ 0x0008_00_00_0000000B_003FFFFF_00000005 ∷ zones
      ++ (0x0000000B_00_00_0000_000003E8_00000384_00000005_00000320_0000000000000000 ∷ people)
  -- "the tag gains 1 modulo 4,294,967,296"; without a Zone_To the count is 0.
  tag_turns :
      service (zone_to_field 4194303 ∷ []) (tag 0xFFFFFFFF ∷ []) (entry 5 1 2000 2 0 0)
      ≡ 0x0007_00_00_00000000_003FFFFF_00000000 ∷ zones
      ++ (0x00000000_00_01_0000_000007D0_00000384_003FFFFF_00000320_0000000000000000 ∷ people)

pub servicing : Servicing
unfolding bytes service zones people
servicing = record { locks = refl; locks_again = refl; unlocks = refl; unlocks_waiting = refl; tag_turns = refl }

-- ── refusals

pub record Refusals : Type 0 where
  -- "7, in an answer", "8, in an answer", "9, in an answer".
  numbers : refused_number Form ∷ refused_number NoObject ∷ refused_number Count ∷ [] ≡ 7 ∷ 8 ∷ 9 ∷ []
  -- "7 operation unknown, field .. out of range": 0 and 6; a format 0 at no point. "8 no such object": of any other kind there is one.
  refused :
      counting
      (entry 0 0 100 7 0 0 ∷ entry 6 0 100 7 0 0 ∷ entry 1 0 100 3 0 0 ∷ entry 1 2 100 7 0 0x55 ∷ entry 2 0 100 2 0 0
      ∷ entry 3 0 100 5 0 0 ∷ entry 4 0 100 2 0 0 ∷ entry 5 0 100 5 0 0 ∷ [])
      ≡ 0x0000_00_07_00000000_003FFFFF_00000000 ∷ 0x0000_00_07_00000000_003FFFFF_00000000
      ∷ 0x0000_00_07_00000000_003FFFFF_00000000 ∷ 0x0000_00_08_00000000_003FFFFF_00000000
      ∷ 0x0000_00_08_00000000_003FFFFF_00000000 ∷ 0x0000_00_08_00000000_003FFFFF_00000000
      ∷ 0x0000_00_08_00000000_003FFFFF_00000000 ∷ 0x0000_00_08_00000000_003FFFFF_00000000 ∷ []

pub refusals : Refusals
unfolding bytes counting
refusals = record { numbers = refl; refused = refl }
