-- Steps 10 and 11: passback, occupancy limits, the largest count.
use Prim.Native.Nat.{ℕ}
use mathlib.Core.Path.{◌≡◌, refl}
use mathlib.Core.List.{List, [], ◌∷◌, ◌++◌}
use Rattle.cases.proofs.Change.{Field}
use Rattle.cases.proofs.Fields.{flags, passback, upper, lower, passback_timeout, mode, zone_to_field, zone_from_field, threat, in_zone, entered, disabled}
use Rattle.cases.proofs.Bytes.{shows, passing, inside, from_state, answered, told, worked, bytes}

-- ── passback

-- The answer to the card at a time, where fields are changed of zone 7, of credential 5 and of its state: in zone 7 since 1000.
unfoldable pub again : List Field → List Field → List Field → ℕ → List ℕ
again hs ps ss time = answered (from_state (passing hs [] [] ps) (inside 0 0 ss) (shows time 0x55 ∷ []))

-- The answers that come: 138; granted; granted with mark 4.
unfoldable pub denied : List ℕ
denied = 0x008A_01_00_0000000B_00000005_00000000 ∷ []

unfoldable pub granted : List ℕ
granted = 0x0001_01_00_0000000B_00000005_00000000 ∷ []

unfoldable pub detected : List ℕ
detected = 0x0001_05_00_0000000B_00000005_00000000 ∷ []

pub record Passback : Type 0 where
  -- "by Zone_To's passback, hard 138, soft mark 4"; "passback 0 off".
  kinds :
      again (passback 1 ∷ []) [] [] 1001 ++ again (passback 2 ∷ []) [] [] 1001 ++ again (passback 0 ∷ []) [] [] 1001
      ≡ denied ++ detected ++ granted
  -- "elapsed since entered < timeout × 60": ten minutes less a second, ten minutes, a clock set back.
  timed :
      again (passback 1 ∷ passback_timeout 10 ∷ []) [] [] 1599 ++ again (passback 1 ∷ passback_timeout 10 ∷ []) [] [] 1600
      ++ again (passback 1 ∷ passback_timeout 10 ∷ []) [] [] 500
      ≡ denied ++ granted ++ denied
  shortest :
      again (passback 1 ∷ passback_timeout 1 ∷ []) [] [] 1059 ++ again (passback 1 ∷ passback_timeout 1 ∷ []) [] [] 1060
      ≡ denied ++ granted
  timed_soft :
      again (passback 2 ∷ passback_timeout 10 ∷ []) [] [] 1599 ++ again (passback 2 ∷ passback_timeout 10 ∷ []) [] [] 1600
      ≡ detected ++ granted
  -- "its timeout is unset"; a timeout that passes four bytes of seconds; never entered.
  long :
      again (passback 1 ∷ []) [] [] 4294967294 ++ again (passback 1 ∷ passback_timeout 0x05000000 ∷ []) [] [] 4294967294
      ++ again (passback 1 ∷ passback_timeout 1 ∷ []) [] (entered 0xFFFFFFFF ∷ []) 4294967294
      ≡ denied ++ denied ++ denied
  -- "Unless exempt": by flag 1, and by no other flag.
  exempt :
      again (passback 1 ∷ []) (flags 2 ∷ []) [] 1001 ++ again (passback 2 ∷ []) (flags 2 ∷ []) [] 1001
      ++ again (passback 1 ∷ []) (flags 4 ∷ []) [] 1001
      ≡ granted ++ granted ++ denied
  -- "Zone_To is .. the credential's zone": it is in zone 8, in none; in zone 7 and goes into zone 8.
  elsewhere :
      again (passback 1 ∷ []) [] (in_zone 8 ∷ []) 1001 ++ again (passback 1 ∷ []) [] (in_zone 4194303 ∷ []) 1001
      ++ answered (from_state (passing [] (passback 1 ∷ []) (zone_to_field 8 ∷ zone_from_field 7 ∷ []) []) (inside 0 0 []) (shows 1001 0x55 ∷ []))
      ≡ granted ++ granted ++ granted
  -- A zone that does not count; Zone_From's passback; no Zone_To and no zone.
  other_zones :
      again (flags 0 ∷ passback 1 ∷ []) [] [] 1001
      ++ answered (from_state (passing [] (passback 1 ∷ []) [] []) (inside 0 0 []) (shows 1001 0x55 ∷ []))
      ++ answered
      (from_state (passing (passback 1 ∷ []) (passback 1 ∷ []) (zone_to_field 4194303 ∷ []) []) (inside 0 0 (in_zone 4194303 ∷ []))
      (shows 1001 0x55 ∷ []))
      ≡ denied ++ granted ++ granted
  -- 133 before 138. "soft mark 4" where the checks came to it: not before 158, 128, 137 and 133, nor for masters.
  before :
      told (from_state (passing (passback 1 ∷ []) [] (mode 0 ∷ []) []) (inside 0 0 []) (shows 1001 0x55 ∷ []))
      ++ answered (from_state (passing (passback 2 ∷ []) [] [] []) (inside 0 0 (disabled 1 ∷ [])) (shows 1001 0x55 ∷ []))
      ++ answered (from_state (passing (passback 2 ∷ []) [] (mode 2 ∷ []) []) (inside 0 0 []) (shows 1001 0x55 ∷ []))
      ++ answered (from_state (passing (passback 2 ∷ []) [] (threat 1 ∷ []) []) (inside 0 0 []) (shows 1001 0x55 ∷ []))
      ++ answered (from_state (passing (passback 2 ∷ []) [] (mode 0 ∷ []) []) (inside 0 0 []) (shows 1001 0x55 ∷ []))
      ++ again (passback 2 ∷ []) (flags 1 ∷ []) [] 1001
      ≡ 133 ∷ 0x009E_01_00_0000000B_00000005_00000000 ∷ 0x0080_01_00_0000000B_00000005_00000000
      ∷ 0x0089_01_00_0000000B_00000005_00000000 ∷ 0x0085_01_00_0000000B_00000005_00000000 ∷ granted

pub passback_cases : Passback
unfolding bytes again denied granted detected
passback_cases =
    record {
      kinds = refl;
      timed = refl;
      shortest = refl;
      timed_soft = refl;
      long = refl;
      exempt = refl;
      elsewhere = refl;
      other_zones = refl;
      before = refl;
    }

-- ── limits

-- The events of the card where zones 7 and 8 hold these counts, and fields are changed of zones 7 and 8, point 2 and credential 5. The
-- credential is in no zone.
unfoldable pub full : ℕ → ℕ → List Field → List Field → List Field → List Field → List ℕ
full to from hs ys ds ps = told (from_state (passing hs ys ds ps) (inside to from (in_zone 4194303 ∷ [])) (shows 1001 0x55 ∷ []))

pub record Limits : Type 0 where
  -- "lower enforced, Zone_From counting, lower set, count ≤ lower: 141".
  lowest :
      full 9 2 [] (lower 3 ∷ []) (flags 4 ∷ []) [] ++ full 9 3 [] (lower 3 ∷ []) (flags 4 ∷ []) []
      ++ full 9 4 [] (lower 3 ∷ []) (flags 4 ∷ []) [] ++ full 9 1 [] (lower 1 ∷ []) (flags 4 ∷ []) []
      ≡ 141 ∷ 141 ∷ 1 ∷ 141 ∷ []
  -- Exempt, by flag 2 and no other; upper enforced alone; a zone that does not count; unset; the limit of the other zone; no Zone_From.
  lowest_unless :
      full 9 2 [] (lower 3 ∷ []) (flags 4 ∷ []) (flags 4 ∷ []) ++ full 9 2 [] (lower 3 ∷ []) (flags 4 ∷ []) (flags 0x1A ∷ [])
      ++ full 9 2 [] (lower 3 ∷ []) (flags 0x1A ∷ []) [] ++ full 9 2 [] (flags 0 ∷ lower 3 ∷ []) (flags 4 ∷ []) []
      ++ full 9 0 [] [] (flags 4 ∷ []) [] ++ full 2 2 (lower 3 ∷ []) (upper 3 ∷ []) (flags 4 ∷ []) []
      ++ full 2 2 [] (lower 3 ∷ []) (flags 4 ∷ zone_from_field 4194303 ∷ []) []
      ≡ 1 ∷ 141 ∷ 1 ∷ 1 ∷ 1 ∷ 1 ∷ 1 ∷ []
  -- "then upper likewise for Zone_To, count ≥ upper: 142".
  highest :
      full 2 9 (upper 3 ∷ []) [] (flags 2 ∷ []) [] ++ full 3 9 (upper 3 ∷ []) [] (flags 2 ∷ []) []
      ++ full 4 9 (upper 3 ∷ []) [] (flags 2 ∷ []) [] ++ full 1 9 (upper 1 ∷ []) [] (flags 2 ∷ []) []
      ≡ 1 ∷ 142 ∷ 142 ∷ 142 ∷ []
  highest_unless :
      full 3 9 (upper 3 ∷ []) [] (flags 2 ∷ []) (flags 4 ∷ []) ++ full 3 9 (upper 3 ∷ []) [] (flags 2 ∷ []) (flags 0x1A ∷ [])
      ++ full 3 9 (upper 3 ∷ []) [] (flags 0x1C ∷ []) [] ++ full 3 9 (flags 0 ∷ upper 3 ∷ []) [] (flags 2 ∷ []) []
      ++ full 0 9 [] [] (flags 2 ∷ []) [] ++ full 9 9 (lower 3 ∷ []) (upper 3 ∷ []) (flags 2 ∷ []) []
      ++ full 9 9 (upper 3 ∷ []) [] (flags 2 ∷ zone_to_field 4194303 ∷ []) []
      ≡ 1 ∷ 142 ∷ 1 ∷ 1 ∷ 1 ∷ 1 ∷ 1 ∷ []
  -- 133 before both, 141 before 142, 142 before 164; 138 before each.
  order :
      full 3 3 (upper 3 ∷ []) (lower 3 ∷ []) (flags 6 ∷ mode 0 ∷ []) [] ++ full 3 3 (upper 3 ∷ []) (lower 3 ∷ []) (flags 6 ∷ []) []
      ++ full 0xFFFFFFFF 9 (upper 3 ∷ []) [] (flags 0xA ∷ []) []
      ++ told (from_state (passing (passback 1 ∷ upper 3 ∷ []) (lower 3 ∷ []) (flags 4 ∷ []) []) (inside 3 3 []) (shows 1001 0x55 ∷ []))
      ++ told (from_state (passing (passback 1 ∷ upper 3 ∷ []) (lower 3 ∷ []) (flags 2 ∷ []) []) (inside 3 3 []) (shows 1001 0x55 ∷ []))
      ++ told (from_state (passing (passback 1 ∷ []) [] (flags 8 ∷ []) []) (inside 0xFFFFFFFF 3 []) (shows 1001 0x55 ∷ []))
      ≡ 133 ∷ 141 ∷ 142 ∷ 138 ∷ 138 ∷ 138 ∷ []
  -- "Count adjust, Zone_To counting, count 4,294,967,295: 164": for masters and the exempt too.
  largest :
      full 0xFFFFFFFE 9 [] [] (flags 8 ∷ []) [] ++ full 0xFFFFFFFF 9 [] [] (flags 8 ∷ []) []
      ++ full 0xFFFFFFFF 9 [] [] (flags 8 ∷ []) (flags 1 ∷ []) ++ full 0xFFFFFFFF 9 [] [] (flags 8 ∷ []) (flags 6 ∷ [])
      ≡ 1 ∷ 164 ∷ 164 ∷ 164 ∷ []
  -- No count adjust; a zone that does not count; the count of Zone_From; no Zone_To.
  largest_unless :
      full 0xFFFFFFFF 9 [] [] (flags 0x16 ∷ []) [] ++ full 0xFFFFFFFF 9 (flags 0 ∷ []) [] (flags 8 ∷ []) []
      ++ full 9 0xFFFFFFFF [] [] (flags 8 ∷ []) [] ++ full 0xFFFFFFFF 9 [] [] (flags 8 ∷ zone_to_field 4194303 ∷ []) []
      ≡ 1 ∷ 1 ∷ 1 ∷ 1 ∷ []
  -- "Marks once set stay": mark 4 on 141, 142 and 164; counts, zone and entered stay.
  marked :
      answered (from_state (passing (passback 2 ∷ []) (lower 3 ∷ []) (flags 4 ∷ []) []) (inside 2 3 []) (shows 1001 0x55 ∷ []))
      ++ answered (from_state (passing (passback 2 ∷ upper 3 ∷ []) [] (flags 2 ∷ []) []) (inside 3 3 []) (shows 1001 0x55 ∷ []))
      ++ worked (from_state (passing (passback 2 ∷ []) [] (flags 8 ∷ []) []) (inside 0xFFFFFFFF 3 []) (shows 1001 0x55 ∷ []))
      ≡ 0x008D_05_00_0000000B_00000005_00000002 ∷ 0x008E_05_00_0000000B_00000005_00000003 ∷ 0x00A4_05_00_0000000B_00000005_FFFFFFFF
      ∷ 0xFFFFFFFF_00000000000000000000000000000000000000000000000000000000
      ∷ 0x00000003_00000000000000000000000000000000000000000000000000000000
      ∷ 0x0000000B_00_00_0000_000003E8_00000384_003FFFFF_00000320_0000000000000000
      ∷ 0x0009_0008_000003E9_00000007_000003E8_00A4_00_00_00000002_0000028A_00000000 ∷ []

pub limits : Limits
unfolding bytes full
limits =
    record {
      lowest = refl;
      lowest_unless = refl;
      highest = refl;
      highest_unless = refl;
      order = refl;
      largest = refl;
      largest_unless = refl;
      marked = refl;
    }
