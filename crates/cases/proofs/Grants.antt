-- "Grant": counts, the credential's zone, uses and days, failures, marks 8 and 32.
use Prim.Native.Nat.{ℕ}
use mathlib.Core.Path.{◌≡◌, refl}
use mathlib.Core.List.{List, [], ◌∷◌, ◌++◌}
use Rattle.cases.proofs.Change.{Field}
use Rattle.cases.proofs.Fields.{flags, passback, mode, factors_wanted, zone_to_field, zone_from_field, most, failures, uses, days, last_use, in_zone, disabled, last_grant_field}
use Rattle.cases.proofs.Bytes.{shows, site, state, passing, inside, from_state, answered, worked, bytes}

-- Point 2 from zone 8 into zone 7 with count adjust, and other flags; 5 in zone 7, 3 in zone 8, credential 5 in zone 8.
unfoldable pub through : List Field → List Field → List Field → List (List ℕ)
through hs ys ds = passing hs ys (flags 8 ∷ ds) []

unfoldable pub before : List (List ℕ)
before = inside 5 3 (in_zone 8 ∷ [])

pub record Counts : Type 0 where
  -- "with count adjust, a counting Zone_To gains 1 and a counting Zone_From above 0 loses 1. The credential's zone becomes Zone_To .. entered
  -- is now if there is a Zone_To." The answer has the count after the entry.
  moved :
      worked (from_state (through [] [] []) before (shows 2000 0x55 ∷ []))
      ≡ 0x0001_01_00_0000000B_00000005_00000006
      ∷ 0x00000006_00000000000000000000000000000000000000000000000000000000
      ∷ 0x00000002_00000000000000000000000000000000000000000000000000000000
      ∷ 0x0000000B_00_00_0000_000003E8_00000384_003FFFFF_00000320_0000000000000000
      ∷ 0x0008_0008_000007D0_00000007_000007D0_0001_00_00_00000002_000007D0_00000000 ∷ []
  -- Without count adjust the zone and the time are written, no count.
  not_adjusted :
      worked (from_state (passing [] [] (flags 0x10 ∷ []) []) before (shows 2000 0x55 ∷ []))
      ≡ 0x0001_09_00_0000000B_00000005_00000005
      ∷ 0x00000005_00000000000000000000000000000000000000000000000000000000
      ∷ 0x00000003_00000000000000000000000000000000000000000000000000000000
      ∷ 0x0000000B_00_00_0000_000003E8_00000384_003FFFFF_00000320_0000000000000000
      ∷ 0x0008_0008_000007D0_00000007_000007D0_0001_00_00_00000002_000007D0_00000000 ∷ []
  -- With marks 8, 32 and 2 too.
  marked :
      worked (from_state (passing [] [] (flags 0x18 ∷ []) (flags 0x18 ∷ [])) before (shows 2000 0x55 ∷ []))
      ≡ 0x0001_2B_00_0000000B_00000005_00000006
      ∷ 0x00000006_00000000000000000000000000000000000000000000000000000000
      ∷ 0x00000002_00000000000000000000000000000000000000000000000000000000
      ∷ 0x0000000B_00_00_0000_000003E8_00000384_003FFFFF_00000320_0000000000000000
      ∷ 0x0008_0008_000007D0_00000007_000007D0_0001_00_00_00000002_000007D0_00000000 ∷ []
  -- "a counting Zone_To".
  to_uncounted :
      worked (from_state (through (flags 0 ∷ []) [] []) before (shows 2000 0x55 ∷ []))
      ≡ 0x0001_01_00_0000000B_00000005_00000005
      ∷ 0x00000005_00000000000000000000000000000000000000000000000000000000
      ∷ 0x00000002_00000000000000000000000000000000000000000000000000000000
      ∷ 0x0000000B_00_00_0000_000003E8_00000384_003FFFFF_00000320_0000000000000000
      ∷ 0x0008_0008_000007D0_00000007_000007D0_0001_00_00_00000002_000007D0_00000000 ∷ []
  -- "a counting Zone_From".
  from_uncounted :
      worked (from_state (through [] (flags 0 ∷ []) []) before (shows 2000 0x55 ∷ []))
      ≡ 0x0001_01_00_0000000B_00000005_00000006
      ∷ 0x00000006_00000000000000000000000000000000000000000000000000000000
      ∷ 0x00000003_00000000000000000000000000000000000000000000000000000000
      ∷ 0x0000000B_00_00_0000_000003E8_00000384_003FFFFF_00000320_0000000000000000
      ∷ 0x0008_0008_000007D0_00000007_000007D0_0001_00_00_00000002_000007D0_00000000 ∷ []
  -- "above 0": an empty Zone_From stays at 0.
  from_empty :
      worked (from_state (through [] [] []) (inside 0 0 []) (shows 2000 0x55 ∷ []))
      ≡ 0x0001_01_00_0000000B_00000005_00000001
      ∷ 0x00000001_00000000000000000000000000000000000000000000000000000000 ∷ 0
      ∷ 0x0000000B_00_00_0000_000003E8_00000384_003FFFFF_00000320_0000000000000000
      ∷ 0x0008_0008_000007D0_00000007_000007D0_0001_00_00_00000002_000007D0_00000000 ∷ []
  -- "else NONE if there is a Zone_From": entered stays; the answer's count is 0.
  out :
      worked (from_state (through [] [] (zone_to_field 4194303 ∷ [])) before (shows 2000 0x55 ∷ []))
      ≡ 0x0001_01_00_0000000B_00000005_00000000
      ∷ 0x00000005_00000000000000000000000000000000000000000000000000000000
      ∷ 0x00000002_00000000000000000000000000000000000000000000000000000000
      ∷ 0x0000000B_00_00_0000_000003E8_00000384_003FFFFF_00000320_0000000000000000
      ∷ 0x0008_0008_000007D0_003FFFFF_000003E8_0001_00_00_00000002_000007D0_00000000 ∷ []
  -- "else stays".
  nowhere :
      worked (from_state (through [] [] (zone_to_field 4194303 ∷ zone_from_field 4194303 ∷ [])) before (shows 2000 0x55 ∷ []))
      ≡ 0x0001_01_00_0000000B_00000005_00000000
      ∷ 0x00000005_00000000000000000000000000000000000000000000000000000000
      ∷ 0x00000003_00000000000000000000000000000000000000000000000000000000
      ∷ 0x0000000B_00_00_0000_000003E8_00000384_003FFFFF_00000320_0000000000000000
      ∷ 0x0008_0008_000007D0_00000008_000003E8_0001_00_00_00000002_000007D0_00000000 ∷ []
  -- A Zone_To alone.
  into :
      worked (from_state (through [] [] (zone_from_field 4194303 ∷ [])) before (shows 2000 0x55 ∷ []))
      ≡ 0x0001_01_00_0000000B_00000005_00000006
      ∷ 0x00000006_00000000000000000000000000000000000000000000000000000000
      ∷ 0x00000003_00000000000000000000000000000000000000000000000000000000
      ∷ 0x0000000B_00_00_0000_000003E8_00000384_003FFFFF_00000320_0000000000000000
      ∷ 0x0008_0008_000007D0_00000007_000007D0_0001_00_00_00000002_000007D0_00000000 ∷ []
  -- Denied a day later: of the credential last use, event and point alone; the answer has the count.
  denied :
      worked (from_state (through [] [] (mode 2 ∷ [])) before (shows 86400 0x55 ∷ []))
      ≡ 0x0080_01_00_0000000B_00000005_00000005
      ∷ 0x00000005_00000000000000000000000000000000000000000000000000000000
      ∷ 0x00000003_00000000000000000000000000000000000000000000000000000000
      ∷ 0x0000000B_00_00_0000_000003E8_00000384_003FFFFF_00000320_0000000000000000
      ∷ 0x0009_0008_00015180_00000008_000003E8_0080_00_00_00000002_0000028A_00000000 ∷ []

pub counts : Counts
unfolding bytes through before
counts =
    record {
      moved = refl;
      not_adjusted = refl;
      marked = refl;
      to_uncounted = refl;
      from_uncounted = refl;
      from_empty = refl;
      out = refl;
      nowhere = refl;
      into = refl;
      denied = refl;
    }

-- ── uses and days

-- The credential's state after the card at a time, where fields of the state before are changed; point 2 has no zones.
unfoldable pub after : List Field → ℕ → List ℕ
after ss time = worked (from_state (site [] [] []) (state [] ss) (shows time 0x55 ∷ []))

-- Its answer and the point's state.
unfoldable pub granted : List ℕ
granted = 0x0001_01_00_0000000B_00000005_00000000 ∷ 0x0000000B_00_00_0000_000003E8_00000384_003FFFFF_00000320_0000000000000000 ∷ []

pub record Used : Type 0 where
  -- "Limited uses lose 1": the last of them; unlimited ones stay.
  uses_fall :
      after (uses 1 ∷ []) 701 ++ after (uses 65534 ∷ []) 701 ++ after (uses 65535 ∷ []) 701
      ≡ granted ++ (0x0000_0008_000002BD_003FFFFF_00000258_0001_00_00_00000002_000002BD_00000000 ∷ granted)
      ++ (0xFFFD_0008_000002BD_003FFFFF_00000258_0001_00_00_00000002_000002BD_00000000 ∷ granted)
      ++ (0xFFFF_0008_000002BD_003FFFFF_00000258_0001_00_00_00000002_000002BD_00000000 ∷ [])
  -- "A grant takes one of limited days if .. today's date is later than the last grant's": granted at 650, the end of that day and the next day's start.
  days_fall :
      after [] 86399 ++ after [] 86400
      ≡ granted ++ (0x0008_0008_0001517F_003FFFFF_00000258_0001_00_00_00000002_0001517F_00000000 ∷ granted)
      ++ (0x0008_0007_00015180_003FFFFF_00000258_0001_00_00_00000002_00015180_00000000 ∷ [])
  -- "if the card has no earlier grant": on any day; the last of the days; unlimited ones stay.
  never_granted :
      after (last_grant_field 0xFFFFFFFF ∷ []) 100 ++ after (last_grant_field 0xFFFFFFFF ∷ days 1 ∷ []) 100 ++ after (last_grant_field 0xFFFFFFFF ∷ days 65535 ∷ []) 100
      ≡ granted ++ (0x0008_0007_00000064_003FFFFF_00000258_0001_00_00_00000002_00000064_00000000 ∷ granted)
      ++ (0x0008_0000_00000064_003FFFFF_00000258_0001_00_00_00000002_00000064_00000000 ∷ granted)
      ++ (0x0008_FFFF_00000064_003FFFFF_00000258_0001_00_00_00000002_00000064_00000000 ∷ [])
  -- A clock set back over midnight; the second day, where the zone was entered on the first; days on the next day, limited and unlimited.
  other_days :
      after (last_grant_field 86400 ∷ []) 86399 ++ after (last_grant_field 86400 ∷ []) 86401 ++ after (days 65534 ∷ []) 86400 ++ after (days 65535 ∷ []) 86400
      ≡ granted ++ (0x0008_0008_0001517F_003FFFFF_00000258_0001_00_00_00000002_0001517F_00000000 ∷ granted)
      ++ (0x0008_0008_00015181_003FFFFF_00000258_0001_00_00_00000002_00015181_00000000 ∷ granted)
      ++ (0x0008_FFFD_00015180_003FFFFF_00000258_0001_00_00_00000002_00015180_00000000 ∷ granted)
      ++ (0x0008_FFFF_00015180_003FFFFF_00000258_0001_00_00_00000002_00015180_00000000 ∷ [])
  -- Last use has no part in it: never, on the day of the grant, on a later one.
  by_last_use :
      after (last_use 0xFFFFFFFF ∷ []) 701 ++ after (last_use 86400 ∷ []) 86400 ++ after (last_use 172800 ∷ []) 86400
      ≡ granted ++ (0x0008_0008_000002BD_003FFFFF_00000258_0001_00_00_00000002_000002BD_00000000 ∷ granted)
      ++ (0x0008_0007_00015180_003FFFFF_00000258_0001_00_00_00000002_00015180_00000000 ∷ granted)
      ++ (0x0008_0007_00015180_003FFFFF_00000258_0001_00_00_00000002_00015180_00000000 ∷ [])

pub used : Used
unfolding bytes after granted
used = record { uses_fall = refl; days_fall = refl; never_granted = refl; other_days = refl; by_last_use = refl }

-- ── failures and marks

pub record Flagged : Type 0 where
  -- "Failures become 0."
  failures_end :
      worked (from_state (site (most 3 ∷ []) [] []) (state (failures 2 ∷ []) []) (shows 701 0x55 ∷ []))
      ≡ granted ++ (0x0008_0008_000002BD_003FFFFF_00000258_0001_00_00_00000002_000002BD_00000000 ∷ [])
  -- "Marks 8, 32 as flagged": muster of the point, extended time of the credential, both; the other flags of both set none but trace.
  marks :
      answered (from_state (site (flags 0x10 ∷ []) [] []) (state [] []) (shows 701 0x55 ∷ []))
      ++ answered (from_state (site [] (flags 0x10 ∷ []) []) (state [] []) (shows 701 0x55 ∷ []))
      ++ answered (from_state (site (flags 0x10 ∷ []) (flags 0x10 ∷ []) []) (state [] []) (shows 701 0x55 ∷ []))
      ++ answered (from_state (site (flags 0xE ∷ []) (flags 0xF ∷ []) []) (state [] []) (shows 701 0x55 ∷ []))
      ≡ 0x0001_09_00_0000000B_00000005_00000000 ∷ 0x0001_21_00_0000000B_00000005_00000000
      ∷ 0x0001_29_00_0000000B_00000005_00000000 ∷ 0x0001_03_00_0000000B_00000005_00000000 ∷ []
  -- On no denial.
  marks_denied :
      answered (from_state (site (flags 0x10 ∷ []) (flags 0x10 ∷ []) []) (state [] (disabled 1 ∷ [])) (shows 701 0x55 ∷ []))
      ≡ 0x009E_01_00_0000000B_00000005_00000000 ∷ []
  -- The wait for a second factor is no grant: no count, no mark but trace.
  waiting :
      worked
      (from_state (passing (passback 2 ∷ []) [] (flags 0x18 ∷ factors_wanted 2 ∷ []) (flags 0x18 ∷ [])) (inside 5 3 []) (shows 1001 0x55 ∷ []))
      ≡ 0x0000_03_00_0000000B_00000005_00000005
      ∷ 0x00000005_00000000000000000000000000000000000000000000000000000000
      ∷ 0x00000003_00000000000000000000000000000000000000000000000000000000
      ∷ 0x0000000B_00_00_0000_000003E8_00000384_00000005_000003E9_0000000000000000
      ∷ 0x0009_0008_000002BC_00000007_000003E8_0080_00_00_003FFFFF_0000028A_00000000 ∷ []

pub flagged : Flagged
unfolding bytes granted
flagged = record { failures_end = refl; marks = refl; marks_denied = refl; waiting = refl }
