-- Step 1: "Locked, relinquish set, elapsed ≥ it: unlock, failures 0, mark 64. Still locked: 161."
use Prim.Native.Nat.{ℕ}
use mathlib.Core.Path.{◌≡◌, refl}
use mathlib.Core.List.{List, [], ◌∷◌}
use Rattle.cases.proofs.Fields.{flags, mode, factors_wanted, most, relinquish, expiry, factor_disable_field, failures, locked, disabled}
use Rattle.cases.proofs.Bytes.{shows, errs, site, state, from_state, answered, told, worked, bytes}

-- Point 2 locks at the third failure and relinquishes after 60 seconds. Credential 5 is traced.
unfoldable pub locking : List (List ℕ)
locking = site (most 3 ∷ relinquish 60 ∷ []) (flags 8 ∷ []) []

-- It is locked since 1000, with two failures.
unfoldable pub shut : List (List ℕ)
shut = state (failures 2 ∷ locked 1 ∷ []) []

pub record Locked : Type 0 where
  -- "Still locked: 161": after 59 seconds, and by a clock set back. "mark 1 stands on all but 161"; nobody is named or traced.
  still :
      answered (from_state locking shut (shows 1059 0x55 ∷ shows 500 0x55 ∷ []))
      ≡ 0x00A1_00_00_0000000B_003FFFFF_00000000 ∷ 0x00A1_00_00_0000000C_003FFFFF_00000000 ∷ []
  -- The tag alone changes.
  still_left :
      worked (from_state locking shut (shows 1059 0x55 ∷ []))
      ≡ 0x00A1_00_00_0000000B_003FFFFF_00000000
      ∷ 0x0000000B_02_01_0000_000003E8_00000384_003FFFFF_00000320_0000000000000000
      ∷ 0x0009_0008_000002BC_003FFFFF_00000258_0080_00_00_003FFFFF_0000028A_00000000 ∷ []
  -- "relinquish set": 0 means unlimited.
  unset : told (from_state (site (most 3 ∷ []) [] []) shut (shows 4294967294 0x55 ∷ [])) ≡ 161 ∷ []
  -- A relinquish of one second.
  shortest :
      told (from_state (site (most 3 ∷ relinquish 1 ∷ []) [] []) shut (shows 1000 0x55 ∷ shows 1001 0x55 ∷ [])) ≡ 161 ∷ 1 ∷ []
  -- "elapsed ≥ it: unlock, failures 0, mark 64": after 60 seconds.
  relinquished :
      worked (from_state locking shut (shows 1060 0x55 ∷ []))
      ≡ 0x0001_43_00_0000000B_00000005_00000000
      ∷ 0x0000000B_00_00_0000_000003E8_00000384_003FFFFF_00000320_0000000000000000
      ∷ 0x0008_0008_00000424_003FFFFF_00000258_0001_00_00_00000002_00000424_00000000 ∷ []
  -- "Marks once set stay": on a later denial.
  denied_after :
      worked (from_state locking (state (failures 2 ∷ locked 1 ∷ []) (disabled 1 ∷ [])) (shows 1061 0x55 ∷ []))
      ≡ 0x009E_43_00_0000000B_00000005_00000000
      ∷ 0x0000000B_00_00_0000_000003E8_00000384_003FFFFF_00000320_0000000000000000
      ∷ 0x0009_0008_00000425_003FFFFF_00000258_009E_01_00_00000002_0000028A_00000000 ∷ []
  -- A failure right after it is "the first since zero".
  failed_after :
      worked (from_state locking shut (shows 1060 0x77 ∷ []))
      ≡ 0x0081_41_00_0000000B_003FFFFF_00000000
      ∷ 0x0000000B_01_00_0000_000003E8_00000424_003FFFFF_00000320_0000000000000000
      ∷ 0x0009_0008_000002BC_003FFFFF_00000258_0080_00_00_003FFFFF_0000028A_00000000 ∷ []
  -- "At the most: lock from now, failures 0, mark 16": marks 1, 16 and 64.
  locked_again :
      worked (from_state (site (most 1 ∷ relinquish 60 ∷ []) [] []) (state (locked 1 ∷ []) []) (shows 1060 0x77 ∷ []))
      ≡ 0x0081_51_00_0000000B_003FFFFF_00000000
      ∷ 0x0000000B_00_01_0000_00000424_00000424_003FFFFF_00000320_0000000000000000
      ∷ 0x0009_0008_000002BC_003FFFFF_00000258_0080_00_00_003FFFFF_0000028A_00000000 ∷ []
  -- "Locked": a point that is not relinquishes nothing and keeps its failures.
  unlocked :
      worked (from_state locking (state (failures 2 ∷ []) (disabled 1 ∷ [])) (shows 2000 0x55 ∷ []))
      ≡ 0x009E_03_00_0000000B_00000005_00000000
      ∷ 0x0000000B_02_00_0000_000003E8_00000384_003FFFFF_00000320_0000000000000000
      ∷ 0x0009_0008_000007D0_003FFFFF_00000258_009E_01_00_00000002_0000028A_00000000 ∷ []
  -- "The first step that gives an event ends the checks": 161 before 148, 129, 147, event 0, 152 and 128.
  first_of_all :
      told
      (from_state (site (mode 2 ∷ factors_wanted 2 ∷ most 3 ∷ []) (expiry 0 ∷ []) (factor_disable_field 1 ∷ [])) shut
      (errs 1060 0 ∷ shows 1060 0x77 ∷ shows 1060 0x55 ∷ []))
      ≡ 161 ∷ 161 ∷ 161 ∷ []

pub locked_cases : Locked
unfolding bytes locking shut
locked_cases =
    record {
      still = refl;
      still_left = refl;
      unset = refl;
      shortest = refl;
      relinquished = refl;
      denied_after = refl;
      failed_after = refl;
      locked_again = refl;
      unlocked = refl;
      first_of_all = refl;
    }
