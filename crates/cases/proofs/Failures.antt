-- "Failures are 129, 131, 132, 148, where a most is set: the first since zero, or one with elapsed > a set window, makes 1 and sets first
-- failure; others add 1. At the most: lock from now, failures 0, mark 16." Document 02, job 4: "Failures 131 and 132 shall be counted for each credential, not
-- on the point; 129 and 148 stay on the point."
use Prim.Native.Nat.{ℕ}
use mathlib.Core.Path.{◌≡◌, refl}
use mathlib.Core.List.{List, [], ◌∷◌, ◌++◌}
use Rattle.cases.proofs.Change.{Field}
use Rattle.cases.proofs.Fields.{flags, mode, factors_wanted, factor_timeout, most, window, factor_disable_field, failures, waiting_for, waiting_since, disabled}
use Rattle.cases.proofs.Bytes.{shows, types, errs, site, state, from_state, worked, bytes}

-- An unknown card at a time, where point 2 locks at the third failure, has failures since 900, and other fields are changed.
unfoldable pub failed : List Field → ℕ → ℕ → List ℕ
failed ds n time = worked (from_state (site (most 3 ∷ ds) [] []) (state (failures n ∷ []) []) (shows time 0x77 ∷ []))

-- The state of the credential that nobody writes, and those of its factors.
unfoldable pub rest : List ℕ
rest = 0x0009_0008_000002BC_003FFFFF_00000258_0080_00_00_003FFFFF_0000028A_00000000 ∷ []

pub record Counted : Type 0 where
  -- "others add 1": 100 seconds after the first, by a clock set back.
  added :
      failed (window 100 ∷ []) 1 1000 ++ failed (window 100 ∷ []) 1 500
      ≡ 0x0081_01_00_0000000B_003FFFFF_00000000 ∷ 0x0000000B_02_00_0000_000003E8_00000384_003FFFFF_00000320_0000000000000000 ∷ rest
      ++ (0x0081_01_00_0000000B_003FFFFF_00000000 ∷ 0x0000000B_02_00_0000_000003E8_00000384_003FFFFF_00000320_0000000000000000 ∷ rest)
  -- "one with elapsed > a set window, makes 1 and sets first failure": after 101 seconds, with one failure and with two.
  window_over :
      failed (window 100 ∷ []) 1 1001 ++ failed (window 100 ∷ []) 2 1001
      ≡ 0x0081_01_00_0000000B_003FFFFF_00000000 ∷ 0x0000000B_01_00_0000_000003E8_000003E9_003FFFFF_00000320_0000000000000000 ∷ rest
      ++ (0x0081_01_00_0000000B_003FFFFF_00000000 ∷ 0x0000000B_01_00_0000_000003E8_000003E9_003FFFFF_00000320_0000000000000000 ∷ rest)
  -- A window of one second.
  window_shortest :
      failed (window 1 ∷ []) 1 901 ++ failed (window 1 ∷ []) 1 902
      ≡ 0x0081_01_00_0000000B_003FFFFF_00000000 ∷ 0x0000000B_02_00_0000_000003E8_00000384_003FFFFF_00000320_0000000000000000 ∷ rest
      ++ (0x0081_01_00_0000000B_003FFFFF_00000000 ∷ 0x0000000B_01_00_0000_000003E8_00000386_003FFFFF_00000320_0000000000000000 ∷ rest)
  -- "a set window": 0 means unlimited.
  window_unset :
      failed [] 1 4294967294
      ≡ 0x0081_01_00_0000000B_003FFFFF_00000000 ∷ 0x0000000B_02_00_0000_000003E8_00000384_003FFFFF_00000320_0000000000000000 ∷ rest
  -- "the first since zero": within a window, and where there is none.
  first :
      failed (window 100 ∷ []) 0 950 ++ failed [] 0 950
      ≡ 0x0081_01_00_0000000B_003FFFFF_00000000 ∷ 0x0000000B_01_00_0000_000003E8_000003B6_003FFFFF_00000320_0000000000000000 ∷ rest
      ++ (0x0081_01_00_0000000B_003FFFFF_00000000 ∷ 0x0000000B_01_00_0000_000003E8_000003B6_003FFFFF_00000320_0000000000000000 ∷ rest)
  -- "At the most: lock from now, failures 0, mark 16": first failure stays where it was not the first.
  at_the_most :
      failed [] 2 950
      ≡ 0x0081_11_00_0000000B_003FFFFF_00000000 ∷ 0x0000000B_00_01_0000_000003B6_00000384_003FFFFF_00000320_0000000000000000 ∷ rest
  at_once :
      failed (most 1 ∷ []) 0 950
      ≡ 0x0081_11_00_0000000B_003FFFFF_00000000 ∷ 0x0000000B_00_01_0000_000003B6_000003B6_003FFFFF_00000320_0000000000000000 ∷ rest
  -- "where a most is set".
  most_unset :
      failed (most 0 ∷ []) 0 950
      ≡ 0x0081_01_00_0000000B_003FFFFF_00000000 ∷ 0x0000000B_00_00_0000_000003E8_00000384_003FFFFF_00000320_0000000000000000 ∷ rest

pub counted_failures : Counted
unfolding bytes failed rest
counted_failures =
    record {
      added = refl;
      window_over = refl;
      window_shortest = refl;
      window_unset = refl;
      first = refl;
      at_the_most = refl;
      at_once = refl;
      most_unset = refl;
    }

-- ── which events are failures

-- An entry at point 2, which locks at the third failure, has two, and waits for credential 5 since 1000; credential 5 is traced.
unfoldable pub third : List Field → List ℕ → List ℕ
third fs entry =
    worked
    (from_state (site (factors_wanted 2 ∷ factor_timeout 30 ∷ most 3 ∷ []) (flags 8 ∷ []) fs)
    (state (failures 2 ∷ waiting_for 5 ∷ waiting_since 1000 ∷ []) []) (entry ∷ []))

-- The card at point 2 with two failures of three, with fields of the point and of the credential's state changed.
unfoldable pub kept : List Field → List Field → List ℕ
kept ds ss = worked (from_state (site (most 3 ∷ ds) [] []) (state (failures 2 ∷ []) ss) (shows 950 0x55 ∷ []))

pub record Failing : Type 0 where
  -- 131 and 132 are counted "not on the point": failures, first failure and lock stay.
  timeout :
      third [] (types 1031 0x66)
      ≡ 0x0083_03_00_0000000B_00000005_00000000 ∷ 0x0000000B_02_00_0000_000003E8_00000384_003FFFFF_000003E8_0000000000000000
      ∷ 0x0009_0008_00000407_003FFFFF_00000258_0083_00_00_00000002_0000028A_00000000 ∷ []
  incorrect :
      third [] (types 1030 0x67)
      ≡ 0x0084_03_00_0000000B_00000005_00000000 ∷ 0x0000000B_02_00_0000_000003E8_00000384_003FFFFF_000003E8_0000000000000000
      ∷ 0x0009_0008_00000406_003FFFFF_00000258_0084_00_00_00000002_0000028A_00000000 ∷ []
  -- "129 and 148 stay on the point": 148 while a code is awaited, and where nobody is waited for.
  error_waiting :
      third [] (errs 1030 0)
      ≡ 0x0094_13_00_0000000B_00000005_00000000 ∷ 0x0000000B_00_01_0000_00000406_00000384_003FFFFF_000003E8_0000000000000000
      ∷ 0x0009_0008_00000406_003FFFFF_00000258_0094_00_00_00000002_0000028A_00000000 ∷ []
  error :
      worked (from_state (site (most 3 ∷ []) [] []) (state (failures 2 ∷ []) []) (errs 950 0 ∷ []))
      ≡ 0x0094_11_00_0000000B_003FFFFF_00000000 ∷ 0x0000000B_00_01_0000_000003B6_00000384_003FFFFF_00000320_0000000000000000 ∷ rest
  -- A wrong code, the card again and an unknown code, which is wrong too; then an unknown card, the third failure.
  unknown_after :
      worked
      (from_state (site (factors_wanted 2 ∷ most 3 ∷ []) [] []) (state (failures 2 ∷ waiting_for 5 ∷ waiting_since 1000 ∷ []) [])
      (types 1001 0x67 ∷ shows 1002 0x55 ∷ shows 1003 0x77 ∷ shows 1004 0x77 ∷ []))
      ≡ 0x0084_01_00_0000000B_00000005_00000000 ∷ 0x0000_01_00_0000000C_00000005_00000000 ∷ 0x0084_01_00_0000000D_00000005_00000000
      ∷ 0x0081_11_00_0000000E_003FFFFF_00000000 ∷ 0x0000000E_00_01_0000_000003EC_00000384_003FFFFF_000003EA_0000000000000000
      ∷ 0x0009_0008_000003EB_003FFFFF_00000258_0084_00_00_00000002_0000028A_00000000 ∷ []
  -- A disabled factor is none: failures and first failure stay.
  disabled_factor_law :
      third (factor_disable_field 1 ∷ []) (types 1030 0x66)
      ≡ 0x0093_03_00_0000000B_00000005_00000000 ∷ 0x0000000B_02_00_0000_000003E8_00000384_003FFFFF_000003E8_0000000000000000
      ∷ 0x0009_0008_00000406_003FFFFF_00000258_0093_00_00_00000002_0000028A_00000000 ∷ []
  -- Nor are 128, 158 and the wait.
  deny_all :
      kept (mode 2 ∷ []) []
      ≡ 0x0080_01_00_0000000B_00000005_00000000 ∷ 0x0000000B_02_00_0000_000003E8_00000384_003FFFFF_00000320_0000000000000000
      ∷ 0x0009_0008_000003B6_003FFFFF_00000258_0080_00_00_00000002_0000028A_00000000 ∷ []
  disabled_credential :
      kept (window 10 ∷ []) (disabled 1 ∷ [])
      ≡ 0x009E_01_00_0000000B_00000005_00000000 ∷ 0x0000000B_02_00_0000_000003E8_00000384_003FFFFF_00000320_0000000000000000
      ∷ 0x0009_0008_000003B6_003FFFFF_00000258_009E_01_00_00000002_0000028A_00000000 ∷ []
  waiting :
      kept (factors_wanted 2 ∷ []) []
      ≡ 0x0000_01_00_0000000B_00000005_00000000 ∷ 0x0000000B_02_00_0000_000003E8_00000384_00000005_000003B6_0000000000000000 ∷ rest
  -- Where there was none, a denial that is no failure sets no first failure.
  none_before :
      worked (from_state (site (mode 2 ∷ most 3 ∷ window 10 ∷ []) [] []) (state [] []) (shows 950 0x55 ∷ []))
      ≡ 0x0080_01_00_0000000B_00000005_00000000 ∷ 0x0000000B_00_00_0000_000003E8_00000384_003FFFFF_00000320_0000000000000000
      ∷ 0x0009_0008_000003B6_003FFFFF_00000258_0080_00_00_00000002_0000028A_00000000 ∷ []

pub failing : Failing
unfolding bytes third kept rest
failing =
    record {
      timeout = refl;
      incorrect = refl;
      error_waiting = refl;
      error = refl;
      unknown_after = refl;
      disabled_factor_law = refl;
      deny_all = refl;
      disabled_credential = refl;
      waiting = refl;
      none_before = refl;
    }
