-- Document 02, job 4: "Failures 131 and 132 shall be counted for each credential, not on the point". "Credential offset 22 (1 byte, 0 unset) is the most wrong
-- tries, without a window. .. Reaching the most sets the disable to LOCKOUT and zeroes the count, without mark 16".
use Prim.Native.Nat.{ℕ}
use mathlib.Core.Path.{◌≡◌, refl}
use mathlib.Core.List.{List, [], ◌∷◌, ◌++◌}
use Rattle.cases.proofs.Change.{Field}
use Rattle.cases.proofs.Fields.{flags, mode, factors_wanted, most, factor_timeout, window, most_tries_field, failures, waiting_for, waiting_since, disabled, tries}
use Rattle.cases.proofs.Bytes.{shows, types, errs, site, state, from_state, worked, bytes}

-- A journal where point 2 waits for credential 5 since 1000: it wants the second factor within 30 seconds and locks at the first failure. The most wrong tries
-- of credential 5 are 3. Fields are changed of the point, the credential, the point's state and the credential's state.
unfoldable pub awaiting : List Field → List Field → List Field → List Field → List (List ℕ) → List ℕ
awaiting ds ps ts ss journal =
    worked
    (from_state (site (factors_wanted 2 ∷ factor_timeout 30 ∷ most 1 ∷ ds) (most_tries_field 3 ∷ ps) [])
    (state (waiting_for 5 ∷ waiting_since 1000 ∷ ts) ss) journal)

-- A late code and a wrong code, of a credential with these fields and these fields of its state.
unfoldable pub late : List Field → List Field → List ℕ
late ps ss = awaiting [] ps [] ss (types 1031 0x66 ∷ [])

unfoldable pub wrong : List Field → List Field → List ℕ
wrong ps ss = awaiting [] ps [] ss (types 1030 0x67 ∷ [])

-- An answer and the credential's state, beside a point whose tag and wait alone have changed.
unfoldable pub alone : ℕ → ℕ → List ℕ
alone answer credential =
    answer ∷ 0x0000000B_00_00_0000_000003E8_00000384_003FFFFF_000003E8_0000000000000000 ∷ credential ∷ []

-- One name that opens these and the helpers of Bytes.
unfoldable pub awaiting_open : Unit {0}
unfolding bytes awaiting late wrong alone
awaiting_open = tt

pub record Counted : Type 0 where
  -- "Failures 131 and 132 shall be counted for each credential, not on the point": the second try. The point would lock at its first failure.
  timeout :
      late [] (tries 1 ∷ [])
      ≡ alone 0x0083_01_00_0000000B_00000005_00000000 0x0009_0008_00000407_003FFFFF_00000258_0083_00_02_00000002_0000028A_00000000
  incorrect :
      wrong [] (tries 1 ∷ [])
      ≡ alone 0x0084_01_00_0000000B_00000005_00000000 0x0009_0008_00000406_003FFFFF_00000258_0084_00_02_00000002_0000028A_00000000
  -- A damaged read that is late is 131.
  damaged_late :
      awaiting [] [] [] (tries 1 ∷ []) (errs 1031 0 ∷ [])
      ≡ alone 0x0083_01_00_0000000B_00000005_00000000 0x0009_0008_00000407_003FFFFF_00000258_0083_00_02_00000002_0000028A_00000000
  -- Late, wrong, late: the third reaches the most.
  mixed :
      awaiting [] [] [] [] (types 1031 0x66 ∷ shows 1040 0x55 ∷ types 1041 0x67 ∷ shows 1050 0x55 ∷ types 1081 0x67 ∷ [])
      ≡ 0x0083_01_00_0000000B_00000005_00000000 ∷ 0x0000_01_00_0000000C_00000005_00000000 ∷ 0x0084_01_00_0000000D_00000005_00000000
      ∷ 0x0000_01_00_0000000E_00000005_00000000 ∷ 0x0083_01_00_0000000F_00000005_00000000
      ∷ 0x0000000F_00_00_0000_000003E8_00000384_003FFFFF_0000041A_0000000000000000
      ∷ 0x0009_0008_00000439_003FFFFF_00000258_0083_03_00_00000002_0000028A_00000000 ∷ []
  -- "0 unset": counted nowhere.
  unset :
      late (most_tries_field 0 ∷ []) [] ++ wrong (most_tries_field 0 ∷ []) []
      ≡ alone 0x0083_01_00_0000000B_00000005_00000000 0x0009_0008_00000407_003FFFFF_00000258_0083_00_00_00000002_0000028A_00000000
      ++ alone 0x0084_01_00_0000000B_00000005_00000000 0x0009_0008_00000406_003FFFFF_00000258_0084_00_00_00000002_0000028A_00000000
  -- "not on the point": two failures of three, the first long before the point's window, which is not the card's; where the card's most is set, with a try
  -- before this one, and where it is not.
  point_left :
      awaiting (most 3 ∷ window 10 ∷ []) [] (failures 2 ∷ []) (tries 1 ∷ []) (types 1031 0x66 ∷ [])
      ++ awaiting (most 3 ∷ window 10 ∷ []) (most_tries_field 0 ∷ []) (failures 2 ∷ []) [] (types 1030 0x67 ∷ [])
      ≡ 0x0083_01_00_0000000B_00000005_00000000 ∷ 0x0000000B_02_00_0000_000003E8_00000384_003FFFFF_000003E8_0000000000000000
      ∷ 0x0009_0008_00000407_003FFFFF_00000258_0083_00_02_00000002_0000028A_00000000
      ∷ 0x0084_01_00_0000000B_00000005_00000000 ∷ 0x0000000B_02_00_0000_000003E8_00000384_003FFFFF_000003E8_0000000000000000
      ∷ 0x0009_0008_00000406_003FFFFF_00000258_0084_00_00_00000002_0000028A_00000000 ∷ []
  -- The point's most is not asked; nor whether it wants two factors, where it waits.
  point_unset :
      awaiting (most 0 ∷ []) [] [] [] (types 1030 0x67 ∷ []) ++ awaiting (factors_wanted 1 ∷ []) [] [] [] (types 1030 0x67 ∷ [])
      ≡ alone 0x0084_01_00_0000000B_00000005_00000000 0x0009_0008_00000406_003FFFFF_00000258_0084_00_01_00000002_0000028A_00000000
      ++ alone 0x0084_01_00_0000000B_00000005_00000000 0x0009_0008_00000406_003FFFFF_00000258_0084_00_01_00000002_0000028A_00000000
  -- "without a window": over a year, and to the latest time.
  years :
      awaiting [] [] [] [] (types 1001 0x67 ∷ shows 31536000 0x55 ∷ types 31536001 0x67 ∷ shows 0xFFFFFFF0 0x55 ∷ types 0xFFFFFFFE 0x67 ∷ [])
      ≡ 0x0084_01_00_0000000B_00000005_00000000 ∷ 0x0000_01_00_0000000C_00000005_00000000 ∷ 0x0084_01_00_0000000D_00000005_00000000
      ∷ 0x0000_01_00_0000000E_00000005_00000000 ∷ 0x0084_01_00_0000000F_00000005_00000000
      ∷ 0x0000000F_00_00_0000_000003E8_00000384_003FFFFF_FFFFFFF0_0000000000000000
      ∷ 0x0009_0008_FFFFFFFE_003FFFFF_00000258_0084_03_00_00000002_0000028A_00000000 ∷ []
  -- By a clock set back, to before the last use.
  set_back :
      awaiting [] [] [] (tries 1 ∷ []) (types 500 0x67 ∷ shows 400 0x55 ∷ types 300 0x67 ∷ [])
      ≡ 0x0084_01_00_0000000B_00000005_00000000 ∷ 0x0000_01_00_0000000C_00000005_00000000 ∷ 0x0084_01_00_0000000D_00000005_00000000
      ∷ 0x0000000D_00_00_0000_000003E8_00000384_003FFFFF_00000190_0000000000000000
      ∷ 0x0009_0008_0000012C_003FFFFF_00000258_0084_03_00_00000002_0000028A_00000000 ∷ []
  -- A master's tries count too; locked out, it gets 154.
  master :
      awaiting (mode 2 ∷ []) (flags 1 ∷ []) [] (tries 1 ∷ []) (types 1001 0x67 ∷ [])
      ++ awaiting (mode 2 ∷ []) (flags 1 ∷ []) [] (tries 2 ∷ []) (types 1001 0x67 ∷ shows 1002 0x55 ∷ types 1003 0x66 ∷ [])
      ≡ alone 0x0084_01_00_0000000B_00000005_00000000 0x0009_0008_000003E9_003FFFFF_00000258_0084_00_02_00000002_0000028A_00000000
      ++ (0x0084_01_00_0000000B_00000005_00000000 ∷ 0x0000_01_00_0000000C_00000005_00000000 ∷ 0x009A_01_00_0000000D_00000005_00000000
      ∷ 0x0000000D_00_00_0000_000003E8_00000384_003FFFFF_000003EA_0000000000000000
      ∷ 0x0009_0008_000003EB_003FFFFF_00000258_009A_03_00_00000002_0000028A_00000000 ∷ [])

pub counted_tries : Counted
unfolding awaiting_open
counted_tries =
    record {
      timeout = refl;
      incorrect = refl;
      damaged_late = refl;
      mixed = refl;
      unset = refl;
      point_left = refl;
      point_unset = refl;
      years = refl;
      set_back = refl;
      master = refl;
    }

-- ── "Reaching the most"

pub record Reached : Type 0 where
  -- The third of three, by 131 and by 132: the event stays, "without mark 16"; a traced card has mark 2.
  third :
      late [] (tries 2 ∷ []) ++ wrong (flags 8 ∷ []) (tries 2 ∷ [])
      ≡ alone 0x0083_01_00_0000000B_00000005_00000000 0x0009_0008_00000407_003FFFFF_00000258_0083_03_00_00000002_0000028A_00000000
      ++ alone 0x0084_03_00_0000000B_00000005_00000000 0x0009_0008_00000406_003FFFFF_00000258_0084_03_00_00000002_0000028A_00000000
  -- A most of 1: the first.
  at_once :
      late (most_tries_field 1 ∷ []) [] ++ wrong (most_tries_field 1 ∷ []) []
      ≡ alone 0x0083_01_00_0000000B_00000005_00000000 0x0009_0008_00000407_003FFFFF_00000258_0083_03_00_00000002_0000028A_00000000
      ++ alone 0x0084_01_00_0000000B_00000005_00000000 0x0009_0008_00000406_003FFFFF_00000258_0084_03_00_00000002_0000028A_00000000
  -- The largest most, 255: 253 become 254, and 254 reach it.
  largest :
      wrong (most_tries_field 255 ∷ []) (tries 253 ∷ []) ++ wrong (most_tries_field 255 ∷ []) (tries 254 ∷ [])
      ≡ alone 0x0084_01_00_0000000B_00000005_00000000 0x0009_0008_00000406_003FFFFF_00000258_0084_00_FE_00000002_0000028A_00000000
      ++ alone 0x0084_01_00_0000000B_00000005_00000000 0x0009_0008_00000406_003FFFFF_00000258_0084_03_00_00000002_0000028A_00000000
  -- "sets the disable to LOCKOUT", whatever it was: DISABLE, MANUAL, LOCKOUT. Below the most each stays.
  disables :
      wrong [] (tries 2 ∷ disabled 1 ∷ []) ++ wrong [] (tries 2 ∷ disabled 2 ∷ []) ++ wrong [] (tries 2 ∷ disabled 3 ∷ [])
      ≡ alone 0x0084_01_00_0000000B_00000005_00000000 0x0009_0008_00000406_003FFFFF_00000258_0084_03_00_00000002_0000028A_00000000
      ++ alone 0x0084_01_00_0000000B_00000005_00000000 0x0009_0008_00000406_003FFFFF_00000258_0084_03_00_00000002_0000028A_00000000
      ++ alone 0x0084_01_00_0000000B_00000005_00000000 0x0009_0008_00000406_003FFFFF_00000258_0084_03_00_00000002_0000028A_00000000
  disables_stay :
      wrong [] (tries 1 ∷ disabled 1 ∷ []) ++ wrong [] (tries 1 ∷ disabled 2 ∷ []) ++ wrong [] (tries 1 ∷ disabled 3 ∷ [])
      ≡ alone 0x0084_01_00_0000000B_00000005_00000000 0x0009_0008_00000406_003FFFFF_00000258_0084_01_02_00000002_0000028A_00000000
      ++ alone 0x0084_01_00_0000000B_00000005_00000000 0x0009_0008_00000406_003FFFFF_00000258_0084_02_02_00000002_0000028A_00000000
      ++ alone 0x0084_01_00_0000000B_00000005_00000000 0x0009_0008_00000406_003FFFFF_00000258_0084_03_02_00000002_0000028A_00000000
  -- Tries of a locked-out card go on counting: the first, and the fourth, after LOCKOUT was reached again.
  locked_out :
      wrong [] (disabled 3 ∷ [])
      ≡ alone 0x0084_01_00_0000000B_00000005_00000000 0x0009_0008_00000406_003FFFFF_00000258_0084_03_01_00000002_0000028A_00000000
  again :
      awaiting [] [] [] (disabled 3 ∷ [])
      (types 1001 0x67 ∷ shows 1010 0x55 ∷ types 1011 0x67 ∷ shows 1020 0x55 ∷ types 1021 0x67 ∷ shows 1030 0x55 ∷ types 1031 0x67 ∷ [])
      ≡ 0x0084_01_00_0000000B_00000005_00000000 ∷ 0x0000_01_00_0000000C_00000005_00000000 ∷ 0x0084_01_00_0000000D_00000005_00000000
      ∷ 0x0000_01_00_0000000E_00000005_00000000 ∷ 0x0084_01_00_0000000F_00000005_00000000 ∷ 0x0000_01_00_00000010_00000005_00000000
      ∷ 0x0084_01_00_00000011_00000005_00000000
      ∷ 0x00000011_00_00_0000_000003E8_00000384_003FFFFF_00000406_0000000000000000
      ∷ 0x0009_0008_00000407_003FFFFF_00000258_0084_03_01_00000002_0000028A_00000000 ∷ []

pub reached : Reached
unfolding awaiting_open
reached =
    record {
      third = refl;
      at_once = refl;
      largest = refl;
      disables = refl;
      disables_stay = refl;
      locked_out = refl;
      again = refl;
    }
