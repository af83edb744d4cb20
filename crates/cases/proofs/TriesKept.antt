-- Document 02, job 4: what leaves a credential's wrong tries, "129 and 148 stay on the point", and what zeroes them, "a grant or operation 4 also zeroes it".
use Prim.Native.Nat.{ℕ}
use mathlib.Core.Path.{◌≡◌, refl}
use mathlib.Core.List.{List, [], ◌∷◌, ◌++◌}
use Rattle.cases.proofs.Change.{Field}
use Rattle.cases.proofs.Fields.{flags, mode, factors_wanted, most, most_tries_field, expiry, factor_disable_field, failures, locked, waiting_for, waiting_since, disabled, tries}
use Rattle.cases.proofs.Bytes.{counted, entry, shows, types, errs, site, state, passing, from_state, worked, bytes}
use Rattle.cases.proofs.TriesCounted.{awaiting, alone, awaiting_open}

-- A journal after two wrong tries of three, with fields changed of the point and of its state. The state of the credential where nobody writes it.
unfoldable pub after_two : List Field → List Field → List (List ℕ) → List ℕ
after_two ds ts journal = awaiting ds [] ts (tries 2 ∷ []) journal

unfoldable pub untouched : List ℕ
untouched = 0x0009_0008_000002BC_003FFFFF_00000258_0080_00_02_003FFFFF_0000028A_00000000 ∷ []

-- ── failures that "stay on the point"

pub record Elsewhere : Type 0 where
  -- 148 while a code is awaited: it locks the point at its most, adds 1 before, is counted nowhere where the point has none. It is the card's last event.
  damaged :
      after_two [] [] (errs 1030 0 ∷ [])
      ≡ 0x0094_11_00_0000000B_00000005_00000000 ∷ 0x0000000B_00_01_0000_00000406_00000406_003FFFFF_000003E8_0000000000000000
      ∷ 0x0009_0008_00000406_003FFFFF_00000258_0094_00_02_00000002_0000028A_00000000 ∷ []
  damaged_added :
      after_two (most 3 ∷ []) (failures 1 ∷ []) (errs 1030 0 ∷ [])
      ≡ 0x0094_01_00_0000000B_00000005_00000000 ∷ 0x0000000B_02_00_0000_000003E8_00000384_003FFFFF_000003E8_0000000000000000
      ∷ 0x0009_0008_00000406_003FFFFF_00000258_0094_00_02_00000002_0000028A_00000000 ∷ []
  damaged_unset :
      after_two (most 0 ∷ []) [] (errs 1030 0 ∷ [])
      ≡ alone 0x0094_01_00_0000000B_00000005_00000000 0x0009_0008_00000406_003FFFFF_00000258_0094_00_02_00000002_0000028A_00000000
  -- 148 and 129 where nobody is waited for: no card is written.
  damaged_idle :
      after_two [] (waiting_for 4194303 ∷ []) (errs 1030 0 ∷ [])
      ≡ 0x0094_11_00_0000000B_003FFFFF_00000000 ∷ 0x0000000B_00_01_0000_00000406_00000406_003FFFFF_000003E8_0000000000000000 ∷ untouched
  unknown :
      after_two [] (waiting_for 4194303 ∷ []) (shows 1030 0x77 ∷ [])
      ≡ 0x0081_11_00_0000000B_003FFFFF_00000000 ∷ 0x0000000B_00_01_0000_00000406_00000406_003FFFFF_000003E8_0000000000000000 ∷ untouched

-- One name that opens these and the helpers of TriesCounted.
unfoldable pub after_open : Unit {0}
unfolding awaiting_open after_two untouched
after_open = tt

pub elsewhere : Elsewhere
unfolding after_open
elsewhere = record { damaged = refl; damaged_added = refl; damaged_unset = refl; damaged_idle = refl; unknown = refl }

-- ── what is no wrong try

-- The right code after two wrong tries of three: where the factors are disabled, and with fields changed of the point, the credential and its state.
unfoldable pub disabled_code : ℕ → List ℕ
disabled_code n =
    worked
    (from_state (site (factors_wanted 2 ∷ most 1 ∷ []) (most_tries_field 3 ∷ []) (factor_disable_field n ∷ []))
    (state (waiting_for 5 ∷ waiting_since 1000 ∷ []) (tries 2 ∷ [])) (types 1030 0x66 ∷ []))

unfoldable pub right_code : List Field → List Field → List Field → List ℕ
right_code ds ps ss = awaiting ds ps [] (tries 2 ∷ ss) (types 1030 0x66 ∷ [])

pub record Kept : Type 0 where
  -- The first of two factors: event 0.
  begun :
      after_two [] (waiting_for 4194303 ∷ []) (shows 1030 0x55 ∷ [])
      ≡ 0x0000_01_00_0000000B_00000005_00000000 ∷ 0x0000000B_00_00_0000_000003E8_00000384_00000005_00000406_0000000000000000 ∷ untouched
  -- "Disabled factor: 1→147, 2→143, 3→144, 4→145, 5→146."
  disabled_codes :
      disabled_code 1 ++ disabled_code 2 ++ disabled_code 3 ++ disabled_code 4 ++ disabled_code 5
      ≡ alone 0x0093_01_00_0000000B_00000005_00000000 0x0009_0008_00000406_003FFFFF_00000258_0093_00_02_00000002_0000028A_00000000
      ++ alone 0x008F_01_00_0000000B_00000005_00000000 0x0009_0008_00000406_003FFFFF_00000258_008F_00_02_00000002_0000028A_00000000
      ++ alone 0x0090_01_00_0000000B_00000005_00000000 0x0009_0008_00000406_003FFFFF_00000258_0090_00_02_00000002_0000028A_00000000
      ++ alone 0x0091_01_00_0000000B_00000005_00000000 0x0009_0008_00000406_003FFFFF_00000258_0091_00_02_00000002_0000028A_00000000
      ++ alone 0x0092_01_00_0000000B_00000005_00000000 0x0009_0008_00000406_003FFFFF_00000258_0092_00_02_00000002_0000028A_00000000
  -- The right code, denied: 152; 158, 153 and 154; 128 and 134.
  expired :
      right_code [] (expiry 1000 ∷ []) []
      ≡ alone 0x0098_01_00_0000000B_00000005_00000000 0x0009_0008_00000406_003FFFFF_00000258_0098_00_02_00000002_0000028A_00000000
  disabled_cards :
      right_code [] [] (disabled 1 ∷ []) ++ right_code [] [] (disabled 2 ∷ []) ++ right_code [] [] (disabled 3 ∷ [])
      ≡ alone 0x009E_01_00_0000000B_00000005_00000000 0x0009_0008_00000406_003FFFFF_00000258_009E_01_02_00000002_0000028A_00000000
      ++ alone 0x0099_01_00_0000000B_00000005_00000000 0x0009_0008_00000406_003FFFFF_00000258_0099_02_02_00000002_0000028A_00000000
      ++ alone 0x009A_01_00_0000000B_00000005_00000000 0x0009_0008_00000406_003FFFFF_00000258_009A_03_02_00000002_0000028A_00000000
  no_rights :
      right_code (mode 2 ∷ []) [] [] ++ right_code (mode 0 ∷ []) [] []
      ≡ alone 0x0080_01_00_0000000B_00000005_00000000 0x0009_0008_00000406_003FFFFF_00000258_0080_00_02_00000002_0000028A_00000000
      ++ alone 0x0086_01_00_0000000B_00000005_00000000 0x0009_0008_00000406_003FFFFF_00000258_0086_00_02_00000002_0000028A_00000000
  -- 133, at a point into a zone.
  no_zone_rights :
      worked
      (from_state (passing [] [] (factors_wanted 2 ∷ mode 0 ∷ []) (most_tries_field 3 ∷ []))
      (counted 0 ∷ counted 0 ∷ state (waiting_for 5 ∷ waiting_since 1000 ∷ []) (tries 2 ∷ [])) (types 1030 0x66 ∷ []))
      ≡ 0x0085_01_00_0000000B_00000005_00000000 ∷ 0 ∷ 0 ∷ 0x0000000B_00_00_0000_000003E8_00000384_003FFFFF_000003E8_0000000000000000
      ∷ 0x0009_0008_00000406_003FFFFF_00000258_0085_00_02_00000002_0000028A_00000000 ∷ []
  -- A denied read between two wrong codes.
  denied_between :
      awaiting [] (expiry 1000 ∷ []) [] [] (types 1001 0x67 ∷ shows 1002 0x55 ∷ types 1003 0x66 ∷ shows 1004 0x55 ∷ types 1005 0x67 ∷ [])
      ≡ 0x0084_01_00_0000000B_00000005_00000000 ∷ 0x0000_01_00_0000000C_00000005_00000000 ∷ 0x0098_01_00_0000000D_00000005_00000000
      ∷ 0x0000_01_00_0000000E_00000005_00000000 ∷ 0x0084_01_00_0000000F_00000005_00000000
      ∷ 0x0000000F_00_00_0000_000003E8_00000384_003FFFFF_000003EC_0000000000000000
      ∷ 0x0009_0008_000003ED_003FFFFF_00000258_0084_00_02_00000002_0000028A_00000000 ∷ []
  -- A code at a locked point: 161. One out of service, wrong or late: "nothing changes".
  still_locked_law :
      after_two [] (waiting_for 4194303 ∷ locked 1 ∷ []) (types 1030 0x67 ∷ [])
      ≡ 0x00A1_00_00_0000000B_003FFFFF_00000000 ∷ 0x0000000B_00_01_0000_000003E8_00000384_003FFFFF_000003E8_0000000000000000 ∷ untouched
  out_of_service :
      after_two (flags 1 ∷ []) [] (types 1030 0x67 ∷ types 1031 0x66 ∷ [])
      ≡ 0x0000_00_00_0000000A_003FFFFF_00000000 ∷ 0x0000_00_00_0000000A_003FFFFF_00000000
      ∷ 0x0000000A_00_00_0000_000003E8_00000384_00000005_000003E8_0000000000000000 ∷ untouched
  -- Operation 5: a wait that it drops is no timeout.
  service :
      after_two [] [] (entry 5 1 2000 2 0 0 ∷ []) ++ after_two [] [] (entry 5 0 2000 2 0 0 ∷ [])
      ≡ 0x0007_00_00_0000000B_003FFFFF_00000000 ∷ 0x0000000B_00_01_0000_000007D0_00000384_003FFFFF_000003E8_0000000000000000 ∷ untouched
      ++ (0x0008_00_00_0000000B_003FFFFF_00000000 ∷ 0x0000000B_00_00_0000_000003E8_00000384_00000005_000003E8_0000000000000000 ∷ untouched)
  -- Refused: a wrong code at the time never, one at a point that is not there; operation 4 with the argument 4, one on a credential that is not there.
  refused :
      after_two [] [] (entry 1 3 4294967295 2 0 0x67 ∷ entry 1 3 1030 9 0 0x67 ∷ entry 4 4 1030 5 0 0 ∷ entry 4 0 1030 6 0 0 ∷ [])
      ≡ 0x0000_00_07_00000000_003FFFFF_00000000 ∷ 0x0000_00_08_00000000_003FFFFF_00000000 ∷ 0x0000_00_07_00000000_003FFFFF_00000000
      ∷ 0x0000_00_08_00000000_003FFFFF_00000000
      ∷ 0x0000000A_00_00_0000_000003E8_00000384_00000005_000003E8_0000000000000000 ∷ untouched

pub kept_tries : Kept
unfolding bytes after_open disabled_code right_code
kept_tries =
    record {
      begun = refl;
      disabled_codes = refl;
      expired = refl;
      disabled_cards = refl;
      no_rights = refl;
      no_zone_rights = refl;
      denied_between = refl;
      still_locked_law = refl;
      out_of_service = refl;
      service = refl;
      refused = refl;
    }

-- ── "a grant or operation 4 also zeroes it"

-- Operation 4 with an argument, after two wrong tries of three, where the disable is LOCKOUT; what it leaves beside the credential's state.
unfoldable pub sets : ℕ → List ℕ
sets argument = awaiting [] [] [] (tries 2 ∷ disabled 3 ∷ []) (entry 4 argument 2000 5 0 0 ∷ [])

unfoldable pub left_with : ℕ → List ℕ
left_with credential =
    0x0000_00_00_00000000_00000005_00000000 ∷ 0x0000000A_00_00_0000_000003E8_00000384_00000005_000003E8_0000000000000000 ∷ credential ∷ []

pub record Zeroed : Type 0 where
  -- A grant by two factors, and by one at a point that wants one.
  granted :
      right_code [] [] []
      ≡ alone 0x0001_01_00_0000000B_00000005_00000000 0x0008_0008_00000406_003FFFFF_00000258_0001_00_00_00000002_00000406_00000000
  one_factor :
      after_two (factors_wanted 1 ∷ []) (waiting_for 4194303 ∷ []) (shows 1030 0x55 ∷ [])
      ≡ alone 0x0001_01_00_0000000B_00000005_00000000 0x0008_0008_00000406_003FFFFF_00000258_0001_00_00_00000002_00000406_00000000
  -- A grant between: two more wrong codes are two.
  granted_between :
      after_two [] [] (types 1001 0x66 ∷ shows 1002 0x55 ∷ types 1003 0x67 ∷ shows 1004 0x55 ∷ types 1005 0x67 ∷ [])
      ≡ 0x0001_01_00_0000000B_00000005_00000000 ∷ 0x0000_01_00_0000000C_00000005_00000000 ∷ 0x0084_01_00_0000000D_00000005_00000000
      ∷ 0x0000_01_00_0000000E_00000005_00000000 ∷ 0x0084_01_00_0000000F_00000005_00000000
      ∷ 0x0000000F_00_00_0000_000003E8_00000384_003FFFFF_000003EC_0000000000000000
      ∷ 0x0008_0008_000003ED_003FFFFF_00000258_0084_00_02_00000002_000003E9_00000000 ∷ []
  -- Operation 4 lifts LOCKOUT with 0, and sets DISABLE, MANUAL and LOCKOUT: the count is 0 each time, and the point still waits.
  set_none : sets 0 ≡ left_with 0x0009_0008_000002BC_003FFFFF_00000258_0080_00_00_003FFFFF_0000028A_00000000
  set_disable_law : sets 1 ≡ left_with 0x0009_0008_000002BC_003FFFFF_00000258_0080_01_00_003FFFFF_0000028A_00000000
  set_manual : sets 2 ≡ left_with 0x0009_0008_000002BC_003FFFFF_00000258_0080_02_00_003FFFFF_0000028A_00000000
  set_lockout : sets 3 ≡ left_with 0x0009_0008_000002BC_003FFFFF_00000258_0080_03_00_003FFFFF_0000028A_00000000
  -- The argument that the disable has already: the count is 0 all the same, and the wrong code after it is the first.
  set_between :
      after_two [] [] (entry 4 0 1001 5 0 0 ∷ types 1002 0x67 ∷ [])
      ≡ 0x0000_00_00_00000000_00000005_00000000
      ∷ alone 0x0084_01_00_0000000B_00000005_00000000 0x0009_0008_000003EA_003FFFFF_00000258_0084_00_01_00000002_0000028A_00000000
  -- The third wrong code; the right one, 154; the disable lifted; the right one, granted.
  lifted :
      after_two [] [] (types 1001 0x67 ∷ shows 1002 0x55 ∷ types 1003 0x66 ∷ entry 4 0 1004 5 0 0 ∷ shows 1005 0x55 ∷ types 1006 0x66 ∷ [])
      ≡ 0x0084_01_00_0000000B_00000005_00000000 ∷ 0x0000_01_00_0000000C_00000005_00000000 ∷ 0x009A_01_00_0000000D_00000005_00000000
      ∷ 0x0000_00_00_00000000_00000005_00000000 ∷ 0x0000_01_00_0000000E_00000005_00000000 ∷ 0x0001_01_00_0000000F_00000005_00000000
      ∷ 0x0000000F_00_00_0000_000003E8_00000384_003FFFFF_000003ED_0000000000000000
      ∷ 0x0008_0008_000003EE_003FFFFF_00000258_0001_00_00_00000002_000003EE_00000000 ∷ []

pub zeroed : Zeroed
unfolding after_open right_code sets left_with
zeroed =
    record {
      granted = refl;
      one_factor = refl;
      granted_between = refl;
      set_none = refl;
      set_disable_law = refl;
      set_manual = refl;
      set_lockout = refl;
      set_between = refl;
      lifted = refl;
    }
