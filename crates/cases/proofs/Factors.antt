-- Steps 2 to 4: the factor that was read, and the wait for the second.
use Prim.Native.Nat.{ℕ}
use mathlib.Core.Path.{◌≡◌, refl}
use mathlib.Core.List.{List, [], ◌∷◌, ◌++◌}
use Rattle.cases.proofs.Change.{Field, with_fields}
use Rattle.cases.proofs.Fields.{instance, flags, passback, upper, lower, passback_timeout, mode, factors_wanted, threat, factor_timeout, activation, expiry, absentee, first_rights, factor_disable_field, value, lock_time, waiting_for, waiting_since, uses, days, in_zone, entered, disabled}
use Rattle.cases.proofs.Bytes.{door, hall, rule, person, card, pin, counted, shows, types, errs, site, state, passing, from_state, from_new, answered, told, worked, bytes}

-- Point 2 wants two factors within 30 seconds. It waits for credential 5 since 1000, or for nobody.
unfoldable pub two : List (List ℕ)
two = site (factors_wanted 2 ∷ factor_timeout 30 ∷ []) [] []

unfoldable pub waits : List (List ℕ)
waits = state (waiting_for 5 ∷ waiting_since 1000 ∷ []) []

unfoldable pub idle : List (List ℕ)
idle = state (waiting_since 1000 ∷ []) []

-- The same with disabled factors.
unfoldable pub two_disabled : List (List ℕ)
two_disabled = site (factors_wanted 2 ∷ factor_timeout 30 ∷ []) (expiry 0 ∷ []) (factor_disable_field 1 ∷ [])

-- Zones whose bytes are those of factors but for the kind: of a confirming factor of credential 5, and of an identifying factor. Credential 6
-- has a pin of its own.
unfoldable pub alike : List (List ℕ)
alike =
    with_fields (instance 5 ∷ passback 2 ∷ upper 0x03000000 ∷ passback_timeout 0xAA ∷ []) hall
    ∷ with_fields (passback 1 ∷ upper 0x02000000 ∷ passback_timeout 0xBB ∷ []) hall
    ∷ with_fields (instance 6 ∷ []) person ∷ with_fields (instance 6 ∷ value 0x67 ∷ []) pin ∷ []

pub record Step2 : Type 0 where
  -- "Waiting, and elapsed > a set timeout: 131": not after 30 seconds, when the wait ends with event 1; its time stays.
  in_time :
      worked (from_state two waits (types 1030 0x66 ∷ []))
      ≡ 0x0001_01_00_0000000B_00000005_00000000
      ∷ 0x0000000B_00_00_0000_000003E8_00000384_003FFFFF_000003E8_0000000000000000
      ∷ 0x0008_0008_00000406_003FFFFF_00000258_0001_00_00_00000002_00000406_00000000 ∷ []
  -- After 31 seconds. "Either ends the wait."
  late :
      worked (from_state two waits (types 1031 0x66 ∷ []))
      ≡ 0x0083_01_00_0000000B_00000005_00000000
      ∷ 0x0000000B_00_00_0000_000003E8_00000384_003FFFFF_000003E8_0000000000000000
      ∷ 0x0009_0008_00000407_003FFFFF_00000258_0083_00_00_00000002_0000028A_00000000 ∷ []
  -- "Elapsed is .. 0 where now is earlier."
  set_back : told (from_state two waits (types 500 0x66 ∷ [])) ≡ 1 ∷ []
  -- "a set timeout": 0 means unlimited.
  unset : told (from_state (site (factors_wanted 2 ∷ []) [] []) waits (types 4294967294 0x66 ∷ [])) ≡ 1 ∷ []
  -- The time is that of the wait.
  since : told (from_state two (state (waiting_for 5 ∷ waiting_since 1000 ∷ lock_time 500 ∷ []) []) (types 1030 0x66 ∷ [])) ≡ 1 ∷ []
  -- A timeout of one second.
  shortest :
      told (from_state (site (factors_wanted 2 ∷ factor_timeout 1 ∷ []) [] []) waits (types 1001 0x66 ∷ []))
      ++ told (from_state (site (factors_wanted 2 ∷ factor_timeout 1 ∷ []) [] []) waits (types 1002 0x66 ∷ []))
      ≡ 1 ∷ 131 ∷ []
  -- "Waiting": where nobody is waited for, no time is up.
  nobody :
      worked (from_state two idle (shows 2000 0x55 ∷ []))
      ≡ 0x0000_01_00_0000000B_00000005_00000000
      ∷ 0x0000000B_00_00_0000_000003E8_00000384_00000005_000007D0_0000000000000000
      ∷ 0x0009_0008_000002BC_003FFFFF_00000258_0080_00_00_003FFFFF_0000028A_00000000 ∷ []
  -- 131 before 148, 132 and a disabled factor.
  late_first :
      told (from_state two waits (errs 1031 0 ∷ [])) ++ told (from_state two waits (types 1031 0x77 ∷ []))
      ++ told (from_state two_disabled waits (types 1031 0x66 ∷ []))
      ≡ 131 ∷ 131 ∷ 131 ∷ []
  -- "Format 1: 148. Either ends the wait."
  error_waiting :
      worked (from_state two waits (errs 1010 0x66 ∷ []))
      ≡ 0x0094_01_00_0000000B_00000005_00000000
      ∷ 0x0000000B_00_00_0000_000003E8_00000384_003FFFFF_000003E8_0000000000000000
      ∷ 0x0009_0008_000003F2_003FFFFF_00000258_0094_00_00_00000002_0000028A_00000000 ∷ []
  error :
      worked (from_state two idle (errs 1010 0x55 ∷ []))
      ≡ 0x0094_01_00_0000000B_003FFFFF_00000000
      ∷ 0x0000000B_00_00_0000_000003E8_00000384_003FFFFF_000003E8_0000000000000000
      ∷ 0x0009_0008_000002BC_003FFFFF_00000258_0080_00_00_003FFFFF_0000028A_00000000 ∷ []

pub step_2 : Step2
unfolding bytes two two_disabled waits idle
step_2 =
    record {
      in_time = refl;
      late = refl;
      set_back = refl;
      unset = refl;
      since = refl;
      shortest = refl;
      nobody = refl;
      late_first = refl;
      error_waiting = refl;
      error = refl;
    }

pub record Step3 : Type 0 where
  -- "Waiting: end it; no confirming factor of that credential: 132."
  incorrect :
      worked (from_state two waits (types 1010 0x67 ∷ []))
      ≡ 0x0084_01_00_0000000B_00000005_00000000
      ∷ 0x0000000B_00_00_0000_000003E8_00000384_003FFFFF_000003E8_0000000000000000
      ∷ 0x0009_0008_000003F2_003FFFFF_00000258_0084_00_00_00000002_0000028A_00000000 ∷ []
  -- Each time the card and then: the card again, the pin of another, the value in another format, another first byte, another last byte, the
  -- zone's bytes, the pin.
  confirming :
      told
      (from_new (alike ++ two)
      (shows 0 0x55 ∷ shows 0 0x55 ∷ shows 0 0x55 ∷ types 0 0x67 ∷ shows 0 0x55 ∷ shows 0 0x66 ∷ shows 0 0x55
      ∷ types 0 0x0100000000000066 ∷ shows 0 0x55 ∷ types 0 0x64 ∷ shows 0 0x55 ∷ types 0 0x000000AA00000000 ∷ shows 0 0x55
      ∷ types 0 0x66 ∷ []))
      ≡ 0 ∷ 132 ∷ 0 ∷ 132 ∷ 0 ∷ 132 ∷ 0 ∷ 132 ∷ 0 ∷ 132 ∷ 0 ∷ 132 ∷ 0 ∷ 1 ∷ []
  -- "Not waiting: no identifying factor: 129."
  unknown :
      worked (from_state two idle (shows 1010 0x77 ∷ []))
      ≡ 0x0081_01_00_0000000B_003FFFFF_00000000
      ∷ 0x0000000B_00_00_0000_000003E8_00000384_003FFFFF_000003E8_0000000000000000
      ∷ 0x0009_0008_000002BC_003FFFFF_00000258_0080_00_00_003FFFFF_0000028A_00000000 ∷ []
  -- The pin, the value in another format, another first byte, another last byte, the zone's bytes, the card.
  identifying :
      told
      (from_new (alike ++ site [] [] [])
      (types 0 0x66 ∷ types 0 0x55 ∷ shows 0 0x0100000000000055 ∷ shows 0 0x54 ∷ shows 0 0x000000BB00000000 ∷ shows 0 0x55 ∷ []))
      ≡ 129 ∷ 129 ∷ 129 ∷ 129 ∷ 129 ∷ 1 ∷ []
  -- "Disabled factor: 1→147, 2→143, 3→144, 4→145, 5→146."
  disables :
      answered
      (from_new
      (door ∷ person ∷ with_fields (value 1 ∷ factor_disable_field 1 ∷ []) card ∷ with_fields (value 2 ∷ factor_disable_field 2 ∷ []) card
      ∷ with_fields (value 3 ∷ factor_disable_field 3 ∷ []) card ∷ with_fields (value 4 ∷ factor_disable_field 4 ∷ []) card
      ∷ with_fields (value 5 ∷ factor_disable_field 5 ∷ []) card ∷ [])
      (shows 0 1 ∷ shows 0 2 ∷ shows 0 3 ∷ shows 0 4 ∷ shows 0 5 ∷ []))
      ≡ 0x0093_01_00_00000001_00000005_00000000 ∷ 0x008F_01_00_00000002_00000005_00000000 ∷ 0x0090_01_00_00000003_00000005_00000000
      ∷ 0x0091_01_00_00000004_00000005_00000000 ∷ 0x0092_01_00_00000005_00000005_00000000 ∷ []
  -- 147 before the wait of step 4 and before 152.
  disabled :
      worked (from_state two_disabled idle (shows 1010 0x55 ∷ []))
      ≡ 0x0093_01_00_0000000B_00000005_00000000
      ∷ 0x0000000B_00_00_0000_000003E8_00000384_003FFFFF_000003E8_0000000000000000
      ∷ 0x0009_0008_000003F2_003FFFFF_00000258_0093_00_00_00000002_0000028A_00000000 ∷ []
  -- "Waiting: end it": a disabled confirming factor too.
  disabled_waiting :
      worked (from_state two_disabled waits (types 1010 0x66 ∷ []))
      ≡ 0x0093_01_00_0000000B_00000005_00000000
      ∷ 0x0000000B_00_00_0000_000003E8_00000384_003FFFFF_000003E8_0000000000000000
      ∷ 0x0009_0008_000003F2_003FFFFF_00000258_0093_00_00_00000002_0000028A_00000000 ∷ []

pub step_3 : Step3
unfolding bytes two two_disabled waits idle alike
step_3 =
    record {
      incorrect = refl;
      confirming = refl;
      unknown = refl;
      identifying = refl;
      disables = refl;
      disabled = refl;
      disabled_waiting = refl;
    }

pub record Step4 : Type 0 where
  -- "Not waiting and two wanted: wait from now, event 0": before 152 and 128.
  before_validity :
      told (from_new (site (factors_wanted 2 ∷ mode 2 ∷ []) (expiry 0 ∷ []) []) (shows 10 0x55 ∷ types 10 0x66 ∷ [])) ≡ 0 ∷ 152 ∷ []
  -- "two wanted": one is enough where one is wanted, and a wait found there ends as any other.
  one_wanted : told (from_state (site [] [] []) idle (shows 1010 0x55 ∷ [])) ≡ 1 ∷ []
  one_wanted_waiting :
      told (from_state (site [] [] []) waits (types 1010 0x66 ∷ [])) ++ told (from_state (site [] [] []) waits (shows 1010 0x55 ∷ []))
      ≡ 1 ∷ 132 ∷ []

pub step_4 : Step4
unfolding bytes waits idle
step_4 = record { before_validity = refl; one_wanted = refl; one_wanted_waiting = refl }

-- ── "Waiting: end it": whatever comes of the second factor

-- The events of the pin where point 2 waits for credential 5, and then of the card: it is the first of two again.
unfoldable pub confirmed : List (List ℕ) → List (List ℕ) → List ℕ
confirmed records states = told (from_state records states (types 1001 0x66 ∷ shows 1001 0x55 ∷ []))

-- With fields changed of the point, of the credential and of its state; by a rule of rights 9; from zone 8 into zone 7, with both counts 3.
unfoldable pub confirmed_at : List Field → List Field → List Field → List ℕ
confirmed_at ds ps ss = confirmed (site (factors_wanted 2 ∷ ds) ps []) (state (waiting_for 5 ∷ []) ss)

unfoldable pub confirmed_by : List Field → List ℕ
confirmed_by rs =
    confirmed (with_fields rs rule ∷ site (factors_wanted 2 ∷ mode 0 ∷ []) (first_rights 9 ∷ []) [])
    (state (waiting_for 5 ∷ []) [])

unfoldable pub confirmed_through : List Field → List Field → List Field → List ℕ
confirmed_through hs ys ds =
    confirmed (passing hs ys (factors_wanted 2 ∷ ds) [])
    (counted 3 ∷ counted 3 ∷ state (waiting_for 5 ∷ []) (in_zone 7 ∷ entered 1000 ∷ []))

pub record Ended : Type 0 where
  -- The pin and then the card are disabled alike.
  disabled_factors :
      confirmed (site (factors_wanted 2 ∷ []) [] (factor_disable_field 2 ∷ [])) waits
      ++ confirmed (site (factors_wanted 2 ∷ []) [] (factor_disable_field 3 ∷ [])) waits
      ++ confirmed (site (factors_wanted 2 ∷ []) [] (factor_disable_field 4 ∷ [])) waits
      ++ confirmed (site (factors_wanted 2 ∷ []) [] (factor_disable_field 5 ∷ [])) waits
      ≡ 143 ∷ 143 ∷ 144 ∷ 144 ∷ 145 ∷ 145 ∷ 146 ∷ 146 ∷ []
  -- On the denials of step 5, of steps 7 to 9 and of step 10.
  step_5 :
      confirmed_at [] (activation 2000 ∷ []) [] ++ confirmed_at [] (expiry 1000 ∷ []) [] ++ confirmed_at [] [] (disabled 1 ∷ [])
      ++ confirmed_at [] [] (disabled 2 ∷ []) ++ confirmed_at [] [] (disabled 3 ∷ []) ++ confirmed_at [] [] (days 0 ∷ [])
      ++ confirmed_at [] [] (uses 0 ∷ []) ++ confirmed_at [] (absentee 0 ∷ []) []
      ≡ 151 ∷ 0 ∷ 152 ∷ 0 ∷ 158 ∷ 0 ∷ 153 ∷ 0 ∷ 154 ∷ 0 ∷ 155 ∷ 0 ∷ 156 ∷ 0 ∷ 157 ∷ 0 ∷ []
  steps_7_to_9 :
      confirmed_at (mode 2 ∷ []) [] [] ++ confirmed_at (threat 1 ∷ []) [] [] ++ confirmed_by (flags 7 ∷ []) ++ confirmed_by (flags 1 ∷ [])
      ++ confirmed_through [] [] (mode 0 ∷ []) ++ confirmed_at (mode 0 ∷ []) [] []
      ≡ 128 ∷ 0 ∷ 137 ∷ 0 ∷ 135 ∷ 0 ∷ 136 ∷ 0 ∷ 133 ∷ 0 ∷ 134 ∷ 0 ∷ []
  step_10 :
      confirmed_through (passback 1 ∷ []) [] [] ++ confirmed_through [] (lower 3 ∷ []) (flags 4 ∷ [])
      ++ confirmed_through (upper 3 ∷ []) [] (flags 2 ∷ [])
      ≡ 138 ∷ 0 ∷ 141 ∷ 0 ∷ 142 ∷ 0 ∷ []

pub ended_waits : Ended
unfolding bytes waits confirmed confirmed_at confirmed_by confirmed_through
ended_waits = record { disabled_factors = refl; step_5 = refl; steps_7_to_9 = refl; step_10 = refl }
