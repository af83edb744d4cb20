-- "Answer: 0 event; 2 marks; 3 refusal; 4 tag; 8 credential or NONE; 12 count of Zone_To after the entry": what each factor read says, and
-- whose records it writes.
use Prim.Native.Nat.{ℕ}
use mathlib.Core.Path.{◌≡◌, refl}
use mathlib.Core.List.{List, [], ◌∷◌, ◌++◌}
use Rattle.cases.proofs.Change.{Field, with_fields}
use Rattle.cases.proofs.Fields.{instance, flags, passback, upper, lower, mode, factors_wanted, threat, relinquish, activation, expiry, absentee, first_rights, value, tag, locked, waiting_for, uses, days, disabled, last_point}
use Rattle.cases.proofs.Bytes.{door, hall, rule, person, card, door_state, person_state, counted, entry, shows, types, errs, site, state, passing, inside, from_state, from_new, answered, worked, bytes}

pub record Answers : Type 0 where
  -- "Out of service: event 0, credential NONE, no marks, nothing changes, tag as held": though locked past its relinquish, and traced.
  out_of_service :
      worked
      (from_state (passing [] [] (flags 1 ∷ relinquish 60 ∷ []) (flags 8 ∷ []))
      (counted 5 ∷ counted 3 ∷ state (locked 1 ∷ []) []) (shows 2000 0x55 ∷ []))
      ≡ 0x0000_00_00_0000000A_003FFFFF_00000005
      ∷ 0x00000005_00000000000000000000000000000000000000000000000000000000
      ∷ 0x00000003_00000000000000000000000000000000000000000000000000000000
      ∷ 0x0000000A_00_01_0000_000003E8_00000384_003FFFFF_00000320_0000000000000000
      ∷ 0x0009_0008_000002BC_003FFFFF_00000258_0080_00_00_003FFFFF_0000028A_00000000 ∷ []
  -- "the tag gains 1 modulo 4,294,967,296": on grants, denials and 161.
  tag_turns :
      answered (from_state (site [] [] []) (state (tag 0xFFFFFFFE ∷ []) []) (shows 701 0x55 ∷ shows 701 0x77 ∷ shows 701 0x55 ∷ []))
      ++ worked (from_state (site [] [] []) (state (tag 0xFFFFFFFF ∷ locked 1 ∷ []) []) (shows 701 0x55 ∷ []))
      ≡ 0x0001_01_00_FFFFFFFF_00000005_00000000 ∷ 0x0081_01_00_00000000_003FFFFF_00000000 ∷ 0x0001_01_00_00000001_00000005_00000000
      ∷ 0x00A1_00_00_00000000_003FFFFF_00000000 ∷ 0x00000000_00_01_0000_000003E8_00000384_003FFFFF_00000320_0000000000000000
      ∷ 0x0009_0008_000002BC_003FFFFF_00000258_0080_00_00_003FFFFF_0000028A_00000000 ∷ []
  -- "its trace flag sets mark 2": while it waits, on a denial, a grant; not where nobody is named: 129, 148.
  traced :
      answered
      (from_state (site (factors_wanted 2 ∷ []) (flags 8 ∷ []) []) (state [] [])
      (shows 701 0x55 ∷ types 701 0x67 ∷ shows 701 0x55 ∷ types 701 0x66 ∷ shows 701 0x77 ∷ errs 701 0x55 ∷ []))
      ≡ 0x0000_03_00_0000000B_00000005_00000000 ∷ 0x0084_03_00_0000000C_00000005_00000000 ∷ 0x0000_03_00_0000000D_00000005_00000000
      ∷ 0x0001_03_00_0000000E_00000005_00000000 ∷ 0x0081_01_00_0000000F_003FFFFF_00000000 ∷ 0x0094_01_00_00000010_003FFFFF_00000000 ∷ []
  -- "12 count of Zone_To": on 161, 129 and 128; of a zone that does not count.
  counted_always :
      answered (from_state (passing [] [] [] []) (counted 5 ∷ counted 3 ∷ state (locked 1 ∷ []) []) (shows 701 0x55 ∷ []))
      ++ answered (from_state (passing (flags 0 ∷ []) [] (mode 2 ∷ []) []) (inside 5 3 []) (shows 701 0x77 ∷ shows 701 0x55 ∷ []))
      ≡ 0x00A1_00_00_0000000B_003FFFFF_00000005 ∷ 0x0081_01_00_0000000B_003FFFFF_00000005
      ∷ 0x0080_01_00_0000000C_00000005_00000005 ∷ []

pub answers_cases : Answers
unfolding bytes
answers_cases = record { out_of_service = refl; tag_turns = refl; traced = refl; counted_always = refl }

-- ── who is named

-- The answer to the card of credential 5, which is traced, with fields changed of the point, of the credential and of its state; and where
-- point 2 leads from zone 8 into zone 7, with both counts 3 and fields changed of the zones and the point.
unfoldable pub tracing : List Field → List Field → List Field → List ℕ
tracing ds ps ss = answered (from_state (site ds (flags 8 ∷ ps) []) (state [] ss) (shows 1001 0x55 ∷ []))

unfoldable pub tracing_through : ℕ → List Field → List Field → List Field → List ℕ
tracing_through to hs ys ds =
    answered (from_state (passing hs ys ds (flags 8 ∷ [])) (inside to 3 []) (shows 1001 0x55 ∷ []))

-- The same from fresh in AUTHORIZE, where credential 5 has rights 9 and fields of their rule are changed.
unfoldable pub tracing_by : List Field → List ℕ
tracing_by rs =
    answered (from_new (with_fields rs rule ∷ site (mode 0 ∷ []) (flags 8 ∷ first_rights 9 ∷ []) []) (shows 1001 0x55 ∷ []))

pub record Named : Type 0 where
  -- "The answer names .. the one that step 3 matched": on every denial of step 5.
  step_5 :
      tracing [] (activation 2000 ∷ []) [] ++ tracing [] (expiry 1000 ∷ []) [] ++ tracing [] [] (disabled 1 ∷ [])
      ++ tracing [] [] (disabled 2 ∷ []) ++ tracing [] [] (disabled 3 ∷ []) ++ tracing [] [] (days 0 ∷ []) ++ tracing [] [] (uses 0 ∷ [])
      ++ tracing [] (absentee 0 ∷ []) []
      ≡ 0x0097_03_00_0000000B_00000005_00000000 ∷ 0x0098_03_00_0000000B_00000005_00000000 ∷ 0x009E_03_00_0000000B_00000005_00000000
      ∷ 0x0099_03_00_0000000B_00000005_00000000 ∷ 0x009A_03_00_0000000B_00000005_00000000 ∷ 0x009B_03_00_0000000B_00000005_00000000
      ∷ 0x009C_03_00_0000000B_00000005_00000000 ∷ 0x009D_03_00_0000000B_00000005_00000000 ∷ []
  -- Of steps 7 to 11.
  later_steps :
      tracing (mode 2 ∷ []) [] [] ++ tracing (threat 1 ∷ []) [] [] ++ tracing (mode 0 ∷ []) [] []
      ++ tracing_by (flags 7 ∷ []) ++ tracing_by (flags 1 ∷ [])
      ++ tracing_through 3 [] [] (mode 0 ∷ []) ++ tracing_through 3 (passback 1 ∷ []) [] []
      ++ tracing_through 3 [] (lower 3 ∷ []) (flags 4 ∷ []) ++ tracing_through 3 (upper 3 ∷ []) [] (flags 2 ∷ [])
      ++ tracing_through 0xFFFFFFFF [] [] (flags 8 ∷ [])
      ≡ 0x0080_03_00_0000000B_00000005_00000000 ∷ 0x0089_03_00_0000000B_00000005_00000000 ∷ 0x0086_03_00_0000000B_00000005_00000000
      ∷ 0x0087_03_00_00000001_00000005_00000000 ∷ 0x0088_03_00_00000001_00000005_00000000 ∷ 0x0085_03_00_0000000B_00000005_00000003
      ∷ 0x008A_03_00_0000000B_00000005_00000003 ∷ 0x008D_03_00_0000000B_00000005_00000003
      ∷ 0x008E_03_00_0000000B_00000005_00000003 ∷ 0x00A4_03_00_0000000B_00000005_FFFFFFFF ∷ []
  -- "the credential waited for": the wait ends with 164, the last of the denials.
  waited_for :
      worked
      (from_state (passing [] [] (flags 8 ∷ factors_wanted 2 ∷ []) (flags 8 ∷ []))
      (counted 0xFFFFFFFF ∷ counted 3 ∷ state (waiting_for 5 ∷ []) []) (types 1001 0x66 ∷ []))
      ≡ 0x00A4_03_00_0000000B_00000005_FFFFFFFF
      ∷ 0xFFFFFFFF_00000000000000000000000000000000000000000000000000000000
      ∷ 0x00000003_00000000000000000000000000000000000000000000000000000000
      ∷ 0x0000000B_00_00_0000_000003E8_00000384_003FFFFF_00000320_0000000000000000
      ∷ 0x0009_0008_000003E9_003FFFFF_00000258_00A4_00_00_00000002_0000028A_00000000 ∷ []

pub named : Named
unfolding bytes tracing tracing_through tracing_by
named = record { step_5 = refl; later_steps = refl; waited_for = refl }

-- ── whose records

-- Zones 7, 8 and 9, points 3 and 2, credentials 6 and 5 with a card each. Point 3 denies all, credential 6 is traced and out of uses.
unfoldable pub many : List (List ℕ)
many =
    with_fields (instance 9 ∷ []) hall ∷ with_fields (instance 3 ∷ mode 2 ∷ []) door ∷ with_fields (instance 6 ∷ flags 8 ∷ []) person
    ∷ with_fields (instance 6 ∷ value 0x56 ∷ []) card ∷ passing [] [] (flags 8 ∷ []) []

unfoldable pub many_states : List (List ℕ)
many_states =
    counted 9 ∷ with_fields (tag 20 ∷ waiting_for 6 ∷ []) door_state ∷ with_fields (uses 0 ∷ last_point 3 ∷ []) person_state ∷ inside 5 3 []

pub record Written : Type 0 where
  -- "Only the state records of these objects are written."
  these :
      worked (from_state many many_states (shows 2000 0x55 ∷ []))
      ≡ 0x0001_01_00_0000000B_00000005_00000006
      ∷ 0x00000009_00000000000000000000000000000000000000000000000000000000
      ∷ 0x00000014_00_00_0000_000003E8_00000384_00000006_00000320_0000000000000000
      ∷ 0x0000_0008_000002BC_003FFFFF_00000258_0080_00_00_00000003_0000028A_00000000
      ∷ 0x00000006_00000000000000000000000000000000000000000000000000000000
      ∷ 0x00000002_00000000000000000000000000000000000000000000000000000000
      ∷ 0x0000000B_00_00_0000_000003E8_00000384_003FFFFF_00000320_0000000000000000
      ∷ 0x0008_0008_000007D0_00000007_000007D0_0001_00_00_00000002_000007D0_00000000 ∷ []
  -- Credential 6 at point 2, then 5 at point 3, which waits for 6.
  others :
      worked (from_state many many_states (shows 2000 0x56 ∷ entry 1 2 2001 3 0 0x55 ∷ []))
      ≡ 0x009C_03_00_0000000B_00000006_00000005 ∷ 0x0084_03_00_00000015_00000006_00000000
      ∷ 0x00000009_00000000000000000000000000000000000000000000000000000000
      ∷ 0x00000015_00_00_0000_000003E8_00000384_003FFFFF_00000320_0000000000000000
      ∷ 0x0000_0008_000007D1_003FFFFF_00000258_0084_00_00_00000003_0000028A_00000000
      ∷ 0x00000005_00000000000000000000000000000000000000000000000000000000
      ∷ 0x00000003_00000000000000000000000000000000000000000000000000000000
      ∷ 0x0000000B_00_00_0000_000003E8_00000384_003FFFFF_00000320_0000000000000000
      ∷ 0x0009_0008_000002BC_00000007_000003E8_0080_00_00_003FFFFF_0000028A_00000000 ∷ []

pub written : Written
unfolding bytes many many_states
written = record { these = refl; others = refl }
