-- "Entries, 24 bytes; answers, 16 bytes": refusals 7 and 8 of an entry. "Unused bytes are zero."
use Prim.Native.Nat.{ℕ}
use mathlib.Core.Path.{◌≡◌, refl}
use mathlib.Core.List.{List, [], ◌∷◌, map, flatten}
use mathlib.Core.Bool.{true, false}
use lib.Dec.{eqb}
use lib.ListN.{replicate}
use Rattle.octets.specs.Octets.{field, put}
use Rattle.model.specs.Entry.{entry_of, answer_bytes}
use Rattle.model.specs.Calls.{fresh_state, run_journal}
use Rattle.model.specs.Part.{belongs}
use Rattle.model.proofs.Open.{definitions}
use Rattle.model.proofs.Parts.{part, nothing, parts}
use Rattle.cases.proofs.Change.{Field, with_fields}
use Rattle.cases.proofs.Records.{entry_with, tables}
use Rattle.cases.proofs.Lookups.{offsets}
use Rattle.cases.proofs.SiteCheck.{zone_at, point_at, credential_with, records_at}

-- ── fields

-- "Entry: 0 operation, 1 small argument, 4 time, 8 instance, 12 amount (4 each), 16 value (8)."
pub entry_read :
    entry_of offsets
    ≡ record {
      operation = 0;
      argument = 1;
      spare = 0x0203;
      time = 0x04050607;
      instance = 0x08090A0B;
      amount = 0x0C0D0E0F;
      value = 16 ∷ 17 ∷ 18 ∷ 19 ∷ 20 ∷ 21 ∷ 22 ∷ 23 ∷ [];
    }
unfolding definitions offsets
entry_read = refl

-- "Answer: 0 event (2); 2 marks; 3 refusal; 4 tag; 8 credential or NONE; 12 count."
pub answer_written :
    answer_bytes
    record {
      event = 0x0102;
      marks = 3;
      refusal = 4;
      tag = 0x05060708;
      credential = record { 0 = 0x090A0B0C };
      count = 0x0D0E0F10;
    }
    ≡ 1 ∷ 2 ∷ 3 ∷ 4 ∷ 5 ∷ 6 ∷ 7 ∷ 8 ∷ 9 ∷ 10 ∷ 11 ∷ 12 ∷ 13 ∷ 14 ∷ 15 ∷ 16 ∷ []
unfolding definitions
answer_written = refl

-- ── zone 1, point 2, credential 3: the byte of the refusal in the answer to an entry from fresh

unfoldable pub three_objects : List ℕ
three_objects = flatten (zone_at 1 ∷ point_at 2 1 4194303 ∷ credential_with 3 ∷ [])

unfoldable pub answer_to : List ℕ → List ℕ
answer_to entry = (run_journal three_objects (fresh_state three_objects (replicate 96 0)).state entry (replicate 16 7)).answers

unfoldable pub refusals : List ℕ → List (List Field) → List ℕ
refusals entry changes = map (λ fs. field 3 1 (answer_to (with_fields fs entry))) changes

unfoldable pub refusing : Unit {0}
unfolding three_objects answer_to refusals
refusing = tt

-- "1. Factor at a point: 1 is the format, never 0; 16 the value." Operation 0; the argument; spare bytes; time never; an instance that is not there, NONE,
-- a zone's and a credential's; the amount.
pub factor_entries :
    refusals (entry_with ((0, 1, 1) ∷ (1, 1, 255) ∷ (4, 4, 4294967294) ∷ (8, 4, 2) ∷ (16, 4, 4294967295) ∷ (20, 4, 4294967295) ∷ []))
    ([] ∷ ((0, 1, 0) ∷ []) ∷ ((1, 1, 1) ∷ []) ∷ ((1, 1, 0) ∷ []) ∷ ((2, 1, 1) ∷ []) ∷ ((3, 1, 1) ∷ []) ∷ ((4, 4, 4294967295) ∷ []) ∷ ((8, 4, 4194302) ∷ [])
    ∷ ((8, 4, 4194303) ∷ []) ∷ ((8, 4, 1) ∷ []) ∷ ((8, 4, 3) ∷ []) ∷ ((12, 1, 1) ∷ []) ∷ ((15, 1, 1) ∷ []) ∷ [])
    ≡ 0 ∷ 7 ∷ 0 ∷ 7 ∷ 7 ∷ 7 ∷ 7 ∷ 8 ∷ 7 ∷ 8 ∷ 8 ∷ 7 ∷ 7 ∷ []
unfolding definitions tables put records_at refusing
factor_entries = refl

-- "2. Set a zone's count to the amount."
pub set_entries :
    refusals (entry_with ((0, 1, 2) ∷ (4, 4, 4294967294) ∷ (8, 4, 1) ∷ (12, 4, 4294967295) ∷ []))
    ([] ∷ ((0, 1, 0) ∷ []) ∷ ((1, 1, 1) ∷ []) ∷ ((2, 1, 1) ∷ []) ∷ ((3, 1, 1) ∷ []) ∷ ((4, 4, 4294967295) ∷ []) ∷ ((8, 4, 4194302) ∷ [])
    ∷ ((8, 4, 4194303) ∷ []) ∷ ((8, 4, 2) ∷ []) ∷ ((8, 4, 3) ∷ []) ∷ ((16, 1, 1) ∷ []) ∷ ((23, 1, 1) ∷ []) ∷ [])
    ≡ 0 ∷ 7 ∷ 7 ∷ 7 ∷ 7 ∷ 7 ∷ 8 ∷ 7 ∷ 8 ∷ 8 ∷ 7 ∷ 7 ∷ []
unfolding definitions tables put records_at refusing
set_entries = refl

-- "3. Adjust it by the amount, signed."
pub adjust_entries :
    refusals (entry_with ((0, 1, 3) ∷ (4, 4, 4294967294) ∷ (8, 4, 1) ∷ (12, 4, 4294967295) ∷ []))
    ([] ∷ ((0, 1, 0) ∷ []) ∷ ((1, 1, 1) ∷ []) ∷ ((2, 1, 1) ∷ []) ∷ ((3, 1, 1) ∷ []) ∷ ((4, 4, 4294967295) ∷ []) ∷ ((8, 4, 4194302) ∷ [])
    ∷ ((8, 4, 4194303) ∷ []) ∷ ((8, 4, 2) ∷ []) ∷ ((8, 4, 3) ∷ []) ∷ ((16, 1, 1) ∷ []) ∷ ((23, 1, 1) ∷ []) ∷ [])
    ≡ 0 ∷ 7 ∷ 7 ∷ 7 ∷ 7 ∷ 7 ∷ 8 ∷ 7 ∷ 8 ∷ 8 ∷ 7 ∷ 7 ∷ []
unfolding definitions tables put records_at refusing
adjust_entries = refl

-- "4. Set a credential's disable to the argument, 0..3."
pub disable_entries :
    refusals (entry_with ((0, 1, 4) ∷ (1, 1, 3) ∷ (4, 4, 4294967294) ∷ (8, 4, 3) ∷ []))
    ([] ∷ ((0, 1, 0) ∷ []) ∷ ((1, 1, 0) ∷ []) ∷ ((1, 1, 4) ∷ []) ∷ ((2, 1, 1) ∷ []) ∷ ((3, 1, 1) ∷ []) ∷ ((4, 4, 4294967295) ∷ []) ∷ ((8, 4, 4194302) ∷ [])
    ∷ ((8, 4, 4194303) ∷ []) ∷ ((8, 4, 1) ∷ []) ∷ ((8, 4, 2) ∷ []) ∷ ((12, 1, 1) ∷ []) ∷ ((15, 1, 1) ∷ []) ∷ ((16, 1, 1) ∷ [])
    ∷ ((23, 1, 1) ∷ []) ∷ [])
    ≡ 0 ∷ 7 ∷ 0 ∷ 7 ∷ 7 ∷ 7 ∷ 7 ∷ 8 ∷ 7 ∷ 8 ∷ 8 ∷ 7 ∷ 7 ∷ 7 ∷ 7 ∷ []
unfolding definitions tables put records_at refusing
disable_entries = refl

-- "5. In service or not: argument 1 locks a point .. 0 unlocks".
pub service_entries :
    refusals (entry_with ((0, 1, 5) ∷ (1, 1, 1) ∷ (4, 4, 4294967294) ∷ (8, 4, 2) ∷ []))
    ([] ∷ ((0, 1, 0) ∷ []) ∷ ((0, 1, 6) ∷ []) ∷ ((1, 1, 0) ∷ []) ∷ ((1, 1, 2) ∷ []) ∷ ((2, 1, 1) ∷ []) ∷ ((3, 1, 1) ∷ []) ∷ ((4, 4, 4294967295) ∷ []) ∷ ((8, 4, 4194302) ∷ [])
    ∷ ((8, 4, 4194303) ∷ []) ∷ ((8, 4, 1) ∷ []) ∷ ((8, 4, 3) ∷ []) ∷ ((12, 1, 1) ∷ []) ∷ ((15, 1, 1) ∷ []) ∷ ((16, 1, 1) ∷ [])
    ∷ ((23, 1, 1) ∷ []) ∷ [])
    ≡ 0 ∷ 7 ∷ 7 ∷ 0 ∷ 7 ∷ 7 ∷ 7 ∷ 7 ∷ 8 ∷ 7 ∷ 8 ∷ 8 ∷ 7 ∷ 7 ∷ 7 ∷ 7 ∷ []
unfolding definitions tables put records_at refusing
service_entries = refl

-- "operation unknown". "A refusing answer is zero but for byte 3 and credential NONE."
pub unknown_entries :
    map answer_to
    (entry_with ((8, 4, 1) ∷ []) ∷ entry_with ((0, 1, 6) ∷ (8, 4, 1) ∷ []) ∷ entry_with ((0, 1, 2) ∷ (8, 4, 9) ∷ []) ∷ [])
    ≡ (0 ∷ 0 ∷ 0 ∷ 7 ∷ 0 ∷ 0 ∷ 0 ∷ 0 ∷ 0x00 ∷ 0x3F ∷ 0xFF ∷ 0xFF ∷ 0 ∷ 0 ∷ 0 ∷ 0 ∷ [])
    ∷ (0 ∷ 0 ∷ 0 ∷ 7 ∷ 0 ∷ 0 ∷ 0 ∷ 0 ∷ 0x00 ∷ 0x3F ∷ 0xFF ∷ 0xFF ∷ 0 ∷ 0 ∷ 0 ∷ 0 ∷ [])
    ∷ (0 ∷ 0 ∷ 0 ∷ 8 ∷ 0 ∷ 0 ∷ 0 ∷ 0 ∷ 0x00 ∷ 0x3F ∷ 0xFF ∷ 0xFF ∷ 0 ∷ 0 ∷ 0 ∷ 0 ∷ []) ∷ []
unfolding definitions tables put records_at refusing
unknown_entries = refl

-- "per entry 7, 8, 9": a field out of range at an object that is not there; an adjustment of a count of 4,294,967,295 by 1, by 0, and by 1 at a
-- zone that is not there, after the count is set.
pub entry_order :
    map (λ fs. field 19 1
    (run_journal three_objects (fresh_state three_objects (replicate 96 0)).state
    (flatten (entry_with ((0, 1, 2) ∷ (8, 4, 1) ∷ (12, 4, 4294967295) ∷ []) ∷ entry_with fs ∷ [])) (replicate 32 7)).answers)
    (((0, 1, 4) ∷ (1, 1, 4) ∷ (8, 4, 9) ∷ []) ∷ ((0, 1, 3) ∷ (8, 4, 1) ∷ (12, 4, 1) ∷ []) ∷ ((0, 1, 3) ∷ (8, 4, 1) ∷ [])
    ∷ ((0, 1, 3) ∷ (8, 4, 9) ∷ (12, 4, 1) ∷ []) ∷ ((0, 1, 3) ∷ (2, 1, 1) ∷ (8, 4, 1) ∷ (12, 4, 1) ∷ []) ∷ [])
    ≡ 7 ∷ 9 ∷ 0 ∷ 8 ∷ 7 ∷ []
unfolding definitions tables put records_at refusing
entry_order = refl

-- "an entry belongs by its instance under its operation, unknown operations to none": zone 1, point 1 and credential 1 are the part; operations 0 to 6
-- at instance 1, and at instance 2.
pub belonging :
    map (λ i. map (λ o. belongs (part (λ z. eqb z 1) nothing) (entry_of (entry_with ((0, 1, o) ∷ (8, 4, i) ∷ [])))) (0 ∷ 1 ∷ 2 ∷ 3 ∷ 4 ∷ 5 ∷ 6 ∷ [])) (1 ∷ 2 ∷ [])
    ≡ (false ∷ true ∷ true ∷ true ∷ true ∷ true ∷ false ∷ []) ∷ (false ∷ false ∷ false ∷ false ∷ false ∷ false ∷ false ∷ []) ∷ []
unfolding definitions tables put parts
belonging = refl
