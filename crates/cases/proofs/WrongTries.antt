-- Document 02, job 4: "Wrong codes follow the card." The request's story from fresh, then two people at one point.
use Prim.Native.Nat.{ℕ, ◌/◌}
use mathlib.Core.Path.{◌≡◌, refl}
use mathlib.Core.List.{List, [], ◌∷◌, ◌++◌, map}
use lib.ListN.{length}
use Rattle.octets.specs.Octets.{field, groups}
use Rattle.model.specs.Calls.{RunResult}
use Rattle.cases.proofs.Change.{with_fields}
use Rattle.cases.proofs.Fields.{instance, flags, factors_wanted, zone_to_field, most, most_tries_field, value}
use Rattle.cases.proofs.Bytes.{door, hall, person, card, pin, entry, from_new, answered, worked, bytes}

-- ── "One person's forgotten code locks the door for a whole floor."

-- A point into zone 7, with count adjust, that wants two factors and locks at the second failure. A credential whose most wrong tries are 3, with the value of
-- its card and of its code.
unfoldable pub floor_door : ℕ → List ℕ
floor_door i = with_fields (instance i ∷ flags 8 ∷ factors_wanted 2 ∷ zone_to_field 7 ∷ most 2 ∷ []) door

unfoldable pub holder : ℕ → ℕ → ℕ → List (List ℕ)
holder i shown typed =
    with_fields (instance i ∷ most_tries_field 3 ∷ []) person ∷ with_fields (instance i ∷ value shown ∷ []) card
    ∷ with_fields (instance i ∷ value typed ∷ []) pin ∷ []

-- The floor: zone 7, points 2 and 3, credentials 5 and 6.
unfoldable pub floor : List (List ℕ)
floor = hall ∷ floor_door 2 ∷ floor_door 3 ∷ (holder 5 0x55 0x66 ++ holder 6 0x56 0x67)

-- A card shown, and a code typed, at a point and a time.
unfoldable pub shows_at : ℕ → ℕ → ℕ → List ℕ
shows_at i time shown = entry 1 2 time i 0 shown

unfoldable pub types_at : ℕ → ℕ → ℕ → List ℕ
types_at i time typed = entry 1 3 time i 0 typed

-- 5's card with a wrong code at point 2, at point 3, at point 2; with the right code; 6's card with the right code at both points; the disable of 5 lifted,
-- and its card with the right code.
unfoldable pub once : List (List ℕ)
once = shows_at 2 0x100 0x55 ∷ types_at 2 0x101 0x99 ∷ []

unfoldable pub twice : List (List ℕ)
twice = once ++ (shows_at 3 0x110 0x55 ∷ types_at 3 0x111 0x99 ∷ [])

unfoldable pub thrice : List (List ℕ)
thrice = twice ++ (shows_at 2 0x120 0x55 ∷ types_at 2 0x121 0x99 ∷ [])

unfoldable pub remembered : List (List ℕ)
remembered = thrice ++ (shows_at 2 0x130 0x55 ∷ types_at 2 0x131 0x66 ∷ [])

unfoldable pub others : List (List ℕ)
others = remembered ++ (shows_at 2 0x140 0x56 ∷ types_at 2 0x141 0x67 ∷ shows_at 3 0x150 0x56 ∷ types_at 3 0x151 0x67 ∷ [])

unfoldable pub lifted : List (List ℕ)
lifted = others ++ (entry 4 0 0x160 5 0 0 ∷ shows_at 3 0x170 0x55 ∷ types_at 3 0x171 0x66 ∷ [])

-- The state records that a run leaves, as numbers of 32 bytes.
unfoldable pub left : RunResult → List ℕ
left r = map (field 0 32) (groups 32 (length r.state / 32) r.state)

pub record Story : Type 0 where
  -- The wait is event 0. "Failures 131 and 132": the event is still 132 at the third, "without mark 16". Then 154, and 6 is granted at both points. Operation 4
  -- lifts the disable.
  answers :
      answered (from_new floor lifted)
      ≡ 0x0000_01_00_00000001_00000005_00000000 ∷ 0x0084_01_00_00000002_00000005_00000000 ∷ 0x0000_01_00_00000001_00000005_00000000
      ∷ 0x0084_01_00_00000002_00000005_00000000 ∷ 0x0000_01_00_00000003_00000005_00000000 ∷ 0x0084_01_00_00000004_00000005_00000000
      ∷ 0x0000_01_00_00000005_00000005_00000000 ∷ 0x009A_01_00_00000006_00000005_00000000
      ∷ 0x0000_01_00_00000007_00000006_00000000 ∷ 0x0001_01_00_00000008_00000006_00000001
      ∷ 0x0000_01_00_00000003_00000006_00000001 ∷ 0x0001_01_00_00000004_00000006_00000002
      ∷ 0x0000_00_00_00000000_00000005_00000000 ∷ 0x0000_01_00_00000005_00000005_00000002 ∷ 0x0001_01_00_00000006_00000005_00000003 ∷ []
  -- "The credential's state gains the count at offset 19": 1 after the first, 2 after the second at another point. No point counts.
  first :
      left (from_new floor once)
      ≡ 0 ∷ 0x00000002_00_00_0000_00000000_00000000_003FFFFF_00000100_0000000000000000
      ∷ 0x00000000_00_00_0000_00000000_00000000_003FFFFF_00000000_0000000000000000
      ∷ 0xFFFF_FFFF_00000101_003FFFFF_FFFFFFFF_0084_00_01_00000002_FFFFFFFF_00000000
      ∷ 0xFFFF_FFFF_FFFFFFFF_003FFFFF_FFFFFFFF_0000_00_00_003FFFFF_FFFFFFFF_00000000 ∷ []
  second :
      left (from_new floor twice)
      ≡ 0 ∷ 0x00000002_00_00_0000_00000000_00000000_003FFFFF_00000100_0000000000000000
      ∷ 0x00000002_00_00_0000_00000000_00000000_003FFFFF_00000110_0000000000000000
      ∷ 0xFFFF_FFFF_00000111_003FFFFF_FFFFFFFF_0084_00_02_00000003_FFFFFFFF_00000000
      ∷ 0xFFFF_FFFF_FFFFFFFF_003FFFFF_FFFFFFFF_0000_00_00_003FFFFF_FFFFFFFF_00000000 ∷ []
  -- "Reaching the most sets the disable to LOCKOUT and zeroes the count".
  third :
      left (from_new floor thrice)
      ≡ 0 ∷ 0x00000004_00_00_0000_00000000_00000000_003FFFFF_00000120_0000000000000000
      ∷ 0x00000002_00_00_0000_00000000_00000000_003FFFFF_00000110_0000000000000000
      ∷ 0xFFFF_FFFF_00000121_003FFFFF_FFFFFFFF_0084_03_00_00000002_FFFFFFFF_00000000
      ∷ 0xFFFF_FFFF_FFFFFFFF_003FFFFF_FFFFFFFF_0000_00_00_003FFFFF_FFFFFFFF_00000000 ∷ []
  right_code :
      left (from_new floor remembered)
      ≡ 0 ∷ 0x00000006_00_00_0000_00000000_00000000_003FFFFF_00000130_0000000000000000
      ∷ 0x00000002_00_00_0000_00000000_00000000_003FFFFF_00000110_0000000000000000
      ∷ 0xFFFF_FFFF_00000131_003FFFFF_FFFFFFFF_009A_03_00_00000002_FFFFFFFF_00000000
      ∷ 0xFFFF_FFFF_FFFFFFFF_003FFFFF_FFFFFFFF_0000_00_00_003FFFFF_FFFFFFFF_00000000 ∷ []
  others_pass :
      left (from_new floor others)
      ≡ 0x00000002_00000000000000000000000000000000000000000000000000000000
      ∷ 0x00000008_00_00_0000_00000000_00000000_003FFFFF_00000140_0000000000000000
      ∷ 0x00000004_00_00_0000_00000000_00000000_003FFFFF_00000150_0000000000000000
      ∷ 0xFFFF_FFFF_00000131_003FFFFF_FFFFFFFF_009A_03_00_00000002_FFFFFFFF_00000000
      ∷ 0xFFFF_FFFF_00000151_00000007_00000151_0001_00_00_00000003_00000151_00000000 ∷ []
  lockout_lifted :
      left (from_new floor lifted)
      ≡ 0x00000003_00000000000000000000000000000000000000000000000000000000
      ∷ 0x00000008_00_00_0000_00000000_00000000_003FFFFF_00000140_0000000000000000
      ∷ 0x00000006_00_00_0000_00000000_00000000_003FFFFF_00000170_0000000000000000
      ∷ 0xFFFF_FFFF_00000171_00000007_00000171_0001_00_00_00000003_00000171_00000000
      ∷ 0xFFFF_FFFF_00000151_00000007_00000151_0001_00_00_00000003_00000151_00000000 ∷ []

-- One name that opens these and the helpers of Bytes.
unfoldable pub story_open : Unit {0}
unfolding bytes floor_door holder floor shows_at types_at once twice thrice remembered others lifted left
story_open = tt

pub story : Story
unfolding story_open
story =
    record {
      answers = refl;
      first = refl;
      second = refl;
      third = refl;
      right_code = refl;
      others_pass = refl;
      lockout_lifted = refl;
    }

-- ── two people at point 2

-- 5's card, then 6's card; 5's card, then 6's code.
unfoldable pub another : List (List ℕ)
another = shows_at 2 0x100 0x55 ∷ shows_at 2 0x101 0x56 ∷ shows_at 2 0x102 0x55 ∷ types_at 2 0x103 0x67 ∷ []

-- Wrong codes of 5, of 6 and of 5; then 6's card with the right code.
unfoldable pub in_turn : List (List ℕ)
in_turn =
    shows_at 2 0x100 0x55 ∷ types_at 2 0x101 0x99 ∷ shows_at 2 0x102 0x56 ∷ types_at 2 0x103 0x99 ∷ shows_at 2 0x104 0x55 ∷ types_at 2 0x105 0x99 ∷ []

unfoldable pub six_passes : List (List ℕ)
six_passes = in_turn ++ (shows_at 2 0x106 0x56 ∷ types_at 2 0x107 0x67 ∷ [])

pub record TwoPeople : Type 0 where
  -- "no confirming factor of that credential: 132": another's card, and another's code, is a wrong try of the one waited for; 6's record is as fresh.
  of_another :
      worked (from_new floor another)
      ≡ 0x0000_01_00_00000001_00000005_00000000 ∷ 0x0084_01_00_00000002_00000005_00000000 ∷ 0x0000_01_00_00000003_00000005_00000000
      ∷ 0x0084_01_00_00000004_00000005_00000000
      ∷ 0 ∷ 0x00000004_00_00_0000_00000000_00000000_003FFFFF_00000102_0000000000000000
      ∷ 0x00000000_00_00_0000_00000000_00000000_003FFFFF_00000000_0000000000000000
      ∷ 0xFFFF_FFFF_00000103_003FFFFF_FFFFFFFF_0084_00_02_00000002_FFFFFFFF_00000000
      ∷ 0xFFFF_FFFF_FFFFFFFF_003FFFFF_FFFFFFFF_0000_00_00_003FFFFF_FFFFFFFF_00000000 ∷ []
  -- "counted for each credential": 2 and 1.
  own_counts :
      left (from_new floor in_turn)
      ≡ 0 ∷ 0x00000006_00_00_0000_00000000_00000000_003FFFFF_00000104_0000000000000000
      ∷ 0x00000000_00_00_0000_00000000_00000000_003FFFFF_00000000_0000000000000000
      ∷ 0xFFFF_FFFF_00000105_003FFFFF_FFFFFFFF_0084_00_02_00000002_FFFFFFFF_00000000
      ∷ 0xFFFF_FFFF_00000103_003FFFFF_FFFFFFFF_0084_00_01_00000002_FFFFFFFF_00000000 ∷ []
  -- "a grant .. also zeroes it": 6's its own, not 5's.
  own_grant :
      left (from_new floor six_passes)
      ≡ 0x00000001_00000000000000000000000000000000000000000000000000000000
      ∷ 0x00000008_00_00_0000_00000000_00000000_003FFFFF_00000106_0000000000000000
      ∷ 0x00000000_00_00_0000_00000000_00000000_003FFFFF_00000000_0000000000000000
      ∷ 0xFFFF_FFFF_00000105_003FFFFF_FFFFFFFF_0084_00_02_00000002_FFFFFFFF_00000000
      ∷ 0xFFFF_FFFF_00000107_00000007_00000107_0001_00_00_00000002_00000107_00000000 ∷ []
  -- "operation 4 also zeroes it": 6's its own, not 5's.
  own_disable :
      left (from_new floor (in_turn ++ (entry 4 0 0x106 6 0 0 ∷ [])))
      ≡ 0 ∷ 0x00000006_00_00_0000_00000000_00000000_003FFFFF_00000104_0000000000000000
      ∷ 0x00000000_00_00_0000_00000000_00000000_003FFFFF_00000000_0000000000000000
      ∷ 0xFFFF_FFFF_00000105_003FFFFF_FFFFFFFF_0084_00_02_00000002_FFFFFFFF_00000000
      ∷ 0xFFFF_FFFF_00000103_003FFFFF_FFFFFFFF_0084_00_00_00000002_FFFFFFFF_00000000 ∷ []

pub two_people : TwoPeople
unfolding story_open another in_turn six_passes
two_people = record { of_another = refl; own_counts = refl; own_grant = refl; own_disable = refl }
