-- Records, entries and states for the cases of the order of checks, in hexadecimal and by no name of the definitions. Underscores part the
-- fields, in the order of document 01.
use Prim.Native.Nat.{ℕ, ◌+◌, ◌*◌, ◌/◌}
use mathlib.Core.List.{List, [], ◌∷◌, ◌++◌, map, flatten}
use lib.ListN.{length, take}
use Rattle.octets.specs.Octets.{field, digits, groups, put}
use Rattle.model.specs.Words.{zeros}
use Rattle.model.specs.State.{state_length}
use Rattle.model.specs.Calls.{RunResult, fresh_state, run_journal}
use Rattle.model.proofs.Open.{definitions}
use Rattle.cases.proofs.Change.{Field, with_fields}

-- ── site records

-- Point 2: GRANT_ACTIVE, one factor wanted, no zones, nothing set.
unfoldable pub door : List ℕ
door = digits 32 0x02_00_01_01_00000002_003FFFFF_003FFFFF_00_00_0000_00000000_00000000_00000000

-- Zones 7 and 8: counting, nothing set.
unfoldable pub hall : List ℕ
hall = digits 32 0x01_01_00_00_00000007_00000000_00000000_00000000_000000000000000000000000

unfoldable pub yard : List ℕ
yard = digits 32 0x01_01_00_00_00000008_00000000_00000000_00000000_000000000000000000000000

-- Rights 9: an enabled rule that fits always, at point 2.
unfoldable pub rule : List ℕ
rule = digits 32 0x03_05_02_00_00000009_00000002_0000_0000_00000000000000000000000000000000

-- Credential 5: unlimited, no rights, its most wrong tries unset.
unfoldable pub person : List ℕ
person = digits 32 0x04_00_00_00_00000005_00000000_FFFFFFFF_FFFF_FFFF_FFFF_00_00_003FFFFF_003FFFFF

-- Its identifying factor, of format 2 and value 0x55, and its confirming factor, of format 3 and value 0x66.
unfoldable pub card : List ℕ
card = digits 32 0x05_00_01_00_00000005_02_00000000000000_0000000000000055_0000000000000000

unfoldable pub pin : List ℕ
pin = digits 32 0x05_00_02_00_00000005_03_00000000000000_0000000000000066_0000000000000000

-- ── state records

-- Of point 2: tag 10, no failures, unlocked, lock time 1000, first failure 900, waits for nobody, waited at 800.
unfoldable pub door_state : List ℕ
door_state = digits 32 0x0000000A_00_00_0000_000003E8_00000384_003FFFFF_00000320_0000000000000000

-- Of credential 5: 9 uses, 8 days, used at 700, in no zone, entered at 600, event 128, not disabled, no wrong tries, at no point, granted
-- at 650.
unfoldable pub person_state : List ℕ
person_state = digits 32 0x0009_0008_000002BC_003FFFFF_00000258_0080_00_00_003FFFFF_0000028A_00000000

-- Of a zone, with its count.
unfoldable pub counted : ℕ → List ℕ
counted n = digits 4 n ++ zeros 28

-- ── entries

-- A time of a day, Monday the first of all being day 0: day, hour, minute, second.
abbrev pub at : ℕ → ℕ → ℕ → ℕ → ℕ
at day hour minute second = day * 86400 + hour * 3600 + minute * 60 + second

-- An entry with its operation, argument, time, instance, amount and value.
unfoldable pub entry : ℕ → ℕ → ℕ → ℕ → ℕ → ℕ → List ℕ
entry operation argument time instance amount value =
    (operation ∷ argument ∷ 0 ∷ 0 ∷ []) ++ digits 4 time ++ digits 4 instance ++ digits 4 amount ++ digits 8 value

-- A factor of format 2 read at point 2, with its time and value; one of format 3; one of format 1.
unfoldable pub shows : ℕ → ℕ → List ℕ
shows time value = entry 1 2 time 2 0 value

unfoldable pub types : ℕ → ℕ → List ℕ
types time value = entry 1 3 time 2 0 value

unfoldable pub errs : ℕ → ℕ → List ℕ
errs time value = entry 1 1 time 2 0 value

-- ── runs

-- The site of point 2, credential 5 and its two factors, with fields changed of the point, the credential, both factors; its state, in which factors have
-- no record.
unfoldable pub site : List Field → List Field → List Field → List (List ℕ)
site ds ps fs = with_fields ds door ∷ with_fields ps person ∷ with_fields fs card ∷ with_fields fs pin ∷ []

unfoldable pub state : List Field → List Field → List (List ℕ)
state ds ps = with_fields ds door_state ∷ with_fields ps person_state ∷ []

-- The same where point 2 leads from zone 8 into zone 7, with fields changed of both zones, the point and the credential; its state, with
-- both counts, and credential 5 in zone 7 since 1000.
unfoldable pub passing : List Field → List Field → List Field → List Field → List (List ℕ)
passing hs ys ds ps =
    with_fields hs hall ∷ with_fields ys yard ∷ site ((8, 4, 7) ∷ (12, 4, 8) ∷ ds) ps []

unfoldable pub inside : ℕ → ℕ → List Field → List (List ℕ)
inside to from ps = counted to ∷ counted from ∷ state [] ((8, 4, 7) ∷ (12, 4, 1000) ∷ ps)

-- A journal of entries run on a site of records, from a state of records.
unfoldable pub from_state : List (List ℕ) → List (List ℕ) → List (List ℕ) → RunResult
from_state records states journal =
    run_journal (flatten records) (flatten states) (flatten journal) (zeros (length journal * 16))

-- As many bytes as the state has, the first of the site, to be made fresh; a journal of entries run from fresh.
unfoldable pub buffer : List ℕ → List ℕ
buffer site = take (state_length site) site

unfoldable pub from_new : List (List ℕ) → List (List ℕ) → RunResult
from_new records journal =
    run_journal (flatten records) (fresh_state (flatten records) (buffer (flatten records))).state (flatten journal) (zeros (length journal * 16))

-- The answers, as numbers of 16 bytes; their events alone; the answers and then the state records, as numbers of 32 bytes.
unfoldable pub answered : RunResult → List ℕ
answered r = map (field 0 16) (groups 16 (length r.answers / 16) r.answers)

unfoldable pub told : RunResult → List ℕ
told r = map (field 0 2) (groups 16 (length r.answers / 16) r.answers)

unfoldable pub worked : RunResult → List ℕ
worked r = answered r ++ map (field 0 32) (groups 32 (length r.state / 32) r.state)

-- One name that opens them, and the definitions.
unfoldable pub bytes : Unit {0}
unfolding definitions put with_fields door hall yard rule person card pin door_state person_state counted entry shows types errs site state passing inside from_state buffer from_new answered told worked
bytes = tt
