-- Document 02, job 4: "Under demand 3's premises, cards in another part stay untouched." Wrong codes in the east wing leave the west wing's answers and state
-- records, its cards' too, as they are with the east wing's entries left out.
use Prim.Native.Nat.{ℕ, ◌/◌}
use mathlib.Core.Path.{◌≡◌, refl}
use mathlib.Core.List.{List, [], ◌∷◌, ◌++◌, map, flatten}
use mathlib.Core.Bool.{false}
use lib.Dec.{eqb}
use lib.ListN.{length, replicate}
use Rattle.octets.specs.Octets.{field, groups}
use Rattle.model.specs.Words.{all}
use Rattle.model.specs.Calls.{number}
use Rattle.model.specs.Lists.{Run, History, returns, begun, ended, worked}
use Rattle.model.specs.Part.{Part, read_inside, SelfContained, part_records, part_entries, part_answers, part_state, part_journal, part_run, part_runs, others_left_out}
use Rattle.model.proofs.Build.{cut, history, examples}
use Rattle.cases.proofs.Change.{with_fields}
use Rattle.cases.proofs.Records.{record_of, entry_with, tables}
use Rattle.cases.proofs.SiteCheck.{zone_at, point_at, records_at}
use Rattle.cases.proofs.Fields.{zone_to_field}
use Rattle.cases.proofs.Bytes.{hall, yard, entry}
use Rattle.cases.proofs.WrongTries.{floor_door, holder, shows_at, types_at, story_open}
use Rattle.cases.proofs.SelfContained.{border}

-- East: point 2 into zone 7, and credential 5. West: point 3 into zone 8, and credential 6. Both points want two factors, both credentials have a card and a
-- code, and 3 as their most wrong tries.
unfoldable pub east_records : List (List ℕ)
east_records = hall ∷ floor_door 2 ∷ holder 5 0x55 0x66

unfoldable pub west_records : List (List ℕ)
west_records = yard ∷ with_fields (zone_to_field 8 ∷ []) (floor_door 3) ∷ holder 6 0x56 0x67

unfoldable pub west : Part
west =
    record {
      zones = λ z. eqb z.0 8;
      points = λ p. eqb p.0 3;
      credentials = λ c. eqb c.0 6;
      rights = λ r. false;
    }

-- Two journals, and between them one that is turned back. East: three wrong codes, the right one, and LOCKOUT set once more. West, in the first journal: a wrong
-- code; in the second: the right one, then a wrong one.
unfoldable pub morning : List (List ℕ)
morning =
    shows_at 2 0x100 0x55 ∷ shows_at 3 0x101 0x56 ∷ types_at 2 0x102 0x99 ∷ types_at 3 0x103 0x99 ∷ shows_at 2 0x104 0x55 ∷ types_at 2 0x105 0x99 ∷ []

unfoldable pub evening : List (List ℕ)
evening =
    shows_at 3 0x110 0x56 ∷ shows_at 2 0x111 0x55 ∷ types_at 2 0x112 0x99 ∷ types_at 3 0x113 0x67 ∷ shows_at 2 0x114 0x55 ∷ types_at 2 0x115 0x66
    ∷ entry 4 3 0x116 5 0 0 ∷ shows_at 3 0x120 0x56 ∷ types_at 3 0x121 0x99 ∷ []

-- West's entries of them.
unfoldable pub west_morning : List (List ℕ)
west_morning = shows_at 3 0x101 0x56 ∷ types_at 3 0x103 0x99 ∷ []

unfoldable pub west_evening : List (List ℕ)
west_evening = shows_at 3 0x110 0x56 ∷ types_at 3 0x113 0x67 ∷ shows_at 3 0x120 0x56 ∷ types_at 3 0x121 0x99 ∷ []

-- One name that opens these, the definitions of Part, and the helpers of WrongTries.
unfoldable pub wings : Unit {0}
unfolding story_open examples border east_records west_records west morning evening west_morning west_evening part_journal part_run part_runs others_left_out
wings = tt

-- Both wings' entries; east's left out; west's left out, until LOCKOUT; no entry.
unfoldable pub both : History
unfolding wings
both = history (east_records ++ west_records) (morning ∷ cut ∷ evening ∷ []) refl

unfoldable pub west_alone : History
unfolding wings
west_alone = history (east_records ++ west_records) (west_morning ∷ cut ∷ west_evening ∷ []) refl

unfoldable pub east_alone : History
unfolding wings
east_alone =
    history (east_records ++ west_records)
    ((shows_at 2 0x100 0x55 ∷ types_at 2 0x102 0x99 ∷ shows_at 2 0x104 0x55 ∷ types_at 2 0x105 0x99 ∷ shows_at 2 0x111 0x55 ∷ types_at 2 0x112 0x99 ∷ []) ∷ [])
    refl

unfoldable pub no_journal : History
unfolding wings
no_journal = history (east_records ++ west_records) [] refl

-- West's answers, then the state records of its zone, point and credential.
unfoldable pub west_of : History → List ℕ
west_of h =
    let state = flatten (part_state west h) in
    map (field 0 16) (part_answers west h) ++ map (field 0 32) (groups 32 (length state / 32) state)

-- West's card at east's point, with a wrong code; east's card there, with west's card as the second factor.
unfoldable pub across : History
unfolding wings
across = history (east_records ++ west_records) ((shows_at 2 0x100 0x56 ∷ types_at 2 0x101 0x99 ∷ []) ∷ []) refl

unfoldable pub second_factor : History
unfolding wings
second_factor = history (east_records ++ west_records) ((shows_at 2 0x100 0x55 ∷ shows_at 2 0x101 0x56 ∷ []) ∷ []) refl

pub record Wings : Type 0 where
  -- "Under demand 3's premises": both lists meet them, and have the same records and entries of west.
  premises : SelfContained west both
  premises_alone : SelfContained west west_alone
  same_records : part_records west both ≡ part_records west west_alone
  same_entries : part_entries west both ≡ part_entries west west_alone
  -- 5 is locked out: the state records of east are the first three.
  east_locked :
      field 0 32 (ended both) ∷ field 32 32 (ended both) ∷ field 64 32 (ended both) ∷ []
      ≡ 0 ∷ 0x00000008_00_00_0000_00000000_00000000_003FFFFF_00000114_0000000000000000
      ∷ 0xFFFF_FFFF_00000115_003FFFFF_FFFFFFFF_009A_03_00_00000002_FFFFFFFF_00000000 ∷ []
  -- West's answers and state records, with east's entries and without them: 6 has one wrong try, after its grant.
  beside :
      west_of both
      ≡ 0x0000_01_00_00000001_00000006_00000000 ∷ 0x0084_01_00_00000002_00000006_00000000 ∷ 0x0000_01_00_00000003_00000006_00000000
      ∷ 0x0001_01_00_00000004_00000006_00000001 ∷ 0x0000_01_00_00000005_00000006_00000001 ∷ 0x0084_01_00_00000006_00000006_00000001
      ∷ 0x00000001_00000000000000000000000000000000000000000000000000000000
      ∷ 0x00000006_00_00_0000_00000000_00000000_003FFFFF_00000120_0000000000000000
      ∷ 0xFFFF_FFFF_00000121_00000008_00000113_0084_00_01_00000003_00000113_00000000 ∷ []
  left_out : west_of west_alone ≡ west_of both
  -- No entry of west: its records are as fresh.
  no_entry :
      west_of east_alone
      ≡ 0 ∷ 0x00000000_00_00_0000_00000000_00000000_003FFFFF_00000000_0000000000000000
      ∷ 0xFFFF_FFFF_FFFFFFFF_003FFFFF_FFFFFFFF_0000_00_00_003FFFFF_FFFFFFFF_00000000 ∷ []
  fresh : west_of no_journal ≡ west_of east_alone
  -- The definition leaves the same entries out, and the journal that is turned back stays.
  left_out_runs : (others_left_out west both).runs ≡ west_alone.runs
  left_out_returns : map number (returns both.site (begun both) (others_left_out west both).runs) ≡ 0 ∷ 10 ∷ 0 ∷ []
  -- "no factor read names, as identifying factor, a credential across the border": where one does, a wrong code at east's point counts for 6.
  named_across : all (read_inside west) (worked across) ≡ false
  counted_across :
      west_of across
      ≡ 0 ∷ 0x00000000_00_00_0000_00000000_00000000_003FFFFF_00000000_0000000000000000
      ∷ 0xFFFF_FFFF_00000101_003FFFFF_FFFFFFFF_0084_00_01_00000002_FFFFFFFF_00000000 ∷ []
  -- 6's card as the second factor after 5's is no such read: it is 5's wrong try.
  second : SelfContained west second_factor
  second_left : west_of second_factor ≡ west_of east_alone

pub wing_cases : Wings
unfolding wings both west_alone east_alone no_journal west_of across second_factor
wing_cases =
    record {
      premises = record { site = refl; reads = refl };
      premises_alone = record { site = refl; reads = refl };
      same_records = refl;
      same_entries = refl;
      east_locked = refl;
      beside = refl;
      left_out = refl;
      no_entry = refl;
      fresh = refl;
      left_out_runs = refl;
      left_out_returns = refl;
      named_across = refl;
      counted_across = refl;
      second = record { site = refl; reads = refl };
      second_left = refl;
    }

-- ── a run's room for answers: a journal of both wings, one whose answers have too few bytes, one of east alone

unfoldable pub rooms : List Run
rooms =
    record { journal = flatten (shows_at 2 1 0x55 ∷ shows_at 3 2 0x56 ∷ types_at 2 3 0x99 ∷ []); answers = replicate 16 7 ++ replicate 32 8 }
    ∷ record { journal = flatten (types_at 3 4 0x99 ∷ types_at 2 4 0x99 ∷ []); answers = replicate 31 9 }
    ∷ record { journal = flatten (shows_at 2 5 0x55 ∷ []); answers = replicate 16 9 } ∷ []

-- Of a run worked through, the part's entries with room for their answers; one turned back stays.
pub rooms_left :
    part_runs west both.site (begun both) rooms
    ≡ record { journal = shows_at 3 2 0x56; answers = replicate 16 7 }
    ∷ record { journal = flatten (types_at 3 4 0x99 ∷ types_at 2 4 0x99 ∷ []); answers = replicate 31 9 } ∷ record { journal = []; answers = [] } ∷ []
unfolding wings both rooms
rooms_left = refl

-- A state whose bytes would pass for a site of zone 0 and point 0, at which a card that is not known is a failure: the runs are on the site, which has neither,
-- and both are worked through.
pub state_no_site :
    part_runs west (zone_at 8 ++ point_at 2 4194303 4194303)
    (record_of ((0, 1, 1) ∷ []) ++ record_of ((0, 4, 0x02000101) ∷ (12, 4, 4194303) ∷ (16, 4, 4194303) ∷ []))
    (replicate 2 record { journal = entry_with ((0, 1, 1) ∷ (1, 1, 2) ∷ []); answers = replicate 16 9 })
    ≡ replicate 2 record { journal = []; answers = [] }
unfolding wings tables records_at
state_no_site = refl
