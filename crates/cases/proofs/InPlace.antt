-- Document 02, job 2: fields read in their place, computed in literal bytes; and long rule lists, "The walk's promise and its answers are those of today."
use Prim.Native.Nat.{ℕ, zero, suc}
use mathlib.Core.Path.{◌≡◌, refl}
use mathlib.Core.List.{List, [], ◌∷◌, ◌++◌, flatten}
use mathlib.Core.Bool.{true, false}
use lib.ListN.{take, drop}
use Rattle.octets.specs.Octets.{field, digits}
use Rattle.model.specs.Site as Site
use Rattle.model.specs.Site.{zone_of, credential_of}
use Rattle.model.specs.State.{credential_state_of}
use Rattle.model.specs.Entry.{entry_of}
use Rattle.model.specs.InPlace.{part_of}
use Rattle.cases.proofs.Change.{Field}
use Rattle.cases.proofs.Fields.{instance, flags, location, location_kind_field, weekdays, to_minute_field}
use Rattle.cases.proofs.Bytes.{bytes}
use Rattle.cases.proofs.Rules.{ruled, under}

-- ── parts of bytes

-- Four records of a site: no two fields of them have the same bytes.
unfoldable campus : List ℕ
campus =
    flatten
    (digits 32 0x01_01_02_00_00000007_11121314_15161718_191A1B1C_000000000000000000000000
    ∷ digits 32 0x02_1F_01_02_00000021_22232425_26272829_2A_2B_2C2D_2E2F3031_32333435_00000000
    ∷ digits 32 0x03_0B_02_7F_00000041_42434445_4647_4849_00000000000000000000000000000000
    ∷ digits 32 0x04_08_03_64_00000061_62636465_66676869_6A6B_6C6D_6E6F_70_00_71727374_75767778
    ∷ [])

-- Two entries of a journal.
unfoldable journal : List ℕ
journal =
    flatten
    (digits 24 0x01_02_0304_05060708_090A0B0C_0D0E0F10_1112131415161718
    ∷ digits 24 0x21_22_2324_25262728_292A2B2C_2D2E2F30_3132333435363738
    ∷ [])

-- The i-th record's part of the site.
abbrev record_of : ℕ → List ℕ
record_of i = part_of 32 i campus

pub record Read : Type 0 where
  -- "reading from any record's 32-byte part of a site is shown to give that record's bytes at the field's offset": these are the site's own, 32 times i on.
  rule_location : take 4 (drop 8 (record_of 2)) ++ take 4 (drop 72 campus) ≡ 0x42 ∷ 0x43 ∷ 0x44 ∷ 0x45 ∷ 0x42 ∷ 0x43 ∷ 0x44 ∷ 0x45 ∷ []
  rule_fields :
      Site.kind (record_of 2) ∷ Site.instance (record_of 2) ∷ Site.location_kind (record_of 2) ∷ Site.weekdays (record_of 2) ∷ Site.location (record_of 2)
      ∷ Site.from_minute (record_of 2) ∷ Site.to_minute (record_of 2) ∷ []
      ≡ 3 ∷ 0x41 ∷ 2 ∷ 0x7F ∷ 0x42434445 ∷ 0x4647 ∷ 0x4849 ∷ []
  rule_flags : Site.enabled (record_of 2) ∷ Site.negative (record_of 2) ∷ Site.always (record_of 2) ∷ Site.everywhere (record_of 2) ∷ [] ≡ true ∷ true ∷ false ∷ true ∷ []
  in_the_site :
      field 64 1 campus ∷ field 68 4 campus ∷ field 66 1 campus ∷ field 67 1 campus ∷ field 72 4 campus ∷ field 76 2 campus ∷ field 78 2 campus ∷ []
      ≡ 3 ∷ 0x41 ∷ 2 ∷ 0x7F ∷ 0x42434445 ∷ 0x4647 ∷ 0x4849 ∷ []
  -- The first record and the last, their first fields and their last.
  ends :
      Site.kind (record_of 0) ∷ (zone_of (record_of 0)).upper_limit ∷ Site.kind (record_of 3) ∷ (credential_of (record_of 3)).second_rights.0 ∷ field 124 4 campus ∷ []
      ≡ 1 ∷ 0x11121314 ∷ 4 ∷ 0x75767778 ∷ 0x75767778 ∷ []
  -- A byte off, a byte short, a record on: other numbers.
  off_short_on : field 9 4 (record_of 2) ∷ field 8 3 (record_of 2) ∷ field 8 4 (record_of 3) ∷ [] ≡ 0x43444546 ∷ 0x424344 ∷ 0x62636465 ∷ []
  -- There is no fifth record; where there is none, nothing is read.
  past_the_end : record_of 4 ≡ []
  -- So the premises are needed: a field that reaches past its part, and a part that the bytes do not fill, read otherwise in the whole.
  beyond_the_part : field 30 4 (record_of 0) ∷ field 30 4 campus ∷ [] ≡ 0 ∷ 0x21F ∷ []
  no_such_part : field 0 1 (part_of 32 4 (campus ++ (5 ∷ []))) ∷ field 128 1 (campus ++ (5 ∷ [])) ∷ [] ≡ 0 ∷ 5 ∷ []
  -- A state's record has 32 bytes too, a journal's entry 24.
  state_record : (credential_state_of (part_of 32 3 campus)).last_grant ∷ field 120 4 campus ∷ [] ≡ 0x71727374 ∷ 0x71727374 ∷ []
  entry_fields :
      (entry_of (part_of 24 1 journal)).operation ∷ (entry_of (part_of 24 1 journal)).argument ∷ (entry_of (part_of 24 1 journal)).spare
      ∷ (entry_of (part_of 24 1 journal)).time ∷ (entry_of (part_of 24 1 journal)).instance ∷ (entry_of (part_of 24 1 journal)).amount ∷ []
      ≡ 0x21 ∷ 0x22 ∷ 0x2324 ∷ 0x25262728 ∷ 0x292A2B2C ∷ 0x2D2E2F30 ∷ []
  in_the_journal :
      field 24 1 journal ∷ field 25 1 journal ∷ field 26 2 journal ∷ field 28 4 journal ∷ field 32 4 journal ∷ field 36 4 journal ∷ []
      ≡ 0x21 ∷ 0x22 ∷ 0x2324 ∷ 0x25262728 ∷ 0x292A2B2C ∷ 0x2D2E2F30 ∷ []
  entry_value : (entry_of (part_of 24 1 journal)).value ≡ 0x31 ∷ 0x32 ∷ 0x33 ∷ 0x34 ∷ 0x35 ∷ 0x36 ∷ 0x37 ∷ 0x38 ∷ []

pub read : Read
unfolding bytes campus journal part_of
read =
    record {
      rule_location = refl;
      rule_fields = refl;
      rule_flags = refl;
      in_the_site = refl;
      ends = refl;
      off_short_on = refl;
      past_the_end = refl;
      beyond_the_part = refl;
      no_such_part = refl;
      state_record = refl;
      entry_fields = refl;
      in_the_journal = refl;
      entry_value = refl;
    }

-- ── long rule lists

-- A rule so many times.
unfoldable times : ℕ → List Field → List (List Field)
times zero fs = []
times (suc n) fs = fs ∷ times n fs

-- Rules that do not fit: of another number, disabled, at another point, on no day.
abbrev others : List Field
others = instance 10 ∷ []

abbrev disabled : List Field
disabled = flags 4 ∷ []

abbrev elsewhere : List Field
elsewhere = location_kind_field 1 ∷ location 8 ∷ []

abbrev never : List Field
never = flags 1 ∷ weekdays 0 ∷ to_minute_field 1440 ∷ []

-- A negative rule that fits always.
abbrev barred : List Field
barred = flags 7 ∷ []

pub record Long : Type 0 where
  -- The one rule that fits stands last, first, and between; beside it rules that differ in a field.
  last : under (times 40 others ++ ([] ∷ [])) ≡ 1 ∷ []
  first : under ([] ∷ times 40 elsewhere) ≡ 1 ∷ []
  between : under (times 20 disabled ++ ([] ∷ times 20 never)) ≡ 1 ∷ []
  beside : under (others ∷ [] ∷ disabled ∷ []) ++ under (elsewhere ∷ [] ∷ never ∷ []) ≡ 1 ∷ 1 ∷ []
  -- Without it: "136 if a positive fits in location, else 133 with a Zone_To".
  without : under (times 40 others) ++ under (times 40 disabled) ++ under (times 40 elsewhere) ++ under (times 40 never) ≡ 133 ∷ 133 ∷ 133 ∷ 136 ∷ []
  -- "Fitting negative: 135", wherever it stands among rules that fit.
  negative : under (times 40 [] ++ (barred ∷ [])) ++ under (barred ∷ times 40 []) ++ under (times 40 barred) ≡ 135 ∷ 135 ∷ 135 ∷ []
  -- The same rule forty times is that rule once.
  again : under (times 40 []) ++ under (times 40 never ++ times 40 elsewhere) ≡ 1 ∷ 136 ∷ []

pub long : Long
unfolding bytes ruled under times
long = record { last = refl; first = refl; between = refl; beside = refl; without = refl; negative = refl; again = refl }
