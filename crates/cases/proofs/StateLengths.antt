-- Document 02, job 8: "Refusal 5 now compares with 32 times their number", that of zones, points and credentials. Sites without any, and states that are lent
-- for another site: the longer ones, with records for rules and factors too, and those of as many records for others.
use Prim.Native.Nat.{ℕ}
use mathlib.Core.Path.{◌≡◌, refl}
use mathlib.Core.List.{List, [], ◌∷◌, ◌++◌, map, flatten}
use Rattle.std.specs.Prelude.{Err}
use lib.ListN.{take, drop}
use Rattle.octets.specs.Octets.{digits, put}
use Rattle.model.specs.Words.{zeros}
use Rattle.model.specs.State.{state_length}
use Rattle.model.specs.Calls.{number, run_result, fresh_state, check_state}
use Rattle.model.specs.Lists.{Run, run_on}
use Rattle.model.specs.Longer.{check_long_state}
use Rattle.model.specs.declared.Refusal.TheVariants.{StateLength}
use Rattle.cases.proofs.Change.{Field, with_fields}
use Rattle.cases.proofs.Fields.{instance}
use Rattle.cases.proofs.Bytes.{door, hall, yard, rule, person, card, pin, door_state, person_state, counted, types, from_state, answered, bytes}
use Rattle.cases.proofs.Records.{tables}
use Rattle.cases.proofs.SiteCheck.{records_at}
use Rattle.cases.proofs.States.{every_kind, largest_state}
use Rattle.model.proofs.Open.{longs}

-- ── sites without zones, points and credentials: their state is empty

-- An enabled rule that fits always and everywhere.
unfoldable pub everywhere : List ℕ
everywhere = digits 32 0x03_0D_00_00_00000009_00000000_0000_0000_00000000000000000000000000000000

-- What fresh, the check and an empty journal return on a state, and the state that fresh leaves.
unfoldable stateless : List (List ℕ) → List ℕ → List ℕ
stateless ss state =
    let site = flatten ss in
    number (fresh_state site state).returned ∷ number (check_state site state) ∷ number (run_on site state (record { journal = []; answers = [] })).returned
    ∷ (fresh_state site state).state

pub record Stateless : Type 0 where
  -- Rules alone, and the empty site, on the empty state; on one of a record.
  rules : stateless (everywhere ∷ everywhere ∷ []) [] ≡ 0 ∷ 0 ∷ 0 ∷ []
  nothing : stateless [] [] ≡ 0 ∷ 0 ∷ 0 ∷ []
  rules_record : stateless (everywhere ∷ everywhere ∷ []) (zeros 32) ≡ 5 ∷ 5 ∷ 5 ∷ zeros 32
  nothing_record : stateless [] (zeros 32) ≡ 5 ∷ 5 ∷ 5 ∷ zeros 32
  -- A factor has none either. A rule and a factor without its credential are turned back before the length, with 4.
  lengths :
      map (λ ss. state_length (flatten ss)) ([] ∷ (everywhere ∷ []) ∷ (card ∷ []) ∷ (everywhere ∷ card ∷ everywhere ∷ []) ∷ (card ∷ person ∷ []) ∷ [])
      ≡ 0 ∷ 0 ∷ 0 ∷ 0 ∷ 32 ∷ []
  -- Of any bytes, the whole records of these kinds: a kind 0, a kind 6, a record less a byte, and one behind a whole one.
  any_bytes : map state_length (zeros 32 ∷ put 0 1 6 hall ∷ take 31 hall ∷ (hall ++ take 31 door) ∷ []) ≡ 0 ∷ 0 ∷ 0 ∷ 32 ∷ []
  factor_alone : stateless (everywhere ∷ card ∷ []) [] ≡ 4 ∷ 4 ∷ 4 ∷ []

pub stateless_cases : Stateless
unfolding bytes longs everywhere stateless
stateless_cases = record { rules = refl; nothing = refl; rules_record = refl; nothing_record = refl; lengths = refl; any_bytes = refl; factor_alone = refl }

-- ── the longer state, of zone 7, a rule and point 2, where a state of zone and point alone is wanted

unfoldable pub ruled_door : List ℕ
ruled_door = flatten (hall ∷ rule ∷ door ∷ [])

unfoldable pub ruled_state : List ℕ
ruled_state = flatten (counted 5 ∷ door_state ∷ [])

unfoldable pub ruled_long : List ℕ
ruled_long = flatten (counted 5 ∷ zeros 32 ∷ door_state ∷ [])

-- A run of a code at point 2, over other bytes.
unfoldable pub one_read : Run
one_read = record { journal = types 1001 0x66; answers = 9 ∷ zeros 15 }

pub record TheLonger : Type 0 where
  -- 5, and nothing changed.
  check : number (check_state ruled_door ruled_long) ≡ 5
  run : run_on ruled_door ruled_long one_read ≡ run_result (Err StateLength) ruled_long (9 ∷ zeros 15)
  -- The shorter one is worked: 129 at the point, which stands second in it.
  shorter_one :
      number (check_state ruled_door ruled_state) ∷ answered (run_on ruled_door ruled_state one_read)
      ≡ 0 ∷ 0x0081_01_00_0000000B_003FFFFF_00000000 ∷ []
  -- Where the longer one is wanted, the shorter one is not taken.
  wanted : number (check_long_state ruled_door ruled_long) ∷ number (check_long_state ruled_door ruled_state) ∷ [] ≡ 0 ∷ 5 ∷ []

pub the_longer : TheLonger
unfolding bytes longs ruled_door ruled_state ruled_long one_read
the_longer = record { check = refl; run = refl; shorter_one = refl; wanted = refl }

-- "Rule, factor: zero", in the longer state of every kind: the rule's record is from byte 96, the factor's from byte 160.
unfoldable largest_long : List ℕ
largest_long = take 96 largest_state ++ zeros 32 ++ take 32 (drop 96 largest_state) ++ zeros 32 ++ drop 128 largest_state

abbrev long_numbers : List (List Field) → List ℕ
long_numbers changes = map (λ fs. number (check_long_state every_kind (with_fields fs largest_long))) changes

pub record LongWell : Type 0 where
  rule_and_factor :
      long_numbers ([] ∷ ((96, 1, 1) ∷ []) ∷ ((127, 1, 1) ∷ []) ∷ ((160, 1, 1) ∷ []) ∷ ((191, 1, 1) ∷ []) ∷ []) ≡ 0 ∷ 6 ∷ 6 ∷ 6 ∷ 6 ∷ []
  -- The others as in the shorter one: a zone's spare byte, a point's failures at its most, a credential's wrong tries at theirs, of both credentials.
  the_others :
      long_numbers (((4, 1, 1) ∷ []) ∷ ((36, 1, 3) ∷ []) ∷ ((147, 1, 4) ∷ []) ∷ ((211, 1, 1) ∷ []) ∷ ((147, 1, 2) ∷ []) ∷ []) ≡ 6 ∷ 6 ∷ 6 ∷ 6 ∷ 0 ∷ []
  -- "5 state not as long as the site": 224 bytes.
  lengths :
      map (λ t. number (check_long_state every_kind t)) (take 223 largest_long ∷ (largest_long ++ (0 ∷ [])) ∷ largest_state ∷ [] ∷ []) ≡ 5 ∷ 5 ∷ 5 ∷ 5 ∷ []

pub long_well : LongWell
unfolding bytes longs tables records_at every_kind largest_state largest_long
long_well = record { rule_and_factor = refl; the_others = refl; lengths = refl }

-- ── a state of another site

-- What the check returns of a site's records and state records.
unfoldable checked : List (List ℕ) → List (List ℕ) → ℕ
checked ss ts = number (check_state (flatten ss) (flatten ts))

-- Credential 0, and its code.
abbrev nought : List ℕ
nought = with_fields (instance 0 ∷ []) person

abbrev nought_pin : List ℕ
nought_pin = with_fields (instance 0 ∷ []) pin

pub record Lent : Type 0 where
  -- Rules and factors may stand anywhere: the same state.
  anywhere :
      map (λ ss. checked ss (counted 5 ∷ door_state ∷ person_state ∷ []))
      ((hall ∷ door ∷ person ∷ []) ∷ (rule ∷ hall ∷ door ∷ card ∷ person ∷ []) ∷ (hall ∷ card ∷ rule ∷ rule ∷ door ∷ person ∷ pin ∷ []) ∷ [])
      ≡ 0 ∷ 0 ∷ 0 ∷ []
  -- The state of two zones, for a zone and a point: its waiting credential would be 0. A credential's, whose last grant stands where a point has spare bytes.
  -- A point's, for a zone.
  other_kinds :
      checked (hall ∷ door ∷ []) (counted 5 ∷ counted 3 ∷ []) ∷ checked (hall ∷ door ∷ []) (counted 5 ∷ person_state ∷ [])
      ∷ checked (hall ∷ yard ∷ []) (counted 5 ∷ door_state ∷ []) ∷ []
      ≡ 6 ∷ 6 ∷ 6 ∷ []
  -- The same kinds in another sequence.
  other_sequence : checked (door ∷ hall ∷ []) (counted 5 ∷ door_state ∷ []) ∷ checked (door ∷ hall ∷ []) (door_state ∷ counted 5 ∷ []) ∷ [] ≡ 6 ∷ 0 ∷ []
  -- Well formed by chance: the state of two zones and credential 0, for a zone, a point and that credential. Count 3 is the point's tag, and it waits for 0.
  by_chance :
      checked (hall ∷ door ∷ nought ∷ nought_pin ∷ []) (counted 5 ∷ counted 3 ∷ person_state ∷ [])
      ∷ answered (from_state (hall ∷ door ∷ nought ∷ nought_pin ∷ []) (counted 5 ∷ counted 3 ∷ person_state ∷ []) (types 1001 0x66 ∷ []))
      ≡ 0 ∷ 0x0001_01_00_00000004_00000000_00000000 ∷ []

pub lent : Lent
unfolding bytes longs checked
lent = record { anywhere = refl; other_kinds = refl; other_sequence = refl; by_chance = refl }
