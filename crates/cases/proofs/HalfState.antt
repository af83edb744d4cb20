-- Document 02, job 8: "State shall hold records for zones, points and credentials alone, in site sequence. Refusal 5 now compares with 32 times their number."
-- Sites of every mix of kinds: the length of their state, the places in it, what the calls give.
use Prim.Native.Nat.{ℕ, ◌/◌}
use mathlib.Core.Path.{◌≡◌, refl}
use mathlib.Core.List.{List, [], ◌∷◌, ◌++◌, map, flatten}
use mathlib.Core.Bool.{Bool, true, not, ◌&&◌, ◌||◌}
use Rattle.std.specs.Prelude.{if◌then◌else◌}
use lib.Dec.{eqb}
use lib.ListN.{length, take, replicate}
use Rattle.octets.specs.Octets.{field, digits, groups, same}
use Rattle.model.specs.Words.{keep, any, all, zeros}
use Rattle.model.specs.Site.{records}
use Rattle.model.specs.State.{state_length, state_place, fresh}
use Rattle.model.specs.Calls.{number, fresh_state, check_state}
use Rattle.model.specs.Lists.{Run, run_on}
use Rattle.model.specs.Longer.{long_fresh, long_run_on, shorter, longer}
use Rattle.model.proofs.Open.{longs}
use Rattle.cases.proofs.Bytes.{door, hall, rule, person, card, counted, entry, bytes}

-- ── "for all site mixes": a zone, a point, a rule, a credential and a factor

-- A site record with its state record, fresh and after the journal below; none for a rule or a factor.
pub record Kind : Type 0 where
  pub of_site : List ℕ
  pub at_first : List ℕ
  pub later : List ℕ

-- The fresh states of point 2 and credential 5.
unfoldable pub fresh_door : List ℕ
fresh_door = digits 32 0x00000000_00_00_0000_00000000_00000000_003FFFFF_00000000_0000000000000000

unfoldable pub fresh_person : List ℕ
fresh_person = digits 32 0xFFFF_FFFF_FFFFFFFF_003FFFFF_FFFFFFFF_0000_00_00_003FFFFF_FFFFFFFF_00000000

unfoldable kinds : List Kind
kinds =
    record { of_site = hall; at_first = zeros 32; later = counted 0x01020304 }
    ∷ record {
      of_site = door;
      at_first = fresh_door;
      later = digits 32 0x00000001_00_01_0000_00000064_00000000_003FFFFF_00000000_0000000000000000;
    }
    ∷ record { of_site = rule; at_first = []; later = [] }
    ∷ record {
      of_site = person;
      at_first = fresh_person;
      later = digits 32 0xFFFF_FFFF_FFFFFFFF_003FFFFF_FFFFFFFF_0000_03_00_003FFFFF_FFFFFFFF_00000000;
    }
    ∷ record { of_site = card; at_first = []; later = [] } ∷ []

-- Zone 7's count set, point 2 locked at 100, credential 5 disabled.
unfoldable on_each : Run
on_each =
    record {
      journal = flatten (entry 2 0 100 7 0x01020304 0 ∷ entry 5 1 100 2 0 0 ∷ entry 4 3 100 5 0 0 ∷ []);
      answers = replicate 48 9;
    }

-- "0 kind". All sequences of three records of different kinds.
abbrev kind_of : Kind → ℕ
kind_of k = field 0 1 k.of_site

abbrev differ : Kind → Kind → Bool
differ a b = not (eqb (kind_of a) (kind_of b))

unfoldable mixes : List (List Kind)
mixes =
    flatten
    (map (λ a. flatten (map (λ b. map (λ c. a ∷ b ∷ c ∷ []) (keep (λ c. differ a c && differ b c) kinds)) (keep (λ b. differ a b) kinds))) kinds)

-- The site; its states, fresh and after the journal; the longer ones, with zeros for a rule and a factor.
abbrev site_of : List Kind → List ℕ
site_of ks = flatten (map (λ (k : Kind). k.of_site) ks)

abbrev first_state : List Kind → List ℕ
first_state ks = flatten (map (λ (k : Kind). k.at_first) ks)

abbrev later_state : List Kind → List ℕ
later_state ks = flatten (map (λ (k : Kind). k.later) ks)

abbrev filled : List ℕ → List ℕ
filled t = take 32 (t ++ zeros 32)

abbrev long_first : List Kind → List ℕ
long_first ks = flatten (map (λ (k : Kind). filled k.at_first) ks)

abbrev long_later : List Kind → List ℕ
long_later ks = flatten (map (λ (k : Kind). filled k.later) ks)

-- The fresh state, its length, and the places of the three records: as many state records as stand before them.
abbrev places : List Kind → List ℕ
places ks = map (λ i. length (first_state (take i ks)) / 32) (0 ∷ 1 ∷ 2 ∷ [])

unfoldable laid_out : List Kind → Bool
laid_out ks =
    let site = site_of ks in
    same (fresh site) (first_state ks) && eqb (state_length site) (length (first_state ks))
    && same (map (λ i. state_place i (records site)) (0 ∷ 1 ∷ 2 ∷ [])) (places ks) && same (long_fresh site) (long_first ks)
    && same (shorter site (long_first ks)) (first_state ks) && same (longer site (first_state ks)) (long_first ks)

-- Accepted: the rule's point is there, and the factor's credential.
abbrev among : List Kind → ℕ → Bool
among ks k = any (λ (x : Kind). eqb (kind_of x) k) ks

unfoldable accepted : List Kind → Bool
accepted ks = (not (among ks 3) || among ks 2) && (not (among ks 5) || among ks 4)

-- "3 refusal" of each answer: 8, no such object, where there is none.
abbrev refused : List ℕ → List ℕ
refused answers = map (field 3 1) (groups 16 3 answers)

abbrev expected : List Kind → List ℕ
expected ks = map (λ k. if among ks k then 0 else 8) (1 ∷ 2 ∷ 4 ∷ [])

-- The calls: fresh over other bytes, the check, and the journal, on the longer state too.
unfoldable works : List Kind → Bool
works ks =
    let site = site_of ks in
    let made = fresh_state site (replicate (length (first_state ks)) 9) in
    let run = run_on site (first_state ks) on_each in
    let long_run = long_run_on site (long_first ks) on_each in
    eqb (number made.returned) 0 && same made.state (first_state ks) && eqb (number (check_state site made.state)) 0
    && eqb (number run.returned) 0 && same run.state (later_state ks) && same (refused run.answers) (expected ks)
    && eqb (number long_run.returned) 0 && same long_run.state (long_later ks) && same long_run.answers run.answers

-- A number that each call returns, on lent states, and nothing changed.
unfoldable turned_back : ℕ → List Kind → List ℕ → Bool
turned_back n ks state =
    let site = site_of ks in
    let made = fresh_state site state in
    let run = run_on site state on_each in
    eqb (number made.returned) n && same made.state state && eqb (number (check_state site state)) n
    && eqb (number run.returned) n && same run.state state && same run.answers on_each.answers

-- It has a rule or a factor.
abbrev some_stateless : List Kind → Bool
some_stateless ks = among ks 3 || among ks 5

pub record Mixes : Type 0 where
  numbers : length mixes ∷ length (keep accepted mixes) ∷ length (keep (λ ks. accepted ks && some_stateless ks) mixes) ∷ [] ≡ 60 ∷ 30 ∷ 24 ∷ []
  -- The lengths, the places and the fresh states, which ask no site check.
  all_laid_out : all laid_out mixes ≡ true
  all_work : all works (keep accepted mixes) ≡ true
  -- "4 a named object missing", before the length is asked.
  all_missing : all (λ ks. turned_back 4 ks (first_state ks) && turned_back 4 ks (long_first ks)) (keep (λ ks. not (accepted ks)) mixes) ≡ true
  -- "5 state not as long": the longer state is not taken, nor is the empty one.
  all_long : all (λ ks. turned_back 5 ks (long_first ks)) (keep (λ ks. accepted ks && some_stateless ks) mixes) ≡ true
  all_none : all (λ ks. turned_back 5 ks []) (keep accepted mixes) ≡ true

pub mixes_cases : Mixes
unfolding bytes longs fresh_door fresh_person kinds on_each mixes laid_out accepted works turned_back
mixes_cases = record { numbers = refl; all_laid_out = refl; all_work = refl; all_missing = refl; all_long = refl; all_none = refl }

-- ── six of them, the last two not accepted, in literal numbers: the length, the three places, and the fresh state records as numbers of 32 bytes

unfoldable laid : List (List ℕ) → List ℕ
laid ss =
    let site = flatten ss in
    state_length site ∷ map (λ i. state_place i (records site)) (0 ∷ 1 ∷ 2 ∷ [])
    ++ map (field 0 32) (groups 32 (length (fresh site) / 32) (fresh site))

pub record Six : Type 0 where
  rule_zone_point : laid (rule ∷ hall ∷ door ∷ []) ≡ 64 ∷ 0 ∷ 0 ∷ 1 ∷ 0 ∷ 0x00000000_00_00_0000_00000000_00000000_003FFFFF_00000000_0000000000000000 ∷ []
  point_rule_zone : laid (door ∷ rule ∷ hall ∷ []) ≡ 64 ∷ 0 ∷ 1 ∷ 1 ∷ 0x00000000_00_00_0000_00000000_00000000_003FFFFF_00000000_0000000000000000 ∷ 0 ∷ []
  factor_credential_zone :
      laid (card ∷ person ∷ hall ∷ []) ≡ 64 ∷ 0 ∷ 0 ∷ 1 ∷ 0xFFFF_FFFF_FFFFFFFF_003FFFFF_FFFFFFFF_0000_00_00_003FFFFF_FFFFFFFF_00000000 ∷ 0 ∷ []
  zone_point_credential :
      laid (hall ∷ door ∷ person ∷ [])
      ≡ 96 ∷ 0 ∷ 1 ∷ 2 ∷ 0 ∷ 0x00000000_00_00_0000_00000000_00000000_003FFFFF_00000000_0000000000000000
      ∷ 0xFFFF_FFFF_FFFFFFFF_003FFFFF_FFFFFFFF_0000_00_00_003FFFFF_FFFFFFFF_00000000 ∷ []
  credential_rule_factor :
      laid (person ∷ rule ∷ card ∷ []) ≡ 32 ∷ 0 ∷ 1 ∷ 1 ∷ 0xFFFF_FFFF_FFFFFFFF_003FFFFF_FFFFFFFF_0000_00_00_003FFFFF_FFFFFFFF_00000000 ∷ []
  rule_factor_point : laid (rule ∷ card ∷ door ∷ []) ≡ 32 ∷ 0 ∷ 0 ∷ 0 ∷ 0x00000000_00_00_0000_00000000_00000000_003FFFFF_00000000_0000000000000000 ∷ []

pub six_cases : Six
unfolding bytes longs laid
six_cases =
    record {
      rule_zone_point = refl;
      point_rule_zone = refl;
      factor_credential_zone = refl;
      zone_point_credential = refl;
      credential_rule_factor = refl;
      rule_factor_point = refl;
    }
