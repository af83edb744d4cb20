-- Document 02, job 8: what the calls between the longer and the shorter state turn back, with the refusals of document 01 in their order: 1 to 4 of the site,
-- 5 for either length, 6 where the state that is brought across is not well formed. Nothing is written then.
use Prim.Native.Nat.{ℕ}
use mathlib.Core.Path.{◌≡◌, refl}
use mathlib.Core.List.{List, [], ◌∷◌, ◌++◌, map, flatten}
use Rattle.std.specs.Prelude.{Ok, Err}
use lib.ListN.{take, replicate}
use Rattle.model.specs.Words.{zeros}
use Rattle.model.specs.Calls.{StateResult, state_result}
use Rattle.model.specs.Longer.{check_long_state, shorten_state, lengthen_state}
use Rattle.model.specs.declared.Refusal.TheVariants.{SiteLength, SiteField, SiteTwice, SiteMissing, StateLength, StateForm}
use Rattle.cases.proofs.Change.{with_fields}
use Rattle.cases.proofs.Bytes.{door, hall, card}
use Rattle.cases.proofs.StateLengths.{everywhere, ruled_door, ruled_state, ruled_long}
use Rattle.cases.proofs.Standby.{campus, long_of, midday, standby_open}

-- Sites that are turned back with 1, 2, 3 and 4.
unfoldable bad_sites : List (List ℕ)
bad_sites = (0 ∷ []) ∷ zeros 32 ∷ flatten (hall ∷ hall ∷ []) ∷ card ∷ []

-- So many bytes 9.
unfoldable nines : ℕ → List ℕ
nines n = replicate n 9

-- Buffers of these lengths as they were, each with refusal 5.
abbrev all_short : List ℕ → List StateResult
all_short ns = map (λ n. state_result (Err StateLength) (nines n)) ns

pub record Shortened : Type 0 where
  -- 1 to 4, with wrong lengths and forms.
  sites :
      map (λ s. shorten_state s (nines 33) (nines 1)) bad_sites
      ≡ state_result (Err SiteLength) (nines 1) ∷ state_result (Err SiteField) (nines 1) ∷ state_result (Err SiteTwice) (nines 1)
      ∷ state_result (Err SiteMissing) (nines 1) ∷ []
  -- 5: the shorter buffer too short, too long, as long as the site; of no byte.
  state_lengths :
      map (λ n. shorten_state ruled_door ruled_long (nines n)) (63 ∷ 65 ∷ 32 ∷ 96 ∷ 0 ∷ []) ≡ all_short (63 ∷ 65 ∷ 32 ∷ 96 ∷ 0 ∷ [])
  -- The longer state too short, too long, as long as the shorter one; of no byte.
  long_lengths :
      map (λ long. shorten_state ruled_door long (nines 64)) (take 95 ruled_long ∷ (ruled_long ++ (0 ∷ [])) ∷ ruled_state ∷ [] ∷ [])
      ≡ all_short (64 ∷ 64 ∷ 64 ∷ 64 ∷ [])
  -- Both, and each with a form that would be 6.
  both_lengths :
      shorten_state ruled_door (nines 95) (nines 63) ∷ shorten_state ruled_door (nines 96) (nines 63) ∷ shorten_state ruled_door (nines 95) (nines 64) ∷ []
      ≡ all_short (63 ∷ 63 ∷ 64 ∷ [])
  -- 6: a byte in the rule's record, its first or its last; a spare byte of the zone; a point locked 2.
  forms :
      map (λ (at, v). shorten_state ruled_door (with_fields ((at, 1, v) ∷ []) ruled_long) (nines 64)) ((32, 1) ∷ (63, 1) ∷ (4, 1) ∷ (69, 2) ∷ [])
      ≡ map (λ n. state_result (Err StateForm) (nines n)) (64 ∷ 64 ∷ 64 ∷ 64 ∷ [])
  -- In the middle of the day, a byte in the last record, a rule's, or in a factor's.
  installed_form :
      map (λ at. shorten_state campus (with_fields ((at, 1, 1) ∷ []) (long_of midday)) (nines 160)) (383 ∷ 96 ∷ [])
      ≡ state_result (Err StateForm) (nines 160) ∷ state_result (Err StateForm) (nines 160) ∷ []
  -- Worked through.
  worked_through : shorten_state ruled_door ruled_long (nines 64) ≡ state_result (Ok tt) ruled_state
  -- The check of the longer state alone: 1 to 4 before 5.
  checked : map (λ s. check_long_state s (nines 33)) bad_sites ≡ Err SiteLength ∷ Err SiteField ∷ Err SiteTwice ∷ Err SiteMissing ∷ []

pub record Lengthened : Type 0 where
  sites :
      map (λ s. lengthen_state s (nines 1) (nines 33)) bad_sites
      ≡ state_result (Err SiteLength) (nines 33) ∷ state_result (Err SiteField) (nines 33) ∷ state_result (Err SiteTwice) (nines 33)
      ∷ state_result (Err SiteMissing) (nines 33) ∷ []
  -- 5, for either length, and both.
  long_lengths :
      map (λ n. lengthen_state ruled_door ruled_state (nines n)) (95 ∷ 97 ∷ 64 ∷ 128 ∷ 0 ∷ []) ≡ all_short (95 ∷ 97 ∷ 64 ∷ 128 ∷ 0 ∷ [])
  state_lengths :
      map (λ state. lengthen_state ruled_door state (nines 96)) (take 63 ruled_state ∷ (ruled_state ++ (0 ∷ [])) ∷ ruled_long ∷ [] ∷ [])
      ≡ all_short (96 ∷ 96 ∷ 96 ∷ 96 ∷ [])
  both_lengths :
      lengthen_state ruled_door (nines 63) (nines 95) ∷ lengthen_state ruled_door (nines 63) (nines 96) ∷ lengthen_state ruled_door (nines 64) (nines 95) ∷ []
      ≡ all_short (95 ∷ 96 ∷ 95 ∷ [])
  -- 6: a spare byte of the zone, a point locked 2.
  forms :
      map (λ (at, v). lengthen_state ruled_door (with_fields ((at, 1, v) ∷ []) ruled_state) (nines 96)) ((4, 1) ∷ (37, 2) ∷ [])
      ≡ state_result (Err StateForm) (nines 96) ∷ state_result (Err StateForm) (nines 96) ∷ []
  worked_through : lengthen_state ruled_door ruled_state (nines 96) ≡ state_result (Ok tt) ruled_long

-- Sites all of whose records have state, none, and that have no record.
pub record Ends : Type 0 where
  all_kept :
      shorten_state (flatten (hall ∷ door ∷ [])) ruled_state (nines 64) ∷ lengthen_state (flatten (hall ∷ door ∷ [])) ruled_state (nines 64) ∷ []
      ≡ state_result (Ok tt) ruled_state ∷ state_result (Ok tt) ruled_state ∷ []
  all_kept_lengths :
      shorten_state (flatten (hall ∷ door ∷ [])) ruled_state (nines 63) ∷ lengthen_state (flatten (hall ∷ door ∷ [])) (nines 63) (nines 64) ∷ []
      ≡ all_short (63 ∷ 64 ∷ [])
  none_kept :
      shorten_state everywhere (zeros 32) [] ∷ lengthen_state everywhere [] (nines 32) ∷ shorten_state everywhere (nines 32) [] ∷ []
      ≡ state_result (Ok tt) [] ∷ state_result (Ok tt) (zeros 32) ∷ state_result (Err StateForm) [] ∷ []
  empty : shorten_state [] [] [] ∷ lengthen_state [] [] [] ∷ [] ≡ state_result (Ok tt) [] ∷ state_result (Ok tt) [] ∷ []

-- One name that opens these.
unfoldable across_open : Unit {0}
unfolding standby_open ruled_door ruled_state ruled_long bad_sites nines everywhere
across_open = tt

pub shortened_cases : Shortened
unfolding across_open
shortened_cases =
    record {
      sites = refl;
      state_lengths = refl;
      long_lengths = refl;
      both_lengths = refl;
      forms = refl;
      installed_form = refl;
      worked_through = refl;
      checked = refl;
    }

pub lengthened_cases : Lengthened
unfolding across_open
lengthened_cases =
    record { sites = refl; long_lengths = refl; state_lengths = refl; both_lengths = refl; forms = refl; worked_through = refl }

pub ends_cases : Ends
unfolding across_open
ends_cases = record { all_kept = refl; all_kept_lengths = refl; none_kept = refl; empty = refl }
