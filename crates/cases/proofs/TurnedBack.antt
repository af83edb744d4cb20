-- "Turned back": the journal run's refusals in their order, "Tried over the whole input as 1 to 6, 10, 11", and what they leave unchanged.
use Rattle.std.specs.Prelude.{Ok, Err}
use Prim.Native.Nat.{ℕ}
use mathlib.Core.Path.{◌≡◌, refl}
use mathlib.Core.List.{List, [], ◌∷◌, map, flatten}
use lib.ListN.{replicate}
use Rattle.octets.specs.Octets.{put}
use Rattle.model.specs.Calls.{number, run_result, run_returned, run_journal}
use Rattle.model.specs.declared.Refusal.TheVariants.{SiteLength, SiteField, SiteTwice, SiteMissing, StateLength, StateForm, JournalLength, AnswersLength}
use Rattle.model.proofs.Open.{definitions}
use Rattle.cases.proofs.Records.{record_of, entry_with, tables}
use Rattle.cases.proofs.SiteCheck.{zone_at, point_at, factor_with, records_at}

-- "Returned": the number of each.
pub returned_numbers :
    map number
    ((Ok tt) ∷ (Err SiteLength) ∷ (Err SiteField) ∷ (Err SiteTwice) ∷ (Err SiteMissing) ∷ (Err StateLength) ∷ (Err StateForm) ∷ (Err JournalLength) ∷ (Err AnswersLength) ∷ [])
    ≡ 0 ∷ 1 ∷ 2 ∷ 3 ∷ 4 ∷ 5 ∷ 6 ∷ 10 ∷ 11 ∷ []
returned_numbers = refl

-- "The entire result and the later contents of state and answers", each in its place.
pub result_parts : run_result (Err StateForm) (1 ∷ []) (2 ∷ []) ≡ record { returned = (Err StateForm); state = 1 ∷ []; answers = 2 ∷ [] }
result_parts = refl

-- A run of zone 8: each buffer has every fault after the one that is named, and is unchanged.
unfoldable pub turned : List (List ℕ) → List ℕ → List ℕ → List ℕ → List (List ℕ)
turned site state journal answered =
    (number (run_journal (flatten site) state journal answered).returned ∷ []) ∷ (run_journal (flatten site) state journal answered).state
    ∷ (run_journal (flatten site) state journal answered).answers ∷ []

pub run_order :
    turned ((1 ∷ []) ∷ zone_at 8 ∷ []) (9 ∷ []) (9 ∷ []) (9 ∷ [])
    ∷ turned (record_of [] ∷ factor_with 1 5 7 ∷ factor_with 1 5 7 ∷ []) (9 ∷ []) (9 ∷ []) (9 ∷ [])
    ∷ turned (factor_with 1 5 7 ∷ factor_with 1 5 7 ∷ []) (9 ∷ []) (9 ∷ []) (9 ∷ []) ∷ turned (factor_with 1 5 7 ∷ []) (9 ∷ []) (9 ∷ []) (9 ∷ [])
    ∷ turned (zone_at 8 ∷ []) (9 ∷ []) (9 ∷ []) (9 ∷ []) ∷ turned (point_at 8 4194303 4194303 ∷ []) (replicate 32 9) (9 ∷ []) (9 ∷ [])
    ∷ turned (zone_at 8 ∷ []) (record_of ((3, 1, 9) ∷ [])) (9 ∷ []) (9 ∷ [])
    ∷ turned (zone_at 8 ∷ []) (record_of ((3, 1, 9) ∷ [])) (entry_with ((0, 1, 2) ∷ (8, 4, 8) ∷ [])) (9 ∷ []) ∷ []
    ≡ ((1 ∷ []) ∷ (9 ∷ []) ∷ (9 ∷ []) ∷ []) ∷ ((2 ∷ []) ∷ (9 ∷ []) ∷ (9 ∷ []) ∷ []) ∷ ((3 ∷ []) ∷ (9 ∷ []) ∷ (9 ∷ []) ∷ [])
    ∷ ((4 ∷ []) ∷ (9 ∷ []) ∷ (9 ∷ []) ∷ []) ∷ ((5 ∷ []) ∷ (9 ∷ []) ∷ (9 ∷ []) ∷ []) ∷ ((6 ∷ []) ∷ replicate 32 9 ∷ (9 ∷ []) ∷ [])
    ∷ ((10 ∷ []) ∷ record_of ((3, 1, 9) ∷ []) ∷ (9 ∷ []) ∷ []) ∷ ((11 ∷ []) ∷ record_of ((3, 1, 9) ∷ []) ∷ (9 ∷ []) ∷ []) ∷ []
unfolding definitions tables put records_at turned
run_order = refl

-- Refusal 10: "journal not a multiple of 24, or above 65,520". Refusal 11: "answers not 16 bytes per entry". Over the empty site.
unfoldable pub lengths_number : ℕ × ℕ → ℕ
lengths_number (journal, answered) = number (run_returned [] [] (replicate journal 0) (replicate answered 0))

pub journal_lengths :
    map lengths_number
    ((0, 0) ∷ (0, 1) ∷ (1, 0) ∷ (23, 0) ∷ (25, 16) ∷ (24, 16) ∷ (24, 15) ∷ (24, 17) ∷ (24, 0) ∷ (48, 32) ∷ (48, 16) ∷ (65520, 0)
    ∷ (65544, 0) ∷ [])
    ≡ 0 ∷ 11 ∷ 10 ∷ 10 ∷ 10 ∷ 0 ∷ 11 ∷ 11 ∷ 11 ∷ 0 ∷ 11 ∷ 11 ∷ 10 ∷ []
unfolding definitions lengths_number
journal_lengths = refl

-- Worked through: "later contents of state and answers". Two entries on two zones, the second of which is set before the first.
pub worked_through :
    turned (zone_at 8 ∷ zone_at 9 ∷ []) (replicate 64 0)
    (flatten (entry_with ((0, 1, 2) ∷ (8, 4, 9) ∷ (12, 4, 0x01020304) ∷ []) ∷ entry_with ((0, 1, 3) ∷ (8, 4, 8) ∷ (12, 4, 5) ∷ []) ∷ []))
    (replicate 32 9)
    ≡ (0 ∷ [])
    ∷ (0 ∷ 0 ∷ 0 ∷ 5 ∷ 0 ∷ 0 ∷ 0 ∷ 0 ∷ 0 ∷ 0 ∷ 0 ∷ 0 ∷ 0 ∷ 0 ∷ 0 ∷ 0 ∷ 0 ∷ 0 ∷ 0 ∷ 0 ∷ 0 ∷ 0 ∷ 0 ∷ 0 ∷ 0 ∷ 0 ∷ 0 ∷ 0 ∷ 0 ∷ 0 ∷ 0 ∷ 0
    ∷ 1 ∷ 2 ∷ 3 ∷ 4 ∷ 0 ∷ 0 ∷ 0 ∷ 0 ∷ 0 ∷ 0 ∷ 0 ∷ 0 ∷ 0 ∷ 0 ∷ 0 ∷ 0 ∷ 0 ∷ 0 ∷ 0 ∷ 0 ∷ 0 ∷ 0 ∷ 0 ∷ 0 ∷ 0 ∷ 0 ∷ 0 ∷ 0 ∷ 0 ∷ 0 ∷ 0 ∷ 0 ∷ [])
    ∷ (0 ∷ 0 ∷ 0 ∷ 0 ∷ 0 ∷ 0 ∷ 0 ∷ 0 ∷ 0x00 ∷ 0x3F ∷ 0xFF ∷ 0xFF ∷ 1 ∷ 2 ∷ 3 ∷ 4 ∷ 0 ∷ 0 ∷ 0 ∷ 0 ∷ 0 ∷ 0 ∷ 0 ∷ 0 ∷ 0x00 ∷ 0x3F ∷ 0xFF ∷ 0xFF
    ∷ 0 ∷ 0 ∷ 0 ∷ 5 ∷ [])
    ∷ []
unfolding definitions tables put records_at turned
worked_through = refl
