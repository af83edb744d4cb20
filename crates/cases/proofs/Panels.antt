-- Document 02, job 8: state records "for zones, points and credentials alone, in site sequence": the record of a kind and instance beside its state record,
-- and the state written back. No site that is accepted has a record of the number NONE; here two stand, so that a reference NONE is seen to name nothing.
use Prim.Native.Nat.{ℕ}
use mathlib.Core.Path.{◌≡◌, refl}
use mathlib.Core.List.{List, [], ◌∷◌, ◌++◌, map, flatten}
use Rattle.std.specs.Prelude.{Option, Some, None}
use lib.ListN.{replicate}
use Rattle.octets.specs.Octets.{put}
use Rattle.model.specs.State.{Panel, panel, sites, state_of, find, seek, seek_zone, seek_credential}
use Rattle.model.specs.Step.{write_of}
use Rattle.model.specs.declared.Write.{Write}
use Rattle.model.proofs.Open.{definitions}
use Rattle.cases.proofs.Records.{tables}
use Rattle.cases.proofs.SiteCheck.{zone_at, credential_with, records_at}

-- Zone 8 twice, credential 8, and a zone and a credential of the number NONE; the state records are short, to be told apart.
unfoldable pub five_records : List ℕ → List ℕ → Panel
five_records first none =
    (credential_with 8, 1 ∷ []) ∷ (zone_at 8, first) ∷ (zone_at 4194303, none) ∷ (zone_at 8, 4 ∷ []) ∷ (credential_with 4194303, 5 ∷ []) ∷ []

pub found :
    map (λ (k, i). find k i (five_records (2 ∷ []) (3 ∷ []))) ((1, 8) ∷ (4, 8) ∷ (1, 9) ∷ (2, 8) ∷ (1, 4194303) ∷ [])
    ≡ (zone_at 8, 2 ∷ []) ∷ (credential_with 8, 1 ∷ []) ∷ ([], []) ∷ ([], []) ∷ (zone_at 4194303, 3 ∷ []) ∷ []
unfolding definitions tables put records_at five_records
found = refl

pub sought :
    map (λ (k, i). seek k i (five_records (2 ∷ []) (3 ∷ []))) ((1, 8) ∷ (1, 4194303) ∷ (1, 4194302) ∷ [])
    ++ map (λ i. seek_zone record { 0 = i } (five_records (2 ∷ []) (3 ∷ []))) (8 ∷ 4194303 ∷ [])
    ++ map (λ i. seek_credential record { 0 = i } (five_records (2 ∷ []) (3 ∷ []))) (8 ∷ 4194303 ∷ [])
    ≡ (zone_at 8, 2 ∷ []) ∷ ([], []) ∷ ([], []) ∷ (zone_at 8, 2 ∷ []) ∷ ([], []) ∷ (credential_with 8, 1 ∷ []) ∷ ([], []) ∷ []
unfolding definitions tables put records_at five_records
sought = refl

-- A write of one byte.
abbrev write_at : ℕ → Write ℕ (List ℕ)
write_at i = record { instance = i; state = 9 ∷ [] }

-- "Only the state records of these objects are written": the first of the kind and instance, where it is to be written, and never NONE.
pub stored :
    map (λ (w : Option (Write ℕ (List ℕ))). write_of 1 (λ i. i) (λ b. b) w (five_records (2 ∷ []) (3 ∷ [])))
    (Some (write_at 8) ∷ None ∷ Some (write_at 4194303) ∷ Some (write_at 7) ∷ [])
    ≡ five_records (9 ∷ []) (3 ∷ []) ∷ five_records (2 ∷ []) (3 ∷ []) ∷ five_records (2 ∷ []) (3 ∷ []) ∷ five_records (2 ∷ []) (3 ∷ []) ∷ []
unfolding definitions tables put records_at five_records
stored = refl

-- Whole records side by side, in site sequence.
pub side_by_side :
    panel (replicate 32 1 ++ replicate 32 2 ++ replicate 31 3) (replicate 32 4 ++ replicate 32 5 ++ replicate 32 6)
    ≡ (replicate 32 1, replicate 32 4) ∷ (replicate 32 2, replicate 32 5) ∷ []
unfolding definitions
side_by_side = refl

-- A record of each kind, and one of none: rules, factors and that one have no state record, and the next kept record has the next.
pub in_site_sequence :
    panel (flatten (map (replicate 32) (3 ∷ 1 ∷ 5 ∷ 6 ∷ 2 ∷ 4 ∷ 3 ∷ []))) (replicate 32 7 ++ replicate 32 8 ++ replicate 32 9)
    ≡ (replicate 32 3, []) ∷ (replicate 32 1, replicate 32 7) ∷ (replicate 32 5, []) ∷ (replicate 32 6, []) ∷ (replicate 32 2, replicate 32 8)
    ∷ (replicate 32 4, replicate 32 9) ∷ (replicate 32 3, []) ∷ []
unfolding definitions
in_site_sequence = refl

pub taken_apart :
    sites (((1 ∷ []), (2 ∷ [])) ∷ ((3 ∷ []), (4 ∷ [])) ∷ []) ∷ (state_of (((1 ∷ []), (2 ∷ [])) ∷ ((3 ∷ []), (4 ∷ [])) ∷ []) ∷ [])
    ∷ []
    ≡ ((1 ∷ []) ∷ (3 ∷ []) ∷ []) ∷ ((2 ∷ 4 ∷ []) ∷ []) ∷ []
unfolding definitions
taken_apart = refl
