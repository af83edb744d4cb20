-- Records and entries by the offsets of document 01, and the site check over a table of them.
use Prim.Native.Nat.{ℕ}
use mathlib.Core.List.{List, [], ◌∷◌, ◌++◌, map, flatten}
use lib.ListN.{replicate}
use Rattle.model.specs.Calls.{number, check_site}
use Rattle.cases.proofs.Change.{Field, with_fields}

-- A record of 32 bytes, and an entry of 24, of its fields; the others are zero.
unfoldable pub record_of : List Field → List ℕ
record_of fs = with_fields fs (replicate 32 0)

unfoldable pub entry_with : List Field → List ℕ
entry_with fs = with_fields fs (replicate 24 0)

-- What the site check returns of records, one after another.
unfoldable pub site_number : List (List ℕ) → ℕ
site_number site = number (check_site (flatten site))

-- The same of some records and one with changes, each in turn.
unfoldable pub changed_numbers : List (List ℕ) → List ℕ → List (List Field) → List ℕ
changed_numbers others s changes = map (λ fs. site_number (others ++ (with_fields fs s ∷ []))) changes

-- One name that opens them.
unfoldable pub tables : Unit {0}
unfolding with_fields record_of entry_with site_number changed_numbers
tables = tt
