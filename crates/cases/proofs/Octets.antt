-- "Numbers are big-endian, unsigned unless noted; offsets in bytes."
use mathlib.Core.Path.{◌≡◌, refl}
use mathlib.Core.List.{[], ◌∷◌}
use mathlib.Core.Bool.{true, false}
use lib.Dec.{ltb}
use Rattle.octets.specs.Octets.{field, digits, put, groups, with_part, same}
use Rattle.model.specs.Words.{keep, any, all}
use Rattle.model.proofs.Open.{definitions}

-- A byte past the end reads as 0; the first byte written takes what the others leave.
pub record NumberCases : Type 0 where
  read :
      field 1 0 (1 ∷ 2 ∷ 3 ∷ 4 ∷ []) ∷ field 1 1 (1 ∷ 2 ∷ 3 ∷ 4 ∷ []) ∷ field 1 2 (1 ∷ 2 ∷ 3 ∷ 4 ∷ []) ∷ field 3 2 (1 ∷ 2 ∷ 3 ∷ 4 ∷ [])
      ∷ field 0 4 (0x11 ∷ 0x22 ∷ 0x33 ∷ 0x44 ∷ []) ∷ field 0 8 (0 ∷ 0 ∷ 0 ∷ 1 ∷ 0 ∷ 0 ∷ 0 ∷ 0 ∷ []) ∷ []
      ≡ 0 ∷ 2 ∷ 0x0203 ∷ 0x0400 ∷ 0x11223344 ∷ 0x100000000 ∷ []
  written : digits 4 0x01020304 ≡ 1 ∷ 2 ∷ 3 ∷ 4 ∷ []
  written_large : digits 2 0x010203 ≡ 0x0102 ∷ 0x03 ∷ []
  written_nothing : digits 0 7 ≡ []
  put_inside : put 2 2 0x0708 (1 ∷ 2 ∷ 3 ∷ 4 ∷ 5 ∷ 6 ∷ []) ≡ 1 ∷ 2 ∷ 7 ∷ 8 ∷ 5 ∷ 6 ∷ []
  put_first : put 0 3 0x070809 (1 ∷ 2 ∷ 3 ∷ 4 ∷ 5 ∷ 6 ∷ []) ≡ 7 ∷ 8 ∷ 9 ∷ 4 ∷ 5 ∷ 6 ∷ []

pub number_cases : NumberCases
unfolding definitions put
number_cases =
    record { read = refl; written = refl; written_large = refl; written_nothing = refl; put_inside = refl; put_first = refl }

-- Groups are whole or cut at the end; a part replaces as many bytes as it has.
pub record GroupCases : Type 0 where
  cut : groups 2 3 (1 ∷ 2 ∷ 3 ∷ 4 ∷ 5 ∷ []) ≡ (1 ∷ 2 ∷ []) ∷ (3 ∷ 4 ∷ []) ∷ (5 ∷ []) ∷ []
  none : groups 2 0 (1 ∷ 2 ∷ []) ≡ []
  part :
      with_part 3 2 (20 ∷ 21 ∷ 22 ∷ []) (1 ∷ 2 ∷ 3 ∷ 4 ∷ 5 ∷ 6 ∷ 7 ∷ 8 ∷ 9 ∷ 10 ∷ 11 ∷ 12 ∷ [])
      ≡ 1 ∷ 2 ∷ 3 ∷ 4 ∷ 5 ∷ 6 ∷ 20 ∷ 21 ∷ 22 ∷ 10 ∷ 11 ∷ 12 ∷ []
  alike :
      same [] [] ∷ same (1 ∷ 2 ∷ []) (1 ∷ 2 ∷ []) ∷ same [] (1 ∷ []) ∷ same (1 ∷ []) [] ∷ same (1 ∷ 2 ∷ []) (1 ∷ 3 ∷ [])
      ∷ same (1 ∷ 3 ∷ []) (1 ∷ 2 ∷ []) ∷ same (1 ∷ 2 ∷ []) (0 ∷ 2 ∷ []) ∷ same (0 ∷ 2 ∷ []) (1 ∷ 2 ∷ []) ∷ []
      ≡ true ∷ true ∷ false ∷ false ∷ false ∷ false ∷ false ∷ false ∷ []

pub group_cases : GroupCases
unfolding definitions with_part
group_cases = record { cut = refl; none = refl; part = refl; alike = refl }

-- Tests over lists: of the numbers below 3.
pub record ListCases : Type 0 where
  kept : keep (λ n. ltb n 3) (1 ∷ 3 ∷ 2 ∷ []) ≡ 1 ∷ 2 ∷ []
  some :
      any (λ n. ltb n 3) [] ∷ any (λ n. ltb n 3) (3 ∷ []) ∷ any (λ n. ltb n 3) (3 ∷ 2 ∷ []) ∷ any (λ n. ltb n 3) (2 ∷ 3 ∷ []) ∷ []
      ≡ false ∷ false ∷ true ∷ true ∷ []
  every :
      all (λ n. ltb n 3) [] ∷ all (λ n. ltb n 3) (2 ∷ []) ∷ all (λ n. ltb n 3) (3 ∷ 2 ∷ []) ∷ all (λ n. ltb n 3) (2 ∷ 3 ∷ []) ∷ []
      ≡ true ∷ true ∷ false ∷ false ∷ []

pub list_cases : ListCases
list_cases = record { kept = refl; some = refl; every = refl }
