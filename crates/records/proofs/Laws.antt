-- The references of a record, and the numbers of a record of zeros.
use mathlib.Core.Path.{◌≡◌, refl}
use mathlib.Core.List.{List, [], ◌∷◌}
use Prim.Native.Nat.{ℕ, ◌+◌, ◌≤◌}
use native.Mathlib.Omega.{arith}
use lib.ListN.{length, get_or-replicate}
use Rattle.octets.specs.Octets.{field}
use Rattle.octets.proofs.Laws.{field_agree}
use Rattle.model.specs.Numbers.{record_size}
use Rattle.model.specs.Words.{zeros}
use Rattle.model.specs.Site.{reference}

-- A reference of a record is its field.
pub reference_found : (at : ℕ) (s : List ℕ) → 32 ≤ length s → field at 4 s ≡ reference at s
unfolding reference
reference_found at [] h = absurd (omega arith)
reference_found at (x ∷ s) h = refl

-- A record of zeros reads as none does.
pub field_zeros : (at w : ℕ) → at + w ≤ record_size → field at w (zeros record_size) ≡ field at w []
field_zeros at w h = field_agree w at at (zeros record_size) [] (λ i l. get_or-replicate record_size (at + i) 0 0 (omega (arith, h, l)))
