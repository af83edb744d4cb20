-- Bytes with the first of them made one byte are that byte as often, and the bytes behind.
use Prim.Native.Nat.{ℕ, zero, suc, min}
use native.Mathlib.Omega.{arith}
use mathlib.Core.Path.{◌≡◌, refl, ap}
use mathlib.Core.List.{List, [], ◌∷◌, ◌++◌}
use lib.ListN.{length, take, drop, replicate}
use Rattle.clear.specs.Clear.{with_first}

pub first_made : (n end byte : ℕ) (bytes : List ℕ) → end ≡ min n (length bytes)
    → replicate (length (take end bytes)) byte ++ drop end bytes ≡ with_first n byte bytes
unfolding with_first
first_made zero end byte bytes h = let e : end ≡ 0 = omega arith in rw e
first_made (suc n) end byte [] h = let e : end ≡ 0 = omega arith in rw e
first_made (suc n) end byte (b ∷ bytes) h =
    let e : end ≡ suc (min n (length bytes)) = omega arith in
    rw e (ap (λ rest. byte ∷ rest) (first_made n (min n (length bytes)) byte bytes refl))
