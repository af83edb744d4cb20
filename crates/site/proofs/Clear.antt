-- Bytes are zero where all their bits together are.
use Prim.Native.Nat.{ℕ, zero, suc, ◌+◌, ◌≤◌}
use mathlib.Core.Path.{◌≡◌, sym, ◌∙◌}
use mathlib.Core.List.{List, [], ◌∷◌}
use mathlib.Core.Bool.{◌&&◌, and_assoc, and-true}
use native.Mathlib.Omega.{arith}
use borrow.Author.Tests.{ne_eqb}
use lib.Bits.{bit_or}
use lib.Dec.{eqb, eqb-suc-zero}
use lib.ListN.{length, take, drop, length-drop}
use lib.Seq.{length-take-le}
use Rattle.std.specs.Int.Bits.{or_zero_l}
use Rattle.std.specs.List.{fold}
use Rattle.std.proofs.lemmas.Nat.{le_or_l}
use Rattle.octets.specs.Octets.{same}
use Rattle.model.specs.Words.{zeros}
use Rattle.model.specs.Accept.{clear}

or_zero : (a b : ℕ) → eqb (bit_or a b) 0 ≡ eqb a 0 && eqb b 0
or_zero zero b = rw or_zero_l
or_zero (suc a) b = rw (ne_eqb (bit_or (suc a) b) 0 (λ e. omega (arith, le_or_l (suc a) b)), eqb-suc-zero a)

or_all : (a : ℕ) (s : List ℕ) → eqb (fold bit_or a s) 0 ≡ eqb a 0 && same s (zeros (length s))
unfolding same
or_all a [] = sym (and-true (eqb a 0))
or_all a (x ∷ s) = or_all (bit_or a x) s ∙ rw (or_zero a x) (and_assoc (eqb a 0) (eqb x 0) (same s (zeros (length s))))

pub clear_all : (at n : ℕ) (s : List ℕ) → at + n ≤ length s → eqb (fold bit_or 0 (take n (drop at s))) 0 ≡ clear at n s
unfolding clear
clear_all at n s h =
    let l : length (take n (drop at s)) ≡ n = length-take-le n (drop at s) (simp length-drop (omega arith)) in
    or_all 0 (take n (drop at s)) ∙ rw l
