-- The laws of a tally over the whole numbers: what a move and a set make of T less the smaller of zero and L.
use Rattle.std.specs.Prelude.{if◌then◌else◌}
use Prim.Native.Nat.{ℕ, zero, suc, ◌+◌, ◌-◌}
use native.Mathlib.Omega.{arith}
use mathlib.Core.Path.{◌≡◌, refl, sym, ◌∙◌, ap}
use mathlib.Core.Bool.{Bool, true, false}
use lib.Dec.{leb, ltb, leb-zero}
use lib.IntN.{ℤ, pos, negsuc, neg_ℤ, sub_ℕ, ◌+ℤ◌, ◌-ℤ◌, +ℤ_idr, +ℤ_invr, +ℤ_assoc, +ℤ_comm, +ℤ-neg_ℤ_cancel, -ℤ-+ℤ_cancel}
use lib.Signed.{le_z}
use borrow.Author.Tests.{le-leb, lt-leb, lt-ltb, ltb-true}
use Rattle.model.specs.Tally.{Tally, smaller, move, set_to, standing}

-- Zero, or a negative number.
data Low : ℤ → Type 0 where
  none : Low (pos 0)
  some : (j : ℕ) → Low (negsuc j)

-- The smaller of zero and any number is zero or negative.
low_smaller : (L : ℤ) → Low (smaller (pos 0) L)
unfolding smaller
low_smaller (pos n) = rw (leb-zero n) none
low_smaller (negsuc n) = some n

-- The smaller of zero and the smaller of two numbers.
smaller_smaller : (L t : ℤ) → smaller (pos 0) (smaller L t) ≡ smaller (smaller (pos 0) L) t
unfolding smaller
smaller_smaller (pos n) (pos t) = rw (leb-zero n, leb-zero t) (go (leb n t))
  where
    go : (c : Bool) → (if le_z (pos 0) (if c then pos n else pos t) then pos 0 else if c then pos n else pos t) ≡ pos 0
    go true = rw (leb-zero n)
    go false = rw (leb-zero t)
smaller_smaller (pos n) (negsuc t) = rw (leb-zero n)
smaller_smaller (negsuc n) (pos t) = refl
smaller_smaller (negsuc n) (negsuc t) = go (leb t n)
  where
    go : (c : Bool) →
        (if le_z (pos 0) (if c then negsuc n else negsuc t) then pos 0 else if c then negsuc n else negsuc t)
        ≡ (if c then negsuc n else negsuc t)
    go true = refl
    go false = refl

-- A natural number above m is not below m.
above : (a : ℕ) {m : ℤ} → Low m → le_z m (pos a +ℤ m) ≡ true
above a none = leb-zero (a + 0)
above a (some j) = go (ltb a (suc j)) refl
  where
    go : (c : Bool) → ltb a (suc j) ≡ c → le_z (negsuc j) (sub_ℕ a (suc j)) ≡ true
    go true e = rw e (le-leb (suc j - suc a) j (omega arith))
    go false e = rw e

-- A negative number added to m is below m.
below : (r : ℕ) {m : ℤ} → Low m → le_z m (negsuc r +ℤ m) ≡ false
below r none = rw (lt-ltb 0 (suc r) (omega arith))
below r (some j) = lt-leb (suc (r + j)) j (omega arith)

-- A set makes the standing its amount.
pub standing_set : (n : ℕ) → pos n ≡ standing (set_to n)
unfolding standing set_to smaller
standing_set n = rw (leb-zero n) (sym (+ℤ_idr (pos n)))

-- ── moves of a tally t whose standing is the natural number c
module _ (c : ℕ) (t : Tally) (h : pos c ≡ standing t) where
  -- T is c above the lowest so far, the smaller of zero and L.
  TIs : t.T ≡ pos c +ℤ smaller (pos 0) t.L
  unfolding standing
  TIs = sym (-ℤ-+ℤ_cancel t.T (smaller (pos 0) t.L)) ∙ ap (λ s. s +ℤ smaller (pos 0) t.L) (sym h)

  -- After a move by d, T is c + d above the lowest so far.
  moved : (d : ℤ) → t.T +ℤ d ≡ (pos c +ℤ d) +ℤ smaller (pos 0) t.L
  moved d =
      ap (λ s. s +ℤ d) TIs ∙ +ℤ_assoc (pos c) (smaller (pos 0) t.L) d
      ∙ ap (λ s. pos c +ℤ s) (+ℤ_comm (smaller (pos 0) t.L) d) ∙ sym (+ℤ_assoc (pos c) d (smaller (pos 0) t.L))

  -- The standing after a move by d, which makes c the number s.
  standing_moved : (d s : ℤ) → pos c +ℤ d ≡ s →
      standing (move d t) ≡ (s +ℤ smaller (pos 0) t.L) -ℤ smaller (smaller (pos 0) t.L) (s +ℤ smaller (pos 0) t.L)
  unfolding standing move
  standing_moved d s e = rw (smaller_smaller, moved d, e)

  -- A move by d leaves c + d, where that is not negative.
  up : (d : ℤ) (n : ℕ) → pos c +ℤ d ≡ pos n → pos n ≡ standing (move d t)
  unfolding smaller
  up d n e = sym (standing_moved d (pos n) e ∙ rw (above n (low_smaller t.L)) (+ℤ-neg_ℤ_cancel (pos n) (smaller (pos 0) t.L)))

  -- It leaves 0 where c + d is negative.
  down : (d : ℤ) (r : ℕ) → pos c +ℤ d ≡ negsuc r → pos 0 ≡ standing (move d t)
  unfolding smaller
  down d r e = sym (standing_moved d (negsuc r) e ∙ rw (below r (low_smaller t.L)) (+ℤ_invr (negsuc r +ℤ smaller (pos 0) t.L)))

  -- A move by n makes the standing c + n.
  pub standing_up : (n : ℕ) → pos (c + n) ≡ standing (move (pos n) t)
  standing_up n = up (pos n) (c + n) refl

  -- A move by −n makes it c less n, or 0 where n is more than c.
  pub standing_down : (n : ℕ) → pos (c - n) ≡ standing (move (neg_ℤ (pos n)) t)
  standing_down zero = up (pos 0) (c - 0) (ap pos (omega arith))
  standing_down (suc m) = go (ltb c (suc m)) refl
    where
      go : (q : Bool) → ltb c (suc m) ≡ q → pos (c - suc m) ≡ standing (move (negsuc m) t)
      go true e = ap pos (omega (arith, ltb-true c (suc m) e)) ∙ down (negsuc m) (suc m - suc c) (rw e)
      go false e = up (negsuc m) (c - suc m) (rw e)
