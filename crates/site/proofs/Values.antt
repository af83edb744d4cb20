-- Values of eight bytes are the same where their two words of four bytes are.
use Prim.Native.Nat.{ℕ, ◌+◌, ◌≤◌, ◌<◌}
use mathlib.Core.Path.{◌≡◌, refl, sym, ap, ◌∙◌}
use mathlib.Core.List.{List, [], ◌∷◌, ◌++◌}
use mathlib.Core.Bool.{Bool, true, false, ◌&&◌, and_assoc, and_comm}
use native.Mathlib.Nat.{add-zero}
use native.Mathlib.Omega.{arith}
use lib.Dec.{eqb}
use lib.ListN.{length, take, drop, get_or, length-drop}
use lib.Seq.{take-add, drop-drop, length-take-le}
use borrow.Author.Tests.{eqb-true, eqb-false}
use Rattle.octets.specs.Octets.{field, digits, same}
use Rattle.octets.proofs.Laws.{field_part, digits_field, same_eq, same_differs}

-- Two runs that each go on where another of the same length ends.
same_append : (a b c d : List ℕ) → length a ≡ length c → same (a ++ b) (c ++ d) ≡ same a c && same b d
unfolding same
same_append [] b [] d e = refl
same_append [] b (y ∷ c) d e = absurd (omega arith)
same_append (x ∷ a) b [] d e = absurd (omega arith)
same_append (x ∷ a) b (y ∷ c) d e =
    rw (same_append a b c d (omega arith)) (sym (and_assoc (eqb x y) (same a c) (same b d)))

module _ (a b : List ℕ) (bytes : (k : ℕ) → get_or a k 0 < 256) (also : (k : ℕ) → get_or b k 0 < 256) where
  -- Bytes are the same where the number in them is.
  same_field : (w i j : ℕ) → i + w ≤ length a → j + w ≤ length b → same (take w (drop i a)) (take w (drop j b)) ≡ eqb (field i w a) (field j w b)
  same_field w i j h k = go (eqb (field i w a) (field j w b)) refl
    where
      go : (c : Bool) → eqb (field i w a) (field j w b) ≡ c → same (take w (drop i a)) (take w (drop j b)) ≡ c
      go true e =
          let n : field i w a ≡ field j w b = eqb-true (field i w a) (field j w b) e in
          (same_eq (take w (drop i a)) (take w (drop j b))).1 (sym (digits_field i w a bytes h) ∙ ap (digits w) n ∙ digits_field j w b also k)
      go false e =
          let p : field 0 w (take w (drop i a)) ≡ field i w a = rw (add-zero i) at (field_part 0 w i w a (omega arith)) in
          let q : field 0 w (take w (drop j b)) ≡ field j w b = rw (add-zero j) at (field_part 0 w j w b (omega arith)) in
          same_differs (take w (drop i a)) (take w (drop j b)) (λ t. eqb-false (field i w a) (field j w b) e (sym p ∙ ap (field 0 w) t ∙ q))

  pub same_words : (i j : ℕ) → i + 8 ≤ length a → j + 8 ≤ length b
      → same (take 8 (drop i a)) (take 8 (drop j b)) ≡ eqb (field (i + 4) 4 a) (field (j + 4) 4 b) && eqb (field i 4 a) (field j 4 b)
  same_words i j h k =
      let f : length (take 4 (drop i a)) ≡ 4 = length-take-le 4 (drop i a) (simp length-drop (omega arith)) in
      let g : length (take 4 (drop j b)) ≡ 4 = length-take-le 4 (drop j b) (simp length-drop (omega arith)) in
      let p : take 8 (drop i a) ≡ take 4 (drop i a) ++ take 4 (drop (i + 4) a) = take-add 4 4 (drop i a) ∙ rw (drop-drop 4 i a) in
      let q : take 8 (drop j b) ≡ take 4 (drop j b) ++ take 4 (drop (j + 4) b) = take-add 4 4 (drop j b) ∙ rw (drop-drop 4 j b) in
      rw (p, q, same_append (take 4 (drop i a)) (take 4 (drop (i + 4) a)) (take 4 (drop j b)) (take 4 (drop (j + 4) b)) (f ∙ sym g), same_field 4 i j (omega arith) (omega arith), same_field 4 (i + 4) (j + 4) (omega arith) (omega arith))
      (and_comm (eqb (field i 4 a) (field j 4 b)) (eqb (field (i + 4) 4 a) (field (j + 4) 4 b)))
