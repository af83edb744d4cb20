-- The laws of numbers in bytes, each for every width: a number read, the bytes of a number, a number put among bytes; and of the comparison.
use mathlib.Core.Path.{◌≡◌, refl, sym, ap, ◌∙◌}
use mathlib.Core.Logic.{◌↔◌}
use mathlib.Core.List.{List, [], ◌∷◌, ◌++◌, append_assoc}
use mathlib.Core.Bool.{Bool, true, false, ◌&&◌, and_assoc, and-true}
use Prim.Native.Nat.{ℕ, zero, suc, ◌+◌, ◌*◌, ◌/◌, ◌%◌, ◌^◌, ◌≤◌, ◌<◌}
use native.Mathlib.Nat.{le_refl, add-zero, add-suc, zero-add, add_assoc, mul_assoc, pow-suc, pow-succ', div-one, div-add-mod', div-lt_iff_lt-mul, mod-lt, one-le-pow}
use native.Mathlib.Numerals.{add-one, one-add}
use native.Mathlib.Omega.{arith}
use borrow.Author.Tests.{eqb-false}
use lib.Arith.{digits_div, digits_mod, digits_lt}
use lib.Dec.{lit<, eqb}
use lib.ListN.{length, take, drop, get_or, set, length-append, length-take, length-drop}
use lib.Seq.{length-take-le, take-take, take-append-le, set_split, drop-cons, get_or_at, get_or-take, get_or-drop}
use lib.Pointwise.{pointwise, bytes_decides}
use Rattle.std.specs.List.{fold, zip}
use Rattle.std.proofs.lemmas.Bool.{false_from_ne_true}
use Rattle.std.proofs.lemmas.Slice.{drop-append-drop}
use Rattle.octets.specs.Octets.{field, digits, put, same}

-- A power of 256 is not 0.
pos : (w : ℕ) → zero < 256 ^ w
pos w = one-le-pow w 256 (lit< tt)

-- A field of m + n bytes is the field of its first m bytes, and then that of the other n.
pub field_join : (m n at : ℕ) (s : List ℕ) → field at (m + n) s ≡ field at m s * 256 ^ n + field (at + m) n s
unfolding field
field_join m zero at s = rw (add-zero m) (omega arith)
field_join m (suc n) at s =
    let e : at + (m + n) ≡ at + m + n = omega arith in
    let p : field at m s * 256 ^ suc n ≡ field at m s * 256 ^ n * 256 = rw (pow-suc 256 n) (sym (mul_assoc (field at m s) (256 ^ n) 256)) in
    rw (add-suc m n, e) (omega (arith, field_join m n at s, p))

-- Fields of the same bytes are the same number, whatever the lists and the places.
pub field_agree : (w at at' : ℕ) (s t : List ℕ) → ((i : ℕ) → i < w → get_or s (at + i) 0 ≡ get_or t (at' + i) 0) → field at w s ≡ field at' w t
unfolding field
field_agree zero at at' s t h = refl
field_agree (suc w) at at' s t h = rw (field_agree w at at' s t (λ i l. h i (omega arith)), h w (omega arith))

-- A field of a part is the field of the whole at its place there.
pub field_part : (at w from n : ℕ) (s : List ℕ) → at + w ≤ n → field at w (take n (drop from s)) ≡ field (from + at) w s
field_part at w from n s h =
    field_agree w at (from + at) (take n (drop from s)) s
    (λ i l.
    let k : at + i < n = omega arith in
    rw (get_or-take n (drop from s) (at + i) 0 k, get_or-drop from s (at + i) 0, add_assoc from at i))

-- A field of one byte is the byte.
pub field_one : (at : ℕ) (s : List ℕ) → field at 1 s ≡ get_or s at 0
unfolding field
field_one at s = rw (add-zero at) (omega arith)

-- The first byte of a field is the highest, and the other bytes are the rest of the number.
pub field_first : (w at : ℕ) (s : List ℕ) → field at (suc w) s ≡ get_or s at 0 * 256 ^ w + field (suc at) w s
field_first w at s =
    let j : field at (1 + w) s ≡ field at 1 s * 256 ^ w + field (at + 1) w s = field_join 1 w at s in
    rw (← one-add w, j, field_one at s, add-one at)

-- A list of bytes is a number whose first byte is the highest.
pub big_endian : (x : ℕ) (xs : List ℕ) → field 0 (length (x ∷ xs)) (x ∷ xs) ≡ x * 256 ^ length xs + field 0 (length xs) xs
big_endian x xs =
    let e : field 1 (length xs) (x ∷ xs) ≡ field 0 (length xs) xs = field_agree (length xs) 1 0 (x ∷ xs) xs (λ i l. rw (one-add i, zero-add i)) in
    rw (field_first (length xs) 0 (x ∷ xs), e)

-- A field is below 256 to the power of its width where every element of the list is a byte.
pub field_bound : (at w : ℕ) (s : List ℕ) → ((i : ℕ) → get_or s i 0 < 256) → field at w s < 256 ^ w
unfolding field
field_bound at zero s b = lit< tt
field_bound at (suc w) s b = rw (pow-suc 256 w) (digits_lt (field_bound at w s b) (b (at + w)))

-- A number has as many bytes as are asked for.
pub length_digits : (w v : ℕ) → length (digits w v) ≡ w
unfolding digits
length_digits zero v = refl
length_digits (suc w) v = ap suc (length_digits w (v % 256 ^ w))

-- What was written is read back, whatever stands before it and after it.
pub field_digits : (at w v : ℕ) (xs ys : List ℕ) → length xs ≡ at → field at (suc w) (xs ++ (digits (suc w) v ++ ys)) ≡ v
unfolding digits
field_digits at zero v xs ys e = rw (field_one at (xs ++ (v / 1 ∷ ys)), get_or_at xs (v / 1) ys 0 at e) (div-one v)
field_digits at (suc w) v xs ys e =
    let p = 256 ^ suc w in
    let d = v / p in
    let r = digits (suc w) (v % p) ++ ys in
    let l : length (xs ++ (d ∷ [])) ≡ suc at = simp (length-append, e) (omega arith) in
    let g : (xs ++ (d ∷ [])) ++ r ≡ xs ++ (d ∷ r) = append_assoc xs (d ∷ []) r in
    let i : field (suc at) (suc w) (xs ++ (d ∷ r)) ≡ v % p = rw g at (field_digits (suc at) w (v % p) (xs ++ (d ∷ [])) ys l) in
    rw (field_first (suc w) at (xs ++ (d ∷ r)), get_or_at xs d r 0 at e, i) (div-add-mod' v p)

-- The bytes of a field are the bytes that it was read from, where every element of the list is a byte.
pub digits_field : (at w : ℕ) (s : List ℕ) → ((i : ℕ) → get_or s i 0 < 256) → at + w ≤ length s → digits w (field at w s) ≡ take w (drop at s)
unfolding digits
digits_field at zero s b h = refl
digits_field at (suc w) s b h =
    let k : field (suc at) w s < 256 ^ w = field_bound (suc at) w s b in
    let l : at < length s = omega arith in
    rw (field_first w at s, digits_div (get_or s at 0) k, digits_mod (get_or s at 0) k, digits_field (suc at) w s b (omega arith), drop-cons s at 0 l)

-- The bytes of a number that its width holds are bytes.
pub digits_bytes : (w v i : ℕ) → v < 256 ^ w → get_or (digits w v) i 0 < 256
unfolding digits
digits_bytes zero v i h = lit< tt
digits_bytes (suc w) v zero h = (div-lt_iff_lt-mul (pos w)).1 (rw (pow-succ' 256 w) at h)
digits_bytes (suc w) v (suc i) h = digits_bytes w (v % 256 ^ w) i (mod-lt v (pos w))

-- A number put leaves the length as it was.
pub length_put : (at w v : ℕ) (s : List ℕ) → at + w ≤ length s → length (put at w v s) ≡ length s
unfolding put
length_put at w v s h = simp (length-append, length-take-le at s (omega arith), length_digits, length-drop) (omega arith)

-- What stands before a number put is as it was.
pub take_put : (at w v a : ℕ) (s : List ℕ) → at + w ≤ length s → a ≤ at → take a (put at w v s) ≡ take a s
unfolding put
take_put at w v a s h d =
    let l : a ≤ length (take at s) = simp length-take (omega arith) in
    rw (take-append-le a (take at s) (digits w v ++ drop (at + w) s) l, take-take a at s d)

-- What stands after a number put is as it was.
pub drop_put : (at w v a : ℕ) (s : List ℕ) → at + w ≤ length s → at + w ≤ a → drop a (put at w v s) ≡ drop a s
unfolding put
drop_put at w v a s h d =
    let l : length (take at s ++ digits w v) ≡ at + w = simp (length-append, length_digits, length-take) (omega arith) in
    ap (drop a) (sym (append_assoc (take at s) (digits w v) (drop (at + w) s)))
    ∙ drop-append-drop (at + w) s (take at s ++ digits w v) a d l

-- The number that was put is read back.
pub get_put_same : (at w v : ℕ) (s : List ℕ) → at + suc w ≤ length s → field at (suc w) (put at (suc w) v s) ≡ v
unfolding put
get_put_same at w v s h = field_digits at w v (take at s) (drop (at + suc w) s) (length-take-le at s (omega arith))

-- A field that ends before a number put is as it was.
pub get_put_before : (at w v at' w' : ℕ) (s : List ℕ) → at + w ≤ length s → at' + w' ≤ at → field at' w' (put at w v s) ≡ field at' w' s
get_put_before at w v at' w' s h d =
    let p : field at' w' (take at (put at w v s)) ≡ field at' w' (put at w v s) = rw (zero-add at') at (field_part at' w' 0 at (put at w v s) d) in
    let q : field at' w' (take at s) ≡ field at' w' s = rw (zero-add at') at (field_part at' w' 0 at s d) in
    sym p ∙ rw (take_put at w v at s h (le_refl at)) q

-- A field that starts after a number put is as it was.
pub get_put_after : (at w v at' w' : ℕ) (s : List ℕ) → at + w ≤ length s → at + w ≤ at' → field at' w' (put at w v s) ≡ field at' w' s
get_put_after at w v at' w' s h d =
    let p : field 0 w' (take w' (drop at' (put at w v s))) ≡ field at' w' (put at w v s) = rw (add-zero at') at (field_part 0 w' at' w' (put at w v s) (omega arith)) in
    let q : field 0 w' (take w' (drop at' s)) ≡ field at' w' s = rw (add-zero at') at (field_part 0 w' at' w' s (omega arith)) in
    sym p ∙ rw (drop_put at w v at' s h d) q

-- A number of one byte is put by a store.
pub put_one : (at v : ℕ) (s : List ℕ) → at + 1 ≤ length s → set s at v ≡ put at 1 v s
unfolding put digits
put_one at v s h =
    let l : at < length s = omega arith in
    rw (div-one v, add-one at) (set_split s at v l)

-- The library's equality of lists of numbers is the test.
pub pointwise_same : (a b : List ℕ) → pointwise eqb a b ≡ same a b
unfolding same
pointwise_same [] [] = refl
pointwise_same [] (y ∷ ys) = refl
pointwise_same (x ∷ xs) [] = refl
pointwise_same (x ∷ xs) (y ∷ ys) = ap (λ (t : Bool). eqb x y && t) (pointwise_same xs ys)

-- The test holds where the lists are equal, and only there.
pub same_eq : (a b : List ℕ) → (same a b ≡ true) ↔ (a ≡ b)
same_eq a b = rw (pointwise_same a b) at (bytes_decides a b)

-- A list is the same as itself.
pub same_refl : (a : List ℕ) → same a a ≡ true
same_refl a = (same_eq a a).1 refl

-- The test fails where the lists are not equal.
pub same_differs : (a b : List ℕ) → (a ≡ b → ⊥) → same a b ≡ false
same_differs a b h = false_from_ne_true (same a b) (λ t. h ((same_eq a b).0 t))

-- Byte by byte, of two runs of one length, with what stands before as it may be.
same_from : (t : Bool) (a b : List ℕ) → length a ≡ length b → fold (λ (all : Bool) (p : ℕ × ℕ). all && eqb p.0 p.1) t (zip a b) ≡ t && same a b
unfolding same
same_from t [] [] h = sym (and-true t)
same_from t [] (y ∷ ys) h = absurd (omega (arith, h))
same_from t (x ∷ xs) [] h = absurd (omega (arith, h))
same_from t (x ∷ xs) (y ∷ ys) h = same_from (t && eqb x y) xs ys (omega (arith, h)) ∙ and_assoc t (eqb x y) (same xs ys)

-- The test holds of two runs of one length where the bytes of each pair are the same.
pub same_pairs : (a b : List ℕ) → length a ≡ length b → fold (λ (all : Bool) (p : ℕ × ℕ). all && eqb p.0 p.1) true (zip a b) ≡ same a b
same_pairs a b h = same_from true a b h

-- Runs of two lengths are not the same.
pub same_lengths : (a b : List ℕ) → eqb (length a) (length b) ≡ false → eqb (length a) (length b) ≡ same a b
same_lengths a b h = h ∙ sym (same_differs a b (λ e. eqb-false (length a) (length b) h (ap length e)))
