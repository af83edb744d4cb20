-- Parts of one size, each made from an element of a list, written one after the other over the head of a list of bytes.
use Prim.Native.Nat.{ℕ, suc, ◌+◌, ◌*◌, ◌≤◌, ◌<◌}
use native.Mathlib.Nat.{zero-mul, suc-mul}
use native.Mathlib.Numerals.{add-one}
use native.Mathlib.Omega.{arith}
use mathlib.Core.Path.{◌≡◌, refl, sym, ◌∙◌, ap}
use mathlib.Core.List.{List, [], ◌∷◌, ◌++◌, append_assoc, append-nil, map, map-append, flatten}
use lib.ListN.{length, take, drop, get_or, length-append, length-drop}
use lib.Seq.{take_all, take-suc, take_at, drop_at, drop-drop}
use Rattle.octets.specs.Octets.{with_part}

pub flatten_append : (xs ys : List (List ℕ)) → flatten (xs ++ ys) ≡ flatten xs ++ flatten ys
unfolding flatten
flatten_append [] ys = refl
flatten_append (x ∷ xs) ys = rw (flatten_append xs ys) (sym (append_assoc x (flatten xs) (flatten ys)))

-- Where a list has the length of another and ends like it, what stands before that end has its length too.
pub head_length : (n : ℕ) (xs room : List ℕ) → n ≤ length room → length (xs ++ drop n room) ≡ length room → length xs ≡ n
head_length n xs room h l = omega (arith, length-append xs (drop n room), length-drop n room)

-- The next part stands behind those before it.
pub part_behind : (size i : ℕ) (done part room : List ℕ) → length done ≡ i * size
    → with_part size i part (done ++ drop (i * size) room) ≡ (done ++ part) ++ drop (suc i * size) room
unfolding with_part
part_behind size i done part room l =
    rw (take_at done (drop (i * size) room) (i * size) l, ← drop-drop size (i * size) (done ++ drop (i * size) room), drop_at done (drop (i * size) room) (i * size) l, drop-drop size (i * size) room, suc-mul i size)
    (sym (append_assoc done part (drop (i * size + size) room)))

module _ {A : Type 0} (f : A → List ℕ) (size : ℕ) (xs : List A) (room : List ℕ) where
  -- After i of them: their parts, and the rest as it was.
  unfoldable pub written : ℕ → List ℕ
  written i = flatten (map f (take i xs)) ++ drop (i * size) room

  pub written_start : room ≡ written 0
  unfolding written flatten
  written_start = rw (zero-mul size)

  pub written_step : (i : ℕ) (d : A) (text text' : List ℕ) → i < length xs → i * size ≤ length room → length text ≡ length room
      → text ≡ written i → text' ≡ with_part size i (f (get_or xs i d)) text → text' ≡ written (i + 1)
  unfolding written flatten
  written_step i d text text' h fits l e e' =
      let done = flatten (map f (take i xs)) in
      let part = f (get_or xs i d) in
      let n : length done ≡ i * size = head_length (i * size) done room fits (rw e at l) in
      let p : flatten (map f (take (suc i) xs)) ≡ done ++ part = rw (take-suc xs i d h, map-append f (take i xs) (get_or xs i d ∷ []), flatten_append (map f (take i xs)) (part ∷ []), append-nil part) in
      e' ∙ ap (with_part size i part) e ∙ part_behind size i done part room n ∙ rw (add-one i, p)

  pub written_end : (i n : ℕ) (text : List ℕ) → i ≡ n → length xs ≡ n → text ≡ written i → text ≡ flatten (map f xs) ++ drop (n * size) room
  unfolding written
  written_end i n text j h e = e ∙ rw (j, take_all n xs (omega arith))
