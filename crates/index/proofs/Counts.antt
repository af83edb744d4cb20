-- How many records have state: of some, from one on, and before one.
use Rattle.std.specs.Prelude.{if◌then◌else◌, count_ones}
use Prim.Native.Nat.{ℕ, zero, suc, ◌+◌, ◌-◌, ◌*◌, ◌/◌, ◌%◌, ◌^◌, ◌≤◌, ◌<◌}
use mathlib.Core.Path.{◌≡◌, refl, sym, ap, ◌∙◌}
use mathlib.Core.List.{List, [], ◌∷◌, ◌++◌}
use mathlib.Core.Bool.{Bool, true, false}
use native.Mathlib.Omega.{arith}
use lib.ListN.{length, take, drop, get_or, length-append, length-drop}
use lib.Seq.{take-add, take-nil}
use lib.Dec.{eqb}
use Rattle.std.specs.List.{filter}
use Rattle.std.proofs.lemmas.List.{drop_all, drop_more, take-append-drop}
use Rattle.model.specs.Words.{keep, bit_of}
use Rattle.model.specs.State.{kept, state_place}
use Rattle.model.proofs.Laws.{keep_append, length_keep}
use Rattle.index.specs.Index.{kept_from, bits_of, count_from, count_more}

-- The library's `filter` keeps the same.
pub filter_kept : (ss : List (List ℕ)) → filter kept ss ≡ keep kept ss
filter_kept [] = refl
filter_kept (s ∷ ss) = rw (filter_kept ss) refl

-- No more than there are, from whichever on.
pub kept_few : (i : ℕ) (ss : List (List ℕ)) → kept_from i ss ≤ length ss
kept_few i ss = omega (arith, length_keep kept (drop i ss), length-drop i ss)

-- Those of two lists, one after the other.
kept_both : (ss ts : List (List ℕ)) → length (keep kept (ss ++ ts)) ≡ length (keep kept ss) + length (keep kept ts)
kept_both ss ts = ap length (keep_append kept ss ts) ∙ length-append (keep kept ss) (keep kept ts)

-- The i-th with those after it.
pub kept_one : (i : ℕ) (ss : List (List ℕ)) → i < length ss → kept_from i ss ≡ kept_from (i + 1) ss + bit_of (kept (get_or ss i []))
kept_one i ss h = rw (drop_more ss i [] h) (go (kept (get_or ss i [])))
  where
    go : (c : Bool) → length (if c then get_or ss i [] ∷ keep kept (drop (i + 1) ss) else keep kept (drop (i + 1) ss)) ≡ kept_from (i + 1) ss + bit_of c
    go true = omega arith
    go false = omega arith

-- Those before a record and those from it on are all; those before it are those before an earlier one and those between.
pub kept_all : (i : ℕ) (ss : List (List ℕ)) → state_place i ss + kept_from i ss ≡ kept_from 0 ss
unfolding state_place
kept_all i ss = sym (kept_both (take i ss) (drop i ss)) ∙ ap (λ ts. length (keep kept ts)) (take-append-drop i ss)

pub place_on : (from k : ℕ) (ss : List (List ℕ)) → state_place (from + k) ss ≡ state_place from ss + length (keep kept (take k (drop from ss)))
unfolding state_place
place_on from k ss = rw (take-add from k ss) (kept_both (take from ss) (take k (drop from ss)))

-- Before the next stand those before a record and the record itself; and no more than there are.
pub place_one : (i : ℕ) (ss : List (List ℕ)) → i < length ss → state_place (i + 1) ss ≡ state_place i ss + bit_of (kept (get_or ss i []))
place_one i ss h = omega (arith, kept_one i ss h, kept_all i ss, kept_all (i + 1) ss)

pub place_few : (i : ℕ) (ss : List (List ℕ)) → state_place i ss ≤ length ss
place_few i ss = omega (arith, kept_all i ss, kept_few 0 ss)

-- ── counts with the bits of four records

bit_few : (c : Bool) → bit_of c ≤ 1
bit_few true = omega arith
bit_few false = omega arith

kept_cons : (s : List ℕ) (ss : List (List ℕ)) → length (keep kept (s ∷ ss)) ≡ bit_of (kept s) + length (keep kept ss)
kept_cons s ss = go (kept s)
  where
    go : (c : Bool) → length (if c then s ∷ keep kept ss else keep kept ss) ≡ bit_of c + length (keep kept ss)
    go true = omega arith
    go false = omega arith

-- Bits of twice the worth are twice the number.
bits_double : (w : ℕ) (ss : List (List ℕ)) → bits_of (w + w) ss ≡ bits_of w ss + bits_of w ss
bits_double w [] = omega arith
bits_double w (s ∷ ss) = go (kept s) (bits_double (w + w) ss)
  where
    go : (c : Bool) → bits_of (w + w + (w + w)) ss ≡ bits_of (w + w) ss + bits_of (w + w) ss →
        bit_of c * (w + w) + bits_of (w + w + (w + w)) ss ≡ bit_of c * w + bits_of (w + w) ss + (bit_of c * w + bits_of (w + w) ss)
    go true h = omega (arith, h)
    go false h = omega (arith, h)

-- So those of the first few are below a number that doubles with each.
top : ℕ → ℕ → ℕ
top zero w = w
top (suc n) w = top n (w + w)

top_high : (n w : ℕ) → w ≤ top n w
unfolding top
top_high zero w = omega arith
top_high (suc n) w = omega (arith, top_high n (w + w))

bits_few : (n w : ℕ) (ss : List (List ℕ)) → bits_of w (take n ss) + w ≤ top n w
unfolding top
bits_few zero w ss = omega arith
bits_few (suc n) w [] = omega (arith, top_high n (w + w))
bits_few (suc n) w (s ∷ ss) = go (kept s) (bits_few n (w + w) ss)
  where
    go : (c : Bool) → bits_of (w + w) (take n ss) + (w + w) ≤ top n (w + w) → bit_of c * w + bits_of (w + w) (take n ss) + w ≤ top n (w + w)
    go true h = omega (arith, h)
    go false h = omega (arith, h)

bits_below : (r : ℕ) → r < 4 → (ss : List (List ℕ)) → bits_of (2 ^ r) (take (4 - r) ss) < 16
unfolding top
bits_below zero h ss = omega (arith, bits_few 4 1 ss)
bits_below (suc zero) h ss = omega (arith, bits_few 3 2 ss)
bits_below (suc (suc zero)) h ss = omega (arith, bits_few 2 4 ss)
bits_below (suc (suc (suc zero))) h ss = omega (arith, bits_few 1 8 ss)
bits_below (suc (suc (suc (suc r)))) h ss = absurd (omega (arith, h))

-- The number above them.
pub count_above : (i : ℕ) (ss : List (List ℕ)) → count_from i ss / 16 ≡ kept_from i ss
count_above i ss = omega (arith, bits_below (i % 4) (omega arith) (drop i ss))

pub count_few : (i : ℕ) (ss : List (List ℕ)) → count_from i ss < length ss * 16 + 16
count_few i ss = omega (arith, bits_below (i % 4) (omega arith) (drop i ss), kept_few i ss)

pub count_end : (ss : List (List ℕ)) → count_from (length ss) ss ≡ 0
count_end ss = rw (drop_all (length ss) ss (omega arith), take-nil (4 - length ss % 4))

-- One more, with its bit, where it has state.
one_more : (c : Bool) (s : List ℕ) (ss : List (List ℕ)) (w below : ℕ) →
    length (keep kept ss) * 16 + below + (if c then 16 + w else 0) ≡ length (if c then s ∷ keep kept ss else keep kept ss) * 16 + (bit_of c * w + below)
one_more true s ss w below = omega arith
one_more false s ss w below = omega arith

-- The count of a record and those after it, of that of those alone.
count_cons : (r : ℕ) → r < 4 → (s : List ℕ) (ss : List (List ℕ)) (t : ℕ) → t ≡ (r + 1) % 4 →
    (if eqb r 3 then (length (keep kept ss) * 16 + bits_of (2 ^ t) (take (4 - t) ss)) / 16 * 16 else length (keep kept ss) * 16 + bits_of (2 ^ t) (take (4 - t) ss))
    + (if kept s then 16 + 2 ^ r else 0)
    ≡ length (keep kept (s ∷ ss)) * 16 + bits_of (2 ^ r) (take (4 - r) (s ∷ ss))
count_cons zero h s ss t e = rw e (one_more (kept s) s ss 1 (bits_of 2 (take 3 ss)))
count_cons (suc zero) h s ss t e = rw e (one_more (kept s) s ss 2 (bits_of 4 (take 2 ss)))
count_cons (suc (suc zero)) h s ss t e = rw e (one_more (kept s) s ss 4 (bits_of 8 (take 1 ss)))
count_cons (suc (suc (suc zero))) h s ss t e =
    let z : (length (keep kept ss) * 16 + bits_of 1 (take 4 ss)) / 16 * 16 ≡ length (keep kept ss) * 16 + 0 = omega (arith, bits_below 0 (omega arith) ss) in
    rw (e, z) (one_more (kept s) s ss 8 0)
count_cons (suc (suc (suc (suc r)))) h s ss t e = absurd (omega (arith, h))

pub count_step_law : (i : ℕ) (ss : List (List ℕ)) → i < length ss → count_more (count_from (i + 1) ss) i (kept (get_or ss i [])) ≡ count_from i ss
count_step_law i ss h = rw (drop_more ss i [] h) (count_cons (i % 4) (omega arith) (get_or ss i []) (drop (i + 1) ss) ((i + 1) % 4) (omega arith))

-- As many of four as the bits below a place say.
few_ones : (n : ℕ) → n < 8 → count_ones n ≡ n - n / 2 - n / 4
unfolding lib.Count.ones
few_ones zero h = refl
few_ones (suc zero) h = refl
few_ones (suc (suc zero)) h = refl
few_ones (suc (suc (suc zero))) h = refl
few_ones (suc (suc (suc (suc zero)))) h = refl
few_ones (suc (suc (suc (suc (suc zero))))) h = refl
few_ones (suc (suc (suc (suc (suc (suc zero)))))) h = refl
few_ones (suc (suc (suc (suc (suc (suc (suc zero))))))) h = refl
few_ones (suc (suc (suc (suc (suc (suc (suc (suc n)))))))) h = absurd (omega (arith, h))

ones_law : (r : ℕ) → r < 4 → (ss : List (List ℕ)) → let n = bits_of 1 (take 4 ss) % 2 ^ r in n - n / 2 - n / 4 ≡ length (keep kept (take r ss))
ones_law zero h ss = omega arith
ones_law (suc zero) h [] = refl
ones_law (suc zero) h (s ∷ ss) = omega (arith, bits_double 1 (take 3 ss), bit_few (kept s), kept_cons s [])
ones_law (suc (suc zero)) h [] = refl
ones_law (suc (suc zero)) h (s ∷ []) = omega (arith, bit_few (kept s), kept_cons s [])
ones_law (suc (suc zero)) h (s ∷ t ∷ ss) = omega (arith, bits_double 1 (take 2 ss), bits_double 2 (take 2 ss), bit_few (kept s), bit_few (kept t), kept_cons s (t ∷ []), kept_cons t [])
ones_law (suc (suc (suc zero))) h [] = refl
ones_law (suc (suc (suc zero))) h (s ∷ []) = omega (arith, bit_few (kept s), kept_cons s [])
ones_law (suc (suc (suc zero))) h (s ∷ t ∷ []) = omega (arith, bit_few (kept s), bit_few (kept t), kept_cons s (t ∷ []), kept_cons t [])
ones_law (suc (suc (suc zero))) h (s ∷ t ∷ u ∷ ss) =
    omega (
      arith,
      bits_double 1 (take 1 ss),
      bits_double 2 (take 1 ss),
      bits_double 4 (take 1 ss),
      bit_few (kept s),
      bit_few (kept t),
      bit_few (kept u),
      kept_cons s (t ∷ u ∷ []),
      kept_cons t (u ∷ []),
      kept_cons u [],
    )
ones_law (suc (suc (suc (suc r)))) h ss = absurd (omega (arith, h))

-- The bit of a place among four, and what is left below it.
pub shifted : (r : ℕ) → r < 4 → 1 * 2 ^ r % 65536 ≡ 2 ^ r
shifted zero h = refl
shifted (suc zero) h = refl
shifted (suc (suc zero)) h = refl
shifted (suc (suc (suc zero))) h = refl
shifted (suc (suc (suc (suc r)))) h = absurd (omega (arith, h))

pub low_bits : (r : ℕ) → r < 4 → (n : ℕ) → n % 2 ^ r < 8
low_bits zero h n = omega arith
low_bits (suc zero) h n = omega arith
low_bits (suc (suc zero)) h n = omega arith
low_bits (suc (suc (suc zero))) h n = omega arith
low_bits (suc (suc (suc (suc r)))) h n = absurd (omega (arith, h))

-- So the count of the fourth record at or before the i-th, beside that of all, says how many have state before the i-th.
pub place_counted : (i : ℕ) (ss : List (List ℕ)) → i < length ss →
    kept_from 0 ss - count_from (i / 4 * 4) ss / 16 + count_ones (count_from (i / 4 * 4) ss % 2 ^ (i % 4)) ≡ state_place i ss
place_counted i ss h =
    let m = i / 4 * 4 in
    let z : m % 4 ≡ 0 = omega arith in
    let y : m + i % 4 ≡ i = omega arith in
    let o = ones_law (i % 4) (omega arith) (drop m ss) in
    let b = below (i % 4) (omega arith) (kept_from m ss) (bits_of 1 (take 4 (drop m ss))) in
    rw (z, b, few_ones (bits_of 1 (take 4 (drop m ss)) % 2 ^ (i % 4)) (low_bits (i % 4) (omega arith) _)) (omega (arith, o, rw z at (count_above m ss), kept_all m ss, rw y at (place_on m (i % 4) ss)))
  where
    below : (r : ℕ) → r < 4 → (n f : ℕ) → (n * 16 + f) % 2 ^ r ≡ f % 2 ^ r
    below zero h n f = omega arith
    below (suc zero) h n f = omega arith
    below (suc (suc zero)) h n f = omega arith
    below (suc (suc (suc zero))) h n f = omega arith
    below (suc (suc (suc (suc r)))) h n f = absurd (omega (arith, h))
