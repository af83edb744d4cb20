-- The index is built from the last record to the first.
use Rattle.std.specs.Prelude.{if◌then◌else◌}
use Prim.Native.Nat.{ℕ, ◌+◌, ◌*◌, ◌/◌, ◌≤◌, ◌<◌}
use mathlib.Core.Path.{◌≡◌, refl, sym, ◌∙◌}
use mathlib.Core.List.{List, [], ◌++◌}
use mathlib.Core.Bool.{Bool, true, false}
use native.Mathlib.Omega.{arith}
use lib.Bits.{bit_or}
use lib.Dec.{eqb}
use lib.ListN.{length, take, drop, get_or, get_or-append, set, replicate, length-drop, length-set}
use lib.Seq.{get_or-set_same, get_or-set_other, length-take-le}
use Rattle.std.proofs.lemmas.List.{drop_all, drop_more, get_or-append-add, get_or-replicate, length-replicate}
use borrow.Author.Tests.{eqb-true, eqb-false, eq-eqb, ne_eqb}
use Rattle.octets.proofs.GroupLaws.{length_groups}
use Rattle.model.specs.Site.{records}
use Rattle.model.specs.State.{kept}
use Rattle.index.specs.Index.{most_records, buckets, kind_classes, index_size, count_step, chain_scale, bucket_of, mark_of, tags_of, chain_from, kind_class, next_in, head, kind_head, kind_last, link, count_from, count_more, count_at, IndexedFrom}
use Rattle.index.proofs.Walks.{next_high, next_turn, next_end}
use Rattle.index.proofs.Counts.{count_end, count_step_law}

-- Where the counts stand.
abbrev counts_from : ℕ
counts_from = most_records + buckets + kind_classes + kind_classes

-- There are as many records as whole groups of 32 bytes.
pub length_records : (site : List ℕ) → length (records site) ≡ length site / 32
unfolding records
length_records site = length_groups 32 (length site / 32) site

-- The heads, which are k numbers, all hold n.
abbrev pub Emptied : ℕ → ℕ → List ℕ → Type 0
Emptied n k index = (b : ℕ) → b < k → head b index ≡ n

-- They do where they were filled with n.
filled_at : (n a k i d : ℕ) (links rest : List ℕ) → length links ≡ a → i < k → get_or (links ++ (replicate k n ++ rest)) (a + i) d ≡ n
filled_at n a k i d links rest e h =
    let l : length (replicate k n) ≡ k = length-replicate k n in
    rw (← e, get_or-append-add links (replicate k n ++ rest) i d, get_or-append (replicate k n) rest d i (omega arith)) (get_or-replicate k i n d h)

pub filled : (n k : ℕ) (index heads rest : List ℕ) → length index ≡ index_size → most_records + k ≤ index_size
    → heads ≡ replicate (length (take k (drop most_records index))) n → Emptied n k (take most_records index ++ (heads ++ rest))
filled n k index heads rest size e f b h =
    let m : length (take k (drop most_records index)) ≡ k = length-take-le k (drop most_records index) (simp length-drop (omega arith)) in
    rw (f, m) (filled_at n most_records k b 0 (take most_records index) rest (length-take-le most_records index (omega arith)) (omega arith))

-- A chain ends at the number of records. The i-th record is put before its own chain, and passed over by the others.
chain_end : (b : ℕ) (ss : List (List ℕ)) → chain_from b (length ss) ss ≡ length ss
unfolding tags_of
chain_end b ss = rw (next_end bucket_of b (length ss) ss (omega arith), drop_all (length ss) ss (omega arith)) (omega arith)

module _ (i : ℕ) (ss : List (List ℕ)) (h : i < length ss) where
  next_own : (class : List ℕ → ℕ) (c : ℕ) → class (get_or ss i []) ≡ c → next_in class c i ss ≡ i
  next_own class c e = rw (next_turn class c i ss h, eq-eqb (class (get_or ss i [])) c e)

  next_other : (class : List ℕ → ℕ) (c : ℕ) → (class (get_or ss i []) ≡ c → ⊥) → next_in class c i ss ≡ next_in class c (i + 1) ss
  next_other class c n = rw (next_turn class c i ss h, ne_eqb (class (get_or ss i [])) c n)

  chain_own : (b chain : ℕ) → length ss ≤ most_records → bucket_of (get_or ss i []) ≡ b → chain ≡ chain_from b (i + 1) ss
      → i + bit_or (mark_of (get_or ss i [])) (chain / chain_scale) * chain_scale ≡ chain_from b i ss
  unfolding tags_of
  chain_own b chain few e q =
      let t : chain / chain_scale ≡ tags_of b (drop (i + 1) ss) = omega (arith, next_high bucket_of b (i + 1) ss (omega arith)) in
      rw (next_own bucket_of b e, drop_more ss i [] h, eq-eqb (bucket_of (get_or ss i [])) b e, t)

  chain_other : (b : ℕ) → (bucket_of (get_or ss i []) ≡ b → ⊥) → chain_from b i ss ≡ chain_from b (i + 1) ss
  unfolding tags_of
  chain_other b n = rw (next_other bucket_of b n, drop_more ss i [] h, ne_eqb (bucket_of (get_or ss i [])) b n)

-- No record yet: every bucket and every class of kinds is empty, and none has state.
pub emptied : (ss : List (List ℕ)) (index : List ℕ) → length index ≡ index_size → length ss ≤ most_records
    → Emptied (length ss) (buckets + kind_classes + kind_classes) index → IndexedFrom (length ss) ss (set index (counts_from + length ss / count_step) 0)
emptied ss index size few h =
    record {
      size = simp length-set size;
      few = few;
      within = omega arith;
      heads = λ b l. stays b (omega arith) ∙ sym (chain_end b ss);
      kinds = kinds;
      lasts = λ c l m. absurd (omega (arith, kinds c l, next_end kind_class c (length ss) ss (omega arith)));
      links = λ i l m. absurd (omega arith);
      counts = λ m l g. let z : m * count_step ≡ length ss = omega arith in let y : m ≡ length ss / count_step = omega arith in rw (z, y, count_end ss) zero;
      counted = rw (count_end ss) zero;
    }
  where
    at : ℕ
    at = counts_from + length ss / count_step

    stays : (b : ℕ) → b < buckets + kind_classes + kind_classes → head b (set index at 0) ≡ length ss
    stays b l = get_or-set_other index at (most_records + b) 0 0 (λ q. omega (arith, q)) ∙ h b l

    zero : count_at (length ss / count_step) (set index at 0) ≡ 0
    zero = get_or-set_same index at 0 0 (omega (arith, size))

    kinds : (c : ℕ) → c < kind_classes → kind_head c (set index at 0) ≡ next_in kind_class c (length ss) ss
    kinds c l =
        let z : most_records + buckets + c ≡ most_records + (buckets + c) = omega arith in
        rw z (stays (buckets + c) (omega arith)) ∙ sym (next_end kind_class c (length ss) ss (omega arith))

-- The head of one class is written, and the others stay. The heads of the classes stand from o on.
headed : (o b v : ℕ) (index : List ℕ) → o + b < length index → (g : ℕ → ℕ) → v ≡ g b → (a : ℕ) → ((b ≡ a → ⊥) → get_or index (o + a) 0 ≡ g a)
    → get_or (set index (o + b) v) (o + a) 0 ≡ g a
headed o b v index fits g own a other = go (eqb b a) refl
  where
    go : (c : Bool) → eqb b a ≡ c → get_or (set index (o + b) v) (o + a) 0 ≡ g a
    go true e = rw (← eqb-true b a e) (get_or-set_same index (o + b) v 0 fits ∙ own)
    go false e =
        let n : b ≡ a → ⊥ = eqb-false b a e in
        get_or-set_other index (o + b) (o + a) v 0 (λ q. n (omega arith)) ∙ other n

-- One record more: its link is its bucket's chain, before which it is put, and it becomes the head of its kind's class.
module _ (i : ℕ) (ss : List (List ℕ)) (index : List ℕ) (h : i < length ss) (b : ℕ) (same : b ≡ bucket_of (get_or ss i [])) (fits : b < buckets)
    (d : ℕ) (also : d ≡ kind_class (get_or ss i [])) (small : d < kind_classes) (x : IndexedFrom (i + 1) ss index)
    (first : ℕ) (before : first ≡ i + bit_or (mark_of (get_or ss i [])) (head b index / chain_scale) * chain_scale)
    (last : ℕ) (ends : last ≡ if eqb (kind_head d index) (length ss) then i else kind_last d index) where
  abbrev one : List ℕ
  one = set index i (head b index)

  abbrev two : List ℕ
  two = set one (most_records + b) first

  abbrev three : List ℕ
  three = set two (most_records + buckets + d) i

  abbrev four : List ℕ
  four = set three (most_records + buckets + d + kind_classes) last

  heads : (a : ℕ) → a < buckets → head a four ≡ chain_from a i ss
  heads a l =
      get_or-set_other three (most_records + buckets + d + kind_classes) (most_records + a) last 0 (λ q. omega arith)
      ∙ get_or-set_other two (most_records + buckets + d) (most_records + a) i 0 (λ q. omega arith)
      ∙ headed most_records b first one (simp length-set (omega (arith, x.size))) (λ c. chain_from c i ss)
      (before ∙ chain_own i ss h b (head b index) x.few (sym same) (x.heads b fits)) a
      (λ n. get_or-set_other index i (most_records + a) (head b index) 0 (λ q. omega (arith, x.few)) ∙ x.heads a l ∙ sym (chain_other i ss h a (λ q. n (same ∙ q))))

  kinds : (a : ℕ) → a < kind_classes → kind_head a four ≡ next_in kind_class a i ss
  kinds a l =
      get_or-set_other three (most_records + buckets + d + kind_classes) (most_records + buckets + a) last 0 (λ q. omega arith)
      ∙ headed (most_records + buckets) d i two (simp (length-set, length-set) (omega (arith, x.size))) (λ c. next_in kind_class c i ss)
      (sym (next_own i ss h kind_class d (sym also))) a
      (λ n. get_or-set_other one (most_records + b) (most_records + buckets + a) first 0 (λ q. omega arith)
      ∙ get_or-set_other index i (most_records + buckets + a) (head b index) 0 (λ q. omega (arith, x.few)) ∙ x.kinds a l ∙ sym (next_other i ss h kind_class a (λ q. n (also ∙ q))))

  lasts : (c : ℕ) → c < kind_classes → kind_head c four < length ss → next_in kind_class c (kind_last c four + 1) ss ≡ length ss
  lasts c l m = go (eqb d c) refl
    where
      old : (d ≡ c → ⊥) → kind_head c four ≡ kind_head c index
      old n =
          get_or-set_other three (most_records + buckets + d + kind_classes) (most_records + buckets + c) last 0 (λ q. omega arith)
          ∙ get_or-set_other two (most_records + buckets + d) (most_records + buckets + c) i 0 (λ q. n (omega arith))
          ∙ get_or-set_other one (most_records + b) (most_records + buckets + c) first 0 (λ q. omega arith)
          ∙ get_or-set_other index i (most_records + buckets + c) (head b index) 0 (λ q. omega (arith, x.few))

      stays : (d ≡ c → ⊥) → kind_last c four ≡ kind_last c index
      stays n =
          get_or-set_other three (most_records + buckets + d + kind_classes) (most_records + buckets + kind_classes + c) last 0 (λ q. n (omega arith))
          ∙ get_or-set_other two (most_records + buckets + d) (most_records + buckets + kind_classes + c) i 0 (λ q. omega arith)
          ∙ get_or-set_other one (most_records + b) (most_records + buckets + kind_classes + c) first 0 (λ q. omega arith)
          ∙ get_or-set_other index i (most_records + buckets + kind_classes + c) (head b index) 0 (λ q. omega (arith, x.few))

      put : kind_last d four ≡ last
      put =
          let z : most_records + buckets + kind_classes + d ≡ most_records + buckets + d + kind_classes = omega arith in
          rw z (get_or-set_same three (most_records + buckets + d + kind_classes) last 0 (simp (length-set, length-set, length-set) (omega (arith, x.size))))

      was : (t : Bool) → eqb (kind_head d index) (length ss) ≡ t → next_in kind_class d ((if t then i else kind_last d index) + 1) ss ≡ length ss
      was true e = sym (x.kinds d small) ∙ eqb-true (kind_head d index) (length ss) e
      was false e = x.lasts d small (below (eqb-false (kind_head d index) (length ss) e))
        where
          below : (kind_head d index ≡ length ss → ⊥) → kind_head d index < length ss
          below n = omega (arith, n, x.kinds d small, next_high kind_class d (i + 1) ss (omega arith))

      go : (t : Bool) → eqb d c ≡ t → next_in kind_class c (kind_last c four + 1) ss ≡ length ss
      go true e = rw (← eqb-true d c e, put, ends) (was (eqb (kind_head d index) (length ss)) refl)
      go false e = rw (stays (eqb-false d c e)) (x.lasts c l (rw (old (eqb-false d c e)) at m))

  away : (j : ℕ) → j < length ss → link j four ≡ link j one
  away j m =
      get_or-set_other three (most_records + buckets + d + kind_classes) j last 0 (λ q. omega (arith, x.few))
      ∙ get_or-set_other two (most_records + buckets + d) j i 0 (λ q. omega (arith, x.few)) ∙ get_or-set_other one (most_records + b) j first 0 (λ q. omega (arith, x.few))

  links : (j : ℕ) → i ≤ j → j < length ss → link j four ≡ chain_from (bucket_of (get_or ss j [])) (j + 1) ss
  links j l m = go (eqb j i) refl
    where
      more : (j ≡ i → ⊥) → i + 1 ≤ j
      more n = omega (arith, n)

      go : (c : Bool) → eqb j i ≡ c → link j four ≡ chain_from (bucket_of (get_or ss j [])) (j + 1) ss
      go true e =
          let q : j ≡ i = eqb-true j i e in
          rw (q, ← same) (away i h ∙ get_or-set_same index i (head b index) 0 (omega (arith, x.few, x.size)) ∙ x.heads b fits)
      go false e = away j m ∙ get_or-set_other index i j (head b index) 0 (eqb-false j i e) ∙ x.links j (more (eqb-false j i e)) m

  -- And how many have state from it on is written to the count of its four records.
  module _ (count : ℕ) (more : count ≡ count_more (count_at ((i + 1) / count_step) index) i (kept (get_or ss i []))) where
    abbrev place : ℕ
    place = counts_from + i / count_step

    abbrev five : List ℕ
    five = set four place count

    aside : (j : ℕ) → (j ≡ place → ⊥) → get_or five j 0 ≡ get_or four j 0
    aside j n = get_or-set_other four place j count 0 n

    counted : count_at (i / count_step) five ≡ count_from i ss
    counted =
        get_or-set_same four place count 0 (simp (length-set, length-set, length-set, length-set) (omega (arith, x.size, x.few)))
        ∙ more ∙ rw x.counted (count_step_law i ss h)

    counts : (m : ℕ) → i ≤ m * count_step → m * count_step ≤ length ss → count_at m five ≡ count_from (m * count_step) ss
    counts m l g = go (eqb (i / count_step) m) refl
      where
        go : (t : Bool) → eqb (i / count_step) m ≡ t → count_at m five ≡ count_from (m * count_step) ss
        go true e =
            let q : i / count_step ≡ m = eqb-true (i / count_step) m e in
            let z : m * count_step ≡ i = omega (arith, q) in
            let w : count_at m five ≡ count_from i ss = rw (← q) counted in
            rw z w
        go false e =
            let n : i / count_step ≡ m → ⊥ = eqb-false (i / count_step) m e in
            aside (counts_from + m) (λ q. n (omega (arith, q)))
            ∙ get_or-set_other three (most_records + buckets + d + kind_classes) (counts_from + m) last 0 (λ q. omega arith)
            ∙ get_or-set_other two (most_records + buckets + d) (counts_from + m) i 0 (λ q. omega arith)
            ∙ get_or-set_other one (most_records + b) (counts_from + m) first 0 (λ q. omega arith)
            ∙ get_or-set_other index i (counts_from + m) (head b index) 0 (λ q. omega (arith, x.few)) ∙ x.counts m (omega (arith, n)) g

    pub inserted : IndexedFrom i ss five
    inserted =
        record {
          size = simp (length-set, length-set, length-set, length-set, length-set) x.size;
          few = x.few;
          within = omega arith;
          heads = λ a l. aside (most_records + a) (λ q. omega arith) ∙ heads a l;
          kinds = λ a l. aside (most_records + buckets + a) (λ q. omega arith) ∙ kinds a l;
          lasts = λ c l m. rw (aside (most_records + buckets + kind_classes + c) (λ q. omega arith)) (lasts c l (rw (aside (most_records + buckets + c) (λ q. omega arith)) at m));
          links = λ j l m. aside j (λ q. omega (arith, x.few)) ∙ links j l m;
          counts = counts;
          counted = counted;
        }
