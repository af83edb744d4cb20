-- Where the state record of a site record stands in a state, and what is read and written there.
use Rattle.std.specs.Prelude.{if◌then◌else◌}
use Prim.Native.Nat.{ℕ, zero, suc, ◌+◌, ◌*◌, ◌/◌, ◌≤◌, ◌<◌}
use native.Mathlib.Omega.{arith}
use mathlib.Core.Path.{◌≡◌, refl, ◌∙◌, ap}
use mathlib.Core.List.{List, [], ◌∷◌, ◌++◌, append_assoc}
use mathlib.Core.Bool.{Bool, true, false}
use lib.ListN.{length, take, drop, get_or, set, length-drop}
use lib.Seq.{take_at, drop_at, take-add, drop-drop, length-take-le}
use Rattle.octets.specs.Octets.{with_part}
use Rattle.octets.proofs.GroupLaws.{group_at}
use Rattle.model.specs.Words.{keep}
use Rattle.model.specs.Site.{records}
use Rattle.model.specs.State.{kept, state_size, state_length, state_place, paired, panel}
use Rattle.model.specs.InPlace.{part_of}
use Rattle.model.specs.Demands.{StateInPlace}

-- ── how many of the first elements pass a test

module _ {A : Type 0} (q : A → Bool) where
  abbrev pub passed : ℕ → List A → ℕ
  passed i xs = length (keep q (take i xs))

  pub first_passed : (x : A) (xs : List A) (i : ℕ) → passed (suc i) (x ∷ xs) ≡ (if q x then 1 else 0) + passed i xs
  first_passed x xs i = go (q x)
    where
      go : (c : Bool) → length (if c then x ∷ keep q (take i xs) else keep q (take i xs)) ≡ (if c then 1 else 0) + passed i xs
      go true = omega arith
      go false = omega arith

  pub next_passed : (xs : List A) (i : ℕ) (d : A) → i < length xs → passed (suc i) xs ≡ passed i xs + (if q (get_or xs i d) then 1 else 0)
  next_passed [] i d h = absurd (omega (arith, h))
  next_passed (x ∷ xs) zero d h = rw (first_passed x xs 0) (omega arith)
  next_passed (x ∷ xs) (suc i) d h = omega (arith, first_passed x xs (suc i), first_passed x xs i, next_passed xs i d (omega (arith, h)))

  -- One that passes stands there among those that do.
  pub passed_at : (xs : List A) (i : ℕ) (d : A) → i < length xs → q (get_or xs i d) ≡ true →
      (passed i xs < length (keep q xs)) × (get_or (keep q xs) (passed i xs) d ≡ get_or xs i d)
  passed_at [] i d h k = absurd (omega (arith, h))
  passed_at (x ∷ xs) zero d h k = rw k (omega arith, refl)
  passed_at (x ∷ xs) (suc i) d h k = rw (first_passed x xs i) (go (q x) (passed_at xs i d (omega (arith, h)) k))
    where
      go : (c : Bool) → (passed i xs < length (keep q xs)) × (get_or (keep q xs) (passed i xs) d ≡ get_or xs i d) →
          ((if c then 1 else 0) + passed i xs < length (if c then x ∷ keep q xs else keep q xs))
          × (get_or (if c then x ∷ keep q xs else keep q xs) ((if c then 1 else 0) + passed i xs) d ≡ get_or xs i d)
      go true t = let s : 1 + passed i xs ≡ suc (passed i xs) = omega arith in rw s (omega (arith, t.0), t.1)
      go false t = let s : 0 + passed i xs ≡ passed i xs = omega arith in rw s t

-- ── the place of a state record: those before it that have state

pub place_first : (s : List ℕ) (ss : List (List ℕ)) (i : ℕ) → state_place (suc i) (s ∷ ss) ≡ (if kept s then 1 else 0) + state_place i ss
unfolding state_place
place_first s ss i = first_passed kept s ss i

pub place_next : (ss : List (List ℕ)) (i : ℕ) → i < length ss → state_place (suc i) ss ≡ state_place i ss + (if kept (get_or ss i []) then 1 else 0)
unfolding state_place
place_next ss i h = next_passed kept ss i [] h

-- It is a place among those that have state.
pub place_below : (ss : List (List ℕ)) (i : ℕ) → i < length ss → kept (get_or ss i []) ≡ true → state_place i ss < length (keep kept ss)
unfolding state_place
place_below ss i h k = (passed_at kept ss i [] h k).0

-- Behind the state of a record the places of the others are counted anew.
behind : (s : List ℕ) (ss : List (List ℕ)) (i : ℕ) (state : List ℕ) →
    drop (state_place i ss * 32) (drop (state_size s) state) ≡ drop (state_place (suc i) (s ∷ ss) * 32) state
unfolding state_size
behind s ss i state = rw (place_first s ss i) (go (kept s))
  where
    go : (c : Bool) → drop (state_place i ss * 32) (drop (if c then 32 else 0) state) ≡ drop (((if c then 1 else 0) + state_place i ss) * 32) state
    go true = let m : 32 + state_place i ss * 32 ≡ (1 + state_place i ss) * 32 = omega arith in drop-drop (state_place i ss * 32) 32 state ∙ rw m refl
    go false = let m : 0 + state_place i ss ≡ state_place i ss = omega arith in rw m refl

pub paired_at : (ss : List (List ℕ)) (i : ℕ) (state : List ℕ) → i < length ss → kept (get_or ss i []) ≡ true →
    get_or (paired state_size ss state) i ([], []) ≡ (get_or ss i [], take 32 (drop (state_place i ss * 32) state))
unfolding paired
paired_at [] i state h k = absurd (omega (arith, h))
paired_at (s ∷ ss) zero state h k = unfold state_place state_size in rw k refl
paired_at (s ∷ ss) (suc i) state h k =
    paired_at ss i (drop (state_size s) state) (omega (arith, h)) k ∙ ap (λ t. (get_or ss i [], take 32 t)) (behind s ss i state)

-- A part behind the first 32 bytes is one of the rest.
part_behind : (p : ℕ) (b state : List ℕ) → 32 ≤ length state → with_part 32 (1 + p) b state ≡ take 32 state ++ with_part 32 p b (drop 32 state)
unfolding with_part
part_behind p b state f =
    let m : (1 + p) * 32 ≡ 32 + p * 32 = omega arith in
    let e : 32 + p * 32 + 32 ≡ 32 + (p * 32 + 32) = omega arith in
    rw (m, e, take-add 32 (p * 32) state, ← drop-drop (p * 32 + 32) 32 state)
    (append_assoc (take 32 state) (take (p * 32) (drop 32 state)) (b ++ drop (p * 32 + 32) (drop 32 state)))

-- And 32 bytes written there are written in the panel.
pub paired_stored : (ss : List (List ℕ)) (i : ℕ) (state b : List ℕ) → i < length ss → kept (get_or ss i []) ≡ true →
    state_place i ss * 32 + 32 ≤ length state → length b ≡ 32 →
    paired state_size ss (with_part 32 (state_place i ss) b state) ≡ set (paired state_size ss state) i (get_or ss i [], b)
unfolding paired state_size
paired_stored [] i state b h k fits l = absurd (omega (arith, h))
paired_stored (s ∷ ss) zero state b h k fits l =
    unfold state_place state_size with_part in rw (k, take_at b (drop 32 state) 32 l, drop_at b (drop 32 state) 32 l) refl
paired_stored (s ∷ ss) (suc i) state b h k fits l =
    let p = state_place i ss in
    rw (place_first s ss i) (go (kept s) refl (rw (place_first s ss i) at fits)
    (λ state f. paired_stored ss i state b (omega (arith, h)) k f l))
  where
    go : (c : Bool) → kept s ≡ c → ((if c then 1 else 0) + state_place i ss) * 32 + 32 ≤ length state →
        ((state : List ℕ) → state_place i ss * 32 + 32 ≤ length state →
        paired state_size ss (with_part 32 (state_place i ss) b state) ≡ set (paired state_size ss state) i (get_or ss i [], b)) →
        paired state_size (s ∷ ss) (with_part 32 ((if c then 1 else 0) + state_place i ss) b state)
        ≡ set (paired state_size (s ∷ ss) state) (suc i) (get_or ss i [], b)
    go true e f rest =
        let w : length (take 32 state) ≡ 32 = length-take-le 32 state (omega (arith, f)) in
        let t = with_part 32 (state_place i ss) b (drop 32 state) in
        rw (e, part_behind (state_place i ss) b state (omega (arith, f)), take_at (take 32 state) t 32 w, drop_at (take 32 state) t 32 w)
        (ap (λ qs. (s, take 32 state) ∷ qs) (rest (drop 32 state) (simp length-drop (omega (arith, f)))))
    go false e f rest =
        let z : 0 + state_place i ss ≡ state_place i ss = omega arith in
        rw (e, z) (ap (λ qs. (s, []) ∷ qs) (rest state (omega (arith, f))))

-- ── a site and its state

module _ (site state : List ℕ) (same_length : length state ≡ state_length site) (i : ℕ) (h : i < length (records site)) (k : kept (get_or (records site) i []) ≡ true) where
  pub place_within : state_place i (records site) < length state / 32
  unfolding state_length
  place_within = omega (arith, same_length, place_below (records site) i h k)

  pub panel_at : get_or (panel site state) i ([], []) ≡ (get_or (records site) i [], part_of 32 (state_place i (records site)) state)
  unfolding panel part_of
  panel_at =
      rw (group_at 32 (length state / 32) (state_place i (records site)) state place_within) (paired_at (records site) i state h k)

  pub panel_stored : (b : List ℕ) → length b ≡ 32 →
      panel site (with_part 32 (state_place i (records site)) b state) ≡ set (panel site state) i (get_or (records site) i [], b)
  unfolding panel
  panel_stored b l = paired_stored (records site) i state b h k (omega (arith, place_within)) l

pub state_in_place : StateInPlace
unfolding StateInPlace
state_in_place site state i l h k = panel_at site state l i h k
