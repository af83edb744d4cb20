-- Records of a state written one after the other, and where those of the longer state stand.
use Rattle.std.proofs.lemmas.List.{length-map}
use Prim.Native.Nat.{ℕ, zero, suc, ◌+◌, ◌-◌, ◌*◌, ◌/◌, ◌<◌, ◌≤◌}
use native.Mathlib.Omega.{arith}
use mathlib.Core.Path.{◌≡◌, refl, sym, ap, ◌∙◌}
use mathlib.Core.List.{List, [], ◌∷◌, ◌++◌, append-nil, map, flatten}
use mathlib.Core.Bool.{Bool, true, false}
use native.Mathlib.Nat.{add-sub_cancel_left}
use lib.Seq.{take_all, drop-drop}
use lib.ListN.{length, take, drop, get_or, get_or-map, drop_of_length-le}
use Rattle.octets.specs.Octets.{groups, with_part}
use Rattle.octets.proofs.Written.{written, written_start, written_step, written_end}
use Rattle.model.specs.Words.{keep, zeros}
use Rattle.model.specs.Site.{records}
use Rattle.model.specs.State.{Pair, kept, state_place, paired, panel, sites, state_of, state_length, fresh_record, fresh}
use Rattle.model.specs.InPlace.{part_of}
use Rattle.model.specs.Longer.{long_panel, shorter, long_record}
use Rattle.model.proofs.Laws.{only, sites_only}
use Rattle.model.proofs.Flat.{sites_paired, sites_panel, fresh_keep}
use Rattle.model.proofs.StatePlaces.{passed, next_passed, passed_at, place_within, panel_at}
use Rattle.index.proofs.Building.{length_records}

-- A part that was lent to be written: the list with what it came back as.
pub part_back : (size i : ℕ) (part back s : List ℕ) → back ≡ part
    → take (i * size) s ++ (back ++ drop (i * size + size - i * size) (drop (i * size) s)) ≡ with_part size i part s
unfolding with_part
part_back size i part back s e = rw (e, add-sub_cancel_left (i * size) size, drop-drop size (i * size) s)

-- ── a state written from the elements that pass a test, a record of each

module _ {A : Type 0} (q : A → Bool) (f : A → List ℕ) (xs : List A) (room : List ℕ) where
  -- Of the first i elements those that pass are written.
  pub record Put (i place : ℕ) (state : List ℕ) : Type 0 where
    pub few : place ≤ i
    pub count : place ≡ passed q i xs
    pub bytes : state ≡ written f 32 (keep q xs) room place

  pub put_start : Put 0 0 room
  put_start = record { few = omega arith; count = refl; bytes = written_start f 32 (keep q xs) room }

  module _ (fits : length (keep q xs) * 32 ≡ length room) (i place : ℕ) (d : A) (state : List ℕ) (so_far : Put i place state) (h : i < length xs) where
    pub put_other : q (get_or xs i d) ≡ false → Put (i + 1) place state
    put_other k =
        let n : i + 1 ≡ suc i = omega arith in
        record { few = omega (arith, so_far.few); count = rw n (omega (arith, so_far.count, rw k at (next_passed q xs i d h))); bytes = so_far.bytes }

    module _ (same_length : length state ≡ length room) (k : q (get_or xs i d) ≡ true) where
      pub put_asks : (32 < 9223372036854775808) × ((0 < 32) × (place < length state / 32))
      put_asks = (omega arith, (omega arith, omega (arith, so_far.count, (passed_at q xs i d h k).0)))

      pub put_more : (state' : List ℕ) → state' ≡ with_part 32 place (f (get_or xs i d)) state → Put (i + 1) (place + 1) state'
      put_more state' e =
          let n : i + 1 ≡ suc i = omega arith in
          let p = passed_at q xs i d h k in
          let w : place < length (keep q xs) = omega (arith, so_far.count, p.0) in
          let g : get_or (keep q xs) place d ≡ get_or xs i d = rw so_far.count p.1 in
          record {
            few = omega (arith, so_far.few);
            count = rw n (omega (arith, so_far.count, rw k at (next_passed q xs i d h)));
            bytes = written_step f 32 (keep q xs) room place d state state' w (omega (arith, w, fits)) same_length so_far.bytes (rw (← g) at e);
          }

  -- Behind the last of them nothing of the state is left.
  pub put_all : length (keep q xs) * 32 ≡ length room → (i place : ℕ) (state : List ℕ) → i ≡ length xs → Put i place state → state ≡ flatten (map f (keep q xs))
  put_all fits i place state e so_far =
      let d = drop_of_length-le room {i = length (keep q xs) * 32} (omega (arith, fits)) in
      let n : place ≡ length (keep q xs) = so_far.count ∙ ap (λ ys. length (keep q ys)) (take_all i xs (omega (arith, e))) in
      written_end f 32 (keep q xs) room place (length (keep q xs)) state n refl so_far.bytes ∙ rw (d, append-nil _)

-- ── the fresh state

pub fresh_joined : (site : List ℕ) → flatten (map fresh_record (keep kept (records site))) ≡ fresh site
unfolding fresh
fresh_joined site = fresh_keep kept (λ s h. h) (records site)

pub state_fits : (site state : List ℕ) → length state ≡ state_length site → length (keep kept (records site)) * 32 ≡ length state
unfolding state_length
state_fits site state h = omega (arith, h)

-- ── from the longer state to the shorter one

-- A pair that has state.
abbrev pub has_state : Pair → Bool
has_state x = kept x.0

long_at : (ss : List (List ℕ)) (n i : ℕ) (long : List ℕ) → length ss ≡ n → i < n →
    get_or (paired (λ s. 32) ss long) i ([], []) ≡ (get_or ss i [], get_or (groups 32 n long) i [])
unfolding paired groups
long_at [] n i long l h = absurd (omega (arith, l, h))
long_at (s ∷ ss) zero i long l h = absurd (omega (arith, h))
long_at (s ∷ ss) (suc n) zero long l h = refl
long_at (s ∷ ss) (suc n) (suc i) long l h = long_at ss n i (drop 32 long) (omega (arith, l)) (omega (arith, h))

sites_long : (site long : List ℕ) → sites (long_panel site long) ≡ records site
unfolding long_panel
sites_long site long = sites_paired (λ s. 32) (records site) long

pub length_pairs : (site long : List ℕ) → length (long_panel site long) ≡ length (records site)
length_pairs site long = sym (length-map (long_panel site long) (λ (x : Pair). x.0)) ∙ ap length (sites_long site long)

pub pairs_fit : (site long state : List ℕ) → length state ≡ state_length site → length (keep has_state (long_panel site long)) * 32 ≡ length state
pairs_fit site long state h =
    let k : length (keep has_state (long_panel site long)) ≡ length (keep kept (records site)) =
    sym (length-map (only kept (long_panel site long)) (λ (x : Pair). x.0)) ∙ ap length (sites_only kept (long_panel site long) ∙ ap (keep kept) (sites_long site long)) in
    omega (arith, state_fits site state h, k)

-- The i-th pair.
pub pair_at : (site long : List ℕ) (i : ℕ) → length long ≡ length site → i < length (records site) →
    (i < length long / 32) × (get_or (long_panel site long) i ([], []) ≡ (get_or (records site) i [], get_or (groups 32 (length long / 32) long) i []))
unfolding long_panel
pair_at site long i l h =
    let n = length_records site in
    (omega (arith, l, h, n), rw l (long_at (records site) (length site / 32) i long n (omega (arith, h, n))))

pub shorter_joined : (site long : List ℕ) → flatten (map (λ (x : Pair). x.1) (keep has_state (long_panel site long))) ≡ shorter site long
unfolding shorter state_of
shorter_joined site long = refl

-- ── and back

-- What the longer state has of the i-th site record: the part of the state at its place, or zeros.
module _ (site state : List ℕ) (same_length : length state ≡ state_length site) (i : ℕ) (h : i < length (records site)) where
  pub long_kept : kept (get_or (records site) i []) ≡ true → (state_place i (records site) < length state / 32)
      × (get_or (groups 32 (length state / 32) state) (state_place i (records site)) [] ≡ long_record (get_or (panel site state) i ([], [])))
  unfolding long_record part_of
  long_kept k = (place_within site state same_length i h k, rw (panel_at site state same_length i h k, k))

  pub long_other : kept (get_or (records site) i []) ≡ false → zeros 32 ≡ long_record (get_or (panel site state) i ([], []))
  unfolding long_record
  long_other k =
      let e : (get_or (panel site state) i ([], [])).0 ≡ get_or (records site) i [] =
      sym (get_or-map (λ (x : Pair). x.0) (panel site state) i ([], [])) ∙ ap (λ ss. get_or ss i []) (sites_panel site state) in
      rw (e, k)

pub length_panel : (site state : List ℕ) → length (panel site state) ≡ length (records site)
length_panel site state = sym (length-map (panel site state) (λ (x : Pair). x.0)) ∙ ap length (sites_panel site state)
