-- Site and state as bytes, and as a panel of records: each gives the other back.
use Rattle.std.specs.Prelude.{if◌then◌else◌, Option, Some, None}
use Prim.Native.Nat.{ℕ, zero, suc, ◌+◌, ◌*◌, ◌≤◌}
use native.Mathlib.Omega.{arith}
use mathlib.Core.Path.{◌≡◌, refl, sym, ◌∙◌, ap}
use mathlib.Core.List.{List, [], ◌∷◌, ◌++◌, map, map-map, flatten}
use mathlib.Core.Bool.{Bool, true, false, ◌||◌}
use Rattle.std.proofs.lemmas.List.{nil_from_length}
use lib.Dec.{eqb}
use lib.ListN.{length, take, drop, length-append, length-drop, take-append-drop}
use lib.Seq.{take_at, drop_at, length-take-le}
use borrow.Author.Tests.{eqb-true, eq-eqb}
use Rattle.octets.specs.Octets.{groups}
use Rattle.model.specs.Words.{keep, all, missing}
use Rattle.model.specs.Numbers.{access_zone, access_point, access_credential}
use Rattle.model.specs.Site.{kind, record_kind, is_at, find_in, records}
use Rattle.model.specs.State.{Pair, Panel, kept_kind, kept, state_size, state_length, paired, panel, sites, state_of, find_by, fresh_point, fresh_credential, fresh_record_as, fresh_record, fresh}
use Rattle.model.specs.Step.{apply, entry_outcome, after}
use Rattle.model.proofs.Laws.{and_left, and_right, only, if_any, all_write_of, sites_apply, kind_at}
use Rattle.model.proofs.RoundTrip.{length_zone, length_point, length_credential}
use Rattle.model.specs.declared.Entry.{Entry}
use Rattle.model.specs.declared.Outcome.{Outcome}
use Rattle.model.specs.declared.RecordKind.{RecordKind}
use Rattle.model.specs.declared.RecordKind.TheVariants.{OfZone, OfPoint, OfRule, OfCredential, OfFactor}

-- ── lists of groups of one size

-- Every list has that length.
abbrev pub Sized : ℕ → List (List ℕ) → Bool
Sized size xs = all (λ x. eqb (length x) size) xs

pub length_flatten : (size : ℕ) (xs : List (List ℕ)) → Sized size xs ≡ true → length (flatten xs) ≡ length xs * size
unfolding flatten
length_flatten size [] h = omega arith
length_flatten size (x ∷ xs) h =
    let l = eqb-true (length x) size (and_left (eqb (length x) size) (Sized size xs) h) in
    let ih = length_flatten size xs (and_right (eqb (length x) size) (Sized size xs) h) in
    let m : suc (length xs) * size ≡ length xs * size + size = native.Mathlib.Nat.suc-mul (length xs) size in
    simp length-append (omega (arith, l, ih, m))

-- The groups of lists laid one after the other are the lists.
pub groups_flatten : (size : ℕ) (xs : List (List ℕ)) → Sized size xs ≡ true → groups size (length xs) (flatten xs) ≡ xs
unfolding groups flatten
groups_flatten size [] h = refl
groups_flatten size (x ∷ xs) h =
    let l = eqb-true (length x) size (and_left (eqb (length x) size) (Sized size xs) h) in
    rw (take_at x (flatten xs) size l, drop_at x (flatten xs) size l, groups_flatten size xs (and_right (eqb (length x) size) (Sized size xs) h))

-- The groups of a list that is as long as all of them have that size.
pub groups_sized : (size n : ℕ) (s : List ℕ) → length s ≡ n * size → Sized size (groups size n s) ≡ true
unfolding groups
groups_sized size zero s h = refl
groups_sized size (suc n) s h =
    let m : suc n * size ≡ n * size + size = native.Mathlib.Nat.suc-mul n size in
    rw (eq-eqb (length (take size s)) size (length-take-le size s (omega arith)), groups_sized size n (drop size s) (simp length-drop (omega arith)))

-- ── objects and entries

-- The kinds of objects: what has one of them has state.
abbrev pub kept_number : ℕ → Bool
kept_number k = eqb k access_zone || eqb k access_point || eqb k access_credential

pub kept_at : (k i : ℕ) (s : List ℕ) → kept_number k ≡ true → is_at k i s ≡ true → kept s ≡ true
unfolding kept
kept_at k i s o e =
    let n : kept_number (kind s) ≡ true = rw (kind_at k i s e) o in
    go (eqb (kind s) access_zone) (eqb (kind s) access_point) (eqb (kind s) access_credential) refl n
  where
    go : (a b c : Bool) → eqb (kind s) access_credential ≡ c → a || b || c ≡ true →
        kept_kind (if a then Some OfZone else if b then Some OfPoint else if eqb (kind s) 3 then Some OfRule else if c then Some OfCredential else
        if eqb (kind s) 5 then Some OfFactor else None) ≡ true
    go true b c e h = refl
    go false true c e h = refl
    go false false true e h = rw (eqb-true (kind s) 4 e) refl
    go false false false e h = cc

pub sites_after : (es : List Entry) (ps : Panel) → sites (after ps es) ≡ sites ps
unfolding after
sites_after [] ps = refl
sites_after (e ∷ es) ps = sites_after es (apply (entry_outcome ps e) ps) ∙ sites_apply (entry_outcome ps e) ps

-- ── panels of site records with their bytes of state, of any size

module _ (size : List ℕ → ℕ) where
  -- As many bytes as all of them have.
  abbrev pub total : List (List ℕ) → ℕ
  total [] = 0
  total (s ∷ ss) = size s + total ss

  -- A pair has the bytes of state that it should.
  abbrev pub whole : Pair → Bool
  whole x = eqb (length x.1) (size x.0)

  pub sites_paired : (ss : List (List ℕ)) (state : List ℕ) → sites (paired size ss state) ≡ ss
  unfolding paired
  sites_paired [] state = refl
  sites_paired (s ∷ ss) state = ap (λ rs. s ∷ rs) (sites_paired ss (drop (size s) state))

  pub whole_paired : (ss : List (List ℕ)) (state : List ℕ) → total ss ≤ length state → all whole (paired size ss state) ≡ true
  unfolding paired
  whole_paired [] state h = refl
  whole_paired (s ∷ ss) state h =
      rw (
        eq-eqb (length (take (size s) state)) (size s) (length-take-le (size s) state (omega (arith, h))),
        whole_paired ss (drop (size s) state) (simp length-drop (omega (arith, h))),
      ) refl

  -- The panel of the bytes that a panel holds is the panel.
  pub paired_back : (ps : Panel) → all whole ps ≡ true → paired size (sites ps) (state_of ps) ≡ ps
  unfolding paired state_of flatten
  paired_back [] a = refl
  paired_back (x ∷ xs) a =
      let l = eqb-true (length x.1) (size x.0) (and_left (whole x) (all whole xs) a) in
      rw (take_at x.1 (state_of xs) (size x.0) l, drop_at x.1 (state_of xs) (size x.0) l, paired_back xs (and_right (whole x) (all whole xs) a))

  pub length_state_of : (ps : Panel) → all whole ps ≡ true → length (state_of ps) ≡ total (sites ps)
  unfolding state_of flatten
  length_state_of [] a = refl
  length_state_of (x ∷ xs) a =
      let l = eqb-true (length x.1) (size x.0) (and_left (whole x) (all whole xs) a) in
      simp length-append (omega (arith, l, length_state_of xs (and_right (whole x) (all whole xs) a)))

  -- The bytes that a panel of bytes holds are these.
  pub state_of_paired : (ss : List (List ℕ)) (state : List ℕ) → length state ≡ total ss → state_of (paired size ss state) ≡ state
  unfolding paired state_of flatten
  state_of_paired [] [] h = refl
  state_of_paired [] (b ∷ state) h = absurd (omega (arith, h))
  state_of_paired (s ∷ ss) state h =
      rw (state_of_paired ss (drop (size s) state) (simp length-drop (omega (arith, h)))) (take-append-drop (size s) state)

  -- Where what has state has 32 bytes of it, writes keep the records' lengths.
  module _ (has : (s : List ℕ) → kept s ≡ true → size s ≡ 32) where
    whole_store : (k i : ℕ) (b : List ℕ) → kept_number k ≡ true → length b ≡ 32 → (x : Pair) → is_at k i x.0 ≡ true → whole x ≡ true → whole (x.0, b) ≡ true
    whole_store k i b o l x e h = rw (l, has x.0 (kept_at k i x.0 o e))

    whole_apply : (o : Outcome) (ps : Panel) → all whole ps ≡ true → all whole (apply o ps) ≡ true
    unfolding apply
    whole_apply o ps a =
        all_write_of whole 2 _ _ o.point _ (if_any _ o.point (λ w x i. whole_store 2 _ _ refl (length_point w.state) x i))
        (all_write_of whole 4 _ _ o.credential _ (if_any _ o.credential (λ w x i. whole_store 4 _ _ refl (length_credential w.state) x i))
        (all_write_of whole 1 _ _ o.zone_to _ (if_any _ o.zone_to (λ w x i. whole_store 1 _ _ refl (length_zone w.state) x i))
        (all_write_of whole 1 _ _ o.zone_from ps (if_any _ o.zone_from (λ w x i. whole_store 1 _ _ refl (length_zone w.state) x i)) a)))

    whole_after : (es : List Entry) (ps : Panel) → all whole ps ≡ true → all whole (after ps es) ≡ true
    unfolding after
    whole_after [] ps a = a
    whole_after (e ∷ es) ps a = whole_after es (apply (entry_outcome ps e) ps) (whole_apply (entry_outcome ps e) ps a)

    -- The bytes that entries leave, read as a panel again.
    module _ (ss : List (List ℕ)) (state : List ℕ) (h : total ss ≤ length state) (es : List Entry) where
      abbrev left : Panel
      left = after (paired size ss state) es

      left_sites : sites left ≡ ss
      left_sites = sites_after es (paired size ss state) ∙ sites_paired ss state

      pub after_back : paired size ss (state_of left) ≡ left
      after_back = rw left_sites at (paired_back left (whole_after es (paired size ss state) (whole_paired ss state h)))

      pub length_after : length (state_of left) ≡ total ss
      length_after = length_state_of left (whole_after es (paired size ss state) (whole_paired ss state h)) ∙ ap total left_sites

-- ── the panel of a site

size_kept : (s : List ℕ) → kept s ≡ true → state_size s ≡ 32
unfolding state_size
size_kept s h = rw h

-- The bytes of state that records have: 32 for each of them that has state.
pub total_kept : (ss : List (List ℕ)) → total state_size ss ≡ 32 * length (keep kept ss)
unfolding state_size
total_kept [] = refl
total_kept (s ∷ ss) = go (kept s) (total_kept ss)
  where
    go : (c : Bool) → total state_size ss ≡ 32 * length (keep kept ss) →
        (if c then 32 else 0) + total state_size ss ≡ 32 * length (if c then s ∷ keep kept ss else keep kept ss)
    go true ih = omega (arith, ih)
    go false ih = omega (arith, ih)

pub total_state : (site : List ℕ) → total state_size (records site) ≡ state_length site
unfolding state_length
total_state site = total_kept (records site)

pub sites_panel : (site state : List ℕ) → sites (panel site state) ≡ records site
unfolding panel
sites_panel site state = sites_paired state_size (records site) state

module _ (site state : List ℕ) (same_length : length state ≡ state_length site) where
  fits : total state_size (records site) ≤ length state
  fits = omega (arith, same_length, total_state site)

  -- The state is what its panel holds.
  pub state_of_panel : state_of (panel site state) ≡ state
  unfolding panel
  state_of_panel = state_of_paired state_size (records site) state (same_length ∙ sym (total_state site))

  pub whole_left : (es : List Entry) → all (whole state_size) (after (panel site state) es) ≡ true
  unfolding panel
  whole_left es = whole_after state_size size_kept es (panel site state) (whole_paired state_size (records site) state fits)

  -- The bytes that entries leave, read as a panel again.
  pub panel_back : (es : List Entry) → panel site (state_of (after (panel site state) es)) ≡ after (panel site state) es
  unfolding panel
  panel_back es = after_back state_size size_kept (records site) state fits es

  pub length_back : (es : List Entry) → length (state_of (after (panel site state) es)) ≡ state_length site
  unfolding panel
  length_back es = length_after state_size size_kept (records site) state fits es ∙ total_state site

-- ── the fresh state

abbrev pub fresh_panel : List (List ℕ) → Panel
fresh_panel ss = map (λ (s : List ℕ). (s, fresh_record s)) ss

pub sites_fresh : (ss : List (List ℕ)) → sites (fresh_panel ss) ≡ ss
sites_fresh [] = refl
sites_fresh (s ∷ ss) = ap (λ rs. s ∷ rs) (sites_fresh ss)

-- What a test keeps of it is the fresh panel of what the test keeps.
pub only_fresh : (w : List ℕ → Bool) (ss : List (List ℕ)) → only w (fresh_panel ss) ≡ fresh_panel (keep w ss)
only_fresh w [] = refl
only_fresh w (s ∷ ss) = go (w s) (only_fresh w ss)
  where
    go : (c : Bool) → only w (fresh_panel ss) ≡ fresh_panel (keep w ss) →
        (if c then (s, fresh_record s) ∷ only w (fresh_panel ss) else only w (fresh_panel ss)) ≡ fresh_panel (if c then s ∷ keep w ss else keep w ss)
    go true ih = ap (λ ps. (s, fresh_record s) ∷ ps) ih
    go false ih = ih

-- What is found in it is the fresh record of what is found in the site.
pub find_fresh : (q : List ℕ → Bool) (ss : List (List ℕ)) → missing (find_in q ss) ≡ false → (find_by q (fresh_panel ss)).1 ≡ fresh_record (find_in q ss)
find_fresh q [] g = cc
find_fresh q (s ∷ ss) g = go (q s) g (find_fresh q ss)
  where
    go : (c : Bool) → missing (if c then s else find_in q ss) ≡ false → (missing (find_in q ss) ≡ false → (find_by q (fresh_panel ss)).1 ≡ fresh_record (find_in q ss)) →
        (if c then (s, fresh_record s) else find_by q (fresh_panel ss)).1 ≡ fresh_record (if c then s else find_in q ss)
    go true g ih = refl
    go false g ih = ih g

pub length_fresh_record : (s : List ℕ) → length (fresh_record s) ≡ state_size s
unfolding fresh_record state_size kept
length_fresh_record s = go (record_kind s)
  where
    go : (k : Option RecordKind) → length (fresh_record_as k s) ≡ (if kept_kind k then 32 else 0)
    go (Some OfZone) = refl
    go (Some OfPoint) = length_point fresh_point
    go (Some OfRule) = refl
    go (Some OfCredential) = length_credential (fresh_credential s)
    go (Some OfFactor) = refl
    go None = refl

-- What has no state has no fresh record; and where a test leaves out such records alone, the others make the same bytes.
pub nothing_fresh : (s : List ℕ) → kept s ≡ false → fresh_record s ≡ []
nothing_fresh s h = nil_from_length (fresh_record s) (length_fresh_record s ∙ unfold state_size in rw h)

pub fresh_keep : (w : List ℕ → Bool) → ((s : List ℕ) → w s ≡ false → kept s ≡ false) → (ss : List (List ℕ)) →
    flatten (map fresh_record (keep w ss)) ≡ flatten (map fresh_record ss)
unfolding flatten
fresh_keep w out [] = refl
fresh_keep w out (s ∷ ss) = go (w s) refl (fresh_keep w out ss)
  where
    go : (c : Bool) → w s ≡ c → flatten (map fresh_record (keep w ss)) ≡ flatten (map fresh_record ss) →
        flatten (map fresh_record (if c then s ∷ keep w ss else keep w ss)) ≡ fresh_record s ++ flatten (map fresh_record ss)
    go true e ih = ap (λ t. fresh_record s ++ t) ih
    go false e ih = rw (nothing_fresh s (out s e)) ih

whole_fresh : (ss : List (List ℕ)) → all (whole state_size) (fresh_panel ss) ≡ true
whole_fresh [] = refl
whole_fresh (s ∷ ss) = rw (eq-eqb (length (fresh_record s)) (state_size s) (length_fresh_record s), whole_fresh ss)

pub state_of_fresh_law : (ss : List (List ℕ)) → state_of (fresh_panel ss) ≡ flatten (map fresh_record ss)
unfolding state_of
state_of_fresh_law ss = ap flatten (map-map (λ (x : Pair). x.1) (λ (s : List ℕ). (s, fresh_record s)) ss)

-- The bytes of the fresh state make the fresh panel, and are as long as a state of the site is.
pub panel_fresh : (site : List ℕ) → panel site (fresh site) ≡ fresh_panel (records site)
unfolding panel fresh
panel_fresh site =
    let b = paired_back state_size (fresh_panel (records site)) (whole_fresh (records site)) in
    rw (← state_of_fresh_law (records site)) (rw (sites_fresh (records site)) at b)

pub length_fresh : (site : List ℕ) → length (fresh site) ≡ state_length site
unfolding fresh
length_fresh site =
    rw (← state_of_fresh_law (records site)) (length_state_of state_size (fresh_panel (records site)) (whole_fresh (records site)) ∙ ap (total state_size) (sites_fresh (records site)) ∙ total_state site)
