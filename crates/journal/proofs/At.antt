-- What is read and written at a record's place is what the panel of site and state has there.
use Rattle.std.specs.Prelude.{if◌then◌else◌, Option, Some, None}
use Prim.Native.Nat.{ℕ, ◌/◌, ◌<◌}
use native.Mathlib.Omega.{arith}
use mathlib.Core.Path.{◌≡◌, refl, sym, ◌∙◌, ap}
use mathlib.Core.List.{List, [], ◌∷◌}
use mathlib.Core.Bool.{Bool, true, false}
use lib.Dec.{eqb, ltb}
use lib.ListN.{length, get_or, set, length-append, length-take, length-drop}
use borrow.Author.Tests.{ltb-true, lt-ltb}
use Rattle.octets.specs.Octets.{field, with_part}
use Rattle.model.specs.Words.{missing}
use Rattle.model.specs.Numbers.{NONE}
use Rattle.model.specs.Site.{records}
use Rattle.model.specs.State.{Pair, kept, state_length, state_place, panel, find, seek, store, write, zone_bytes, point_bytes, credential_bytes}
use Rattle.model.specs.InPlace.{part_of}
use Rattle.model.specs.Step.{write_of, apply}
use Rattle.model.proofs.Flat.{kept_number, kept_at, sites_panel}
use Rattle.model.proofs.RoundTrip.{length_zone, length_point, length_credential}
use Rattle.model.proofs.StatePlaces.{place_within, panel_at, panel_stored}
use Rattle.index.specs.declared.Place.{Place}
use Rattle.site.specs.Place.{site_place, place_of}
use Rattle.site.proofs.Places.{place_found, place_both, place_none}
use Rattle.site.proofs.Panels as Panels
use Rattle.journal.specs.Places.{site_part, state_part, seek_place, place_below, write_place, stored, written, applied, PlacedAt, Placed}
use Rattle.journal.specs.declared.Places.{Places}
use Rattle.model.specs.declared.ZoneId.{ZoneId}
use Rattle.model.specs.declared.PointId.{PointId}
use Rattle.model.specs.declared.CredentialId.{CredentialId}
use Rattle.model.specs.declared.Write.{Write}
use Rattle.model.specs.declared.Outcome.{Outcome}

-- What has state is no empty list.
kept_there : (s : List ℕ) → kept s ≡ true → missing s ≡ false
unfolding kept field
kept_there [] h = cc
kept_there (x ∷ s) h = refl

-- ── a site and its state

module _ (site state : List ℕ) (same_length : length state ≡ state_length site) where
  module _ (k i : ℕ) (has_state : kept_number k ≡ true) where
    -- A record that has a place.
    module _ (p : Place) (e : place_of k i site ≡ Some p) where
      both : (site_place k i site ≡ Some p.site) × (p.state ≡ state_place p.site (records site))
      both = place_both k i site p e

      in_site : p.site < length (records site)
      in_site = (place_found k i p.site site both.0).0

      is_kept : kept (get_or (records site) p.site []) ≡ true
      is_kept = kept_at k i (get_or (records site) p.site []) has_state (place_found k i p.site site both.0).2

      -- Its place in the state is one of the records of the state.
      in_state : p.state < length state / 32
      in_state = rw both.1 (place_within site state same_length p.site in_site is_kept)

      pub there : missing (site_part (Some p) site) ≡ false
      unfolding part_of records
      there = kept_there (get_or (records site) p.site []) is_kept

      found : find k i (panel site state) ≡ (site_part (Some p) site, state_part (Some p) state)
      unfolding part_of records
      found =
          Panels.find_at k i site (panel site state) (sites_panel site state) p.site both.0
          ∙ rw both.1 (panel_at site state same_length p.site in_site is_kept)

      -- A record of 32 bytes stored there is stored in the panel.
      stored_there : (b : List ℕ) → length b ≡ 32 → panel site (with_part 32 p.state b state) ≡ store k i b (panel site state)
      stored_there b l =
          rw both.1 (panel_stored site state same_length p.site in_site is_kept b l)
          ∙ ap (λ (x : Pair). set (panel site state) p.site (x.0, b)) (sym (panel_at site state same_length p.site in_site is_kept))
          ∙ sym (Panels.store_at k i site (panel site state) (sites_panel site state) b p.site both.0)

    -- What is found is at its places, in the site and in the state.
    pub find_at : find k i (panel site state) ≡ (site_part (place_of k i site) site, state_part (place_of k i site) state)
    find_at = go (place_of k i site) refl
      where
        go : (p : Option Place) → place_of k i site ≡ p → find k i (panel site state) ≡ (site_part p site, state_part p state)
        go (Some p) e = found p e
        go None e = Panels.find_nowhere k i site (panel site state) (sites_panel site state) (place_none k i site e)

    pub seek_at : seek k i (panel site state) ≡ (site_part (seek_place k i site) site, state_part (seek_place k i site) state)
    unfolding seek seek_place
    seek_at = go (eqb i NONE)
      where
        go : (c : Bool) → (if c then ([], []) else find k i (panel site state))
            ≡ (site_part (if c then None else place_of k i site) site, state_part (if c then None else place_of k i site) state)
        go true = refl
        go false = find_at

    -- A record of 32 bytes stored at its place is stored in the panel; the state keeps its length.
    module _ (b : List ℕ) (l : length b ≡ 32) where
      store_at : (p : Option Place) → place_of k i site ≡ p →
          (panel site (stored (place_below (length state / 32) p) b state) ≡ store k i b (panel site state))
          × (length (stored (place_below (length state / 32) p) b state) ≡ state_length site)
      store_at (Some p) e =
          let h = in_state p e in
          rw (lt-ltb p.state (length state / 32) h) (
            stored_there p e b l,
            unfold with_part in (simp (length-append, length-take, length-drop) (omega (arith, h, l, same_length))),
          )
      store_at None e = (sym (Panels.store_nowhere k i site (panel site state) (sites_panel site state) b (place_none k i site e)), same_length)

      write_at : (p : Option Place) → (eqb i NONE ≡ false → p ≡ place_of k i site) →
          (panel site (stored (write_place i p (length state / 32)) b state) ≡ write k i b (panel site state))
          × (length (stored (write_place i p (length state / 32)) b state) ≡ state_length site)
      unfolding write_place write
      write_at p e = go (eqb i NONE) refl
        where
          go : (c : Bool) → eqb i NONE ≡ c →
              (panel site (stored (if c then None else place_below (length state / 32) p) b state)
              ≡ (if c then panel site state else store k i b (panel site state)))
              × (length (stored (if c then None else place_below (length state / 32) p) b state) ≡ state_length site)
          go true h = (refl, same_length)
          go false h = rw (e h) (store_at (place_of k i site) refl)

  -- A write of an outcome, or none.
  written_at : {I S : Type 0} (k : ℕ) (i : I → ℕ) (b : S → List ℕ) → kept_number k ≡ true → ((s : S) → length (b s) ≡ 32) →
      (w : Option (Write I S)) (p : Option Place) → PlacedAt k i site w p →
      (panel site (written i b w p state) ≡ write_of k i b w (panel site state)) × (length (written i b w p state) ≡ state_length site)
  written_at k i b has_state sized None p h = (refl, same_length)
  written_at k i b has_state sized (Some w) p h = write_at k (i w.instance) has_state (b w.state) (sized w.state) p (h w refl)

-- ── an outcome

pub apply_at : (site state : List ℕ) → length state ≡ state_length site → (o : Outcome) (at : Places) → Placed site o at →
    (panel site (applied o at state) ≡ apply o (panel site state)) × (length (applied o at state) ≡ state_length site)
unfolding applied apply
apply_at site state l o at h =
    let a = written_at site state l 1 (λ (i : ZoneId). i.0) zone_bytes refl length_zone o.zone_from at.zone_from h.zone_from in
    let b = written_at site _ a.1 1 (λ (i : ZoneId). i.0) zone_bytes refl length_zone o.zone_to at.zone_to h.zone_to in
    let c = written_at site _ b.1 4 (λ (i : CredentialId). i.0) credential_bytes refl length_credential o.credential at.credential h.credential in
    let d = written_at site _ c.1 2 (λ (i : PointId). i.0) point_bytes refl length_point o.point at.point h.point in
    (d.0 ∙ ap (write_of 2 _ _ _) (c.0 ∙ ap (write_of 4 _ _ _) (b.0 ∙ ap (write_of 1 _ _ _) a.0)), d.1)

-- ── the place that was found for a write is among the records of the state

pub place_below_law : (i : ℕ) (p : Option Place) (n j : ℕ) → write_place i p n ≡ Some j → j < n
unfolding write_place
place_below_law i p n j e = go (eqb i NONE) p e
  where
    below : (k : ℕ) (c : Bool) → ltb k n ≡ c → (if c then Some k else None) ≡ Some j → j < n
    below k true t e = let s : k ≡ j = cc in rw s at (ltb-true k n t)
    below k false t e = cc

    go : (c : Bool) (p : Option Place) → (if c then None else place_below n p) ≡ Some j → j < n
    go false (Some p) e = below p.state (ltb p.state n) refl e
    go false None e = cc
    go true p e = cc
