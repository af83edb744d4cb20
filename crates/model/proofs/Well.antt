-- The states that well-formed records hold: their bytes are well-formed records, what is found in a panel of such records holds such a
-- state, and fresh records are well formed.
use Rattle.std.specs.Prelude.{if◌then◌else◌, Option, Some, None}
use Prim.Native.Nat.{ℕ, ◌+◌, ◌*◌, ◌/◌, ◌<◌}
use native.Mathlib.Omega.{arith}
use mathlib.Core.Path.{◌≡◌, refl}
use mathlib.Core.List.{List, [], ◌∷◌}
use mathlib.Core.Bool.{Bool, true, false, not, ◌&&◌, ◌||◌}
use lib.Dec.{ltb, leb, eqb}
use borrow.Author.Tests.{eqb-true, eqb-false, lt-ltb}
use Rattle.octets.specs.Octets.{field, digits, same}
use Rattle.model.specs.Words.{all, missing, bit_of}
use Rattle.model.specs.Numbers as n
use Rattle.model.specs.Numbers.{NONE}
use Rattle.model.specs.Site.{credential_id, kind, record_kind, disable_given, instance, reference, point_of, credential_of, is_at, find_in}
use Rattle.model.specs.Accept.{clear, exists, none_or_exists, in_range, credential_in_range, names_exist}
use Rattle.model.specs.State.{Pair, Panel, find_by, find, seek, zone_bytes, point_state_of, point_bytes, credential_state_of, credential_bytes, fresh_point, fresh_with, fresh_credential, fresh_record_as, fresh_record, zone_well, below_most, point_well, credential_well, record_well_as, record_well}
use Rattle.model.specs.Checks.{identifying, confirming, factor_for, credential_read}
use Rattle.model.proofs.Laws.{if_holds, and_left, and_right, kind_at}
use Rattle.model.proofs.RoundTrip.{point_back, credential_back}
use Rattle.model.proofs.Flat.{fresh_panel}
use Rattle.model.specs.declared.CredentialId.{CredentialId}
use Rattle.model.specs.declared.PointState.{PointState}
use Rattle.model.specs.declared.CredentialState.{CredentialState}
use Rattle.model.specs.declared.Entry.{Entry}
use Rattle.model.specs.declared.RecordKind.{RecordKind}
use Rattle.model.specs.declared.RecordKind.TheVariants.{OfZone, OfPoint, OfRule, OfCredential, OfFactor}

-- ── references, failures and wrong tries

-- NONE is a reference that a well-formed record may hold.
pub none_fits : (ss : List (List ℕ)) (k : ℕ) → none_or_exists ss k NONE ≡ true
unfolding none_or_exists
none_fits ss k = refl

-- So is a reference to a record that exists.
pub exists_fits : (ss : List (List ℕ)) (k i : ℕ) → exists ss k i ≡ true → none_or_exists ss k i ≡ true
unfolding none_or_exists
exists_fits ss k i h = go (eqb i NONE)
  where
    go : (c : Bool) → c || exists ss k i ≡ true
    go true = refl
    go false = h

-- No failures, and no wrong tries, are below every most.
pub none_below : (most : ℕ) → below_most 0 most ≡ true
unfolding below_most
none_below most = go (eqb most 0) refl
  where
    go : (c : Bool) → eqb most 0 ≡ c → (if c then true else ltb 0 most) ≡ true
    go true e = refl
    go false e =
        let l : 0 < most = omega (arith, eqb-false most 0 e) in
        lt-ltb 0 most l

-- So is the number that a test chooses, if each is where the test chooses it.
pub if_below : (c : Bool) (most a b : ℕ) → (c ≡ true → below_most a most ≡ true) → (c ≡ false → below_most b most ≡ true) →
    below_most (if c then a else b) most ≡ true
if_below true most a b h g = h refl
if_below false most a b h g = g refl

-- ── what is asked of a state, in a site of the records ss

-- A point's state; `most` is the point's most failures. A locked point waits for nobody.
pub record PointSound (ss : List (List ℕ)) (most : ℕ) (p : PointState) : Type 0 where
  pub waits : none_or_exists ss n.access_credential p.waiting_credential.0 ≡ true
  pub free : not p.locked || eqb p.waiting_credential.0 NONE ≡ true
  pub fails : below_most p.failures most ≡ true

-- A credential's state; `most` is its most wrong tries.
pub record CredentialSound (ss : List (List ℕ)) (most : ℕ) (c : CredentialState) : Type 0 where
  pub disabled : leb c.disable n.largest_disable ≡ true
  pub inside : none_or_exists ss n.access_zone c.zone.0 ≡ true
  pub seen : none_or_exists ss n.access_point c.last_point.0 ≡ true
  pub tries : below_most c.wrong_tries most ≡ true

-- The fresh state of a point is such a state.
fresh_point_law : (ss : List (List ℕ)) (most : ℕ) → PointSound ss most fresh_point
unfolding fresh_point none_or_exists
fresh_point_law ss most = record { waits = refl; free = refl; fails = none_below most }

-- The fresh state of a credential is, if its disable is in range.
fresh_credential_law : (ss : List (List ℕ)) (most uses days disable : ℕ) → leb disable n.largest_disable ≡ true →
    CredentialSound ss most (fresh_with uses days disable)
unfolding fresh_with none_or_exists
fresh_credential_law ss most uses days disable d = record { disabled = d; inside = refl; seen = refl; tries = none_below most }

-- ── the bytes of such a state are a well-formed record

-- The byte of a point's lock is 0 or 1.
locked_byte_law : (p : PointState) → leb (field 5 1 (point_bytes p)) 1 ≡ true
unfolding field point_bytes digits
locked_byte_law p = go p.locked
  where
    go : (c : Bool) → leb (0 * 256 + bit_of c / 1) 1 ≡ true
    go true = refl
    go false = refl

-- The unnamed bytes of a point's state are zero.
spare_point : (p : PointState) → clear 6 2 (point_bytes p) && clear 24 8 (point_bytes p) ≡ true
unfolding clear point_bytes digits same
spare_point p = refl

-- The unnamed bytes of a credential's state are zero.
spare_credential : (c : CredentialState) → clear 28 4 (credential_bytes c) ≡ true
unfolding clear credential_bytes digits same
spare_credential c = refl

module _ (ss : List (List ℕ)) (s : List ℕ) where
  -- Every count is a well-formed record beside a zone.
  pub zone_well_law : (counted : ℕ) → kind s ≡ n.access_zone → record_well ss (s, zone_bytes counted) ≡ true
  unfolding record_well zone_well clear zone_bytes digits same
  zone_well_law counted k = rw k

  -- The bytes of a sound state of a point, and of a credential, are well formed.
  point_bytes_well : (p : PointState) → PointSound ss (point_of s).most_failures p → point_well ss s (point_bytes p) ≡ true
  unfolding point_well
  point_bytes_well p h = rw (point_back p, locked_byte_law p, spare_point p, h.waits, h.free, h.fails)

  credential_bytes_well : (c : CredentialState) → CredentialSound ss (credential_of s).most_wrong_tries c → credential_well ss s (credential_bytes c) ≡ true
  unfolding credential_well
  credential_bytes_well c h = rw (credential_back c, h.disabled, spare_credential c, h.inside, h.seen, h.tries)

  -- A sound state of a point is one beside that point.
  pub point_well_law : (p : PointState) → kind s ≡ n.access_point → PointSound ss (point_of s).most_failures p →
      record_well ss (s, point_bytes p) ≡ true
  unfolding record_well
  point_well_law p k h = rw k (point_bytes_well p h)

  -- A sound state of a credential is one beside that credential.
  pub credential_well_law : (c : CredentialState) → kind s ≡ n.access_credential → CredentialSound ss (credential_of s).most_wrong_tries c →
      record_well ss (s, credential_bytes c) ≡ true
  unfolding record_well
  credential_well_law c k h = rw k (credential_bytes_well c h)

-- ── a well-formed record holds such a state

-- A well-formed record beside a point.
point_sound : (ss : List (List ℕ)) (x : Pair) → kind x.0 ≡ n.access_point → record_well ss x ≡ true →
    PointSound ss (point_of x.0).most_failures (point_state_of x.1)
unfolding record_well point_well
point_sound ss x k h =
    let w = rw k at h in
    record {
      waits = search (and_left, and_right);
      free = search (and_left, and_right);
      fails = search (and_left, and_right);
    }

-- A well-formed record beside a credential.
credential_sound : (ss : List (List ℕ)) (x : Pair) → kind x.0 ≡ n.access_credential → record_well ss x ≡ true →
    CredentialSound ss (credential_of x.0).most_wrong_tries (credential_state_of x.1)
unfolding record_well credential_well
credential_sound ss x k h =
    let w = rw k at h in
    record {
      disabled = search (and_left, and_right);
      inside = search (and_left, and_right);
      seen = search (and_left, and_right);
      tries = search (and_left, and_right);
    }

-- The empty part, where no record was found, reads as a sound state of a point.
no_point_law : (ss : List (List ℕ)) → PointSound ss (point_of []).most_failures (point_state_of [])
unfolding point_of point_state_of field reference none_or_exists below_most
no_point_law ss = record { waits = refl; free = refl; fails = refl }

-- It reads as a sound state of a credential.
no_credential_law : (ss : List (List ℕ)) → CredentialSound ss (credential_of []).most_wrong_tries (credential_state_of [])
unfolding credential_of credential_state_of field reference none_or_exists below_most
no_credential_law ss = record { disabled = refl; inside = refl; seen = refl; tries = refl }

-- ── what is found

-- What holds of the empty parts, and of each record that passes both tests, holds of what is found by one where all pass the other.
found_has : (P : Pair → Type 0) (t : Pair → Bool) (q : List ℕ → Bool) → P ([], []) →
    ((x : Pair) → q x.0 ≡ true → t x ≡ true → P x) → (ps : Panel) → all t ps ≡ true → P (find_by q ps)
found_has P t q none some [] a = none
found_has P t q none some (x ∷ xs) a =
    go (q x.0) refl (found_has P t q none some xs (and_right (t x) (all t xs) a))
  where
    go : (c : Bool) → q x.0 ≡ c → P (find_by q xs) → P (if c then x else find_by q xs)
    go true e ih = some x e (and_left (t x) (all t xs) a)
    go false e ih = ih

-- The same among site records.
found_in_has : (P : List ℕ → Type 0) (t q : List ℕ → Bool) → P [] →
    ((s : List ℕ) → q s ≡ true → t s ≡ true → P s) → (ss : List (List ℕ)) → all t ss ≡ true → P (find_in q ss)
found_in_has P t q none some [] a = none
found_in_has P t q none some (s ∷ ss) a =
    go (q s) refl (found_in_has P t q none some ss (and_right (t s) (all t ss) a))
  where
    go : (c : Bool) → q s ≡ c → P (find_in q ss) → P (if c then s else find_in q ss)
    go true e ih = some s e (and_left (t s) (all t ss) a)
    go false e ih = ih

module _ (ss : List (List ℕ)) (ps : Panel) (well : all (record_well ss) ps ≡ true) where
  -- The state of the point that a number names.
  pub point_found : (i : ℕ) →
      PointSound ss (point_of (find n.access_point i ps).0).most_failures (point_state_of (find n.access_point i ps).1)
  unfolding find
  point_found i =
      found_has (λ x. PointSound ss (point_of x.0).most_failures (point_state_of x.1)) (record_well ss)
      (is_at n.access_point i) (no_point_law ss) (λ x a w. point_sound ss x (kind_at n.access_point i x.0 a) w) ps well

  -- The state of the credential that a number names.
  pub credential_found : (i : ℕ) →
      CredentialSound ss (credential_of (find n.access_credential i ps).0).most_wrong_tries (credential_state_of (find n.access_credential i ps).1)
  unfolding find
  credential_found i =
      found_has (λ x. CredentialSound ss (credential_of x.0).most_wrong_tries (credential_state_of x.1)) (record_well ss)
      (is_at n.access_credential i) (no_credential_law ss) (λ x a w. credential_sound ss x (kind_at n.access_credential i x.0 a) w) ps well

  -- The state of the credential that a reference names.
  pub credential_sought : (i : ℕ) →
      CredentialSound ss (credential_of (seek n.access_credential i ps).0).most_wrong_tries (credential_state_of (seek n.access_credential i ps).1)
  unfolding seek
  credential_sought i = go (eqb i NONE)
    where
      go : (c : Bool) →
          let x = if c then ([], []) else find n.access_credential i ps in
          CredentialSound ss (credential_of x.0).most_wrong_tries (credential_state_of x.1)
      go true = no_credential_law ss
      go false = credential_found i

module _ (ss : List (List ℕ)) (names : all (names_exist ss) ss ≡ true) where
  -- A point's Zone_To is NONE or exists.
  pub to_fits : (i : ℕ) → none_or_exists ss n.access_zone (point_of (find_in (is_at n.access_point i) ss)).zone_to.0 ≡ true
  unfolding names_exist
  to_fits i =
      found_in_has (λ s. none_or_exists ss n.access_zone (point_of s).zone_to.0 ≡ true) (names_exist ss) (is_at n.access_point i)
      (unfold none_or_exists point_of reference in refl) some ss names
    where
      some : (s : List ℕ) → is_at n.access_point i s ≡ true → names_exist ss s ≡ true →
          none_or_exists ss n.access_zone (point_of s).zone_to.0 ≡ true
      some s a w =
          let f = rw (kind_at n.access_point i s a) at w in
          search and_left

  module _ (e : Entry) where
    identified : List ℕ
    identified = find_in (identifying e.argument e.value) ss

    -- The credential of the identifying factor that is read is NONE or exists.
    factor_fits : none_or_exists ss n.access_credential (if missing identified then NONE else instance identified) ≡ true
    unfolding names_exist identifying identified
    factor_fits =
        found_in_has (λ s. none_or_exists ss n.access_credential (if missing s then NONE else instance s) ≡ true) (names_exist ss)
        (identifying e.argument e.value) (none_fits ss n.access_credential) some ss names
      where
        some : (s : List ℕ) → identifying e.argument e.value s ≡ true → names_exist ss s ≡ true →
            none_or_exists ss n.access_credential (if missing s then NONE else instance s) ≡ true
        some s a w =
            let k : kind s ≡ n.authentication_factor = eqb-true (kind s) n.authentication_factor (search and_left) in
            let f = rw k at w in
            if_holds (λ i. none_or_exists ss n.access_credential i ≡ true) (missing s) NONE (instance s) (none_fits ss n.access_credential)
            (exists_fits ss n.access_credential (instance s) f)

    -- The credential that a read is about is NONE or exists, if the point waits for such a one.
    pub number_fits : (c : CredentialId) → none_or_exists ss n.access_credential c.0 ≡ true →
        none_or_exists ss n.access_credential (credential_read c (factor_for c e ss)).0 ≡ true
    unfolding credential_read factor_for identified
    number_fits c h = go (eqb c.0 NONE)
      where
        confirmed : List ℕ
        confirmed = find_in (confirming c e.argument e.value) ss

        go : (b : Bool) →
            none_or_exists ss n.access_credential
            (if not b then c else credential_id (if missing (if b then identified else confirmed) then NONE
            else instance (if b then identified else confirmed))).0 ≡ true
        go true = factor_fits
        go false = h

-- ── fresh

-- The fresh record of a site record in range.
fresh_record_law : (ss : List (List ℕ)) (s : List ℕ) → in_range s ≡ true → record_well ss (s, fresh_record s) ≡ true
unfolding fresh_record record_well zone_well clear same fresh_credential
fresh_record_law ss s r = go (record_kind s) refl
  where
    disable_fits : record_kind s ≡ (Some OfCredential) → leb (disable_given s) n.largest_disable ≡ true
    disable_fits k =
        unfold in_range credential_in_range in
        let f = rw k at r in
        search (and_left, and_right)

    go : (k : Option RecordKind) → record_kind s ≡ k → record_well_as k ss (s, fresh_record_as k s) ≡ true
    go (Some OfZone) k = refl
    go (Some OfPoint) k = point_bytes_well ss s fresh_point (fresh_point_law ss _)
    go (Some OfRule) k = refl
    go (Some OfCredential) k = credential_bytes_well ss s (fresh_credential s) (fresh_credential_law ss _ _ _ _ (disable_fits k))
    go (Some OfFactor) k = refl
    go None k = refl

-- The fresh panel of site records in range is well formed.
pub well_fresh : (ss ts : List (List ℕ)) → all in_range ts ≡ true → all (record_well ss) (fresh_panel ts) ≡ true
well_fresh ss [] r = refl
well_fresh ss (s ∷ ts) r =
    rw (fresh_record_law ss s (and_left (in_range s) (all in_range ts) r), well_fresh ss ts (and_right (in_range s) (all in_range ts) r))
