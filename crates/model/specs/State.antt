-- "State records, one of 32 bytes per site record"; document 02, job 8: "State shall hold records for zones, points and credentials alone, in site
-- sequence." Their fields, the panel that site and state make, fresh, well formed.
use Rattle.std.specs.Prelude.{ℕ, ◌*◌, Bool, true, false, not, ◌&&◌, ◌||◌, ltb, leb, eqb, length, take, drop, if◌then◌else◌, Option, Some, None}
use mathlib.Core.List.{List, [], ◌∷◌, ◌++◌, map, flatten}
use Rattle.octets.specs.Octets.{field, digits}
use Rattle.model.specs.Words.{keep, all, zeros, bit_of}
use Rattle.model.specs.Numbers.{NONE, NEVER, record_size, access_zone, access_point, access_credential, largest_disable}
use Rattle.model.specs.Site.{zone_id, point_id, credential_id, record_kind, reference, point_of, credential_of, disable_given, uses_given, days_given, is_at, records}
use Rattle.model.specs.Accept.{clear, none_or_exists}
use Rattle.model.specs.declared.RecordKind.{RecordKind}
use Rattle.model.specs.declared.RecordKind.TheVariants.{OfZone, OfPoint, OfRule, OfCredential, OfFactor}
use Rattle.model.specs.declared.ZoneId.{ZoneId}
use Rattle.model.specs.declared.CredentialId.{CredentialId}
use Rattle.model.specs.declared.PointState.{PointState}
use Rattle.model.specs.declared.CredentialState.{CredentialState}

-- "Zone: 0 count (4)."
abbrev pub count : List ℕ → ℕ
count t = field 0 4 t

-- The bytes of that record.
unfoldable pub zone_bytes : ℕ → List ℕ
zone_bytes n = digits 4 n ++ zeros 28

-- "5 locked 0/1".
abbrev pub locked_byte : List ℕ → ℕ
locked_byte t = field 5 1 t

-- "Point: 0 tag (4), 4 failures (1), 5 locked 0/1, 8 lock time, 12 first failure, 16 waiting credential, 20 waiting since (4 each)."
unfoldable pub point_state_of : List ℕ → PointState
point_state_of t =
    record {
      tag = field 0 4 t;
      failures = field 4 1 t;
      locked = eqb (locked_byte t) 1;
      lock_time = field 8 4 t;
      first_failure = field 12 4 t;
      waiting_credential = credential_id (reference 16 t);
      waiting_since = field 20 4 t;
    }

-- The bytes of that record.
unfoldable pub point_bytes : PointState → List ℕ
point_bytes p =
    digits 4 p.tag ++ digits 1 p.failures ++ digits 1 (bit_of p.locked) ++ zeros 2 ++ digits 4 p.lock_time
    ++ digits 4 p.first_failure ++ digits 4 p.waiting_credential.0 ++ digits 4 p.waiting_since ++ zeros 8

-- "Credential: 0 uses, 2 days (2 each), 4 last use, 8 zone, 12 entered (4 each), 16 last event (2), 18 disable (1), 20 last
-- point (4)." Document 02, job 4: "The credential's state gains the count at offset 19", of wrong tries. Job 5: "The credential's state gains last grant at
-- offset 24 (4 bytes, .. older states' zeros are time 0)."
unfoldable pub credential_state_of : List ℕ → CredentialState
credential_state_of t =
    record {
      uses = field 0 2 t;
      days = field 2 2 t;
      last_use = field 4 4 t;
      zone = zone_id (reference 8 t);
      entered = field 12 4 t;
      last_event = field 16 2 t;
      disable = field 18 1 t;
      wrong_tries = field 19 1 t;
      last_point = point_id (reference 20 t);
      last_grant = field 24 4 t;
    }

-- The bytes of that record.
unfoldable pub credential_bytes : CredentialState → List ℕ
credential_bytes c =
    digits 2 c.uses ++ digits 2 c.days ++ digits 4 c.last_use ++ digits 4 c.zone.0 ++ digits 4 c.entered
    ++ digits 2 c.last_event ++ digits 1 c.disable ++ digits 1 c.wrong_tries ++ digits 4 c.last_point.0
    ++ digits 4 c.last_grant ++ zeros 4

-- ── the panel: the site records, each with its state record, in file order

-- A site record and its state record.
abbrev pub Pair : Type 0
Pair = List ℕ × List ℕ

-- All of them, in file order.
abbrev pub Panel : Type 0
Panel = List Pair

-- The kinds that have state: "zones, points and credentials alone".
abbrev pub kept_kind : Option RecordKind → Bool
kept_kind (Some OfZone) = true
kept_kind (Some OfPoint) = true
kept_kind (Some OfRule) = false
kept_kind (Some OfCredential) = true
kept_kind (Some OfFactor) = false
kept_kind None = false

-- A site record that has a state record.
unfoldable pub kept : List ℕ → Bool
kept s = kept_kind (record_kind s)

-- The bytes of state that a site record has.
unfoldable pub state_size : List ℕ → ℕ
state_size s = if kept s then record_size else 0

-- Site records, each with its bytes of state, which stand "in site sequence"; one that has none with the empty list.
unfoldable pub paired : (List ℕ → ℕ) → List (List ℕ) → List ℕ → Panel
paired size [] state = []
paired size (s ∷ ss) state = (s, take (size s) state) ∷ paired size ss (drop (size s) state)

-- All records of a site, with their state records.
unfoldable pub panel : List ℕ → List ℕ → Panel
panel site state = paired state_size (records site) state

-- "32 times their number": the length of a site's state.
unfoldable pub state_length : List ℕ → ℕ
state_length site = record_size * length (keep kept (records site))

-- The place of the i-th record's state record: as many stand before it as records before the i-th have one.
unfoldable pub state_place : ℕ → List (List ℕ) → ℕ
state_place i ss = length (keep kept (take i ss))

-- The site records of a panel.
abbrev pub sites : Panel → List (List ℕ)
sites ps = map (λ (x : Pair). x.0) ps

-- The state that the panel holds.
unfoldable pub state_of : Panel → List ℕ
state_of ps = flatten (map (λ (x : Pair). x.1) ps)

-- The first record of a kind and instance, with its state record; empty parts where there is none.
abbrev pub find_by : (List ℕ → Bool) → Panel → Pair
find_by q [] = ([], [])
find_by q (x ∷ xs) = if q x.0 then x else find_by q xs

-- The record of a kind and instance in the panel.
unfoldable pub find : ℕ → ℕ → Panel → Pair
find k i ps = find_by (is_at k i) ps

-- What a reference names: NONE names nothing.
unfoldable pub seek : ℕ → ℕ → Panel → Pair
seek k i ps = if eqb i NONE then ([], []) else find k i ps

-- What the number of a zone, and of a credential, names.
abbrev pub seek_zone : ZoneId → Panel → Pair
seek_zone z ps = seek access_zone z.0 ps

abbrev pub seek_credential : CredentialId → Panel → Pair
seek_credential c ps = seek access_credential c.0 ps

-- The panel with the state record of the first record of a kind and instance made `b`.
unfoldable pub store : ℕ → ℕ → List ℕ → Panel → Panel
store k i b [] = []
store k i b (x ∷ xs) = if is_at k i x.0 then (x.0, b) ∷ xs else x ∷ store k i b xs

-- The same of a reference; NONE is never written.
unfoldable pub write : ℕ → ℕ → List ℕ → Panel → Panel
write k i b ps = if eqb i NONE then ps else store k i b ps

-- ── "Fresh: uses, days, disable from the site; references NONE; last use and entered never; else zero."

-- A point: "references NONE .. else zero".
unfoldable pub fresh_point : PointState
fresh_point =
    record {
      tag = 0;
      failures = 0;
      locked = false;
      lock_time = 0;
      first_failure = 0;
      waiting_credential = credential_id NONE;
      waiting_since = 0;
    }

-- A credential of these uses, days and disable: "references NONE; last use and entered never; else zero". Document 02, job 5: last grant is "never when
-- fresh".
unfoldable pub fresh_with : ℕ → ℕ → ℕ → CredentialState
fresh_with uses days disable =
    record {
      uses = uses;
      days = days;
      last_use = NEVER;
      zone = zone_id NONE;
      entered = NEVER;
      last_event = 0;
      disable = disable;
      wrong_tries = 0;
      last_point = point_id NONE;
      last_grant = NEVER;
    }

-- "uses, days, disable from the site".
unfoldable pub fresh_credential : List ℕ → CredentialState
fresh_credential s = fresh_with (uses_given s) (days_given s) (disable_given s)

-- The fresh record of a site record: a zone's is zero, and a rule or a factor has none.
abbrev pub fresh_record_as : Option RecordKind → List ℕ → List ℕ
fresh_record_as (Some OfZone) s = zeros record_size
fresh_record_as (Some OfPoint) s = point_bytes fresh_point
fresh_record_as (Some OfRule) s = []
fresh_record_as (Some OfCredential) s = credential_bytes (fresh_credential s)
fresh_record_as (Some OfFactor) s = []
fresh_record_as None s = []

-- By its kind.
unfoldable pub fresh_record : List ℕ → List ℕ
fresh_record s = fresh_record_as (record_kind s) s

-- The fresh state of a site.
unfoldable pub fresh : List ℕ → List ℕ
fresh site = flatten (map fresh_record (records site))

-- ── "Well formed: unnamed bytes zero, fields in range, references NONE or existing, locked points wait for nobody, failures below the
-- most (0 if unset)."

-- A zone: "unnamed bytes zero".
unfoldable pub zone_well : List ℕ → Bool
zone_well t = clear 4 28 t

-- "failures below the most (0 if unset)". Document 02, job 4: wrong tries likewise, "that count below its most, 0 if unset".
unfoldable pub below_most : ℕ → ℕ → Bool
below_most counted most = if eqb most 0 then eqb counted 0 else ltb counted most

-- A point: "unnamed bytes zero, fields in range, references NONE or existing, locked points wait for nobody, failures below the most".
unfoldable pub point_well : List (List ℕ) → List ℕ → List ℕ → Bool
point_well ss s t =
    leb (locked_byte t) 1 && clear 6 2 t && clear 24 8 t && none_or_exists ss access_credential (point_state_of t).waiting_credential.0
    && (not (point_state_of t).locked || eqb (point_state_of t).waiting_credential.0 NONE)
    && below_most (point_state_of t).failures (point_of s).most_failures

-- A credential: "unnamed bytes zero, fields in range, references NONE or existing"; last grant may be any time. Document 02, job 4: "Well formed then
-- includes that count below its most, 0 if unset."
unfoldable pub credential_well : List (List ℕ) → List ℕ → List ℕ → Bool
credential_well ss s t =
    leb (credential_state_of t).disable largest_disable && clear 28 4 t
    && none_or_exists ss access_zone (credential_state_of t).zone.0
    && none_or_exists ss access_point (credential_state_of t).last_point.0
    && below_most (credential_state_of t).wrong_tries (credential_of s).most_wrong_tries

-- A state record, beside its site record, in a site of the records ss; a rule or a factor has none.
abbrev pub record_well_as : Option RecordKind → List (List ℕ) → Pair → Bool
record_well_as (Some OfZone) ss x = zone_well x.1
record_well_as (Some OfPoint) ss x = point_well ss x.0 x.1
record_well_as (Some OfRule) ss x = true
record_well_as (Some OfCredential) ss x = credential_well ss x.0 x.1
record_well_as (Some OfFactor) ss x = true
record_well_as None ss x = true

-- By the kind of its site record.
unfoldable pub record_well : List (List ℕ) → Pair → Bool
record_well ss x = record_well_as (record_kind x.0) ss x

-- "Well formed": every state record is.
unfoldable pub well_formed : List ℕ → List ℕ → Bool
well_formed site state = all (record_well (records site)) (panel site state)
