-- "State records, one of 32 bytes per site record"; document 02, job 8: "for zones, points and credentials alone". Their fields, fresh, and refusals 5
-- and 6.
use Rattle.std.specs.Prelude.{Ok, Err}
use Prim.Native.Nat.{ℕ}
use mathlib.Core.Path.{◌≡◌, refl}
use mathlib.Core.List.{List, [], ◌∷◌, ◌++◌, map, flatten}
use mathlib.Core.Bool.{true, false}
use lib.ListN.{take, replicate}
use Rattle.octets.specs.Octets.{put}
use Rattle.model.specs.State.{count, zone_bytes, point_state_of, point_bytes, credential_state_of, credential_bytes}
use Rattle.model.specs.Calls.{number, fresh_state, check_state}
use Rattle.model.specs.declared.Refusal.TheVariants.{SiteLength, SiteField, SiteTwice, SiteMissing, StateLength}
use Rattle.model.proofs.Open.{definitions}
use Rattle.cases.proofs.Change.{Field, with_fields}
use Rattle.cases.proofs.Records.{record_of, tables}
use Rattle.cases.proofs.Lookups.{offsets}
use Rattle.cases.proofs.SiteCheck.{zone_at, point_at, rule_at, credential_with, factor_with, records_at}

-- ── fields, read from a record whose every byte is its offset, and written

-- "Zone: 0 count (4)."
pub zone_state : count offsets ≡ 0x00010203
unfolding definitions offsets
zone_state = refl

pub zone_written :
    zone_bytes 0x01020304
    ≡ 1 ∷ 2 ∷ 3 ∷ 4 ∷ 0 ∷ 0 ∷ 0 ∷ 0 ∷ 0 ∷ 0 ∷ 0 ∷ 0 ∷ 0 ∷ 0 ∷ 0 ∷ 0 ∷ 0 ∷ 0 ∷ 0 ∷ 0 ∷ 0 ∷ 0 ∷ 0 ∷ 0 ∷ 0 ∷ 0 ∷ 0 ∷ 0 ∷ 0 ∷ 0 ∷ 0 ∷ 0 ∷ []
unfolding definitions
zone_written = refl

-- "Point: 0 tag (4), 4 failures (1), 5 locked 0/1, 8 lock time, 12 first failure, 16 waiting credential, 20 waiting since (4 each)."
pub point_state :
    point_state_of offsets
    ≡ record {
      tag = 0x00010203;
      failures = 4;
      locked = false;
      lock_time = 0x08090A0B;
      first_failure = 0x0C0D0E0F;
      waiting_credential = record { 0 = 0x10111213 };
      waiting_since = 0x14151617;
    }
unfolding definitions offsets
point_state = refl

pub locked_bytes : map (λ b. (point_state_of (record_of ((5, 1, b) ∷ []))).locked) (0 ∷ 1 ∷ []) ≡ false ∷ true ∷ []
unfolding definitions tables put
locked_bytes = refl

pub point_written :
    map
    (λ locked.
    point_bytes
    record {
      tag = 0x01020304;
      failures = 5;
      locked = locked;
      lock_time = 0x08090A0B;
      first_failure = 0x0C0D0E0F;
      waiting_credential = record { 0 = 0x10111213 };
      waiting_since = 0x14151617;
    })
    (true ∷ false ∷ [])
    ≡ (1 ∷ 2 ∷ 3 ∷ 4 ∷ 5 ∷ 1 ∷ 0 ∷ 0 ∷ 8 ∷ 9 ∷ 10 ∷ 11 ∷ 12 ∷ 13 ∷ 14 ∷ 15 ∷ 16 ∷ 17 ∷ 18 ∷ 19 ∷ 20 ∷ 21 ∷ 22 ∷ 23 ∷ 0 ∷ 0 ∷ 0 ∷ 0 ∷ 0 ∷ 0 ∷ 0 ∷ 0 ∷ [])
    ∷ (1 ∷ 2 ∷ 3 ∷ 4 ∷ 5 ∷ 0 ∷ 0 ∷ 0 ∷ 8 ∷ 9 ∷ 10 ∷ 11 ∷ 12 ∷ 13 ∷ 14 ∷ 15 ∷ 16 ∷ 17 ∷ 18 ∷ 19 ∷ 20 ∷ 21 ∷ 22 ∷ 23 ∷ 0 ∷ 0 ∷ 0 ∷ 0 ∷ 0 ∷ 0 ∷ 0 ∷ 0 ∷ []) ∷ []
unfolding definitions
point_written = refl

-- "Credential: 0 uses, 2 days (2 each), 4 last use, 8 zone, 12 entered (4 each), 16 last event (2), 18 disable (1), 20 last point (4)."
-- Document 02, job 4: "The credential's state gains the count at offset 19"; job 5: "last grant at offset 24 (4 bytes".
pub credential_state :
    credential_state_of offsets
    ≡ record {
      uses = 0x0001;
      days = 0x0203;
      last_use = 0x04050607;
      zone = record { 0 = 0x08090A0B };
      entered = 0x0C0D0E0F;
      last_event = 0x1011;
      disable = 18;
      wrong_tries = 19;
      last_point = record { 0 = 0x14151617 };
      last_grant = 0x18191A1B;
    }
unfolding definitions offsets
credential_state = refl

pub credential_written :
    credential_bytes
    record {
      uses = 0x0001;
      days = 0x0203;
      last_use = 0x04050607;
      zone = record { 0 = 0x08090A0B };
      entered = 0x0C0D0E0F;
      last_event = 0x1011;
      disable = 18;
      wrong_tries = 19;
      last_point = record { 0 = 0x14151617 };
      last_grant = 0x18191A1B;
    }
    ≡ 0 ∷ 1 ∷ 2 ∷ 3 ∷ 4 ∷ 5 ∷ 6 ∷ 7 ∷ 8 ∷ 9 ∷ 10 ∷ 11 ∷ 12 ∷ 13 ∷ 14 ∷ 15 ∷ 16 ∷ 17 ∷ 18 ∷ 19 ∷ 20 ∷ 21 ∷ 22 ∷ 23 ∷ 24 ∷ 25 ∷ 26 ∷ 27 ∷ 0 ∷ 0 ∷ 0 ∷ 0 ∷ []
unfolding definitions
credential_written = refl

-- ── a site of every kind: zone 8, point 2 whose most failures are 3, point 3 without, a rule, credential 5 whose most wrong tries are 4, and credential 6,
-- without, after a factor of it

unfoldable pub every_kind : List ℕ
every_kind =
    flatten
    (zone_at 8 ∷ with_fields ((17, 1, 3) ∷ []) (point_at 2 8 4194303) ∷ point_at 3 4194303 8 ∷ rule_at 1 1 8
    ∷ with_fields ((2, 1, 3) ∷ (16, 2, 0x0102) ∷ (18, 2, 0x0304) ∷ (22, 1, 4) ∷ []) (credential_with 5) ∷ factor_with 1 6 7 ∷ credential_with 6 ∷ [])

-- "Fresh: uses, days, disable from the site; references NONE; last use and entered never; else zero." Document 02: the count of wrong tries is such a zero;
-- last grant is "never when fresh"; the rule and the factor have no record.
pub fresh_bytes :
    fresh_state every_kind (replicate 160 7)
    ≡ record {
      returned = (Ok tt);
      state =
          flatten
          (replicate 32 0
          ∷ (0 ∷ 0 ∷ 0 ∷ 0 ∷ 0 ∷ 0 ∷ 0 ∷ 0 ∷ 0 ∷ 0 ∷ 0 ∷ 0 ∷ 0 ∷ 0 ∷ 0 ∷ 0 ∷ 0x00 ∷ 0x3F ∷ 0xFF ∷ 0xFF ∷ 0 ∷ 0 ∷ 0 ∷ 0 ∷ 0 ∷ 0 ∷ 0 ∷ 0 ∷ 0 ∷ 0 ∷ 0 ∷ 0 ∷ [])
          ∷ (0 ∷ 0 ∷ 0 ∷ 0 ∷ 0 ∷ 0 ∷ 0 ∷ 0 ∷ 0 ∷ 0 ∷ 0 ∷ 0 ∷ 0 ∷ 0 ∷ 0 ∷ 0 ∷ 0x00 ∷ 0x3F ∷ 0xFF ∷ 0xFF ∷ 0 ∷ 0 ∷ 0 ∷ 0 ∷ 0 ∷ 0 ∷ 0 ∷ 0 ∷ 0 ∷ 0 ∷ 0 ∷ 0 ∷ [])
          ∷ (0x01 ∷ 0x02 ∷ 0x03 ∷ 0x04 ∷ 0xFF ∷ 0xFF ∷ 0xFF ∷ 0xFF ∷ 0x00 ∷ 0x3F ∷ 0xFF ∷ 0xFF ∷ 0xFF ∷ 0xFF ∷ 0xFF ∷ 0xFF ∷ 0 ∷ 0 ∷ 3 ∷ 0
          ∷ 0x00 ∷ 0x3F ∷ 0xFF ∷ 0xFF ∷ 0xFF ∷ 0xFF ∷ 0xFF ∷ 0xFF ∷ 0 ∷ 0 ∷ 0 ∷ 0 ∷ [])
          ∷ (0x00 ∷ 0x00 ∷ 0x00 ∷ 0x00 ∷ 0xFF ∷ 0xFF ∷ 0xFF ∷ 0xFF ∷ 0x00 ∷ 0x3F ∷ 0xFF ∷ 0xFF ∷ 0xFF ∷ 0xFF ∷ 0xFF ∷ 0xFF ∷ 0 ∷ 0 ∷ 0 ∷ 0
          ∷ 0x00 ∷ 0x3F ∷ 0xFF ∷ 0xFF ∷ 0xFF ∷ 0xFF ∷ 0xFF ∷ 0xFF ∷ 0 ∷ 0 ∷ 0 ∷ 0 ∷ [])
          ∷ []);
    }
unfolding definitions tables put records_at every_kind
fresh_bytes = refl

-- Refusal 5, after 1 to 4; the state is unchanged. "Fresh stops after 5." Document 02, job 8: "Refusal 5 now compares with 32 times their number", which is
-- 160; a byte less, a byte more, as long as the site, none.
pub fresh_lengths :
    map (λ n. fresh_state every_kind (replicate n 7)) (159 ∷ 161 ∷ 224 ∷ 0 ∷ [])
    ≡ record { returned = (Err StateLength); state = replicate 159 7 } ∷ record { returned = (Err StateLength); state = replicate 161 7 }
    ∷ record { returned = (Err StateLength); state = replicate 224 7 } ∷ record { returned = (Err StateLength); state = [] } ∷ []
unfolding definitions tables put records_at every_kind
fresh_lengths = refl

pub fresh_refused :
    map (λ site. fresh_state (flatten site) (7 ∷ [])) (((0 ∷ []) ∷ []) ∷ (replicate 32 0 ∷ []) ∷ (zone_at 8 ∷ zone_at 8 ∷ []) ∷ (factor_with 1 5 7 ∷ []) ∷ [])
    ≡ record { returned = (Err SiteLength); state = 7 ∷ [] } ∷ record { returned = (Err SiteField); state = 7 ∷ [] }
    ∷ record { returned = (Err SiteTwice); state = 7 ∷ [] } ∷ record { returned = (Err SiteMissing); state = 7 ∷ [] } ∷ []
unfolding definitions tables put records_at
fresh_refused = refl

-- ── "Well formed: unnamed bytes zero, fields in range, references NONE or existing, locked points wait for nobody, failures below the most
-- (0 if unset)." Document 02, job 4: "Well formed then includes that count below its most, 0 if unset."

-- Every field at its largest; point 2 waits for credential 5, point 3 is locked.
unfoldable pub largest_state : List ℕ
largest_state =
    flatten
    (record_of ((0, 4, 4294967295) ∷ [])
    ∷ record_of ((0, 4, 4294967295) ∷ (4, 1, 2) ∷ (8, 4, 4294967295) ∷ (12, 4, 4294967295) ∷ (16, 4, 5) ∷ (20, 4, 4294967295) ∷ [])
    ∷ record_of ((5, 1, 1) ∷ (16, 4, 4194303) ∷ [])
    ∷ record_of
    ((0, 4, 4294967295) ∷ (4, 4, 4294967295) ∷ (8, 4, 8) ∷ (12, 4, 4294967295) ∷ (16, 2, 65535) ∷ (18, 1, 3) ∷ (19, 1, 3) ∷ (20, 4, 2)
    ∷ (24, 4, 4294967295) ∷ [])
    ∷ record_of ((8, 4, 4194303) ∷ (20, 4, 4194303) ∷ []) ∷ [])

unfoldable pub state_numbers : List (List Field) → List ℕ
state_numbers changes = map (λ fs. number (check_state every_kind (with_fields fs largest_state))) changes

-- The zone: no change; spare bytes 4 and 31.
pub zone_well_law : state_numbers ([] ∷ ((4, 1, 1) ∷ []) ∷ ((31, 1, 1) ∷ []) ∷ []) ≡ 0 ∷ 6 ∷ 6 ∷ []
unfolding definitions tables put records_at every_kind largest_state state_numbers
zone_well_law = refl

-- Point 2, from byte 32: no failure and all of them; locked with a wait, without one, and with 2; spare bytes; a credential that is not there,
-- and a zone's number. Point 3, from byte 64: a failure; unlocked.
pub point_well_law :
    state_numbers
    (((36, 1, 0) ∷ []) ∷ ((36, 1, 3) ∷ []) ∷ ((37, 1, 1) ∷ []) ∷ ((37, 1, 1) ∷ (48, 4, 4194303) ∷ []) ∷ ((37, 1, 2) ∷ (48, 4, 4194303) ∷ [])
    ∷ ((37, 1, 2) ∷ []) ∷ ((48, 4, 4194303) ∷ []) ∷ ((38, 1, 1) ∷ []) ∷ ((39, 1, 1) ∷ []) ∷ ((56, 1, 1) ∷ []) ∷ ((63, 1, 1) ∷ [])
    ∷ ((48, 4, 7) ∷ []) ∷ ((48, 4, 8) ∷ []) ∷ ((48, 4, 4194304) ∷ []) ∷ ((68, 1, 1) ∷ []) ∷ ((69, 1, 0) ∷ []) ∷ [])
    ≡ 0 ∷ 6 ∷ 6 ∷ 0 ∷ 6 ∷ 6 ∷ 0 ∷ 6 ∷ 6 ∷ 6 ∷ 6 ∷ 6 ∷ 6 ∷ 6 ∷ 6 ∷ 0 ∷ []
unfolding definitions tables put records_at every_kind largest_state state_numbers
point_well_law = refl

-- Credential 5, from byte 96: disable 4; spare bytes; last grant 0, 1, and its largest but one; zone NONE, one that is not there, a point's number; the
-- last point likewise.
pub credential_well_law :
    state_numbers
    (((114, 1, 0) ∷ []) ∷ ((114, 1, 4) ∷ []) ∷ ((124, 1, 1) ∷ []) ∷ ((125, 1, 1) ∷ []) ∷ ((126, 1, 1) ∷ []) ∷ ((127, 1, 1) ∷ [])
    ∷ ((120, 4, 0) ∷ []) ∷ ((120, 4, 1) ∷ []) ∷ ((120, 4, 4294967294) ∷ []) ∷ ((104, 4, 4194303) ∷ [])
    ∷ ((104, 4, 9) ∷ []) ∷ ((104, 4, 2) ∷ []) ∷ ((116, 4, 4194303) ∷ []) ∷ ((116, 4, 9) ∷ []) ∷ ((116, 4, 8) ∷ []) ∷ ((116, 4, 3) ∷ []) ∷ [])
    ≡ 0 ∷ 6 ∷ 6 ∷ 6 ∷ 6 ∷ 6 ∷ 0 ∷ 0 ∷ 0 ∷ 0 ∷ 6 ∷ 6 ∷ 0 ∷ 6 ∷ 6 ∷ 0 ∷ []
unfolding definitions tables put records_at every_kind largest_state state_numbers
credential_well_law = refl

-- "that count below its most, 0 if unset": of credential 5, at byte 115, none, the last below the most, the most, above it; of credential 6, at byte 147, none
-- and others.
pub tries_well :
    state_numbers
    (((115, 1, 0) ∷ []) ∷ ((115, 1, 3) ∷ []) ∷ ((115, 1, 4) ∷ []) ∷ ((115, 1, 5) ∷ []) ∷ ((115, 1, 255) ∷ []) ∷ ((147, 1, 0) ∷ []) ∷ ((147, 1, 1) ∷ [])
    ∷ ((147, 1, 255) ∷ []) ∷ [])
    ≡ 0 ∷ 0 ∷ 6 ∷ 6 ∷ 6 ∷ 0 ∷ 6 ∷ 6 ∷ []
unfolding definitions tables put records_at every_kind largest_state state_numbers
tries_well = refl

-- The same of a most and a count: the smallest most, the largest, and none set.
pub mosts_well :
    map
    (λ (most, counted).
    number (check_state (with_fields ((22, 1, most) ∷ []) (credential_with 5)) (record_of ((8, 4, 4194303) ∷ (19, 1, counted) ∷ (20, 4, 4194303) ∷ []))))
    ((1, 0) ∷ (1, 1) ∷ (1, 2) ∷ (255, 0) ∷ (255, 254) ∷ (255, 255) ∷ (0, 0) ∷ (0, 1) ∷ (0, 255) ∷ [])
    ≡ 0 ∷ 6 ∷ 6 ∷ 0 ∷ 0 ∷ 6 ∷ 0 ∷ 6 ∷ 6 ∷ []
unfolding definitions tables put records_at
mosts_well = refl

-- Refusal 6 after 5: a state cut short, whose first record is not well formed; one with a byte more, and with records more, as long as the site.
pub state_lengths :
    number (check_state every_kind (take 159 (with_fields ((4, 1, 1) ∷ []) largest_state))) ∷ number (check_state every_kind (largest_state ++ (0 ∷ [])))
    ∷ number (check_state every_kind (largest_state ++ replicate 64 0)) ∷ number (check_state (0 ∷ []) (0 ∷ [])) ∷ number (check_state [] []) ∷ []
    ≡ 5 ∷ 5 ∷ 5 ∷ 1 ∷ 0 ∷ []
unfolding definitions tables put records_at every_kind largest_state
state_lengths = refl
