-- "The lookup hands back the 32 bytes of the record itself: of any slice the first whole group with the kind and instance, else an empty part."
-- And the fields of site records by their offsets, of a record whose every byte is its offset.
use Prim.Native.Nat.{ℕ}
use mathlib.Core.Path.{◌≡◌, refl}
use mathlib.Core.List.{List, [], ◌∷◌, ◌++◌, map}
use mathlib.Core.Bool.{Bool, true, false}
use lib.ListN.{take}
use Rattle.octets.specs.Octets.{put}
use Rattle.model.specs.Site.{lookup, zone_of, point_of, credential_of, enabled, negative, always, everywhere, location_kind, weekdays, location, from_minute, to_minute, disable_given, uses_given, days_given, role, factor_disable, format, value, reference}
use Rattle.model.specs.declared.Point.{Point}
use Rattle.model.specs.declared.Credential.{Credential}
use Rattle.model.proofs.Open.{definitions}
use Rattle.cases.proofs.Records.{record_of, tables}

-- ── lookup

-- Two zones 7, of which the second has a flag; zone 8; credential 7; and zone 9 less a byte.
unfoldable pub slice : List ℕ
slice =
    record_of ((0, 1, 1) ∷ (4, 4, 7) ∷ (8, 1, 1) ∷ []) ++ record_of ((0, 1, 1) ∷ (4, 4, 7) ∷ []) ++ record_of ((0, 1, 1) ∷ (4, 4, 8) ∷ [])
    ++ record_of ((0, 1, 4) ∷ (4, 4, 7) ∷ []) ++ take 31 (record_of ((0, 1, 1) ∷ (4, 4, 9) ∷ []))

pub looked_up :
    map (λ (k, i). lookup k i slice) ((1, 7) ∷ (1, 8) ∷ (4, 7) ∷ (1, 9) ∷ (2, 7) ∷ (4, 8) ∷ (1, 6) ∷ [])
    ≡ (1 ∷ 0 ∷ 0 ∷ 0 ∷ 0 ∷ 0 ∷ 0 ∷ 7 ∷ 1 ∷ 0 ∷ 0 ∷ 0 ∷ 0 ∷ 0 ∷ 0 ∷ 0 ∷ 0 ∷ 0 ∷ 0 ∷ 0 ∷ 0 ∷ 0 ∷ 0 ∷ 0 ∷ 0 ∷ 0 ∷ 0 ∷ 0 ∷ 0 ∷ 0 ∷ 0 ∷ 0 ∷ [])
    ∷ (1 ∷ 0 ∷ 0 ∷ 0 ∷ 0 ∷ 0 ∷ 0 ∷ 8 ∷ 0 ∷ 0 ∷ 0 ∷ 0 ∷ 0 ∷ 0 ∷ 0 ∷ 0 ∷ 0 ∷ 0 ∷ 0 ∷ 0 ∷ 0 ∷ 0 ∷ 0 ∷ 0 ∷ 0 ∷ 0 ∷ 0 ∷ 0 ∷ 0 ∷ 0 ∷ 0 ∷ 0 ∷ [])
    ∷ (4 ∷ 0 ∷ 0 ∷ 0 ∷ 0 ∷ 0 ∷ 0 ∷ 7 ∷ 0 ∷ 0 ∷ 0 ∷ 0 ∷ 0 ∷ 0 ∷ 0 ∷ 0 ∷ 0 ∷ 0 ∷ 0 ∷ 0 ∷ 0 ∷ 0 ∷ 0 ∷ 0 ∷ 0 ∷ 0 ∷ 0 ∷ 0 ∷ 0 ∷ 0 ∷ 0 ∷ 0 ∷ [])
    ∷ [] ∷ [] ∷ [] ∷ [] ∷ []
unfolding definitions tables put slice
looked_up = refl

-- ── fields

-- Bytes 0 to 31, the number of each its offset.
unfoldable pub offsets : List ℕ
offsets =
    0 ∷ 1 ∷ 2 ∷ 3 ∷ 4 ∷ 5 ∷ 6 ∷ 7 ∷ 8 ∷ 9 ∷ 10 ∷ 11 ∷ 12 ∷ 13 ∷ 14 ∷ 15 ∷ 16 ∷ 17 ∷ 18 ∷ 19 ∷ 20 ∷ 21 ∷ 22 ∷ 23 ∷ 24 ∷ 25 ∷ 26 ∷ 27 ∷ 28 ∷ 29
    ∷ 30 ∷ 31 ∷ []

-- "Flag 0 counting. 2: passback. 8 upper limit, 12 lower limit, 16 passback timeout in minutes, 4 bytes each."
pub zone_read :
    zone_of offsets
    ≡ record {
      counting = true;
      passback = 2;
      upper_limit = 0x08090A0B;
      lower_limit = 0x0C0D0E0F;
      passback_timeout = 0x10111213;
    }
unfolding definitions offsets
zone_read = refl

-- "8 Zone_To, 12 Zone_From. 16 threat level. 17 most failures. 18 factor timeout (2, seconds), 20 lockout relinquish (4), 24 failure window (4)."
pub point_read :
    point_of offsets
    ≡ record {
      out_of_service = true;
      upper_enforced = false;
      lower_enforced = false;
      count_adjust = false;
      muster = false;
      mode = 2;
      factors_wanted = 3;
      zone_to = record { 0 = 0x08090A0B };
      zone_from = record { 0 = 0x0C0D0E0F };
      threat_level = 16;
      most_failures = 17;
      factor_timeout = 0x1213;
      lockout_relinquish = 0x14151617;
      failure_window = 0x18191A1B;
    }
unfolding definitions offsets
point_read = refl

-- "3: threat authority. 8 activation, 12 expiry (4 each). 20 absentee days (2). 24 and 28 rights numbers." Document 02, job 4: "Credential offset 22 (1 byte,
-- 0 unset) is the most wrong tries".
pub credential_read_law :
    credential_of offsets
    ≡ record {
      master = true;
      passback_exempt = false;
      occupancy_exempt = false;
      trace = false;
      extended_time = false;
      threat_authority = 3;
      activation = 0x08090A0B;
      expiry = 0x0C0D0E0F;
      absentee_days = 0x1415;
      most_wrong_tries = 22;
      first_rights = record { 0 = 0x18191A1B };
      second_rights = record { 0 = 0x1C1D1E1F };
    }
unfolding definitions offsets
credential_read_law = refl

-- Of a rule: "2: location kind. 3: days. 8 location (4). 12 from, 14 to (2 each)". Of a credential: "2: disable. 16 uses, 18 days (2 each)". Of a
-- factor: "2: role. 3: disable. 8 format".
pub numbers_read :
    map (λ f. f offsets)
    (location_kind ∷ weekdays ∷ location ∷ from_minute ∷ to_minute ∷ disable_given ∷ uses_given ∷ days_given ∷ role ∷ factor_disable ∷ format ∷ [])
    ≡ 2 ∷ 3 ∷ 0x08090A0B ∷ 0x0C0D ∷ 0x0E0F ∷ 2 ∷ 0x1011 ∷ 0x1213 ∷ 2 ∷ 3 ∷ 8 ∷ []
unfolding definitions offsets
numbers_read = refl

-- "16 value; all eight value bytes".
pub value_read : value offsets ≡ 16 ∷ 17 ∷ 18 ∷ 19 ∷ 20 ∷ 21 ∷ 22 ∷ 23 ∷ []
unfolding definitions offsets
value_read = refl

-- A record that was not found names no zone.
pub nothing_named : reference 8 [] ∷ reference 8 offsets ∷ [] ≡ 4194303 ∷ 0x08090A0B ∷ []
unfolding definitions offsets
nothing_named = refl

-- ── flags, "bit 0 lowest", one by one

unfoldable pub flags_of_point : Point → List Bool
flags_of_point p = p.out_of_service ∷ p.upper_enforced ∷ p.lower_enforced ∷ p.count_adjust ∷ p.muster ∷ []

unfoldable pub flags_of_credential : Credential → List Bool
flags_of_credential c = c.master ∷ c.passback_exempt ∷ c.occupancy_exempt ∷ c.trace ∷ c.extended_time ∷ []

-- "Flags: 0 out of service, 1 upper enforced, 2 lower enforced, 3 count adjust, 4 muster."
pub point_flags :
    map (λ f. flags_of_point (point_of (record_of ((1, 1, f) ∷ [])))) (1 ∷ 2 ∷ 4 ∷ 8 ∷ 16 ∷ 0xE0 ∷ [])
    ≡ (true ∷ false ∷ false ∷ false ∷ false ∷ []) ∷ (false ∷ true ∷ false ∷ false ∷ false ∷ []) ∷ (false ∷ false ∷ true ∷ false ∷ false ∷ [])
    ∷ (false ∷ false ∷ false ∷ true ∷ false ∷ []) ∷ (false ∷ false ∷ false ∷ false ∷ true ∷ [])
    ∷ (false ∷ false ∷ false ∷ false ∷ false ∷ []) ∷ []
unfolding definitions tables put flags_of_point
point_flags = refl

-- "Flags: 0 master, 1 passback and 2 occupancy exemption, 3 trace, 4 extended time."
pub credential_flags :
    map (λ f. flags_of_credential (credential_of (record_of ((1, 1, f) ∷ [])))) (1 ∷ 2 ∷ 4 ∷ 8 ∷ 16 ∷ [])
    ≡ (true ∷ false ∷ false ∷ false ∷ false ∷ []) ∷ (false ∷ true ∷ false ∷ false ∷ false ∷ []) ∷ (false ∷ false ∷ true ∷ false ∷ false ∷ [])
    ∷ (false ∷ false ∷ false ∷ true ∷ false ∷ []) ∷ (false ∷ false ∷ false ∷ false ∷ true ∷ []) ∷ []
unfolding definitions tables put flags_of_credential
credential_flags = refl

-- A rule's "Flags: 0 enabled, 1 negative, 2 always, 3 everywhere"; a zone's "Flag 0 counting".
pub rule_flags :
    map (λ f. map (λ g. g (record_of ((1, 1, f) ∷ []))) (enabled ∷ negative ∷ always ∷ everywhere ∷ (λ s. (zone_of s).counting) ∷ [])) (1 ∷ 2 ∷ 4 ∷ 8 ∷ [])
    ≡ (true ∷ false ∷ false ∷ false ∷ true ∷ []) ∷ (false ∷ true ∷ false ∷ false ∷ false ∷ []) ∷ (false ∷ false ∷ true ∷ false ∷ false ∷ [])
    ∷ (false ∷ false ∷ false ∷ true ∷ false ∷ []) ∷ []
unfolding definitions tables put
rule_flags = refl
