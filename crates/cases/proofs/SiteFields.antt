-- "Site records, 32 bytes each": refusal 2, "a record's kind, field or spare byte out of range". Of each kind a record with its fields at their
-- largest is accepted, and each field one above it, each spare byte, each spare flag and a kind other than 1 to 5 is refused.
use Prim.Native.Nat.{ℕ}
use mathlib.Core.Path.{◌≡◌, refl}
use mathlib.Core.List.{List, [], ◌∷◌, ◌++◌, map, flatten}
use lib.ListN.{replicate}
use Rattle.octets.specs.Octets.{put}
use Rattle.model.proofs.Open.{definitions}
use Rattle.cases.proofs.Change.{Field}
use Rattle.cases.proofs.Records.{record_of, changed_numbers, tables}

-- "Kind 1, zone. Flag 0 counting. 2: passback 0 off, 1 hard, 2 soft. 8 upper limit, 12 lower limit, 16 passback timeout in minutes, 4 bytes
-- each." "NONE is instance 4,194,303; real instances are smaller."
unfoldable pub largest_zone : List ℕ
largest_zone =
    record_of ((0, 1, 1) ∷ (1, 1, 1) ∷ (2, 1, 2) ∷ (4, 4, 4194302) ∷ (8, 4, 4294967295) ∷ (12, 4, 4294967295) ∷ (16, 4, 4294967295) ∷ [])

pub zone_fields :
    changed_numbers [] largest_zone
    ([] ∷ ((0, 1, 0) ∷ []) ∷ ((1, 1, 0) ∷ []) ∷ ((1, 1, 2) ∷ []) ∷ ((2, 1, 0) ∷ []) ∷ ((2, 1, 3) ∷ []) ∷ ((3, 1, 1) ∷ []) ∷ ((4, 4, 0) ∷ [])
    ∷ ((4, 4, 4194303) ∷ []) ∷ ((20, 1, 1) ∷ []) ∷ ((31, 1, 1) ∷ []) ∷ [])
    ≡ 0 ∷ 2 ∷ 0 ∷ 2 ∷ 0 ∷ 2 ∷ 2 ∷ 0 ∷ 2 ∷ 2 ∷ 2 ∷ []
unfolding definitions tables put largest_zone
zone_fields = refl

-- "Kind 2, point. Flags: 0 out of service, 1 upper enforced, 2 lower enforced, 3 count adjust, 4 muster. 2: mode 0 AUTHORIZE, 1 GRANT_ACTIVE,
-- 2 DENY_ALL. 3: factors wanted, 1 or 2. 8 Zone_To, 12 Zone_From (4 each, NONE allowed, never the same zone: refusal 2). 16 threat level
-- 0..100. 17 most failures (1 byte). 18 factor timeout (2), 20 lockout relinquish (4), 24 failure window (4)."
unfoldable pub largest_point : List ℕ
largest_point =
    record_of
    ((0, 1, 2) ∷ (1, 1, 31) ∷ (2, 1, 2) ∷ (3, 1, 2) ∷ (4, 4, 4194302) ∷ (8, 4, 4194303) ∷ (12, 4, 4194303) ∷ (16, 1, 100) ∷ (17, 1, 255)
    ∷ (18, 2, 65535) ∷ (20, 4, 4294967295) ∷ (24, 4, 4294967295) ∷ [])

unfoldable pub two_zones : List (List ℕ)
two_zones = record_of ((0, 1, 1) ∷ (4, 4, 8) ∷ []) ∷ record_of ((0, 1, 1) ∷ (4, 4, 9) ∷ []) ∷ []

pub point_fields :
    changed_numbers [] largest_point
    ([] ∷ ((0, 1, 0) ∷ []) ∷ ((1, 1, 32) ∷ []) ∷ ((2, 1, 3) ∷ []) ∷ ((3, 1, 0) ∷ []) ∷ ((3, 1, 1) ∷ []) ∷ ((3, 1, 3) ∷ []) ∷ ((4, 4, 4194303) ∷ [])
    ∷ ((16, 1, 101) ∷ []) ∷ ((28, 1, 1) ∷ []) ∷ ((31, 1, 1) ∷ []) ∷ [])
    ≡ 0 ∷ 2 ∷ 2 ∷ 2 ∷ 2 ∷ 0 ∷ 2 ∷ 2 ∷ 2 ∷ 2 ∷ 2 ∷ []
unfolding definitions tables put largest_point
point_fields = refl

pub point_zones :
    changed_numbers two_zones largest_point
    (((8, 4, 8) ∷ []) ∷ ((12, 4, 8) ∷ []) ∷ ((8, 4, 8) ∷ (12, 4, 8) ∷ []) ∷ ((8, 4, 8) ∷ (12, 4, 9) ∷ []) ∷ ((8, 4, 9) ∷ (12, 4, 8) ∷ [])
    ∷ ((8, 4, 4194304) ∷ []) ∷ ((12, 4, 4194304) ∷ []) ∷ [])
    ≡ 0 ∷ 0 ∷ 2 ∷ 0 ∷ 0 ∷ 2 ∷ 2 ∷ []
unfolding definitions tables put largest_point two_zones
point_zones = refl

-- "Kind 3, rule. Flags: 0 enabled, 1 negative, 2 always, 3 everywhere. 2: location kind 1 zone or 2 point. 3: days, bit 0 Monday to bit 6
-- Sunday. 8 location (4). 12 from, 14 to, minutes (2 each) .. Everywhere: 2 and 8 are zero." Document 02, job 3: "both stay at most 1,440.
-- Refusal 2 no longer includes from > to."
unfoldable pub largest_rule : List ℕ
largest_rule = record_of ((0, 1, 3) ∷ (1, 1, 15) ∷ (3, 1, 127) ∷ (4, 4, 4194302) ∷ (12, 2, 1440) ∷ (14, 2, 1440) ∷ [])

pub rule_fields :
    changed_numbers [] largest_rule
    ([] ∷ ((0, 1, 0) ∷ []) ∷ ((1, 1, 24) ∷ []) ∷ ((3, 1, 128) ∷ []) ∷ ((4, 4, 4194303) ∷ []) ∷ ((2, 1, 1) ∷ []) ∷ ((8, 4, 8) ∷ []) ∷ ((16, 1, 1) ∷ [])
    ∷ ((31, 1, 1) ∷ []) ∷ [])
    ≡ 0 ∷ 2 ∷ 2 ∷ 2 ∷ 2 ∷ 2 ∷ 2 ∷ 2 ∷ 2 ∷ []
unfolding definitions tables put largest_rule
rule_fields = refl

-- From before to, equal, after it; 1,441 in either. The flags: all; disabled; not always; then neither enabled, always nor everywhere.
abbrev minutes : List Field → List (List Field)
minutes fs =
    map (λ (m : ℕ × ℕ). fs ++ ((12, 2, m.0) ∷ (14, 2, m.1) ∷ []))
    ((0, 1440) ∷ (0, 0) ∷ (1440, 1440) ∷ (1440, 0) ∷ (1320, 360) ∷ (1441, 1440) ∷ (1440, 1441) ∷ (1441, 0) ∷ (0, 1441) ∷ (1441, 1441) ∷ [])

pub rule_minutes :
    changed_numbers two_zones largest_rule
    (minutes [] ++ minutes ((1, 1, 14) ∷ []) ++ minutes ((1, 1, 9) ∷ []) ++ minutes ((1, 1, 2) ∷ (2, 1, 1) ∷ (8, 4, 8) ∷ []))
    ≡ flatten (replicate 4 (0 ∷ 0 ∷ 0 ∷ 0 ∷ 0 ∷ 2 ∷ 2 ∷ 2 ∷ 2 ∷ 2 ∷ []))
unfolding definitions tables put largest_rule two_zones
rule_minutes = refl

-- Not everywhere: zone 8 and point 4,194,302 are there. Last, a spare flag.
pub rule_locations :
    changed_numbers (largest_point ∷ two_zones) largest_rule
    (((1, 1, 7) ∷ (2, 1, 1) ∷ (8, 4, 8) ∷ []) ∷ ((1, 1, 7) ∷ (2, 1, 2) ∷ (8, 4, 4194302) ∷ []) ∷ ((1, 1, 7) ∷ (2, 1, 0) ∷ (8, 4, 8) ∷ [])
    ∷ ((1, 1, 7) ∷ (2, 1, 3) ∷ (8, 4, 8) ∷ []) ∷ ((1, 1, 7) ∷ (2, 1, 1) ∷ (8, 4, 4194303) ∷ [])
    ∷ ((1, 1, 16) ∷ (2, 1, 1) ∷ (8, 4, 8) ∷ []) ∷ [])
    ≡ 0 ∷ 0 ∷ 2 ∷ 2 ∷ 2 ∷ 2 ∷ []
unfolding definitions tables put largest_point two_zones largest_rule
rule_locations = refl

-- "Kind 4, credential. Flags: 0 master, 1 passback and 2 occupancy exemption, 3 trace, 4 extended time. 2: disable 0 NONE, 1 DISABLE,
-- 2 MANUAL, 3 LOCKOUT. 3: threat authority 0..100. 8 activation, 12 expiry (4 each). 16 uses, 18 days, 20 absentee days (2 each). 24 and 28
-- rights numbers or NONE." "A missing rights number is ignored." Document 02, job 4: "Credential offset 22 (1 byte, 0 unset) is the most wrong tries"; byte
-- 23 stays spare.
unfoldable pub largest_credential : List ℕ
largest_credential =
    record_of
    ((0, 1, 4) ∷ (1, 1, 31) ∷ (2, 1, 3) ∷ (3, 1, 100) ∷ (4, 4, 4194302) ∷ (8, 4, 4294967295) ∷ (12, 4, 4294967295) ∷ (16, 2, 65535)
    ∷ (18, 2, 65535) ∷ (20, 2, 65535) ∷ (22, 1, 255) ∷ (24, 4, 4194303) ∷ (28, 4, 4194303) ∷ [])

pub credential_fields :
    changed_numbers [] largest_credential
    ([] ∷ ((0, 1, 0) ∷ []) ∷ ((1, 1, 32) ∷ []) ∷ ((2, 1, 4) ∷ []) ∷ ((3, 1, 101) ∷ []) ∷ ((4, 4, 4194303) ∷ []) ∷ ((22, 1, 0) ∷ []) ∷ ((22, 1, 1) ∷ [])
    ∷ ((22, 1, 128) ∷ []) ∷ ((23, 1, 1) ∷ []) ∷ ((23, 1, 255) ∷ []) ∷ ((22, 2, 1) ∷ [])
    ∷ ((24, 4, 4194304) ∷ []) ∷ ((28, 4, 4194304) ∷ []) ∷ ((24, 4, 7) ∷ (28, 4, 8) ∷ []) ∷ [])
    ≡ 0 ∷ 2 ∷ 2 ∷ 2 ∷ 2 ∷ 2 ∷ 0 ∷ 0 ∷ 0 ∷ 2 ∷ 2 ∷ 2 ∷ 2 ∷ 2 ∷ 0 ∷ []
unfolding definitions tables put largest_credential
credential_fields = refl

-- "Kind 5, factor; instance is its credential. 2: role 1 identifying, 2 confirming. 3: disable 0 none, 1 disabled, 2 lost, 3 stolen,
-- 4 damaged, 5 destroyed. 8 format, 2..255. 16 value."
unfoldable pub largest_factor : List ℕ
largest_factor =
    record_of ((0, 1, 5) ∷ (2, 1, 2) ∷ (3, 1, 5) ∷ (4, 4, 4194302) ∷ (8, 1, 255) ∷ (16, 4, 4294967295) ∷ (20, 4, 4294967295) ∷ [])

pub factor_fields :
    changed_numbers (largest_credential ∷ []) largest_factor
    ([] ∷ ((0, 1, 0) ∷ []) ∷ ((0, 1, 6) ∷ []) ∷ ((1, 1, 1) ∷ []) ∷ ((2, 1, 0) ∷ []) ∷ ((2, 1, 1) ∷ []) ∷ ((2, 1, 3) ∷ []) ∷ ((3, 1, 0) ∷ []) ∷ ((3, 1, 6) ∷ [])
    ∷ ((4, 4, 4194303) ∷ []) ∷ ((8, 1, 1) ∷ []) ∷ ((8, 1, 2) ∷ []) ∷ ((9, 1, 1) ∷ []) ∷ ((15, 1, 1) ∷ []) ∷ ((24, 1, 1) ∷ [])
    ∷ ((31, 1, 1) ∷ []) ∷ [])
    ≡ 0 ∷ 2 ∷ 2 ∷ 2 ∷ 2 ∷ 0 ∷ 2 ∷ 0 ∷ 2 ∷ 2 ∷ 2 ∷ 0 ∷ 2 ∷ 2 ∷ 2 ∷ 2 ∷ []
unfolding definitions tables put largest_credential largest_factor
factor_fields = refl
