-- Which site files are turned back: refusals 2, 3 and 4 over the records of a site. Refusal 1 is in Calls.
use Rattle.std.specs.Prelude.{ℕ, List, [], ◌∷◌, Bool, true, false, not, ◌&&◌, ◌||◌, ltb, leb, eqb, take, drop, if◌then◌else◌, Option, Some, None}
use Rattle.octets.specs.Octets.{same}
use Rattle.model.specs.Words.{any, zeros, within, missing}
use Rattle.model.specs.Numbers.{NONE, minutes_of_day, access_zone, access_point, access_credential, passback_soft, mode_deny_all, two_factors, role_identifying, role_confirming, factor_destroyed, format_error, largest_disable, largest_threat}
use Rattle.model.specs.Site.{kind, record_kind, flags, instance, zone_of, point_of, credential_of, disable_given, everywhere, location_kind, weekdays, location, from_minute, to_minute, role, factor_disable, format, value, is_at, find_in}
use Rattle.model.specs.declared.RecordKind.{RecordKind}
use Rattle.model.specs.declared.RecordKind.TheVariants.{OfZone, OfPoint, OfRule, OfCredential, OfFactor}

-- ── refusal 2: "a record's kind, field or spare byte out of range". "Enumerations and bounds given here are the field ranges; an
-- instance is real unless NONE is allowed."

-- "Unnamed bytes and bits are zero": the n bytes from an offset.
unfoldable pub clear : ℕ → ℕ → List ℕ → Bool
clear at n s = same (take n (drop at s)) (zeros n)

-- "real instances are smaller" than NONE.
abbrev pub real : ℕ → Bool
real i = ltb i NONE

-- An instance where "NONE is allowed".
abbrev pub real_or_none : ℕ → Bool
real_or_none i = leb i NONE

-- A zone: one flag; passback 0 to 2.
unfoldable pub zone_in_range : List ℕ → Bool
zone_in_range s = ltb (flags s) 2 && leb (zone_of s).passback passback_soft && clear 3 1 s && clear 20 12 s

-- A point: five flags; mode 0 to 2; factors wanted 1 or 2; "Zone_To, Zone_From (NONE allowed, never the same zone: refusal 2)";
-- threat level 0..100.
unfoldable pub point_in_range : List ℕ → Bool
point_in_range s =
    ltb (flags s) 32 && leb (point_of s).mode mode_deny_all && within 1 two_factors (point_of s).factors_wanted
    && real_or_none (point_of s).zone_to.0 && real_or_none (point_of s).zone_from.0
    && (eqb (point_of s).zone_to.0 NONE || not (eqb (point_of s).zone_to.0 (point_of s).zone_from.0))
    && leb (point_of s).threat_level largest_threat && clear 28 4 s

-- "2: location kind 1 zone or 2 point. .. Everywhere: 2 and 8 are zero."
abbrev pub location_in_range : List ℕ → Bool
location_in_range s =
    if everywhere s then eqb (location_kind s) 0 && eqb (location s) 0
    else within access_zone access_point (location_kind s) && real (location s)

-- A rule: four flags; seven days; its location. Document 02, job 3: "both stay at most 1,440. Refusal 2 no longer includes from > to."
unfoldable pub rule_in_range : List ℕ → Bool
rule_in_range s =
    ltb (flags s) 16 && ltb (weekdays s) 128 && location_in_range s && leb (from_minute s) minutes_of_day
    && leb (to_minute s) minutes_of_day && clear 16 16 s

-- A credential: five flags; disable 0 to 3; threat authority 0..100; rights numbers or NONE. Document 02, job 4: offset 22 has a name, and any value.
unfoldable pub credential_in_range : List ℕ → Bool
credential_in_range s =
    ltb (flags s) 32 && leb (disable_given s) largest_disable && leb (credential_of s).threat_authority largest_threat
    && clear 23 1 s && real_or_none (credential_of s).first_rights.0 && real_or_none (credential_of s).second_rights.0

-- A factor: no flag; role 1 or 2; disable 0 to 5; format 2..255.
unfoldable pub factor_in_range : List ℕ → Bool
factor_in_range s =
    eqb (flags s) 0 && within role_identifying role_confirming (role s) && leb (factor_disable s) factor_destroyed
    && ltb format_error (format s) && clear 9 7 s && clear 24 8 s

-- "a record's kind, field": any of the five kinds, its fields in their ranges.
abbrev pub in_range_as : Option RecordKind → List ℕ → Bool
in_range_as (Some OfZone) s = zone_in_range s
in_range_as (Some OfPoint) s = point_in_range s
in_range_as (Some OfRule) s = rule_in_range s
in_range_as (Some OfCredential) s = credential_in_range s
in_range_as (Some OfFactor) s = factor_in_range s
in_range_as None s = false

-- The same with a real instance.
unfoldable pub in_range : List ℕ → Bool
in_range s = real (instance s) && in_range_as (record_kind s) s

-- ── refusal 3: "Twice the same: two zones, points or credentials of one instance; two identifying factors alike in format and value;
-- two confirming ones alike in credential, format and value."

-- "two identifying factors alike in format and value; two confirming ones alike in credential, format and value".
unfoldable pub twin_factors : List ℕ → List ℕ → Bool
twin_factors s t =
    eqb (role s) (role t) && eqb (format s) (format t) && same (value s) (value t)
    && (eqb (role s) role_identifying || eqb (instance s) (instance t))

-- "two zones, points or credentials of one instance", or two such factors; rules are never twins.
abbrev pub twins_as : Option RecordKind → List ℕ → List ℕ → Bool
twins_as (Some OfZone) s t = eqb (instance s) (instance t)
twins_as (Some OfPoint) s t = eqb (instance s) (instance t)
twins_as (Some OfRule) s t = false
twins_as (Some OfCredential) s t = eqb (instance s) (instance t)
twins_as (Some OfFactor) s t = twin_factors s t
twins_as None s t = eqb (instance s) (instance t)

-- Both of one kind.
unfoldable pub twins : List ℕ → List ℕ → Bool
twins s t = eqb (kind s) (kind t) && twins_as (record_kind s) s t

-- "the same twice": two of the records.
unfoldable pub twice : List (List ℕ) → Bool
twice [] = false
twice (s ∷ ss) = any (twins s) ss || twice ss

-- ── refusal 4: "A point's zone, a factor's credential and, unless everywhere, a rule's location must exist. A missing rights number is
-- ignored (002)."

-- "must exist": some record has the kind and instance.
unfoldable pub exists : List (List ℕ) → ℕ → ℕ → Bool
exists ss k i = not (missing (find_in (is_at k i) ss))

-- A reference that is "NONE or existing".
unfoldable pub none_or_exists : List (List ℕ) → ℕ → ℕ → Bool
none_or_exists ss k i = eqb i NONE || exists ss k i

-- "A point's zone, a factor's credential and, unless everywhere, a rule's location". The location kinds 1 and 2 are those of zone and point.
abbrev pub names_exist_as : Option RecordKind → List (List ℕ) → List ℕ → Bool
names_exist_as (Some OfZone) ss s = true
names_exist_as (Some OfPoint) ss s =
    none_or_exists ss access_zone (point_of s).zone_to.0 && none_or_exists ss access_zone (point_of s).zone_from.0
names_exist_as (Some OfRule) ss s = everywhere s || exists ss (location_kind s) (location s)
names_exist_as (Some OfCredential) ss s = true
names_exist_as (Some OfFactor) ss s = exists ss access_credential (instance s)
names_exist_as None ss s = true

-- What a record names is there.
unfoldable pub names_exist : List (List ℕ) → List ℕ → Bool
names_exist ss s = names_exist_as (record_kind s) ss s
