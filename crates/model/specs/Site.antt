-- "Site records, 32 bytes each, no header": their fields, and which record a number names.
use Rattle.std.specs.Prelude.{ℕ, ◌/◌, List, [], ◌∷◌, Bool, ◌&&◌, eqb, length, take, drop, if◌then◌else◌, Option, Some, None}
use Rattle.octets.specs.Octets.{field, groups}
use Rattle.model.specs.Words.{bit}
use Rattle.model.specs.Numbers.{NONE, record_size, access_zone, access_point, access_rule, access_credential, authentication_factor}
use Rattle.model.specs.declared.ZoneId.{ZoneId}
use Rattle.model.specs.declared.PointId.{PointId}
use Rattle.model.specs.declared.CredentialId.{CredentialId}
use Rattle.model.specs.declared.RightsId.{RightsId}
use Rattle.model.specs.declared.RecordKind.{RecordKind}
use Rattle.model.specs.declared.RecordKind.TheVariants.{OfZone, OfPoint, OfRule, OfCredential, OfFactor}
use Rattle.model.specs.declared.Zone.{Zone}
use Rattle.model.specs.declared.Point.{Point}
use Rattle.model.specs.declared.Credential.{Credential}

-- "Instances are numbered per object type, so zone 7 is never credential 7": a number of each type.
abbrev pub zone_id : ℕ → ZoneId
zone_id i = record { 0 = i }

abbrev pub point_id : ℕ → PointId
point_id i = record { 0 = i }

abbrev pub credential_id : ℕ → CredentialId
credential_id i = record { 0 = i }

abbrev pub rights_id : ℕ → RightsId
rights_id i = record { 0 = i }

-- The records of a site file: its whole groups of 32 bytes, in file order.
unfoldable pub records : List ℕ → List (List ℕ)
records site = groups record_size (length site / record_size) site

-- ── "0 kind, 1 flags (bit 0 lowest), 4 instance (4 bytes)."

-- "0 kind".
abbrev pub kind : List ℕ → ℕ
kind s = field 0 1 s

-- Its name: "Kind 1, zone", "Kind 2, point", "Kind 3, rule", "Kind 4, credential", "Kind 5, factor".
abbrev pub record_kind : List ℕ → Option RecordKind
record_kind s =
    if eqb (kind s) access_zone then Some OfZone else
    if eqb (kind s) access_point then Some OfPoint else
    if eqb (kind s) access_rule then Some OfRule else
    if eqb (kind s) access_credential then Some OfCredential else
    if eqb (kind s) authentication_factor then Some OfFactor else
    None

-- "1 flags".
abbrev pub flags : List ℕ → ℕ
flags s = field 1 1 s

-- "(bit 0 lowest)".
abbrev pub flag : List ℕ → ℕ → Bool
flag s i = bit (flags s) i

-- "4 instance (4 bytes)".
abbrev pub instance : List ℕ → ℕ
instance s = field 4 4 s

-- The instance that a record names at an offset. A record that was not found names none.
unfoldable pub reference : ℕ → List ℕ → ℕ
reference at [] = NONE
reference at (x ∷ s) = field at 4 (x ∷ s)

-- ── "Kind 1, zone."

-- "Flag 0 counting. 2: passback .. 8 upper limit, 12 lower limit, 16 passback timeout in minutes, 4 bytes each."
unfoldable pub zone_of : List ℕ → Zone
zone_of s =
    record {
      counting = flag s 0;
      passback = field 2 1 s;
      upper_limit = field 8 4 s;
      lower_limit = field 12 4 s;
      passback_timeout = field 16 4 s;
    }

-- ── "Kind 2, point."

-- "Flags: 0 out of service, 1 upper enforced, 2 lower enforced, 3 count adjust, 4 muster. 2: mode .. 3: factors wanted .. 8 Zone_To,
-- 12 Zone_From .. 16 threat level .. 17 most failures .. 18 factor timeout (2, seconds), 20 lockout relinquish (4), 24 failure window (4)."
unfoldable pub point_of : List ℕ → Point
point_of s =
    record {
      out_of_service = flag s 0;
      upper_enforced = flag s 1;
      lower_enforced = flag s 2;
      count_adjust = flag s 3;
      muster = flag s 4;
      mode = field 2 1 s;
      factors_wanted = field 3 1 s;
      zone_to = zone_id (reference 8 s);
      zone_from = zone_id (reference 12 s);
      threat_level = field 16 1 s;
      most_failures = field 17 1 s;
      factor_timeout = field 18 2 s;
      lockout_relinquish = field 20 4 s;
      failure_window = field 24 4 s;
    }

-- ── "Kind 3, rule; instance is its rights number."

-- "Flags: 0 enabled".
abbrev pub enabled : List ℕ → Bool
enabled s = flag s 0

-- "1 negative".
abbrev pub negative : List ℕ → Bool
negative s = flag s 1

-- "2 always".
abbrev pub always : List ℕ → Bool
always s = flag s 2

-- "3 everywhere".
abbrev pub everywhere : List ℕ → Bool
everywhere s = flag s 3

-- "2: location kind 1 zone or 2 point."
abbrev pub location_kind : List ℕ → ℕ
location_kind s = field 2 1 s

-- "3: days, bit 0 Monday to bit 6 Sunday."
abbrev pub weekdays : List ℕ → ℕ
weekdays s = field 3 1 s

-- "8 location (4)."
abbrev pub location : List ℕ → ℕ
location s = field 8 4 s

-- "12 from".
abbrev pub from_minute : List ℕ → ℕ
from_minute s = field 12 2 s

-- "14 to, minutes (2 each)".
abbrev pub to_minute : List ℕ → ℕ
to_minute s = field 14 2 s

-- ── "Kind 4, credential."

-- "2: disable".
abbrev pub disable_given : List ℕ → ℕ
disable_given s = field 2 1 s

-- "16 uses".
abbrev pub uses_given : List ℕ → ℕ
uses_given s = field 16 2 s

-- "18 days".
abbrev pub days_given : List ℕ → ℕ
days_given s = field 18 2 s

-- "Flags: 0 master, 1 passback and 2 occupancy exemption, 3 trace, 4 extended time .. 3: threat authority .. 8 activation, 12 expiry
-- (4 each) .. 20 absentee days .. 24 and 28 rights numbers or NONE." Document 02, job 4: "Credential offset 22 (1 byte, 0 unset) is the most wrong tries".
unfoldable pub credential_of : List ℕ → Credential
credential_of s =
    record {
      master = flag s 0;
      passback_exempt = flag s 1;
      occupancy_exempt = flag s 2;
      trace = flag s 3;
      extended_time = flag s 4;
      threat_authority = field 3 1 s;
      activation = field 8 4 s;
      expiry = field 12 4 s;
      absentee_days = field 20 2 s;
      most_wrong_tries = field 22 1 s;
      first_rights = rights_id (reference 24 s);
      second_rights = rights_id (reference 28 s);
    }

-- ── "Kind 5, factor; instance is its credential."

-- "2: role".
abbrev pub role : List ℕ → ℕ
role s = field 2 1 s

-- "3: disable".
abbrev pub factor_disable : List ℕ → ℕ
factor_disable s = field 3 1 s

-- "8 format".
abbrev pub format : List ℕ → ℕ
format s = field 8 1 s

-- "16 value; all eight value bytes".
abbrev pub value : List ℕ → List ℕ
value s = take 8 (drop 16 s)

-- ── "The lookup hands back the 32 bytes of the record itself: of any slice the first whole group with the kind and instance, else an
-- empty part." "Instances are numbered per object type, so zone 7 is never credential 7."

-- "with the kind and instance".
abbrev pub is_at : ℕ → ℕ → List ℕ → Bool
is_at k i s = eqb (kind s) k && eqb (instance s) i

-- The first record that passes a test, else the empty list.
abbrev pub find_in : (List ℕ → Bool) → List (List ℕ) → List ℕ
find_in q [] = []
find_in q (s ∷ ss) = if q s then s else find_in q ss

-- "of any slice the first whole group with the kind and instance, else an empty part".
unfoldable pub lookup : ℕ → ℕ → List ℕ → List ℕ
lookup k i site = find_in (is_at k i) (records site)
