-- The fields of records by the names and at the offsets of document 01, to be given other numbers.
use Prim.Native.Nat.{ℕ}
use Rattle.cases.proofs.Change.{Field}

-- Site records: "0 kind, 1 flags (bit 0 lowest), 4 instance (4 bytes)".
abbrev pub flags : ℕ → Field
flags v = (1, 1, v)

abbrev pub instance : ℕ → Field
instance v = (4, 4, v)

-- Zone: "2: passback .. 8 upper limit, 12 lower limit, 16 passback timeout in minutes".
abbrev pub passback : ℕ → Field
passback v = (2, 1, v)

abbrev pub upper : ℕ → Field
upper v = (8, 4, v)

abbrev pub lower : ℕ → Field
lower v = (12, 4, v)

abbrev pub passback_timeout : ℕ → Field
passback_timeout v = (16, 4, v)

-- Point: "2: mode .. 3: factors wanted .. 8 Zone_To, 12 Zone_From .. 16 threat level .. 17 most failures .. 18 factor timeout, 20 lockout
-- relinquish, 24 failure window".
abbrev pub mode : ℕ → Field
mode v = (2, 1, v)

abbrev pub factors_wanted : ℕ → Field
factors_wanted v = (3, 1, v)

abbrev pub zone_to_field : ℕ → Field
zone_to_field v = (8, 4, v)

abbrev pub zone_from_field : ℕ → Field
zone_from_field v = (12, 4, v)

abbrev pub threat : ℕ → Field
threat v = (16, 1, v)

abbrev pub most : ℕ → Field
most v = (17, 1, v)

abbrev pub factor_timeout : ℕ → Field
factor_timeout v = (18, 2, v)

abbrev pub relinquish : ℕ → Field
relinquish v = (20, 4, v)

abbrev pub window : ℕ → Field
window v = (24, 4, v)

-- Rule: "2: location kind .. 3: days .. 8 location .. 12 from, 14 to".
abbrev pub location_kind_field : ℕ → Field
location_kind_field v = (2, 1, v)

abbrev pub weekdays : ℕ → Field
weekdays v = (3, 1, v)

abbrev pub location : ℕ → Field
location v = (8, 4, v)

abbrev pub from_minute_field : ℕ → Field
from_minute_field v = (12, 2, v)

abbrev pub to_minute_field : ℕ → Field
to_minute_field v = (14, 2, v)

-- Credential: "2: disable .. 3: threat authority .. 8 activation, 12 expiry .. 16 uses, 18 days, 20 absentee days .. 24 and 28 rights numbers"; document 02,
-- job 4: "Credential offset 22 (1 byte, 0 unset) is the most wrong tries".
abbrev pub disable : ℕ → Field
disable v = (2, 1, v)

abbrev pub authority : ℕ → Field
authority v = (3, 1, v)

abbrev pub activation : ℕ → Field
activation v = (8, 4, v)

abbrev pub expiry : ℕ → Field
expiry v = (12, 4, v)

abbrev pub uses_given : ℕ → Field
uses_given v = (16, 2, v)

abbrev pub days_given : ℕ → Field
days_given v = (18, 2, v)

abbrev pub absentee : ℕ → Field
absentee v = (20, 2, v)

abbrev pub most_tries_field : ℕ → Field
most_tries_field v = (22, 1, v)

abbrev pub first_rights : ℕ → Field
first_rights v = (24, 4, v)

abbrev pub second_rights : ℕ → Field
second_rights v = (28, 4, v)

-- Factor: "3: disable .. 16 value".
abbrev pub factor_disable_field : ℕ → Field
factor_disable_field v = (3, 1, v)

abbrev pub value : ℕ → Field
value v = (16, 8, v)

-- State of a point: "0 tag, 4 failures, 5 locked, 8 lock time, 12 first failure, 16 waiting credential, 20 waiting since".
abbrev pub tag : ℕ → Field
tag v = (0, 4, v)

abbrev pub failures : ℕ → Field
failures v = (4, 1, v)

abbrev pub locked : ℕ → Field
locked v = (5, 1, v)

abbrev pub lock_time : ℕ → Field
lock_time v = (8, 4, v)

abbrev pub waiting_for : ℕ → Field
waiting_for v = (16, 4, v)

abbrev pub waiting_since : ℕ → Field
waiting_since v = (20, 4, v)

-- Of a credential: "0 uses, 2 days, 4 last use, 8 zone, 12 entered, 16 last event, 18 disable, 20 last point"; document 02: "The
-- credential's state gains the count at offset 19", "last grant at offset 24".
abbrev pub uses : ℕ → Field
uses v = (0, 2, v)

abbrev pub days : ℕ → Field
days v = (2, 2, v)

abbrev pub last_use : ℕ → Field
last_use v = (4, 4, v)

abbrev pub in_zone : ℕ → Field
in_zone v = (8, 4, v)

abbrev pub entered : ℕ → Field
entered v = (12, 4, v)

abbrev pub disabled : ℕ → Field
disabled v = (18, 1, v)

abbrev pub tries : ℕ → Field
tries v = (19, 1, v)

abbrev pub last_point : ℕ → Field
last_point v = (20, 4, v)

abbrev pub last_grant_field : ℕ → Field
last_grant_field v = (24, 4, v)
