-- The numbers of document 01 by name. Events, modes and formats have the names that BACnet (source 002) gives them.
use Rattle.std.specs.Prelude.{ℕ}

-- ── "NONE is instance 4,194,303; real instances are smaller. Times are seconds from a Monday 00:00; 4,294,967,295 marks
-- never (or end of time)." "65,535 unlimited, absent".
abbrev pub NONE : ℕ
NONE = 4194303

abbrev pub NEVER : ℕ
NEVER = 4294967295

abbrev pub UNLIMITED : ℕ
UNLIMITED = 65535

-- The largest count, and one above the largest number of four bytes, by which tags and signed amounts turn over.
abbrev pub largest_count : ℕ
largest_count = 4294967295

abbrev pub modulus : ℕ
modulus = 4294967296

-- Amounts from here on are negative.
abbrev pub first_negative : ℕ
first_negative = 2147483648

-- ── seconds, minutes, days

abbrev pub seconds_of_minute : ℕ
seconds_of_minute = 60

abbrev pub minutes_of_day : ℕ
minutes_of_day = 1440

abbrev pub seconds_of_day : ℕ
seconds_of_day = 86400

abbrev pub days_of_week : ℕ
days_of_week = 7

abbrev pub monday : ℕ
monday = 0

abbrev pub sunday : ℕ
sunday = 6

-- ── bytes: "site records, 32 bytes each", "at most 2,000"; "entries, 24 bytes; answers, 16 bytes"; "above 65,520"

abbrev pub record_size : ℕ
record_size = 32

abbrev pub largest_site : ℕ
largest_site = 64000

abbrev pub entry_size : ℕ
entry_size = 24

abbrev pub answer_size : ℕ
answer_size = 16

abbrev pub largest_journal : ℕ
largest_journal = 65520

-- ── kinds of site records

abbrev pub access_zone : ℕ
access_zone = 1

abbrev pub access_point : ℕ
access_point = 2

abbrev pub access_rule : ℕ
access_rule = 3

abbrev pub access_credential : ℕ
access_credential = 4

abbrev pub authentication_factor : ℕ
authentication_factor = 5

-- ── enumerations of their fields

abbrev pub passback_hard : ℕ
passback_hard = 1

abbrev pub passback_soft : ℕ
passback_soft = 2

abbrev pub mode_authorize : ℕ
mode_authorize = 0

abbrev pub mode_deny_all : ℕ
mode_deny_all = 2

abbrev pub two_factors : ℕ
two_factors = 2

abbrev pub disable_disabled : ℕ
disable_disabled = 1

abbrev pub disable_manual : ℕ
disable_manual = 2

abbrev pub disable_lockout : ℕ
disable_lockout = 3

abbrev pub largest_disable : ℕ
largest_disable = 3

abbrev pub largest_threat : ℕ
largest_threat = 100

abbrev pub role_identifying : ℕ
role_identifying = 1

abbrev pub role_confirming : ℕ
role_confirming = 2

abbrev pub factor_disabled : ℕ
factor_disabled = 1

abbrev pub factor_lost : ℕ
factor_lost = 2

abbrev pub factor_stolen : ℕ
factor_stolen = 3

abbrev pub factor_damaged : ℕ
factor_damaged = 4

abbrev pub factor_destroyed : ℕ
factor_destroyed = 5

abbrev pub format_undefined : ℕ
format_undefined = 0

abbrev pub format_error : ℕ
format_error = 1

-- ── arguments of operation 5

abbrev pub argument_lock : ℕ
argument_lock = 1

-- ── events

abbrev pub no_event : ℕ
no_event = 0

abbrev pub granted : ℕ
granted = 1

abbrev pub lockout_other : ℕ
lockout_other = 7

abbrev pub lockout_relinquished : ℕ
lockout_relinquished = 8

abbrev pub denied_deny_all : ℕ
denied_deny_all = 128

abbrev pub denied_unknown_credential : ℕ
denied_unknown_credential = 129

abbrev pub denied_authentication_factor_timeout : ℕ
denied_authentication_factor_timeout = 131

abbrev pub denied_incorrect_authentication_factor : ℕ
denied_incorrect_authentication_factor = 132

abbrev pub denied_zone_no_access_rights : ℕ
denied_zone_no_access_rights = 133

abbrev pub denied_point_no_access_rights : ℕ
denied_point_no_access_rights = 134

abbrev pub denied_no_access_rights : ℕ
denied_no_access_rights = 135

abbrev pub denied_out_of_time_range : ℕ
denied_out_of_time_range = 136

abbrev pub denied_threat_level : ℕ
denied_threat_level = 137

abbrev pub denied_passback : ℕ
denied_passback = 138

abbrev pub denied_lower_occupancy_limit : ℕ
denied_lower_occupancy_limit = 141

abbrev pub denied_upper_occupancy_limit : ℕ
denied_upper_occupancy_limit = 142

abbrev pub denied_authentication_factor_lost : ℕ
denied_authentication_factor_lost = 143

abbrev pub denied_authentication_factor_stolen : ℕ
denied_authentication_factor_stolen = 144

abbrev pub denied_authentication_factor_damaged : ℕ
denied_authentication_factor_damaged = 145

abbrev pub denied_authentication_factor_destroyed : ℕ
denied_authentication_factor_destroyed = 146

abbrev pub denied_authentication_factor_disabled : ℕ
denied_authentication_factor_disabled = 147

abbrev pub denied_authentication_factor_error : ℕ
denied_authentication_factor_error = 148

abbrev pub denied_credential_not_yet_active : ℕ
denied_credential_not_yet_active = 151

abbrev pub denied_credential_expired : ℕ
denied_credential_expired = 152

abbrev pub denied_credential_manual_disable : ℕ
denied_credential_manual_disable = 153

abbrev pub denied_credential_lockout : ℕ
denied_credential_lockout = 154

abbrev pub denied_credential_max_days : ℕ
denied_credential_max_days = 155

abbrev pub denied_credential_max_uses : ℕ
denied_credential_max_uses = 156

abbrev pub denied_credential_inactivity : ℕ
denied_credential_inactivity = 157

abbrev pub denied_credential_disabled : ℕ
denied_credential_disabled = 158

abbrev pub denied_lockout : ℕ
denied_lockout = 161

abbrev pub denied_other : ℕ
denied_other = 164

-- ── "2 marks: 1 factor read, 2 trace, 4 passback detected, 8 muster, 16 lockout by failures, 32 extended unlock, 64 lockout
-- relinquished"

abbrev pub mark_factor_read : ℕ
mark_factor_read = 1

abbrev pub mark_trace : ℕ
mark_trace = 2

abbrev pub mark_passback_detected : ℕ
mark_passback_detected = 4

abbrev pub mark_muster : ℕ
mark_muster = 8

abbrev pub mark_lockout_max_attempts : ℕ
mark_lockout_max_attempts = 16

abbrev pub mark_extended_unlock : ℕ
mark_extended_unlock = 32

abbrev pub mark_lockout_relinquished : ℕ
mark_lockout_relinquished = 64

-- ── refusals in an answer. Those of a whole input are in Calls.

abbrev pub not_refused : ℕ
not_refused = 0

abbrev pub refused_form : ℕ
refused_form = 7

abbrev pub refused_no_object : ℕ
refused_no_object = 8

abbrev pub refused_count : ℕ
refused_count = 9
