-- A field read in a part is the whole's own at the part's place; and every reader reads one field.
use Prim.Native.Nat.{ℕ, ◌+◌, ◌/◌, ◌≤◌, ◌<◌}
use mathlib.Core.Path.{◌≡◌, refl, ap, ◌∙◌}
use mathlib.Core.List.{List, [], ◌∷◌}
use native.Mathlib.Nat.{add-zero, div-mul-le_self}
use native.Mathlib.Omega.{arith}
use lib.Dec.{lit≤, eqb}
use lib.ListN.{length, take, drop, length-take, length-drop}
use Rattle.octets.specs.Octets.{field}
use Rattle.octets.proofs.Laws.{field_part}
use Rattle.octets.proofs.GroupLaws.{length_group}
use Rattle.octets.proofs.InPlace.{bytes_in_place, field_in_place}
use Rattle.model.specs.Words.{bit}
use Rattle.model.specs.Site.{zone_id, point_id, credential_id, rights_id, flags, flag, reference, zone_of, point_of, credential_of}
use Rattle.model.specs.Accept.{clear}
use Rattle.model.specs.State.{point_state_of, credential_state_of}
use Rattle.model.specs.Entry.{entry_of}
use Rattle.model.specs.InPlace.{part_of, Reads, number_in, bit_in, SiteReaders, StateReaders, EntryReaders}
use Rattle.model.specs.Demands as demands

pub in_place : demands.InPlace
unfolding demands.InPlace part_of
in_place size i at width bytes h k =
    (bytes_in_place size (length bytes / size) i at width bytes h k, field_in_place size (length bytes / size) i at width bytes h k)

-- A part of which there is an i-th has its size.
length_part : (size i : ℕ) (bytes : List ℕ) → i < length bytes / size → length (part_of size i bytes) ≡ size
unfolding part_of
length_part size i bytes h = length_group size (length bytes / size) i bytes h (div-mul-le_self (length bytes) size)

pub read_in_place : demands.ReadInPlace
unfolding demands.ReadInPlace demands.InPlace
read_in_place A size at width read value r i bytes h =
    r.1 (part_of size i bytes) (length_part size i bytes h) ∙ ap value (in_place size i at width bytes h r.0).0

-- The number in the bytes of a field is the field.
number : (at width : ℕ) (s : List ℕ) → at + width ≤ length s → field at width s ≡ number_in (take width (drop at s))
unfolding number_in
number at width s h =
    let l : length (take width (drop at s)) ≡ width = simp (length-take, length-drop) (omega arith) in
    rw (l, field_part 0 width at width s (omega arith), add-zero at)

-- A reader reads the number in its bytes, or what is made of it.
reads_number : (size at width : ℕ) → at + width ≤ size → Reads size at width (field at width) number_in
reads_number size at width h = (h, λ s l. number at width s (omega arith))

reads_made : {A : Type 0} (size at width : ℕ) (f : ℕ → A) (read : List ℕ → ℕ) → Reads size at width read number_in → Reads size at width (λ s. f (read s)) (λ b. f (number_in b))
reads_made size at width f read r = (r.0, λ s l. ap f (r.1 s l))

-- A flag of a record, and what a record names.
reads_flag : (i : ℕ) → Reads 32 1 1 (λ s. flag s i) (bit_in i)
reads_flag i = reads_made 32 1 1 (λ n. bit n i) flags (reads_number 32 1 1 (lit≤ tt))

found : (at : ℕ) (s : List ℕ) → length s ≡ 32 → reference at s ≡ field at 4 s
unfolding reference
found at [] l = absurd (omega arith)
found at (x ∷ s) l = refl

reads_reference : (at : ℕ) → at + 4 ≤ 32 → Reads 32 at 4 (reference at) number_in
reads_reference at h = (h, λ s l. found at s l ∙ number at 4 s (omega arith))

pub site_readers : SiteReaders
unfolding zone_of point_of credential_of clear
site_readers =
    record {
      kind_of = reads_number 32 0 1 (lit≤ tt);
      flags_of = reads_number 32 1 1 (lit≤ tt);
      instance_of = reads_number 32 4 4 (lit≤ tt);
      zone_of_counting = reads_flag 0;
      zone_of_passback = reads_number 32 2 1 (lit≤ tt);
      zone_of_upper_limit = reads_number 32 8 4 (lit≤ tt);
      zone_of_lower_limit = reads_number 32 12 4 (lit≤ tt);
      zone_of_passback_timeout = reads_number 32 16 4 (lit≤ tt);
      is_out_of_service = reads_flag 0;
      point_of_upper_enforced = reads_flag 1;
      point_of_lower_enforced = reads_flag 2;
      point_of_count_adjust = reads_flag 3;
      point_of_muster = reads_flag 4;
      mode_of = reads_number 32 2 1 (lit≤ tt);
      factors_wanted_of = reads_number 32 3 1 (lit≤ tt);
      zone_to_of = reads_made 32 8 4 zone_id (reference 8) (reads_reference 8 (lit≤ tt));
      zone_from_of = reads_made 32 12 4 zone_id (reference 12) (reads_reference 12 (lit≤ tt));
      threat_level_of = reads_number 32 16 1 (lit≤ tt);
      most_failures_of = reads_number 32 17 1 (lit≤ tt);
      point_of_factor_timeout = reads_number 32 18 2 (lit≤ tt);
      point_of_lockout_relinquish = reads_number 32 20 4 (lit≤ tt);
      point_of_failure_window = reads_number 32 24 4 (lit≤ tt);
      is_enabled = reads_flag 0;
      is_negative = reads_flag 1;
      is_always = reads_flag 2;
      is_everywhere = reads_flag 3;
      location_kind_of = reads_number 32 2 1 (lit≤ tt);
      weekdays_of = reads_number 32 3 1 (lit≤ tt);
      location_of = reads_number 32 8 4 (lit≤ tt);
      from_minute_of = reads_number 32 12 2 (lit≤ tt);
      to_minute_of = reads_number 32 14 2 (lit≤ tt);
      credential_of_master = reads_flag 0;
      credential_of_passback_exempt = reads_flag 1;
      credential_of_occupancy_exempt = reads_flag 2;
      credential_of_trace = reads_flag 3;
      credential_of_extended_time = reads_flag 4;
      disable_given = reads_number 32 2 1 (lit≤ tt);
      threat_authority_of = reads_number 32 3 1 (lit≤ tt);
      credential_of_activation = reads_number 32 8 4 (lit≤ tt);
      credential_of_expiry = reads_number 32 12 4 (lit≤ tt);
      uses_given = reads_number 32 16 2 (lit≤ tt);
      days_given = reads_number 32 18 2 (lit≤ tt);
      credential_of_absentee_days = reads_number 32 20 2 (lit≤ tt);
      most_wrong_tries_of = reads_number 32 22 1 (lit≤ tt);
      first_rights_of = reads_made 32 24 4 rights_id (reference 24) (reads_reference 24 (lit≤ tt));
      second_rights_of = reads_made 32 28 4 rights_id (reference 28) (reads_reference 28 (lit≤ tt));
      role_of = reads_number 32 2 1 (lit≤ tt);
      factor_disable_of = reads_number 32 3 1 (lit≤ tt);
      format_of = reads_number 32 8 1 (lit≤ tt);
      has_value = (lit≤ tt, λ s l. refl);
      is_clear = λ at width h. (h, λ s l. refl);
    }

pub state_readers : StateReaders
unfolding point_state_of credential_state_of
state_readers =
    record {
      count_of = reads_number 32 0 4 (lit≤ tt);
      tag_of = reads_number 32 0 4 (lit≤ tt);
      point_state_of_failures = reads_number 32 4 1 (lit≤ tt);
      locked_byte_of = reads_number 32 5 1 (lit≤ tt);
      point_state_of_locked = reads_made 32 5 1 (λ n. eqb n 1) (field 5 1) (reads_number 32 5 1 (lit≤ tt));
      point_state_of_lock_time = reads_number 32 8 4 (lit≤ tt);
      point_state_of_first_failure = reads_number 32 12 4 (lit≤ tt);
      point_state_of_waiting_credential = reads_made 32 16 4 credential_id (reference 16) (reads_reference 16 (lit≤ tt));
      point_state_of_waiting_since = reads_number 32 20 4 (lit≤ tt);
      credential_state_of_uses = reads_number 32 0 2 (lit≤ tt);
      credential_state_of_days = reads_number 32 2 2 (lit≤ tt);
      credential_state_of_last_use = reads_number 32 4 4 (lit≤ tt);
      credential_zone_of = reads_made 32 8 4 zone_id (reference 8) (reads_reference 8 (lit≤ tt));
      credential_state_of_entered = reads_number 32 12 4 (lit≤ tt);
      credential_state_of_last_event = reads_number 32 16 2 (lit≤ tt);
      credential_disable_of = reads_number 32 18 1 (lit≤ tt);
      wrong_tries_of = reads_number 32 19 1 (lit≤ tt);
      last_point_of = reads_made 32 20 4 point_id (reference 20) (reads_reference 20 (lit≤ tt));
      credential_state_of_last_grant = reads_number 32 24 4 (lit≤ tt);
    }

pub entry_readers : EntryReaders
unfolding entry_of
entry_readers =
    record {
      entry_of_operation = reads_number 24 0 1 (lit≤ tt);
      entry_of_argument = reads_number 24 1 1 (lit≤ tt);
      entry_of_spare = reads_number 24 2 2 (lit≤ tt);
      entry_of_time = reads_number 24 4 4 (lit≤ tt);
      entry_of_instance = reads_number 24 8 4 (lit≤ tt);
      entry_of_amount = reads_number 24 12 4 (lit≤ tt);
      entry_of_value = (lit≤ tt, λ s l. refl);
    }
