-- Document 02, job 2, "Records read in their place": "the rule walk reads fields out of the lent record, and reading from any record's 32-byte part of a site
-- is shown to give that record's bytes at the field's offset, for all fields together." What a part is, what a reader reads of it, and all readers.
use Rattle.std.specs.Prelude.{ℕ, ◌+◌, ◌/◌, ◌≤◌, ◌≡◌, List, [], Bool, eqb, length, take, drop, get_or}
use Rattle.octets.specs.Octets.{field, groups, same}
use Rattle.model.specs.Words.{bit, zeros}
use Rattle.model.specs.Numbers.{record_size, entry_size}
use Rattle.model.specs.Site as Site
use Rattle.model.specs.Site.{zone_id, point_id, credential_id, rights_id, zone_of, point_of, credential_of}
use Rattle.model.specs.Accept.{clear}
use Rattle.model.specs.State as State
use Rattle.model.specs.State.{point_state_of, credential_state_of}
use Rattle.model.specs.Entry.{entry_of}

-- The i-th part of `size` bytes: a site's record or a state's is one of 32, a journal's entry one of 24.
unfoldable pub part_of : ℕ → ℕ → List ℕ → List ℕ
part_of size i bytes = get_or (groups size (length bytes / size) bytes) i []

-- What `read` reads of a part of `size` bytes is what `value` makes of its `width` bytes from `at` on, and of no other.
abbrev pub Reads : {A : Type 0} → ℕ → ℕ → ℕ → (List ℕ → A) → (List ℕ → A) → Type 0
Reads size at width read value =
    (at + width ≤ size) × ((part : List ℕ) → length part ≡ size → read part ≡ value (take width (drop at part)))

-- What is made of bytes: their number, a bit of it, bit 0 the lowest.
unfoldable pub number_in : List ℕ → ℕ
number_in bytes = field 0 (length bytes) bytes

abbrev pub bit_in : ℕ → List ℕ → Bool
bit_in i bytes = bit (number_in bytes) i

-- The readers of site records, by the names of crates/records, each with its offset and width.
pub record SiteReaders : Type 0 where
  pub kind_of : Reads record_size 0 1 Site.kind number_in
  pub flags_of : Reads record_size 1 1 Site.flags number_in
  pub instance_of : Reads record_size 4 4 Site.instance number_in
  pub zone_of_counting : Reads record_size 1 1 (λ s. (zone_of s).counting) (bit_in 0)
  pub zone_of_passback : Reads record_size 2 1 (λ s. (zone_of s).passback) number_in
  pub zone_of_upper_limit : Reads record_size 8 4 (λ s. (zone_of s).upper_limit) number_in
  pub zone_of_lower_limit : Reads record_size 12 4 (λ s. (zone_of s).lower_limit) number_in
  pub zone_of_passback_timeout : Reads record_size 16 4 (λ s. (zone_of s).passback_timeout) number_in
  pub is_out_of_service : Reads record_size 1 1 (λ s. (point_of s).out_of_service) (bit_in 0)
  pub point_of_upper_enforced : Reads record_size 1 1 (λ s. (point_of s).upper_enforced) (bit_in 1)
  pub point_of_lower_enforced : Reads record_size 1 1 (λ s. (point_of s).lower_enforced) (bit_in 2)
  pub point_of_count_adjust : Reads record_size 1 1 (λ s. (point_of s).count_adjust) (bit_in 3)
  pub point_of_muster : Reads record_size 1 1 (λ s. (point_of s).muster) (bit_in 4)
  pub mode_of : Reads record_size 2 1 (λ s. (point_of s).mode) number_in
  pub factors_wanted_of : Reads record_size 3 1 (λ s. (point_of s).factors_wanted) number_in
  pub zone_to_of : Reads record_size 8 4 (λ s. (point_of s).zone_to) (λ b. zone_id (number_in b))
  pub zone_from_of : Reads record_size 12 4 (λ s. (point_of s).zone_from) (λ b. zone_id (number_in b))
  pub threat_level_of : Reads record_size 16 1 (λ s. (point_of s).threat_level) number_in
  pub most_failures_of : Reads record_size 17 1 (λ s. (point_of s).most_failures) number_in
  pub point_of_factor_timeout : Reads record_size 18 2 (λ s. (point_of s).factor_timeout) number_in
  pub point_of_lockout_relinquish : Reads record_size 20 4 (λ s. (point_of s).lockout_relinquish) number_in
  pub point_of_failure_window : Reads record_size 24 4 (λ s. (point_of s).failure_window) number_in
  pub is_enabled : Reads record_size 1 1 Site.enabled (bit_in 0)
  pub is_negative : Reads record_size 1 1 Site.negative (bit_in 1)
  pub is_always : Reads record_size 1 1 Site.always (bit_in 2)
  pub is_everywhere : Reads record_size 1 1 Site.everywhere (bit_in 3)
  pub location_kind_of : Reads record_size 2 1 Site.location_kind number_in
  pub weekdays_of : Reads record_size 3 1 Site.weekdays number_in
  pub location_of : Reads record_size 8 4 Site.location number_in
  pub from_minute_of : Reads record_size 12 2 Site.from_minute number_in
  pub to_minute_of : Reads record_size 14 2 Site.to_minute number_in
  pub credential_of_master : Reads record_size 1 1 (λ s. (credential_of s).master) (bit_in 0)
  pub credential_of_passback_exempt : Reads record_size 1 1 (λ s. (credential_of s).passback_exempt) (bit_in 1)
  pub credential_of_occupancy_exempt : Reads record_size 1 1 (λ s. (credential_of s).occupancy_exempt) (bit_in 2)
  pub credential_of_trace : Reads record_size 1 1 (λ s. (credential_of s).trace) (bit_in 3)
  pub credential_of_extended_time : Reads record_size 1 1 (λ s. (credential_of s).extended_time) (bit_in 4)
  pub disable_given : Reads record_size 2 1 Site.disable_given number_in
  pub threat_authority_of : Reads record_size 3 1 (λ s. (credential_of s).threat_authority) number_in
  pub credential_of_activation : Reads record_size 8 4 (λ s. (credential_of s).activation) number_in
  pub credential_of_expiry : Reads record_size 12 4 (λ s. (credential_of s).expiry) number_in
  pub uses_given : Reads record_size 16 2 Site.uses_given number_in
  pub days_given : Reads record_size 18 2 Site.days_given number_in
  pub credential_of_absentee_days : Reads record_size 20 2 (λ s. (credential_of s).absentee_days) number_in
  pub most_wrong_tries_of : Reads record_size 22 1 (λ s. (credential_of s).most_wrong_tries) number_in
  pub first_rights_of : Reads record_size 24 4 (λ s. (credential_of s).first_rights) (λ b. rights_id (number_in b))
  pub second_rights_of : Reads record_size 28 4 (λ s. (credential_of s).second_rights) (λ b. rights_id (number_in b))
  pub role_of : Reads record_size 2 1 Site.role number_in
  pub factor_disable_of : Reads record_size 3 1 Site.factor_disable number_in
  pub format_of : Reads record_size 8 1 Site.format number_in
  pub has_value : Reads record_size 16 8 Site.value (λ b. b)
  pub is_clear : (at width : ℕ) → at + width ≤ record_size → Reads record_size at width (clear at width) (λ b. same b (zeros width))

-- Those of state records.
pub record StateReaders : Type 0 where
  pub count_of : Reads record_size 0 4 State.count number_in
  pub tag_of : Reads record_size 0 4 (λ t. (point_state_of t).tag) number_in
  pub point_state_of_failures : Reads record_size 4 1 (λ t. (point_state_of t).failures) number_in
  pub locked_byte_of : Reads record_size 5 1 State.locked_byte number_in
  pub point_state_of_locked : Reads record_size 5 1 (λ t. (point_state_of t).locked) (λ b. eqb (number_in b) 1)
  pub point_state_of_lock_time : Reads record_size 8 4 (λ t. (point_state_of t).lock_time) number_in
  pub point_state_of_first_failure : Reads record_size 12 4 (λ t. (point_state_of t).first_failure) number_in
  pub point_state_of_waiting_credential : Reads record_size 16 4 (λ t. (point_state_of t).waiting_credential) (λ b. credential_id (number_in b))
  pub point_state_of_waiting_since : Reads record_size 20 4 (λ t. (point_state_of t).waiting_since) number_in
  pub credential_state_of_uses : Reads record_size 0 2 (λ t. (credential_state_of t).uses) number_in
  pub credential_state_of_days : Reads record_size 2 2 (λ t. (credential_state_of t).days) number_in
  pub credential_state_of_last_use : Reads record_size 4 4 (λ t. (credential_state_of t).last_use) number_in
  pub credential_zone_of : Reads record_size 8 4 (λ t. (credential_state_of t).zone) (λ b. zone_id (number_in b))
  pub credential_state_of_entered : Reads record_size 12 4 (λ t. (credential_state_of t).entered) number_in
  pub credential_state_of_last_event : Reads record_size 16 2 (λ t. (credential_state_of t).last_event) number_in
  pub credential_disable_of : Reads record_size 18 1 (λ t. (credential_state_of t).disable) number_in
  pub wrong_tries_of : Reads record_size 19 1 (λ t. (credential_state_of t).wrong_tries) number_in
  pub last_point_of : Reads record_size 20 4 (λ t. (credential_state_of t).last_point) (λ b. point_id (number_in b))
  pub credential_state_of_last_grant : Reads record_size 24 4 (λ t. (credential_state_of t).last_grant) number_in

-- Those of entries.
pub record EntryReaders : Type 0 where
  pub entry_of_operation : Reads entry_size 0 1 (λ b. (entry_of b).operation) number_in
  pub entry_of_argument : Reads entry_size 1 1 (λ b. (entry_of b).argument) number_in
  pub entry_of_spare : Reads entry_size 2 2 (λ b. (entry_of b).spare) number_in
  pub entry_of_time : Reads entry_size 4 4 (λ b. (entry_of b).time) number_in
  pub entry_of_instance : Reads entry_size 8 4 (λ b. (entry_of b).instance) number_in
  pub entry_of_amount : Reads entry_size 12 4 (λ b. (entry_of b).amount) number_in
  pub entry_of_value : Reads entry_size 16 8 (λ b. (entry_of b).value) (λ b. b)
