-- One name that opens every definition up to the lists of runs, for what is computed.
use mathlib.Core.List.{flatten}
use Rattle.octets.specs.Octets.{field, digits, groups, same}
use Rattle.model.specs.Site.{records, reference, zone_of, point_of, credential_of, lookup}
use Rattle.model.specs.Accept.{clear, zone_in_range, point_in_range, rule_in_range, credential_in_range, factor_in_range, in_range, twin_factors, twins, twice, exists, none_or_exists, names_exist}
use Rattle.model.specs.State.{zone_bytes, point_state_of, point_bytes, credential_state_of, credential_bytes, kept, state_size, paired, panel, state_length, state_place, state_of, find, seek, store, write, fresh_point, fresh_with, fresh_credential, fresh_record, fresh, zone_well, below_most, point_well, credential_well, record_well, well_formed}
use Rattle.model.specs.Entry.{entry_of, entries, answer_bytes, operation_of, no_amount, no_value, in_form}
use Rattle.model.specs.Checks.{relinquished, still_locked, waiting, overdue, presents, identifying, confirming, factor_for, credential_read, disabled_factor, first_of_two, authentication_of, inactive, validity_of, enabled_rule, location_fits, weekday, weekday_before, minute_of_day, crosses_midnight, fits_within_day, fits_past_midnight, time_fits, verdict, passback_violated, at_lower_limit, at_upper_limit, authorization_of, passage, permission, entitlement, event_of}
use Rattle.model.specs.Effects.{next_tag, named, is_failure, failures_before, is_first_failure, failures_with, locks_out, point_after, is_wrong_try, wrong_tries_with, reaches_most, wrong_tries_after, disable_reached, counts, count_after, zone_after, uses_after, date, loses_day, days_after, credential_after, soft_passback, credential_marks, marks, answer_with, outcome_with, outcome_of}
use Rattle.model.specs.Step.{unchanged, refuse, factor_read, number_read, zone_to, zone_from, credential_at, situation_of, rules_at, factor_outcome, count_outcome, is_negative, adjusted, adjust_outcome, disable_after, disable_outcome, locks, service_after, service_outcome, outcome_as, entry_outcome, apply, panels, after, answers}
use Rattle.model.specs.Calls.{is_worked, check_site, fresh_returned, fresh_state, check_state, run_returned, run_journal}
use Rattle.model.specs.Lists.{run_on, state_after, results, returns, answers_in, worked_by, worked_in, begun, ended, worked, first_of}
use Rattle.model.specs.Longer.{long_panel, long_fresh_record, long_fresh, long_record_well, long_well_formed, check_long_state, long_run_on, long_results, shorter, long_record, longer, with_shorter, shorten_returned, shorten_state, lengthen_returned, lengthen_state}
use Rattle.model.specs.Print.{hex_digit, hex_byte, hex_line, answers_text, decimal_line, from_fresh, print_journal}

unfoldable pub definitions : Unit {0}
unfolding flatten field digits groups same records reference zone_of point_of credential_of lookup clear zone_in_range point_in_range rule_in_range credential_in_range factor_in_range in_range twin_factors twins twice exists none_or_exists names_exist zone_bytes point_state_of point_bytes credential_state_of credential_bytes kept state_size paired panel state_length state_place state_of find seek store write fresh_point fresh_with fresh_credential fresh_record fresh zone_well below_most point_well credential_well record_well well_formed entry_of entries answer_bytes operation_of no_amount no_value in_form relinquished still_locked waiting overdue presents identifying confirming factor_for credential_read disabled_factor first_of_two authentication_of inactive validity_of enabled_rule location_fits weekday weekday_before minute_of_day crosses_midnight fits_within_day fits_past_midnight time_fits verdict passback_violated at_lower_limit at_upper_limit authorization_of passage permission entitlement event_of next_tag named is_failure failures_before is_first_failure failures_with locks_out point_after is_wrong_try wrong_tries_with reaches_most wrong_tries_after disable_reached counts count_after zone_after uses_after date loses_day days_after credential_after soft_passback credential_marks marks answer_with outcome_with outcome_of unchanged refuse factor_read number_read zone_to zone_from credential_at situation_of rules_at factor_outcome count_outcome is_negative adjusted adjust_outcome disable_after disable_outcome locks service_after service_outcome outcome_as entry_outcome apply panels after answers is_worked check_site fresh_returned fresh_state check_state run_returned run_journal run_on state_after results returns answers_in worked_by worked_in begun ended worked first_of hex_digit hex_byte hex_line answers_text decimal_line from_fresh print_journal
definitions = tt

-- And those of the longer state.
unfoldable pub longs : Unit {0}
unfolding definitions long_panel long_fresh_record long_fresh long_record_well long_well_formed check_long_state long_run_on long_results shorter long_record longer with_shorter shorten_returned shorten_state lengthen_returned lengthen_state
longs = tt
