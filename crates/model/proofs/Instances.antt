-- The theorems of Demands at the small lists of Applied: what is asked can be met, and what is said is of these bytes.
use Prim.Native.Nat.{ℕ, ◌+◌}
use native.Mathlib.Omega.{arith}
use mathlib.Core.Path.{◌≡◌, refl, ap}
use mathlib.Core.List.{List, [], ◌∷◌, map, flatten}
use mathlib.Core.Bool.{true, ◌||◌}
use lib.Dec.{lit<, lit≤, ltb, eqb}
use lib.ListN.{take, drop, get_or}
use lib.IntN.{pos}
use Rattle.octets.specs.Octets.{field, put}
use Rattle.model.specs.Numbers.{NONE, NEVER, UNLIMITED}
use Rattle.model.specs.Site.{credential_id, records, location}
use Rattle.model.specs.State.{Pair, Panel, panel, sites, find, fresh}
use Rattle.model.specs.Entry.{entry_of}
use Rattle.model.specs.Checks.{time_fits}
use Rattle.model.specs.Step.{situation_of}
use Rattle.std.specs.Prelude.{Ok}
use Rattle.model.specs.Calls.{check_site, check_state}
use Rattle.model.specs.Lists.{results, Worked, begun, worked}
use Rattle.model.specs.Tally.{standing, tally_of, count_of}
use Rattle.model.specs.Part.{SelfContained, part_answers, part_state, others_left_out}
use Rattle.model.specs.Earned.{FittingRule, Earned}
use Rattle.model.specs.Shifts.{is_shift, following_days, until_midnight, since_midnight, stands_halved, stands_whole, Halved}
use Rattle.model.specs.DayPasses.{times_granted, dates_granted, days_in_site, state_left, last_of, days_taken, different}
use Rattle.model.specs.WrongTries.{most_tries, tried_of, tries_in, tries_since}
use Rattle.model.specs.InPlace.{part_of, number_in}
use Rattle.model.specs.Longer.{check_long_state, long_fresh, long_results, shorter, longer, with_shorter}
use Rattle.model.specs.Demands.{HalfState, ShorterWell, LongerWell, StateInPlace, InPlace, ReadInPlace, Count, Isolation, GrantEarned, ShiftHalves, SameShifts, FreshShifts, AcceptedShifts, LastGrant, DaysTaken, DaysOfAdmission, OthersLeftOut, WrongTries, GrantBelowMost}
use Rattle.model.proofs.Open.{definitions}
use Rattle.model.proofs.Build.{zone, point, credential, card, rule, read, run, examples}
use Rattle.model.proofs.Parts.{part, nothing, parts}
use Rattle.model.proofs.Applied.{hall, west, east, both_wings, west_alone, guest, passes, floor, codes, coded_wings, forgetful, mixed, mixed_runs, mixed_checked, mixtures}
use Rattle.model.proofs.Counted.{count_is_tally}
use Rattle.model.proofs.Isolation.{isolation}
use Rattle.model.proofs.LeftOut.{others_left_out_law}
use Rattle.model.proofs.Granted.{grant_earned}
use Rattle.model.proofs.Shifts.{shift_halves}
use Rattle.model.proofs.SameShifts.{same_shifts, fresh_shifts}
use Rattle.model.proofs.ShiftsAccepted.{accepted_shifts}
use Rattle.model.proofs.DayPasses.{last_grant_law, days_taken_law, days_of_admission, dates_never_fall}
use Rattle.model.proofs.WrongTries.{wrong_tries_law, grant_below_most}
use Rattle.model.proofs.Longer.{half_state, shorter_well_law, longer_well_law}
use Rattle.model.proofs.StatePlaces.{state_in_place}
use Rattle.model.proofs.InPlace.{in_place, read_in_place, site_readers}

-- The count of zone 9 in the hall.
pub hall_counted : pos (count_of 9 hall) ≡ standing (tally_of 9 hall)
unfolding definitions examples hall Count
hall_counted = count_is_tally hall 9 refl

-- The west wing is self-contained, beside the east wing and alone.
pub west_beside_east : SelfContained (part (λ i. eqb i 1) nothing) both_wings
unfolding definitions examples west east both_wings parts
west_beside_east = record { site = refl; reads = refl }

pub west_by_itself : SelfContained (part (λ i. eqb i 1) nothing) west_alone
unfolding definitions examples west west_alone parts
west_by_itself = record { site = refl; reads = refl }

-- So it gets the same answers, and ends in the same state.
pub wings_alike :
    (part_answers (part (λ i. eqb i 1) nothing) both_wings ≡ part_answers (part (λ i. eqb i 1) nothing) west_alone)
    × (part_state (part (λ i. eqb i 1) nothing) both_wings ≡ part_state (part (λ i. eqb i 1) nothing) west_alone)
unfolding definitions examples west east both_wings west_alone parts Isolation
wings_alike = isolation (part (λ i. eqb i 1) nothing) both_wings west_alone west_beside_east west_by_itself refl refl

-- Point 2 asks rule 9, which is positive from minute 10 to minute 20 on a Monday.
unfoldable pub ruled_door : List (List ℕ)
ruled_door = point 2 0 0 1 NONE NONE ∷ rule 9 1 2 10 20 ∷ credential 5 NEVER UNLIMITED 9 ∷ card 5 55 ∷ []

unfoldable pub door_panel : Panel
door_panel = panel (flatten ruled_door) (fresh (flatten ruled_door))

-- Card 55 is read at minute 10: the grant is earned, for credential 5.
pub door_earned : Earned door_panel (entry_of (read 2 600 55)) (credential_id 5)
unfolding definitions examples ruled_door door_panel GrantEarned
door_earned = (grant_earned (flatten ruled_door) (fresh (flatten ruled_door)) (run (read 2 600 55 ∷ [])) 0 refl (omega arith) refl).1

-- The credential is not master-exempt and the point is in AUTHORIZE: so a rule is named.
pub door_rule : FittingRule (situation_of door_panel (entry_of (read 2 600 55)) (find 2 2 door_panel)) (sites door_panel) (entry_of (read 2 600 55))
unfolding definitions examples ruled_door door_panel Earned
door_rule = (door_earned.authorized refl).fitting_rule refl

-- A shift at that door, from Monday 22:00 to Tuesday 6:00, and the site with it, and with its halves in other places.
unfoldable pub night : List ℕ
night = rule 9 1 2 1320 360

unfoldable pub one_rule : List ℕ
one_rule = flatten (night ∷ point 2 0 0 1 NONE NONE ∷ credential 5 NEVER UNLIMITED 9 ∷ card 5 55 ∷ [])

unfoldable pub two_rules : List ℕ
two_rules =
    flatten (since_midnight night ∷ point 2 0 0 1 NONE NONE ∷ credential 5 NEVER UNLIMITED 9 ∷ card 5 55 ∷ until_midnight night ∷ [])

-- One name that opens them, and the definitions of Shifts.
unfoldable shifts : Unit {0}
unfolding definitions examples put is_shift following_days until_midnight since_midnight stands_halved stands_whole night one_rule two_rules
shifts = tt

-- It fits exactly when one of its halves does.
pub night_fits : (time : ℕ) → time_fits time night ≡ time_fits time (until_midnight night) || time_fits time (since_midnight night)
unfolding shifts ShiftHalves
night_fits = (shift_halves night refl refl).0

-- The two sites get the same number, and start alike from fresh.
pub halved : Halved (records one_rule) (records two_rules)
unfolding shifts
halved = record { others = refl; halved = refl; whole = refl }

pub shifts_accepted : check_site one_rule ≡ check_site two_rules
unfolding shifts AcceptedShifts
shifts_accepted = accepted_shifts one_rule two_rules refl refl halved

pub shifts_begun : fresh one_rule ≡ fresh two_rules
unfolding FreshShifts
shifts_begun = fresh_shifts one_rule two_rules halved

-- So the card is answered alike, on Monday at 22:00 and on Tuesday at 5:59.
pub shifts_alike :
    results one_rule (fresh one_rule) (run (read 2 79200 55 ∷ read 2 107940 55 ∷ []) ∷ [])
    ≡ results two_rules (fresh one_rule) (run (read 2 79200 55 ∷ read 2 107940 55 ∷ []) ∷ [])
unfolding shifts SameShifts
shifts_alike = same_shifts one_rule two_rules (fresh one_rule) (run (read 2 79200 55 ∷ read 2 107940 55 ∷ []) ∷ []) refl refl halved

-- The guest's days left and the dates on which the guest was granted come to the three days of the pass: the times of the grants never fall.
pub guest_admitted : (state_left 5 guest).days + different (dates_granted 5 guest) ≡ days_in_site 5 guest
unfolding passes DaysOfAdmission
guest_admitted = days_of_admission guest 5 refl (omega arith) (dates_never_fall (times_granted 5 guest) refl)

-- So do the days left and the days taken; and the state holds the last grant.
pub guest_taken : (state_left 5 guest).days + days_taken (dates_granted 5 guest) ≡ days_in_site 5 guest
unfolding passes DaysTaken
guest_taken = days_taken_law guest 5 refl (omega arith)

pub guest_held : (state_left 5 guest).last_grant ≡ last_of NEVER (times_granted 5 guest)
unfolding passes LastGrant
guest_held = last_grant_law guest 5 refl

-- Wrong tries and disable of credential 5 on the floor are those that the answers show.
pub floor_shown : ((state_left 5 floor).wrong_tries ≡ (tried_of 5 floor).tries) × ((state_left 5 floor).disable ≡ (tried_of 5 floor).disable)
unfolding codes WrongTries
floor_shown = wrong_tries_law floor 5

-- Its grant, the fourth answer, found fewer than three wrong tries.
pub floor_granted : eqb (most_tries 5 floor.site) 0 || ltb (tries_since 5 (tries_in 5 floor.site (begun floor)) (take 3 (worked floor))) (most_tries 5 floor.site) ≡ true
unfolding codes GrantBelowMost
floor_granted = grant_below_most floor.site (begun floor) floor.runs 5 (take 3 (worked floor)) (drop 4 (worked floor)) _ refl refl

-- West beside a forgetful east is self-contained, so with east's entries left out it gets the same answers and state.
pub west_beside_forgetful : SelfContained (part nothing nothing) forgetful
unfolding definitions examples coded_wings forgetful parts
west_beside_forgetful = record { site = refl; reads = refl }

pub west_alike :
    (map (λ (w : Worked). w.answer) (worked (others_left_out (part nothing nothing) forgetful)) ≡ part_answers (part nothing nothing) forgetful)
    × (part_state (part nothing nothing) (others_left_out (part nothing nothing) forgetful) ≡ part_state (part nothing nothing) forgetful)
unfolding OthersLeftOut
west_alike = let l = others_left_out_law (part nothing nothing) forgetful west_beside_forgetful in (l.1, l.2)

-- ── records read in their place

-- The rule of a site with a zone before it: its location, read in its own part, is the site's bytes at 32 + 8.
unfoldable pub guarded : List ℕ
unfolding definitions examples
guarded = flatten (zone 9 0 ∷ rule 5 1 2 0 1440 ∷ [])

pub location_in_place : location (part_of 32 1 guarded) ≡ number_in (take 4 (drop 40 guarded))
unfolding definitions examples guarded ReadInPlace
location_in_place = read_in_place ℕ 32 8 4 location number_in site_readers.location_of 1 guarded (lit< tt)

-- And an instance, as a number of the site.
pub instance_in_place : field 4 4 (part_of 32 1 guarded) ≡ field 36 4 guarded
unfolding definitions examples guarded InPlace
instance_in_place = (in_place 32 1 4 4 guarded (lit< tt) (lit≤ tt)).1

-- ── half the state

-- From the longer fresh state of the mixed site, and from the shorter one of it.
pub mixed_half : results mixed (shorter mixed (long_fresh mixed)) mixed_runs ≡ map (with_shorter mixed) (long_results mixed (long_fresh mixed) mixed_runs)
unfolding mixtures HalfState
mixed_half = half_state mixed (long_fresh mixed) mixed_runs refl refl

-- The shorter one is accepted, and has its longer one back; and the other way round.
pub mixed_across : (check_state mixed (shorter mixed (long_fresh mixed)) ≡ Ok tt) × (longer mixed (shorter mixed (long_fresh mixed)) ≡ long_fresh mixed)
unfolding ShorterWell
mixed_across = shorter_well_law mixed (long_fresh mixed) mixed_checked

pub mixed_back : (check_long_state mixed (longer mixed (fresh mixed)) ≡ Ok tt) × (shorter mixed (longer mixed (fresh mixed)) ≡ fresh mixed)
unfolding mixtures LongerWell
mixed_back = longer_well_law mixed (fresh mixed) refl

-- The credential, seventh of the site, has the third record of the state.
pub mixed_placed : (get_or (panel mixed (fresh mixed)) 6 ([], [])).1 ≡ part_of 32 2 (fresh mixed)
unfolding mixtures StateInPlace
mixed_placed = ap (λ (x : Pair). x.1) (state_in_place mixed (fresh mixed) 6 refl (lit< tt) refl)
