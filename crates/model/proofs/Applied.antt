-- The theorems of Demands applied to small lists of runs, computed: their premises can be met, and an edited definition makes them false.
use Prim.Native.Nat.{ℕ}
use mathlib.Core.Path.{◌≡◌, refl}
use mathlib.Core.List.{List, [], ◌∷◌, ◌++◌, map, flatten}
use mathlib.Core.Bool.{true}
use lib.Dec.{eqb}
use lib.IntN.{pos, negsuc}
use lib.ListN.{length, take}
use Rattle.std.specs.Prelude.{Ok}
use Rattle.octets.specs.Octets.{field}
use Rattle.model.specs.Words.{all}
use Rattle.model.specs.Numbers.{NONE, NEVER, UNLIMITED}
use Rattle.model.specs.Site.{records}
use Rattle.model.specs.State.{state_length, state_place, fresh, fresh_record, well_formed}
use Rattle.model.specs.Calls.{number, RunResult}
use Rattle.model.specs.Lists.{History, Run, results, run_on, returns, begun, ended, answers_in, first_of, event_in, refusal_in, Worked, worked}
use Rattle.model.specs.Tally.{smaller, move, set_to, signed, passed, tallied, tally, tally_of, standing, count_of}
use Rattle.model.specs.Part.{part_records, part_answers, part_state}
use Rattle.model.specs.DayPasses.{is_grant_of, grant_times, times_granted, dates_granted, days_in_site, state_left, last_of, taken_since, days_taken, never_fall, different}
use Rattle.model.specs.WrongTries.{is_try_of, is_disable_of, tried_once, tried_by, tried_after, most_tries, tried_of, tries_in, tries_since}
use Rattle.model.specs.Longer.{long_fresh, check_long_state, long_results, shorter, longer, with_shorter}
use Rattle.model.proofs.Open.{definitions, longs}
use Rattle.model.proofs.Build.{every_rule, rule, zone, point, locking_point, credential, absent_credential, master_credential, tried_credential, card, code, read, damaged, set_count, adjust, lock, cut, run_of, events, run, history, examples}
use Rattle.model.proofs.Parts.{part, nothing, isolation_tests, left_out_tests, parts}

-- One name that opens the definitions of Tally.
unfoldable tallies : Unit {0}
unfolding smaller move set_to signed passed tallied tally tally_of standing count_of
tallies = tt

-- ── the count

-- Point 1 leads into zone 9, point 2 out of it, point 3 out of zone 8. A journal turned back stands between two that are worked.
unfoldable pub hall : History
unfolding definitions examples
hall =
    history
    (zone 9 0 ∷ zone 8 0 ∷ point 1 8 1 1 9 NONE ∷ point 2 8 1 1 NONE 9 ∷ point 3 8 1 1 NONE 8
    ∷ credential 5 NEVER UNLIMITED NONE ∷ card 5 55 ∷ [])
    ((read 1 1 55 ∷ read 2 2 55 ∷ read 2 3 55 ∷ []) ∷ cut ∷ (read 1 4 55 ∷ read 3 5 55 ∷ []) ∷ []) refl

-- One in, two out, one in, and one out of the other zone: T is 0, its lowest standing −1, the count 1.
pub hall_tally : tally_of 9 hall ≡ record { T = pos 0; L = negsuc 0 }
unfolding definitions examples hall tallies
hall_tally = refl

pub hall_count : count_of 9 hall ≡ 1
unfolding definitions examples hall tallies
hall_count = refl

pub hall_returns : map number (returns hall.site (begun hall) hall.runs) ≡ 0 ∷ 10 ∷ 0 ∷ []
unfolding definitions examples hall
hall_returns = refl

-- ── the part

-- The west wing: zone 1, point 1 into it, credential 1. The east wing: zone 7 for one person, point 7 that locks at the first failure.
unfoldable pub west : List (List ℕ)
west = zone 1 5 ∷ point 1 10 1 1 1 NONE ∷ credential 1 NEVER UNLIMITED NONE ∷ card 1 11 ∷ []

unfoldable pub east : List (List ℕ)
east = zone 7 1 ∷ locking_point 7 1 0 ∷ point 8 10 1 1 7 NONE ∷ credential 2 NEVER UNLIMITED NONE ∷ card 2 22 ∷ []

-- East fills its zone and locks its point, in journals of its own; or there is no east.
unfoldable pub both_wings : History
unfolding definitions examples west east
both_wings = history (east ++ west) ((read 8 1 22 ∷ read 7 2 77 ∷ read 1 3 11 ∷ []) ∷ cut ∷ (read 1 4 12 ∷ []) ∷ []) refl

unfoldable pub west_alone : History
unfolding definitions examples west
west_alone = history west ((read 1 3 11 ∷ read 1 4 12 ∷ []) ∷ []) refl

pub wings :
    isolation_tests (part (λ i. eqb i 1) nothing) both_wings west_alone
    ≡ true ∷ true ∷ true ∷ true ∷ true ∷ true ∷ true ∷ []
unfolding definitions examples west east both_wings west_alone parts
wings = refl

-- ── well formed

-- A point that waits for the second factor is locked.
unfoldable pub waiting_locked : History
unfolding definitions examples
waiting_locked =
    history (point 1 0 1 2 NONE NONE ∷ credential 5 NEVER UNLIMITED NONE ∷ card 5 55 ∷ []) ((read 1 1 55 ∷ lock 1 2 ∷ []) ∷ []) refl

pub waiting_locked_well : well_formed waiting_locked.site (ended waiting_locked) ≡ true
unfolding definitions examples waiting_locked
waiting_locked_well = refl

-- ── nothing changes

-- A journal of half an entry leaves the state; so does an entry on a zone that is not there, in the middle of a journal.
unfoldable pub counted_hall : History
unfolding definitions examples
counted_hall = history (zone 7 0 ∷ []) ((adjust 7 3 ∷ []) ∷ []) refl

pub turned_back_leaves : (run_on counted_hall.site (ended counted_hall) (run cut)).state ≡ ended counted_hall
unfolding definitions examples counted_hall
turned_back_leaves = refl

pub refused_leaves :
    (run_on counted_hall.site (ended counted_hall) (first_of 2 (run (adjust 7 1 ∷ adjust 9 1 ∷ [])))).state
    ≡ (run_on counted_hall.site (ended counted_hall) (first_of 1 (run (adjust 7 1 ∷ adjust 9 1 ∷ [])))).state
unfolding definitions examples counted_hall
refused_leaves = refl

pub refused_answers : map refusal_in (answers_in (run_of (zone 7 0 ∷ []) (adjust 7 1 ∷ adjust 9 1 ∷ [])).answers) ≡ 0 ∷ 8 ∷ []
unfolding definitions examples
refused_answers = refl

-- ── a grant is earned

-- A card that may be absent for one day is not granted after two.
pub absent : events (run_of (point 1 0 1 1 NONE NONE ∷ absent_credential 5 1 ∷ card 5 55 ∷ []) (read 1 0 55 ∷ read 1 172800 55 ∷ [])) ≡ 1 ∷ 157 ∷ []
unfolding definitions examples
absent = refl

-- Nor is anybody where the count is full, not even a master.
pub full :
    events (run_of (zone 7 0 ∷ point 1 8 1 1 7 NONE ∷ master_credential 5 ∷ card 5 55 ∷ []) (set_count 7 4294967295 ∷ read 1 1 55 ∷ [])) ≡ 0 ∷ 164 ∷ []
unfolding definitions examples
full = refl

-- ── day passes

-- A pass of three days. Point 3 denies all, point 2 grants: denied at 8:00, granted at 10:00 and at 17:00, on the next date denied, granted and denied.
unfoldable pub guest : History
unfolding definitions examples
guest =
    history (point 2 0 1 1 NONE NONE ∷ point 3 0 2 1 NONE NONE ∷ credential 5 NEVER 3 NONE ∷ card 5 55 ∷ [])
    ((read 3 28800 55 ∷ read 2 36000 55 ∷ read 2 61200 55 ∷ []) ∷ cut ∷ (read 3 115200 55 ∷ read 2 122400 55 ∷ read 3 126000 55 ∷ []) ∷ []) refl

-- One name that opens it, and the definitions of DayPasses.
unfoldable pub passes : Unit {0}
unfolding definitions examples guest is_grant_of grant_times times_granted dates_granted days_in_site state_left last_of taken_since days_taken never_fall different
passes = tt

pub guest_granted : times_granted 5 guest ≡ 36000 ∷ 61200 ∷ 122400 ∷ []
unfolding passes
guest_granted = refl

-- Two of three days are taken, on two dates.
pub guest_days :
    (state_left 5 guest).days ∷ days_taken (dates_granted 5 guest) ∷ different (dates_granted 5 guest) ∷ days_in_site 5 guest ∷ [] ≡ 1 ∷ 2 ∷ 2 ∷ 3 ∷ []
unfolding passes
guest_days = refl

-- Last grant is the last of them.
pub guest_last : (state_left 5 guest).last_grant ∷ last_of NEVER (times_granted 5 guest) ∷ [] ≡ 122400 ∷ 122400 ∷ []
unfolding passes
guest_last = refl

-- ── wrong codes

-- Points 1 and 2 want a card and a code. Credential 5 has a most of 3, card 55 and code 66; 6 is MANUAL, with a most of 2, card 77 and code 88.
unfoldable pub floor_site : List (List ℕ)
floor_site =
    point 1 0 1 2 NONE NONE ∷ point 2 0 1 2 NONE NONE ∷ tried_credential 5 0 3 ∷ card 5 55 ∷ code 5 66 ∷ tried_credential 6 2 2 ∷ card 6 77 ∷ code 6 88 ∷ []

-- 5 gives a wrong code and then the right one; then a wrong code at each point, a damaged one, and 6's card for a code. 6 gives two wrong codes at point 2.
unfoldable pub floor : History
unfolding definitions examples floor_site
floor =
    history floor_site
    ((read 1 1 55 ∷ read 1 2 99 ∷ read 1 3 55 ∷ read 1 4 66 ∷ read 1 5 55 ∷ read 1 6 99 ∷ read 2 7 55 ∷ read 2 8 99 ∷ []) ∷ cut
    ∷ (read 1 9 55 ∷ damaged 1 10 ∷ read 2 11 77 ∷ read 2 12 99 ∷ read 2 13 77 ∷ read 2 14 99 ∷ read 1 15 55 ∷ read 1 16 77 ∷ read 1 17 55
    ∷ read 1 18 66 ∷ []) ∷ []) refl

-- Its first journal alone.
unfoldable pub first_floor : History
unfolding floor
first_floor = record { site = floor.site; buffer = floor.buffer; accepted = floor.accepted; runs = take 1 floor.runs }

-- One name that opens them, and the definitions of WrongTries.
unfoldable pub codes : Unit {0}
unfolding definitions examples floor_site floor first_floor is_grant_of state_left is_try_of is_disable_of tried_once tried_by tried_after most_tries tried_of tries_in tries_since
codes = tt

pub floor_events :
    map (λ (w : Worked). event_in w.answer) (worked floor)
    ≡ 0 ∷ 132 ∷ 0 ∷ 1 ∷ 0 ∷ 132 ∷ 0 ∷ 132 ∷ 0 ∷ 148 ∷ 0 ∷ 132 ∷ 0 ∷ 132 ∷ 0 ∷ 132 ∷ 0 ∷ 154 ∷ []
unfolding codes
floor_events = refl

-- No answer has mark 16: each has mark 1 alone.
pub floor_marks : all (λ (w : Worked). eqb (field 2 1 w.answer) 1) (worked floor) ≡ true
unfolding codes
floor_marks = refl

-- Both are locked out, and their counts begin again.
pub floor_left :
    (state_left 5 floor).wrong_tries ∷ (state_left 5 floor).disable ∷ (state_left 6 floor).wrong_tries ∷ (state_left 6 floor).disable ∷ [] ≡ 0 ∷ 3 ∷ 0 ∷ 3 ∷ []
unfolding codes
floor_left = refl

-- After the first journal 5 has had two of its three tries since the grant.
pub floor_tried :
    (state_left 5 first_floor).wrong_tries ∷ (tried_of 5 first_floor).tries ∷ tries_since 5 0 (worked first_floor) ∷ (state_left 5 first_floor).disable ∷ []
    ≡ 2 ∷ 2 ∷ 2 ∷ 0 ∷ []
unfolding codes
floor_tried = refl

-- ── a list with every entry outside the part left out

-- Each wing has a point that wants a card and a code, and a credential that is locked out at the second wrong code; west is the part.
unfoldable pub coded_wings : List (List ℕ)
coded_wings =
    point 7 0 1 2 NONE NONE ∷ tried_credential 2 0 2 ∷ card 2 22 ∷ code 2 23 ∷ point 1 0 1 2 NONE NONE ∷ tried_credential 1 0 2 ∷ card 1 11 ∷ code 1 12 ∷ []

-- Wrong codes in the east wing, beside west's entries, and alone.
unfoldable pub forgetful : History
unfolding definitions examples coded_wings
forgetful =
    history coded_wings
    ((read 7 1 22 ∷ read 1 2 11 ∷ read 7 3 99 ∷ read 1 4 99 ∷ []) ∷ cut ∷ (read 7 5 22 ∷ read 1 6 11 ∷ read 7 7 99 ∷ read 1 8 12 ∷ []) ∷ []) refl

unfoldable pub forgetful_east : History
unfolding definitions examples coded_wings
forgetful_east = history coded_wings ((read 7 1 22 ∷ read 7 3 99 ∷ []) ∷ cut ∷ (read 7 5 22 ∷ read 7 7 99 ∷ []) ∷ []) refl

-- East's credential is locked out.
pub east_locked : (state_left 2 forgetful).disable ∷ (state_left 2 forgetful_east).disable ∷ [] ≡ 3 ∷ 3 ∷ []
unfolding codes coded_wings forgetful forgetful_east
east_locked = refl

-- West gets the same answers and the same state with east's entries left out, and what it gets is not nothing.
pub west_left : left_out_tests (part nothing nothing) forgetful ≡ true ∷ true ∷ true ∷ true ∷ true ∷ true ∷ []
unfolding definitions examples coded_wings forgetful parts
west_left = refl

pub west_events : map event_in (part_answers (part nothing nothing) forgetful) ≡ 0 ∷ 132 ∷ 0 ∷ 1 ∷ []
unfolding definitions examples coded_wings forgetful parts
west_events = refl

-- Wrong codes in the east wing leave every card record of the west wing as it was.
pub west_untouched : part_state (part nothing nothing) forgetful_east ≡ map fresh_record (part_records (part nothing nothing) forgetful_east)
unfolding definitions examples coded_wings forgetful_east parts
west_untouched = refl

-- ── half the state

-- Rules and factors stand before, between and behind the records that have state.
unfoldable pub mixed : List ℕ
unfolding examples
mixed =
    flatten
    (every_rule 9 ∷ zone 23 1 ∷ card 5 55 ∷ card 5 56 ∷ point 2 10 0 1 23 NONE ∷ rule 9 1 2 10 20 ∷ credential 5 NEVER UNLIMITED 9
    ∷ card 5 57 ∷ [])

unfoldable pub mixed_runs : List Run
unfolding examples
mixed_runs = map run ((read 2 100 55 ∷ read 2 160 55 ∷ []) ∷ cut ∷ (read 2 220 77 ∷ []) ∷ [])

-- One name that opens these.
unfoldable pub mixtures : Unit {0}
unfolding longs examples mixed mixed_runs
mixtures = tt

-- Eight records, of which three have state: that of the credential stands third.
pub mixed_lengths : length mixed ∷ state_length mixed ∷ state_place 6 (records mixed) ∷ [] ≡ 256 ∷ 96 ∷ 2 ∷ []
unfolding mixtures
mixed_lengths = refl

pub mixed_checked : check_long_state mixed (long_fresh mixed) ≡ Ok tt
unfolding mixtures
mixed_checked = refl

pub mixed_fresh : (shorter mixed (long_fresh mixed) ≡ fresh mixed) × (longer mixed (fresh mixed) ≡ long_fresh mixed)
unfolding mixtures
mixed_fresh = (refl, refl)

-- The same numbers, answers and kept records, and what they are is not nothing.
pub mixed_results : results mixed (fresh mixed) mixed_runs ≡ map (with_shorter mixed) (long_results mixed (long_fresh mixed) mixed_runs)
unfolding mixtures
mixed_results = refl

pub mixed_events :
    map (λ (x : RunResult). number x.returned ∷ map event_in (answers_in x.answers)) (results mixed (fresh mixed) mixed_runs)
    ≡ (0 ∷ 1 ∷ 142 ∷ []) ∷ (10 ∷ []) ∷ (0 ∷ 129 ∷ []) ∷ []
unfolding mixtures
mixed_events = refl
