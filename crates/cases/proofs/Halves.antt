-- Shifts and their halves (beyond document 02): their bytes, and for each premise of the theorems a case without it, of which they do not hold.
use Rattle.std.specs.Prelude.{Ok, Err}
use Prim.Native.Nat.{ℕ}
use mathlib.Core.Path.{◌≡◌, refl}
use mathlib.Core.List.{List, [], ◌∷◌, ◌++◌, map}
use mathlib.Core.Bool.{Bool, true, false, ◌||◌}
use Rattle.octets.specs.Octets.{digits, put}
use Rattle.model.specs.Words.{all, zeros}
use Rattle.model.specs.Site.{records}
use Rattle.model.specs.Accept.{in_range}
use Rattle.model.specs.State.{fresh}
use Rattle.model.specs.Checks.{time_fits}
use Rattle.model.specs.Calls.{number, check_site}
use Rattle.model.specs.Lists.{Worked, History, returns, ended, worked, event_in}
use Rattle.model.specs.Shifts.{is_shift, following_days, until_midnight, since_midnight, stands_halved, stands_whole, Halved}
use Rattle.model.specs.Demands.{returns_other}
use Rattle.model.specs.declared.Refusal.TheVariants.{SiteLength, SiteField, SiteTwice, SiteMissing, StateLength, StateForm, JournalLength, AnswersLength}
use Rattle.model.proofs.Build.{history, cut, examples}
use Rattle.cases.proofs.Change.{with_fields}
use Rattle.cases.proofs.Fields.{mode, weekdays, from_minute_field, to_minute_field, first_rights}
use Rattle.cases.proofs.Bytes.{door, rule, person, card, pin, shows, site, bytes}

-- One name that opens the definitions of Shifts.
unfoldable shifts : Unit {0}
unfolding bytes examples is_shift following_days until_midnight since_midnight stands_halved stands_whole
shifts = tt

-- Friday's shift, 22:00 to 6:00, of rights 9 at point 2; its halves, on Friday and on Saturday.
unfoldable pub night : List ℕ
night = digits 32 0x03_01_02_10_00000009_00000002_0528_0168_00000000000000000000000000000000

unfoldable pub friday : List ℕ
friday = digits 32 0x03_01_02_10_00000009_00000002_0528_05A0_00000000000000000000000000000000

unfoldable pub saturday : List ℕ
saturday = digits 32 0x03_01_02_20_00000009_00000002_0000_0168_00000000000000000000000000000000

pub record Written : Type 0 where
  -- "the days after them": none, Monday, Friday, Sunday, the weekend, all.
  days : map following_days (0 ∷ 0x01 ∷ 0x10 ∷ 0x40 ∷ 0x60 ∷ 0x7F ∷ []) ≡ 0 ∷ 0x02 ∷ 0x20 ∷ 0x01 ∷ 0x41 ∷ 0x7F ∷ []
  -- "from..1,440 on these days", "0..to on the days after them".
  first : until_midnight night ≡ friday
  second : since_midnight night ≡ saturday
  -- "a rule with from > to": the shift alone, not its halves, a rule of from = to, or a record of another kind.
  crossing :
      map is_shift (night ∷ friday ∷ saturday ∷ with_fields (to_minute_field 1320 ∷ []) night ∷ put 0 1 4 night ∷ [])
      ≡ true ∷ false ∷ false ∷ false ∷ false ∷ []

pub written : Written
unfolding shifts night friday saturday
written = record { days = refl; first = refl; second = refl; crossing = refl }

-- ── the premises of `ShiftHalves`

-- Whether a rule is in range, crosses midnight and fits at a time, and whether one of its halves fits.
abbrev halves_at : ℕ → List ℕ → List Bool
halves_at time s = in_range s ∷ is_shift s ∷ time_fits time s ∷ (time_fits time (until_midnight s) || time_fits time (since_midnight s)) ∷ []

pub record Unmet : Type 0 where
  -- A spare bit of the days, on Tuesday at 0:00; from 1,441, on Saturday at noon.
  spare_day : halves_at 86400 (with_fields (weekdays 0x80 ∷ []) night) ≡ false ∷ true ∷ false ∷ true ∷ []
  past_end : halves_at 475200 (with_fields (from_minute_field 1441 ∷ []) night) ≡ false ∷ true ∷ false ∷ true ∷ []
  -- From 9:00 to 17:00, on Friday at 20:00.
  within_day : halves_at 417600 (with_fields (from_minute_field 540 ∷ to_minute_field 1020 ∷ []) night) ≡ true ∷ false ∷ false ∷ true ∷ []

pub unmet : Unmet
unfolding shifts night
unmet = record { spare_day = refl; past_end = refl; within_day = refl }

-- ── the premises of `SameShifts`, `FreshShifts` and `AcceptedShifts`

-- Point 2 in AUTHORIZE and credential 5 with rights 9.
abbrev office : List (List ℕ)
office = site (mode 0 ∷ []) (first_rights 9 ∷ []) []

-- The same, the last record first.
abbrev office_backwards : List (List ℕ)
office_backwards = pin ∷ card ∷ with_fields (first_rights 9 ∷ []) person ∷ with_fields (mode 0 ∷ []) door ∷ []

-- The card on Friday at 21:59 and 22:00, on Saturday at 0:00 and, after a journal that is turned back, at 5:59 and 6:00.
abbrev readings : List (List (List ℕ))
readings = (shows 424740 0x55 ∷ shows 424800 0x55 ∷ shows 432000 0x55 ∷ []) ∷ cut ∷ (shows 453540 0x55 ∷ shows 453600 0x55 ∷ []) ∷ []

-- The site with the shift, and with its halves, in other places.
unfoldable pub one_rule : History
unfolding shifts night
one_rule = history (night ∷ office) readings refl

unfoldable pub two_rules : History
unfolding shifts friday saturday
two_rules = history (saturday ∷ office ++ (friday ∷ [])) readings refl

pub rewritten : Halved (records one_rule.site) (records two_rules.site)
unfolding shifts night friday saturday one_rule two_rules
rewritten = record { others = refl; halved = refl; whole = refl }

-- The events of a list; whether the records of two sites stand in each other, and their numbers.
abbrev events : History → List ℕ
events h = map (λ (w : Worked). event_in w.answer) (worked h)

abbrev stood : List ℕ → List ℕ → List Bool
stood site other = all (stands_halved (records other)) (records site) ∷ all (stands_whole (records site)) (records other) ∷ []

abbrev numbers : List ℕ → List ℕ → List ℕ
numbers site other = number (check_site site) ∷ number (check_site other) ∷ []

-- Without a premise: the first half alone; the second half on Friday; a third rule, which fits always; the records of the office in another
-- sequence; below, a site that is not accepted.
unfoldable first_alone : History
unfolding shifts friday
first_alone = history (office ++ (friday ∷ [])) readings refl

unfoldable wrong_day : History
unfolding shifts friday saturday
wrong_day = history (with_fields (weekdays 0x10 ∷ []) saturday ∷ office ++ (friday ∷ [])) readings refl

unfoldable third_rule : History
unfolding shifts friday saturday
third_rule = history (saturday ∷ rule ∷ office ++ (friday ∷ [])) readings refl

unfoldable turned_round : History
unfolding shifts friday saturday
turned_round = history (saturday ∷ office_backwards ++ (friday ∷ [])) readings refl

-- What the runs of the list return, on a site and a state.
abbrev returned : List ℕ → List ℕ → List ℕ
returned on state = map number (returns on state one_rule.runs)

-- The fresh state, and that with a record more behind it.
abbrev blank : History → List ℕ
blank h = fresh h.site

abbrev marked : History → List ℕ
marked h = blank h ++ zeros 32

-- From 1,441.
abbrev unbounded : List ℕ
unbounded = with_fields (from_minute_field 1441 ∷ []) night

pub record Differing : Type 0 where
  rewritten_events : events one_rule ++ events two_rules ≡ 136 ∷ 1 ∷ 1 ∷ 1 ∷ 136 ∷ 136 ∷ 1 ∷ 1 ∷ 1 ∷ 136 ∷ []
  rewritten_states : (blank one_rule ≡ blank two_rules) × (ended one_rule ≡ ended two_rules)
  half_missing : (stood one_rule.site first_alone.site ≡ false ∷ true ∷ []) × (events first_alone ≡ 136 ∷ 1 ∷ 136 ∷ 136 ∷ 136 ∷ [])
  half_misplaced : (stood one_rule.site wrong_day.site ≡ false ∷ false ∷ []) × (events wrong_day ≡ 136 ∷ 1 ∷ 136 ∷ 136 ∷ 136 ∷ [])
  rule_added : (stood one_rule.site third_rule.site ≡ true ∷ false ∷ []) × (events third_rule ≡ 1 ∷ 1 ∷ 1 ∷ 1 ∷ 1 ∷ [])
  others_moved :
      (stood one_rule.site turned_round.site ≡ true ∷ true ∷ [])
      × (returned one_rule.site (blank one_rule) ++ returned turned_round.site (blank one_rule) ≡ 0 ∷ 10 ∷ 0 ∷ 6 ∷ 6 ∷ 6 ∷ [])
  -- Of the same records, with a byte behind them.
  not_accepted : returned one_rule.site (blank one_rule) ++ returned (one_rule.site ++ (0 ∷ [])) (blank one_rule) ≡ 0 ∷ 10 ∷ 0 ∷ 1 ∷ 1 ∷ 1 ∷ []
  -- A state that no run takes needs no premise: it is turned back alike.
  not_taken : returned one_rule.site (marked one_rule) ++ returned two_rules.site (marked one_rule) ≡ 5 ∷ 5 ∷ 5 ∷ 5 ∷ 5 ∷ 5 ∷ []
  -- Of `AcceptedShifts`: a rule out of range in the other site alone, or in the one alone; a factor twice.
  other_out_of_range :
      (stood one_rule.site (one_rule.site ++ unbounded) ≡ true ∷ false ∷ []) × (numbers one_rule.site (one_rule.site ++ unbounded) ≡ 0 ∷ 2 ∷ [])
  one_out_of_range :
      (stood (one_rule.site ++ unbounded) one_rule.site ≡ false ∷ true ∷ []) × (numbers (one_rule.site ++ unbounded) one_rule.site ≡ 2 ∷ 0 ∷ [])
  others_repeated : (stood one_rule.site (one_rule.site ++ card) ≡ true ∷ true ∷ []) × (numbers one_rule.site (one_rule.site ++ card) ≡ 0 ∷ 3 ∷ [])
  -- The number 1 alone is asked for; the same records, and a byte behind them.
  asked :
      map (returns_other (Err SiteLength)) ((Ok tt) ∷ (Err SiteLength) ∷ (Err SiteField) ∷ (Err SiteTwice) ∷ (Err SiteMissing) ∷ (Err StateLength) ∷ (Err StateForm) ∷ (Err JournalLength) ∷ (Err AnswersLength) ∷ [])
      ≡ true ∷ false ∷ true ∷ true ∷ true ∷ true ∷ true ∷ true ∷ true ∷ []
  stray_byte : numbers one_rule.site (one_rule.site ++ (0 ∷ [])) ++ numbers (one_rule.site ++ (0 ∷ [])) one_rule.site ≡ 0 ∷ 1 ∷ 1 ∷ 0 ∷ []

pub differing : Differing
unfolding shifts night friday saturday one_rule two_rules first_alone wrong_day third_rule turned_round
differing =
    record {
      rewritten_events = refl;
      rewritten_states = (refl, refl);
      half_missing = (refl, refl);
      half_misplaced = (refl, refl);
      rule_added = (refl, refl);
      others_moved = (refl, refl);
      not_accepted = refl;
      not_taken = refl;
      other_out_of_range = (refl, refl);
      one_out_of_range = (refl, refl);
      others_repeated = (refl, refl);
      asked = refl;
      stray_byte = refl;
    }
