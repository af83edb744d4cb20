-- Document 02, job 3: "Shifts that cross midnight." Times in seconds: Friday begins at 345,600, Saturday at 432,000, Sunday at 518,400, the second
-- Monday at 604,800; 6:00 is 21,600 and 22:00 is 79,200 seconds after midnight.
use Prim.Native.Nat.{ℕ}
use mathlib.Core.Path.{◌≡◌, refl}
use mathlib.Core.List.{List, [], ◌∷◌, ◌++◌, map}
use Rattle.cases.proofs.Change.{Field}
use Rattle.cases.proofs.Fields.{flags, location_kind_field, weekdays, location, from_minute_field, to_minute_field}
use Rattle.cases.proofs.Bytes.{at, bytes}
use Rattle.cases.proofs.Rules.{ruled, during, on}

-- The events of the card under one rule, on these days from a minute to another.
abbrev within : ℕ → ℕ → ℕ → List ℕ → List ℕ
within days from to times = during (on days from to ∷ []) times

-- The cleaning shift, "22:00 to 06:00".
abbrev shift : ℕ → List Field
shift days = on days 1320 360

pub record Shifts : Type 0 where
  -- "From > to shall now mean a window that runs past midnight and belongs to the day on which it began": Friday's shift. Friday at 5:59, 21:59
  -- and a second before 22:00; at 22:00 and 23:59; Saturday at 0:00 and 5:59, each to the last second; Saturday at 6:00 and 22:00.
  friday :
      during (shift 0x10 ∷ []) (at 4 5 59 0 ∷ at 4 21 59 0 ∷ at 4 21 59 59 ∷ []) ≡ 136 ∷ 136 ∷ 136 ∷ []
  friday_evening :
      during (shift 0x10 ∷ []) (at 4 22 0 0 ∷ at 4 23 59 0 ∷ at 4 23 59 59 ∷ []) ≡ 1 ∷ 1 ∷ 1 ∷ []
  saturday_morning :
      during (shift 0x10 ∷ []) (at 5 0 0 0 ∷ at 5 5 59 0 ∷ at 5 5 59 59 ∷ []) ≡ 1 ∷ 1 ∷ 1 ∷ []
  saturday :
      during (shift 0x10 ∷ []) (at 5 6 0 0 ∷ at 5 22 0 0 ∷ at 6 0 0 0 ∷ at 6 5 59 0 ∷ []) ≡ 136 ∷ 136 ∷ 136 ∷ 136 ∷ []
  -- "a window that starts on Sunday ends on Monday": on Monday the first of all, and on the next.
  first_monday : during (shift 0x40 ∷ []) (0 ∷ at 0 5 59 59 ∷ at 0 6 0 0 ∷ at 0 22 0 0 ∷ []) ≡ 1 ∷ 1 ∷ 136 ∷ 136 ∷ []
  sunday :
      during (shift 0x40 ∷ []) (at 5 23 59 59 ∷ at 6 0 0 0 ∷ at 6 21 59 59 ∷ at 6 22 0 0 ∷ at 6 23 59 59 ∷ at 7 0 0 0 ∷ at 7 5 59 59 ∷ at 7 6 0 0 ∷ [])
      ≡ 136 ∷ 136 ∷ 136 ∷ 1 ∷ 1 ∷ 1 ∷ 1 ∷ 136 ∷ []
  -- Each day is after the one before: Tuesday's, Thursday's and Saturday's shift at every midnight from Monday to Monday, and at every 22:00.
  midnights :
      during (shift 0x2A ∷ []) (map (λ day. at day 0 0 0) (0 ∷ 1 ∷ 2 ∷ 3 ∷ 4 ∷ 5 ∷ 6 ∷ 7 ∷ []))
      ≡ 136 ∷ 136 ∷ 1 ∷ 136 ∷ 1 ∷ 136 ∷ 1 ∷ 136 ∷ []
  evenings :
      during (shift 0x2A ∷ []) (map (λ day. at day 22 0 0) (0 ∷ 1 ∷ 2 ∷ 3 ∷ 4 ∷ 5 ∷ 6 ∷ 7 ∷ []))
      ≡ 136 ∷ 1 ∷ 136 ∷ 1 ∷ 136 ∷ 1 ∷ 136 ∷ 136 ∷ []
  -- The clock set back from the second half into the first, and before it.
  set_back : during (shift 0x10 ∷ []) (at 5 5 59 0 ∷ at 4 22 0 0 ∷ at 4 21 59 0 ∷ at 5 0 0 0 ∷ []) ≡ 1 ∷ 1 ∷ 136 ∷ 1 ∷ []
  -- The latest time that is not never, a Thursday at 6:28: Wednesday's shift to 6:29, to 6:28; Thursday's to 6:29.
  latest : within 0x04 1320 389 (4294967294 ∷ []) ++ within 0x04 1320 388 (4294967294 ∷ []) ++ within 0x08 1320 389 (4294967294 ∷ []) ≡ 1 ∷ 136 ∷ 136 ∷ []

pub shifts : Shifts
unfolding bytes ruled during
shifts =
    record {
      friday = refl;
      friday_evening = refl;
      saturday_morning = refl;
      saturday = refl;
      first_monday = refl;
      sunday = refl;
      midnights = refl;
      evenings = refl;
      set_back = refl;
      latest = refl;
    }

-- A negative rule: the shift's; and beside a positive rule that fits always.
abbrev forbidding : ℕ → List Field
forbidding days = flags 3 ∷ weekdays days ∷ from_minute_field 1320 ∷ to_minute_field 360 ∷ []

pub record Negatives : Type 0 where
  -- "negative rules included": denied in both halves, and not between them.
  denied :
      during (forbidding 0x10 ∷ [] ∷ [])
      (at 4 5 59 0 ∷ at 4 21 59 59 ∷ at 4 22 0 0 ∷ at 4 23 59 59 ∷ at 5 0 0 0 ∷ at 5 5 59 59 ∷ at 5 6 0 0 ∷ at 5 22 0 0 ∷ [])
      ≡ 1 ∷ 1 ∷ 135 ∷ 135 ∷ 135 ∷ 135 ∷ 1 ∷ 1 ∷ []
  -- Over the week's end.
  denied_monday : during (forbidding 0x40 ∷ [] ∷ []) (0 ∷ at 0 6 0 0 ∷ at 7 5 59 59 ∷ at 7 6 0 0 ∷ []) ≡ 135 ∷ 1 ∷ 135 ∷ 1 ∷ []
  -- It is no positive rule: outside its hours, and alone, 133.
  no_positive : during (forbidding 0x10 ∷ []) (at 4 21 59 59 ∷ at 5 0 0 0 ∷ at 5 6 0 0 ∷ []) ≡ 133 ∷ 135 ∷ 133 ∷ []

pub negatives : Negatives
unfolding bytes ruled during
negatives = record { denied = refl; denied_monday = refl; no_positive = refl }

-- Minutes of a Friday and of the Saturday after it.
abbrev minutes : List ℕ
minutes = at 4 0 0 0 ∷ at 4 11 59 59 ∷ at 4 12 0 0 ∷ at 4 23 59 59 ∷ at 5 0 0 0 ∷ at 5 12 0 0 ∷ at 5 23 59 59 ∷ []

abbrev never : List ℕ
never = 136 ∷ 136 ∷ 136 ∷ 136 ∷ 136 ∷ 136 ∷ 136 ∷ []

pub record Edges : Type 0 where
  -- "From = to remains empty": at midnight, at noon, at the end of the day, on all days.
  empty_zero : within 0x7F 0 0 minutes ≡ never
  empty_noon : within 0x7F 720 720 minutes ≡ never
  empty_end : within 0x7F 1440 1440 minutes ≡ never
  -- From 1,440: "the weekday before is set and minute < to" alone. To 0: "the weekday is set and minute ≥ from" alone. Both: neither.
  from_end :
      within 0x10 1440 360 (at 4 0 0 0 ∷ at 4 5 59 59 ∷ at 4 23 59 59 ∷ at 5 0 0 0 ∷ at 5 5 59 59 ∷ at 5 6 0 0 ∷ at 5 23 59 59 ∷ [])
      ≡ 136 ∷ 136 ∷ 136 ∷ 1 ∷ 1 ∷ 136 ∷ 136 ∷ []
  to_zero : within 0x10 1320 0 (at 4 21 59 59 ∷ at 4 22 0 0 ∷ at 4 23 59 59 ∷ at 5 0 0 0 ∷ at 5 22 0 0 ∷ []) ≡ 136 ∷ 1 ∷ 1 ∷ 136 ∷ 136 ∷ []
  end_to_zero : within 0x7F 1440 0 minutes ≡ never
  -- The longest: from a minute to the minute before it, on the next day; with days in turn, all but that minute.
  longest :
      within 0x10 720 719 (at 4 11 58 59 ∷ at 4 11 59 59 ∷ at 4 12 0 0 ∷ at 5 11 58 59 ∷ at 5 11 59 0 ∷ []) ≡ 136 ∷ 136 ∷ 1 ∷ 1 ∷ 136 ∷ []
  all_week :
      within 0x7F 720 719 (at 4 11 58 59 ∷ at 4 11 59 0 ∷ at 4 11 59 59 ∷ at 4 12 0 0 ∷ at 7 0 0 0 ∷ []) ≡ 1 ∷ 136 ∷ 136 ∷ 1 ∷ 1 ∷ []
  -- The two halves may overlap in no minute of one day, but both days may be set: Friday's and Saturday's.
  two_days : within 0x30 1320 360 (at 4 5 59 59 ∷ at 5 5 59 59 ∷ at 5 12 0 0 ∷ at 5 22 0 0 ∷ at 6 5 59 59 ∷ []) ≡ 136 ∷ 1 ∷ 136 ∷ 1 ∷ 1 ∷ []
  -- No day is set.
  no_day : within 0x00 1320 360 minutes ≡ never
  -- "Time fits if always", whatever the window; a rule that is disabled or elsewhere does not fit: 133.
  always : during ((flags 5 ∷ weekdays 0 ∷ from_minute_field 1320 ∷ to_minute_field 360 ∷ []) ∷ []) (at 4 12 0 0 ∷ at 5 0 0 0 ∷ []) ≡ 1 ∷ 1 ∷ []
  disabled : during ((flags 0 ∷ weekdays 0x10 ∷ from_minute_field 1320 ∷ to_minute_field 360 ∷ []) ∷ []) (at 4 22 0 0 ∷ at 5 0 0 0 ∷ []) ≡ 133 ∷ 133 ∷ []
  elsewhere : during ((location_kind_field 1 ∷ location 8 ∷ shift 0x10) ∷ []) (at 4 22 0 0 ∷ at 5 0 0 0 ∷ []) ≡ 133 ∷ 133 ∷ []
  -- Everywhere, and at the Zone_To.
  everywhere :
      during ((location_kind_field 0 ∷ location 0 ∷ flags 9 ∷ weekdays 0x10 ∷ from_minute_field 1320 ∷ to_minute_field 360 ∷ []) ∷ []) (at 4 21 59 59 ∷ at 5 5 59 59 ∷ [])
      ++ during ((location_kind_field 1 ∷ location 7 ∷ shift 0x10) ∷ []) (at 4 21 59 59 ∷ at 5 5 59 59 ∷ [])
      ≡ 136 ∷ 1 ∷ 136 ∷ 1 ∷ []

pub edges : Edges
unfolding bytes ruled during
edges =
    record {
      empty_zero = refl;
      empty_noon = refl;
      empty_end = refl;
      from_end = refl;
      to_zero = refl;
      end_to_zero = refl;
      longest = refl;
      all_week = refl;
      two_days = refl;
      no_day = refl;
      always = refl;
      disabled = refl;
      elsewhere = refl;
      everywhere = refl;
    }
