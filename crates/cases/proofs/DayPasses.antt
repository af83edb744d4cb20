-- Document 02, job 5: "Day passes that never run down." A grant "takes one of limited days if the card has no earlier grant or today's date is later than the
-- last grant's".
use Prim.Native.Nat.{ℕ}
use mathlib.Core.Path.{◌≡◌, refl}
use mathlib.Core.List.{List, [], ◌∷◌, ◌++◌, map}
use Rattle.octets.specs.Octets.{field}
use Rattle.model.specs.Calls.{RunResult}
use Rattle.cases.proofs.Change.{Field, with_fields}
use Rattle.cases.proofs.Fields.{flags, mode, factors_wanted, first_rights, days_given, absentee, days, last_use, last_grant_field}
use Rattle.cases.proofs.Bytes.{rule, at, entry, shows, types, site, state, from_state, from_new, told, bytes}
use Rattle.cases.proofs.Rules.{on}

-- The hall is open from 9:00 to 18:00, by a rule of rights 9 at point 2; fields of the point and of credential 5 are changed.
unfoldable pub hall : List Field → List Field → List (List ℕ)
hall ds ps = with_fields (on 0x7F 540 1080) rule ∷ site (mode 0 ∷ ds) (first_rights 9 ∷ ps) []

-- The events of a run, then the days left and the last grant of credential 5, which stand at 2 and 24 of the second state record.
unfoldable pub left : RunResult → List ℕ
left r = told r ++ (field 34 2 r.state ∷ field 56 4 r.state ∷ [])

-- A pass of these days, from fresh: its card at these times at the hall, and at a point that grants at all hours.
unfoldable pub visits : ℕ → List ℕ → List ℕ
visits given times = left (from_new (hall [] (days_given given ∷ [])) (map (λ time. shows time 0x55) times))

unfoldable pub passes : ℕ → List ℕ → List ℕ
passes given times = left (from_new (hall (mode 1 ∷ []) (days_given given ∷ [])) (map (λ time. shows time 0x55) times))

-- The card at these times at the hall where fields of the credential are changed, and of its state, which has 8 days and the last grant at 650.
unfoldable pub returns : List Field → List Field → List ℕ → List ℕ
returns ps ss times = left (from_state (hall [] ps) (state [] ss) (map (λ time. shows time 0x55) times))

pub record Congress : Type 0 where
  -- "Congress guests with three-day passes try the door before it opens, are denied, and are let in later that day": at 8:00 and at 10:00.
  tried : visits 3 (at 0 8 0 0 ∷ []) ≡ 136 ∷ 3 ∷ 4294967295 ∷ []
  admitted : visits 3 (at 0 8 0 0 ∷ at 0 10 0 0 ∷ []) ≡ 136 ∷ 1 ∷ 2 ∷ at 0 10 0 0 ∷ []
  -- Three days of it; then 155, before the hours are asked.
  three_days :
      visits 3 (at 2 8 0 0 ∷ at 2 9 5 0 ∷ at 3 8 0 0 ∷ at 3 8 30 0 ∷ at 3 9 5 0 ∷ at 4 8 0 0 ∷ at 4 9 5 0 ∷ at 5 8 0 0 ∷ at 5 9 5 0 ∷ [])
      ≡ 136 ∷ 1 ∷ 136 ∷ 136 ∷ 1 ∷ 136 ∷ 1 ∷ 155 ∷ 155 ∷ 0 ∷ at 4 9 5 0 ∷ []
  -- Granted twice on one date.
  twice : visits 3 (at 0 9 0 0 ∷ at 0 17 59 59 ∷ []) ≡ 1 ∷ 1 ∷ 2 ∷ at 0 17 59 59 ∷ []
  -- Granted, the next day denied, which leaves both, and granted.
  denied_next : visits 3 (at 0 10 0 0 ∷ at 1 8 0 0 ∷ []) ≡ 1 ∷ 136 ∷ 2 ∷ at 0 10 0 0 ∷ []
  granted_next : visits 3 (at 0 10 0 0 ∷ at 1 8 0 0 ∷ at 1 10 0 0 ∷ []) ≡ 1 ∷ 136 ∷ 1 ∷ 1 ∷ at 1 10 0 0 ∷ []
  -- A pass of one day is granted, and gives 155 for the rest of that date: in the same second, in its last, on the next, by a clock set back.
  one_day :
      passes 1 (at 1 10 0 0 ∷ at 1 10 0 0 ∷ at 1 23 59 59 ∷ at 2 0 0 0 ∷ at 0 10 0 0 ∷ []) ≡ 1 ∷ 155 ∷ 155 ∷ 155 ∷ 155 ∷ 0 ∷ at 1 10 0 0 ∷ []

pub congress : Congress
unfolding bytes hall left visits passes
congress =
    record {
      tried = refl;
      admitted = refl;
      three_days = refl;
      twice = refl;
      denied_next = refl;
      granted_next = refl;
      one_day = refl;
    }

pub record Dates : Type 0 where
  -- "today's date is later": the last second of a date and the first of the next; the first and the last of one.
  midnight : passes 5 (86399 ∷ 86400 ∷ []) ++ passes 5 (86400 ∷ 172799 ∷ []) ≡ 1 ∷ 1 ∷ 3 ∷ 86400 ∷ 1 ∷ 1 ∷ 4 ∷ 172799 ∷ []
  -- A clock set back a day takes none, and the way forward takes one again: last grant is "set by each grant".
  set_back : passes 5 (at 1 10 0 0 ∷ at 0 10 0 0 ∷ []) ≡ 1 ∷ 1 ∷ 4 ∷ at 0 10 0 0 ∷ []
  forward : passes 5 (at 1 10 0 0 ∷ at 0 10 0 0 ∷ at 1 10 0 0 ∷ []) ≡ 1 ∷ 1 ∷ 1 ∷ 3 ∷ at 1 10 0 0 ∷ []
  -- Set back within the date.
  within_date : passes 5 (at 1 10 0 0 ∷ at 1 9 0 0 ∷ at 1 11 0 0 ∷ []) ≡ 1 ∷ 1 ∷ 1 ∷ 4 ∷ at 1 11 0 0 ∷ []
  -- More than one date later takes one day.
  later : passes 5 (at 0 10 0 0 ∷ at 6 10 0 0 ∷ []) ≡ 1 ∷ 1 ∷ 3 ∷ at 6 10 0 0 ∷ []
  -- The first time of all, and the latest that is not never, twice.
  first_time : passes 5 (0 ∷ 0 ∷ []) ≡ 1 ∷ 1 ∷ 4 ∷ 0 ∷ []
  latest : passes 5 (4294967294 ∷ 4294967294 ∷ []) ≡ 1 ∷ 1 ∷ 4 ∷ 4294967294 ∷ []
  -- An entry at the time never is refused, and is no grant.
  never : passes 5 (at 1 10 0 0 ∷ 4294967295 ∷ at 1 10 0 0 ∷ []) ≡ 1 ∷ 0 ∷ 1 ∷ 4 ∷ at 1 10 0 0 ∷ []
  -- Unlimited days never fall, and last grant is set; the most limited ones fall.
  unlimited :
      visits 65535 (at 0 10 0 0 ∷ at 1 8 0 0 ∷ at 1 10 0 0 ∷ at 2 8 0 0 ∷ []) ++ visits 65534 (at 0 10 0 0 ∷ at 1 8 0 0 ∷ at 1 10 0 0 ∷ [])
      ≡ 1 ∷ 136 ∷ 1 ∷ 136 ∷ 65535 ∷ at 1 10 0 0 ∷ 1 ∷ 136 ∷ 1 ∷ 65532 ∷ at 1 10 0 0 ∷ []

pub dates : Dates
unfolding bytes hall left visits passes
dates =
    record {
      midnight = refl;
      set_back = refl;
      forward = refl;
      within_date = refl;
      later = refl;
      first_time = refl;
      latest = refl;
      never = refl;
      unlimited = refl;
    }

pub record Held : Type 0 where
  -- "older states' zeros are time 0": no day on day 0, one on day 1, and on day 1 after day 0.
  older :
      returns [] (last_grant_field 0 ∷ []) (at 0 10 0 0 ∷ []) ++ returns [] (last_grant_field 0 ∷ []) (at 1 10 0 0 ∷ [])
      ++ returns [] (last_grant_field 0 ∷ []) (at 0 10 0 0 ∷ at 1 10 0 0 ∷ [])
      ≡ 1 ∷ 8 ∷ at 0 10 0 0 ∷ 1 ∷ 7 ∷ at 1 10 0 0 ∷ 1 ∷ 1 ∷ 7 ∷ at 1 10 0 0 ∷ []
  -- Never is "no earlier grant": a day on day 0 too.
  no_grant : returns [] (last_grant_field 4294967295 ∷ []) (at 0 10 0 0 ∷ []) ≡ 1 ∷ 7 ∷ at 0 10 0 0 ∷ []
  -- Last grant on a later date, by its last second.
  ahead : returns [] (last_grant_field 4294967294 ∷ []) (at 1 10 0 0 ∷ []) ≡ 1 ∷ 8 ∷ at 1 10 0 0 ∷ []
  -- The last day left, with a last grant on the same date, is kept.
  last_day : returns [] (days 1 ∷ []) (at 0 10 0 0 ∷ at 0 11 0 0 ∷ at 1 10 0 0 ∷ at 1 11 0 0 ∷ []) ≡ 1 ∷ 1 ∷ 1 ∷ 155 ∷ 0 ∷ at 1 10 0 0 ∷ []
  -- "Last use keeps its meaning for inactivity": two days absent are allowed. Granted, three days later; with a denial between.
  absent :
      returns (absentee 2 ∷ []) (last_use 4294967295 ∷ []) (at 0 10 0 0 ∷ at 3 10 0 0 ∷ [])
      ++ returns (absentee 2 ∷ []) (last_use 4294967295 ∷ []) (at 0 10 0 0 ∷ at 2 8 0 0 ∷ at 3 10 0 0 ∷ [])
      ≡ 1 ∷ 157 ∷ 8 ∷ at 0 10 0 0 ∷ 1 ∷ 136 ∷ 1 ∷ 7 ∷ at 3 10 0 0 ∷ []
  -- A last grant is no use: granted an hour ago, used three days ago.
  no_use : returns (absentee 2 ∷ []) (last_use 0 ∷ last_grant_field (at 3 9 0 0) ∷ []) (at 3 10 0 0 ∷ []) ≡ 157 ∷ 8 ∷ at 3 9 0 0 ∷ []

pub held : Held
unfolding bytes hall left returns
held = record { older = refl; no_grant = refl; ahead = refl; last_day = refl; absent = refl; no_use = refl }

-- A journal at the hall where fields of the point and the credential are changed.
unfoldable pub worked : List Field → List Field → List (List ℕ) → List ℕ
worked ds ps journal = left (from_state (hall ds ps) (state [] []) journal)

pub record Entries : Type 0 where
  -- "set by each grant": not by event 0, where a second factor is awaited, but by the second factor, whose date counts.
  awaited : worked (factors_wanted 2 ∷ mode 1 ∷ []) [] (shows 86399 0x55 ∷ []) ≡ 0 ∷ 8 ∷ 650 ∷ []
  confirmed : worked (factors_wanted 2 ∷ mode 1 ∷ []) [] (shows 86399 0x55 ∷ types 86400 0x66 ∷ []) ≡ 0 ∷ 1 ∷ 7 ∷ 86400 ∷ []
  -- Not by operation 4, nor out of service.
  disabled : worked [] [] (entry 4 1 86400 5 0 0 ∷ entry 4 0 86400 5 0 0 ∷ []) ≡ 0 ∷ 0 ∷ 8 ∷ 650 ∷ []
  no_service : worked (flags 1 ∷ []) [] (shows (at 1 10 0 0) 0x55 ∷ []) ≡ 0 ∷ 8 ∷ 650 ∷ []
  -- A master's grant takes a day too.
  master : worked (mode 2 ∷ []) (flags 1 ∷ []) (shows (at 1 10 0 0) 0x55 ∷ []) ≡ 1 ∷ 7 ∷ at 1 10 0 0 ∷ []
  -- An unknown card's failure leaves it.
  unknown : worked [] [] (shows (at 1 10 0 0) 0x77 ∷ []) ≡ 129 ∷ 8 ∷ 650 ∷ []

pub entries : Entries
unfolding bytes hall left worked
entries = record { awaited = refl; confirmed = refl; disabled = refl; no_service = refl; master = refl; unknown = refl }
