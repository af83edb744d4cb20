-- The definitions of DayPasses on lists of runs from fresh, and what their theorems ask: where a premise fails, so does the equation.
use Prim.Native.Nat.{ℕ}
use mathlib.Core.Path.{◌≡◌, refl}
use mathlib.Core.List.{List, [], ◌∷◌, ◌++◌, map}
use mathlib.Core.Bool.{Bool, true, false}
use Rattle.model.specs.Numbers.{NONE, NEVER}
use Rattle.model.specs.Lists.{History}
use Rattle.model.specs.DayPasses.{times_granted, dates_granted, days_in_site, state_left, last_of, taken_since, days_taken, never_fall, different}
use Rattle.model.proofs.Open.{definitions}
use Rattle.model.proofs.Build.{point, credential, card, read, set_disable, cut, history, examples}
use Rattle.model.proofs.Applied.{passes}
use Rattle.cases.proofs.Bytes.{at}

-- ── lists of dates

pub last_times : last_of 9 [] ∷ last_of 9 (3 ∷ []) ∷ last_of 9 (3 ∷ 5 ∷ 4 ∷ []) ∷ [] ≡ 9 ∷ 3 ∷ 4 ∷ []
unfolding passes
last_times = refl

-- After a grant on date 3: on none, the same, an earlier, a later date; forward, back and forward again.
pub since :
    map (taken_since 3) ([] ∷ (3 ∷ []) ∷ (2 ∷ []) ∷ (4 ∷ []) ∷ (4 ∷ 4 ∷ 9 ∷ []) ∷ (4 ∷ 3 ∷ 4 ∷ 2 ∷ []) ∷ []) ≡ 0 ∷ 0 ∷ 0 ∷ 1 ∷ 2 ∷ 2 ∷ []
unfolding passes
since = refl

pub taken : map days_taken ([] ∷ (0 ∷ []) ∷ (3 ∷ 3 ∷ []) ∷ (3 ∷ 4 ∷ []) ∷ (4 ∷ 3 ∷ []) ∷ (4 ∷ 3 ∷ 4 ∷ []) ∷ []) ≡ 0 ∷ 1 ∷ 1 ∷ 2 ∷ 1 ∷ 2 ∷ []
unfolding passes
taken = refl

pub falling :
    map never_fall ([] ∷ (3 ∷ []) ∷ (3 ∷ 3 ∷ []) ∷ (3 ∷ 4 ∷ []) ∷ (4 ∷ 3 ∷ []) ∷ (3 ∷ 5 ∷ 4 ∷ []) ∷ (4 ∷ 5 ∷ 3 ∷ []) ∷ (3 ∷ 4 ∷ 4 ∷ 5 ∷ []) ∷ [])
    ≡ true ∷ true ∷ true ∷ true ∷ false ∷ false ∷ false ∷ true ∷ []
unfolding passes
falling = refl

pub differing :
    map different ([] ∷ (0 ∷ []) ∷ (3 ∷ 3 ∷ []) ∷ (3 ∷ 4 ∷ []) ∷ (3 ∷ 4 ∷ 3 ∷ []) ∷ (5 ∷ 4 ∷ 3 ∷ []) ∷ (5 ∷ 4 ∷ 3 ∷ 4 ∷ 3 ∷ []) ∷ [])
    ≡ 0 ∷ 1 ∷ 1 ∷ 2 ∷ 2 ∷ 3 ∷ 3 ∷ []
unfolding passes
differing = refl

-- ── lists of runs

-- Point 2 grants, point 3 denies all. Credential 5 has a pass of five days, 6 one of as many days as are given.
abbrev doors : ℕ → List (List ℕ)
doors given =
    point 2 0 1 1 NONE NONE ∷ point 3 0 2 1 NONE NONE ∷ credential 5 NEVER 5 NONE ∷ card 5 55 ∷ credential 6 NEVER given NONE ∷ card 6 66 ∷ []

-- Both are granted, in three runs, one of them turned back; credential 6 is denied last, and its disable is set.
unfoldable pub guests : History
unfolding definitions examples
guests =
    history (doors 2)
    ((read 2 (at 0 9 0 0) 55 ∷ read 2 (at 0 10 0 0) 66 ∷ []) ∷ cut
    ∷ (read 3 (at 1 8 0 0) 55 ∷ read 2 (at 1 9 0 0) 55 ∷ read 2 (at 1 10 0 0) 66 ∷ read 3 (at 1 11 0 0) 66 ∷ set_disable 6 2 ∷ []) ∷ []) refl

-- The grants of each, and of a credential that is not there.
pub guests_granted :
    map (λ c. times_granted c guests) (5 ∷ 6 ∷ 7 ∷ [])
    ≡ (at 0 9 0 0 ∷ at 1 9 0 0 ∷ []) ∷ (at 0 10 0 0 ∷ at 1 10 0 0 ∷ []) ∷ [] ∷ []
unfolding passes guests
guests_granted = refl

-- The days of a credential: those left, taken, on different dates, in the site; and whether the dates and the times of its grants never fall.
unfoldable pub days_of : ℕ → History → List ℕ
days_of c h = (state_left c h).days ∷ days_taken (dates_granted c h) ∷ different (dates_granted c h) ∷ days_in_site c h ∷ []

unfoldable pub in_order : ℕ → History → List Bool
in_order c h = never_fall (dates_granted c h) ∷ never_fall (times_granted c h) ∷ []

pub guests_days : map (λ c. days_of c guests) (5 ∷ 6 ∷ []) ≡ (3 ∷ 2 ∷ 2 ∷ 5 ∷ []) ∷ (0 ∷ 2 ∷ 2 ∷ 2 ∷ []) ∷ []
unfolding passes guests days_of
guests_days = refl

pub guests_last : map (λ c. (state_left c guests).last_grant) (5 ∷ 6 ∷ []) ≡ at 1 9 0 0 ∷ at 1 10 0 0 ∷ []
unfolding passes guests
guests_last = refl

-- The clock set back to the date before; there and back twice; set back within a date.
unfoldable pub set_back : History
unfolding definitions examples
set_back = history (doors 2) ((read 2 (at 1 9 0 0) 55 ∷ read 2 (at 0 9 0 0) 55 ∷ []) ∷ []) refl

unfoldable pub to_and_fro : History
unfolding definitions examples
to_and_fro =
    history (doors 2) ((read 2 (at 0 9 0 0) 55 ∷ read 2 (at 1 9 0 0) 55 ∷ read 2 (at 0 9 0 0) 55 ∷ read 2 (at 1 9 0 0) 55 ∷ []) ∷ []) refl

unfoldable pub within_date : History
unfolding definitions examples
within_date = history (doors 2) ((read 2 (at 1 9 0 0) 55 ∷ read 2 (at 1 8 0 0) 55 ∷ read 2 (at 2 8 0 0) 55 ∷ []) ∷ []) refl

unfoldable pub unlimited : History
unfolding definitions examples
unlimited = history (doors 65535) ((read 2 (at 1 9 0 0) 66 ∷ []) ∷ []) refl

pub record Asked : Type 0 where
  -- Of `DaysOfAdmission`: the dates never fall. Where they do, one day is taken on two dates, and three on two.
  dates_fall : in_order 5 set_back ++ in_order 5 to_and_fro ≡ false ∷ false ∷ false ∷ false ∷ []
  fewer_days : days_of 5 set_back ≡ 4 ∷ 1 ∷ 2 ∷ 5 ∷ []
  more_days : days_of 5 to_and_fro ≡ 2 ∷ 3 ∷ 2 ∷ 5 ∷ []
  -- A clock set back within a date is no matter.
  times_fall : in_order 5 within_date ≡ true ∷ false ∷ []
  same_days : days_of 5 within_date ≡ 3 ∷ 2 ∷ 2 ∷ 5 ∷ []
  -- Of it and `DaysTaken`: the days are limited. Unlimited ones stay.
  days_stay : days_of 6 unlimited ≡ 65535 ∷ 1 ∷ 1 ∷ 65535 ∷ []
  -- Of `LastGrant`: the credential is in the site. Number 7 has no state, and reads as zero.
  not_there : (state_left 7 guests).last_grant ∷ last_of NEVER (times_granted 7 guests) ∷ [] ≡ 0 ∷ 4294967295 ∷ []

pub asked : Asked
unfolding passes guests days_of in_order set_back to_and_fro within_date unlimited
asked =
    record {
      dates_fall = refl;
      fewer_days = refl;
      more_days = refl;
      times_fall = refl;
      same_days = refl;
      days_stay = refl;
      not_there = refl;
    }
