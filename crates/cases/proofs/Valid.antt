-- Step 5: "Time < activation 151; > expiry 152; disable 1→158, 2→153, 3→154; days 0: 155; uses 0: 156; last use known and elapsed >
-- absentee days × 86,400: 157."
use Prim.Native.Nat.{ℕ}
use mathlib.Core.Path.{◌≡◌, refl}
use mathlib.Core.List.{List, [], ◌∷◌, ◌++◌}
use Rattle.cases.proofs.Change.{Field}
use Rattle.cases.proofs.Fields.{mode, disable, activation, expiry, uses_given, days_given, absentee, uses, days, last_use, disabled}
use Rattle.cases.proofs.Bytes.{entry, shows, site, state, from_state, from_new, told, bytes}

-- The event of the card at a time, where fields of credential 5 and of its state are changed.
unfoldable pub shown : List Field → List Field → ℕ → List ℕ
shown ps ss time = told (from_state (site [] ps []) (state [] ss) (shows time 0x55 ∷ []))

-- The same at 1500 where the point denies all.
unfoldable pub denied : List Field → List Field → List ℕ
denied ps ss = told (from_state (site (mode 2 ∷ []) ps []) (state [] ss) (shows 1500 0x55 ∷ []))

pub record Valid : Type 0 where
  -- "Time < activation 151".
  activates : told (from_new (site [] (activation 200 ∷ []) []) (shows 199 0x55 ∷ shows 200 0x55 ∷ shows 201 0x55 ∷ [])) ≡ 151 ∷ 1 ∷ 1 ∷ []
  -- "> expiry 152"; "never (or end of time)".
  expires : told (from_new (site [] (expiry 300 ∷ []) []) (shows 299 0x55 ∷ shows 300 0x55 ∷ shows 301 0x55 ∷ [])) ≡ 1 ∷ 1 ∷ 152 ∷ []
  end_of_time : told (from_new (site [] [] []) (shows 4294967294 0x55 ∷ [])) ≡ 1 ∷ []
  -- "disable 1→158, 2→153, 3→154".
  disables :
      told
      (from_new (site [] [] [])
      (entry 4 1 0 5 0 0 ∷ shows 0 0x55 ∷ entry 4 2 0 5 0 0 ∷ shows 0 0x55 ∷ entry 4 3 0 5 0 0 ∷ shows 0 0x55 ∷ entry 4 0 0 5 0 0
      ∷ shows 0 0x55 ∷ []))
      ≡ 0 ∷ 158 ∷ 0 ∷ 153 ∷ 0 ∷ 154 ∷ 0 ∷ 1 ∷ []
  -- "days 0: 155; uses 0: 156", of the state; one is left for this entry.
  no_days : shown [] (days 0 ∷ []) 1000 ++ shown [] (days 1 ∷ []) 1000 ≡ 155 ∷ 1 ∷ []
  no_uses : shown [] (uses 0 ∷ []) 1000 ++ shown [] (uses 1 ∷ []) 1000 ≡ 156 ∷ 1 ∷ []
  -- "uses, days, disable from the site" in the fresh state alone.
  of_the_state :
      shown (disable 1 ∷ uses_given 0 ∷ days_given 0 ∷ []) [] 1000
      ++ told (from_new (site [] (disable 3 ∷ []) []) (shows 0 0x55 ∷ [])) ++ told (from_new (site [] (uses_given 0 ∷ []) []) (shows 0 0x55 ∷ []))
      ++ told (from_new (site [] (days_given 0 ∷ []) []) (shows 0 0x55 ∷ []))
      ≡ 1 ∷ 154 ∷ 156 ∷ 155 ∷ []
  -- "elapsed > absentee days × 86,400: 157": used at 700, two days later, a second more, by a clock set back.
  absent :
      shown (absentee 2 ∷ []) [] 173500 ++ shown (absentee 2 ∷ []) [] 173501 ++ shown (absentee 2 ∷ []) [] 500 ≡ 1 ∷ 157 ∷ 1 ∷ []
  absent_at_once :
      shown (absentee 0 ∷ []) [] 700 ++ shown (absentee 0 ∷ []) [] 701 ++ shown (absentee 0 ∷ []) (last_use 65535 ∷ []) 65536
      ++ shown (absentee 0 ∷ []) (last_use 4194303 ∷ []) 4194304
      ≡ 1 ∷ 157 ∷ 157 ∷ 157 ∷ []
  -- "last use known"; "65,535 unlimited, absent"; days that pass four bytes of seconds, and the last that do not.
  never_used : shown (absentee 0 ∷ []) (last_use 0xFFFFFFFF ∷ []) 4294967294 ≡ 1 ∷ []
  long_absent :
      shown (absentee 65535 ∷ []) (last_use 0 ∷ []) 4294967294 ++ shown (absentee 49711 ∷ []) (last_use 0 ∷ []) 4294967294
      ++ shown (absentee 49710 ∷ []) (last_use 0 ∷ []) 4294944000 ++ shown (absentee 49710 ∷ []) (last_use 0 ∷ []) 4294944001
      ≡ 1 ∷ 1 ∷ 1 ∷ 157 ∷ []
  -- "It gets last use": 157 too.
  renewed :
      told (from_state (site [] (absentee 1 ∷ []) []) (state [] (last_use 0 ∷ [])) (shows 86401 0x55 ∷ shows 86402 0x55 ∷ [])) ≡ 157 ∷ 1 ∷ []
  -- "The first step that gives an event ends the checks": not active before expired before each disable before days, uses, absence, DENY_ALL.
  order_dates :
      denied (activation 2000 ∷ expiry 1000 ∷ absentee 0 ∷ []) (disabled 1 ∷ uses 0 ∷ days 0 ∷ [])
      ++ denied (activation 2000 ∷ expiry 1000 ∷ absentee 0 ∷ []) (disabled 2 ∷ uses 0 ∷ days 0 ∷ [])
      ++ denied (activation 2000 ∷ expiry 1000 ∷ absentee 0 ∷ []) (disabled 3 ∷ uses 0 ∷ days 0 ∷ [])
      ++ denied (expiry 1000 ∷ absentee 0 ∷ []) (disabled 1 ∷ uses 0 ∷ days 0 ∷ [])
      ++ denied (expiry 1000 ∷ absentee 0 ∷ []) (disabled 2 ∷ uses 0 ∷ days 0 ∷ [])
      ++ denied (expiry 1000 ∷ absentee 0 ∷ []) (disabled 3 ∷ uses 0 ∷ days 0 ∷ [])
      ≡ 151 ∷ 151 ∷ 151 ∷ 152 ∷ 152 ∷ 152 ∷ []
  order :
      denied (absentee 0 ∷ []) (disabled 1 ∷ uses 0 ∷ days 0 ∷ []) ++ denied (absentee 0 ∷ []) (disabled 2 ∷ uses 0 ∷ days 0 ∷ [])
      ++ denied (absentee 0 ∷ []) (disabled 3 ∷ uses 0 ∷ days 0 ∷ []) ++ denied (absentee 0 ∷ []) (uses 0 ∷ days 0 ∷ [])
      ++ denied (absentee 0 ∷ []) (uses 0 ∷ []) ++ denied (absentee 0 ∷ []) [] ++ denied [] []
      ≡ 158 ∷ 153 ∷ 154 ∷ 155 ∷ 156 ∷ 157 ∷ 128 ∷ []

pub valid_cases : Valid
unfolding bytes shown denied
valid_cases =
    record {
      activates = refl;
      expires = refl;
      end_of_time = refl;
      disables = refl;
      no_days = refl;
      no_uses = refl;
      of_the_state = refl;
      absent = refl;
      absent_at_once = refl;
      never_used = refl;
      long_absent = refl;
      renewed = refl;
      order_dates = refl;
      order = refl;
    }
