-- Steps 6 to 8: "Master exemption skips to 11." "DENY_ALL: 128." "Authority < threat: 137."
use Prim.Native.Nat.{ℕ}
use mathlib.Core.Path.{◌≡◌, refl}
use mathlib.Core.List.{List, [], ◌∷◌, ◌++◌}
use Rattle.cases.proofs.Change.{Field, with_fields}
use Rattle.cases.proofs.Fields.{flags, passback, upper, lower, mode, threat, authority, first_rights, locked, disabled}
use Rattle.cases.proofs.Bytes.{rule, shows, site, state, passing, inside, from_state, from_new, told, bytes}

-- The event of the card where fields of point 2 and credential 5 are changed.
unfoldable pub at_door : List Field → List Field → List ℕ
at_door ds ps = told (from_new (site ds ps []) (shows 0 0x55 ∷ []))

-- Every check of 7, 8 and 10 fails: hard passback, three of at most three in zone 7, three of at least three in zone 8.
unfoldable pub crowd : List Field → List Field → List (List ℕ)
crowd ds ps = passing (passback 1 ∷ upper 3 ∷ []) (lower 3 ∷ []) (flags 6 ∷ threat 100 ∷ ds) (authority 99 ∷ ps)

pub record Modes : Type 0 where
  -- "mode 0 AUTHORIZE, 1 GRANT_ACTIVE, 2 DENY_ALL".
  modes : at_door (mode 0 ∷ []) [] ++ at_door (mode 1 ∷ []) [] ++ at_door (mode 2 ∷ []) [] ≡ 134 ∷ 1 ∷ 128 ∷ []
  -- "Authority < threat: 137."
  threats :
      at_door (threat 50 ∷ []) (authority 49 ∷ []) ++ at_door (threat 50 ∷ []) (authority 50 ∷ [])
      ++ at_door (threat 50 ∷ []) (authority 51 ∷ [])
      ≡ 137 ∷ 1 ∷ 1 ∷ []
  -- 128 before 137, 137 before 134 and 135.
  order :
      at_door (mode 2 ∷ threat 1 ∷ []) [] ++ at_door (mode 0 ∷ threat 1 ∷ []) []
      ++ told
      (from_new (with_fields (flags 7 ∷ []) rule ∷ site (mode 0 ∷ threat 1 ∷ []) (first_rights 9 ∷ []) []) (shows 0 0x55 ∷ []))
      ≡ 128 ∷ 137 ∷ 137 ∷ []
  -- "Master exemption skips to 11": DENY_ALL, threat, passback and both limits; a negative rule and no positive; no rule at all.
  master :
      told (from_state (crowd (mode 2 ∷ []) (flags 1 ∷ [])) (inside 3 3 []) (shows 1000 0x55 ∷ []))
      ++ told (from_new (with_fields (flags 7 ∷ []) rule ∷ site (mode 0 ∷ []) (flags 1 ∷ first_rights 9 ∷ []) []) (shows 0 0x55 ∷ []))
      ++ at_door (mode 0 ∷ []) (flags 1 ∷ [])
      ≡ 1 ∷ 1 ∷ 1 ∷ []
  -- The same without it.
  not_master : told (from_state (crowd (mode 2 ∷ []) (flags 0x1E ∷ [])) (inside 3 3 []) (shows 1000 0x55 ∷ [])) ≡ 128 ∷ []
  -- Steps 1 and 5 are asked of masters.
  master_denied :
      told (from_state (site [] (flags 1 ∷ []) []) (state (locked 1 ∷ []) []) (shows 1000 0x55 ∷ []))
      ++ told (from_state (site [] (flags 1 ∷ []) []) (state [] (disabled 1 ∷ [])) (shows 1000 0x55 ∷ []))
      ≡ 161 ∷ 158 ∷ []

pub modes_cases : Modes
unfolding bytes at_door crowd
modes_cases =
    record { modes = refl; threats = refl; order = refl; master = refl; not_master = refl; master_denied = refl }
