-- From reader to door: the bits of a card in a journal's entry.
use Prim.Native.Nat.{ℕ}
use mathlib.Core.Path.{◌≡◌, refl}
use Rattle.std.specs.Prelude.{Result, Ok, Err}
use mathlib.Core.List.{List, [], ◌∷◌, ◌++◌}
use Rattle.octets.specs.Octets.{field, digits}
use Rattle.model.specs.Words.{zeros}
use Rattle.model.specs.Numbers.{NONE, NEVER, UNLIMITED}
use Rattle.model.specs.Calls.{RunResult}
use Rattle.model.proofs.Open.{definitions}
use Rattle.model.proofs.Build.{locking_point, credential, run_of, events, examples}
use Rattle.wiegand.specs.Wiegand.{read_wiegand26}
use Rattle.wiegand.specs.declared.Factor.{Factor}
use Rattle.wiegand.specs.declared.NotTwentySixBits.{NotTwentySixBits}
use Rattle.wiegand.proofs.Cases.{readers}

-- 002's card, format 8, facility 131, card 77, of credential 33.
unfoldable pub own_card : List ℕ
own_card =
    (5 ∷ 0 ∷ 1 ∷ 0 ∷ 0 ∷ 0 ∷ 0 ∷ 33 ∷ 8 ∷ []) ++ zeros 7 ++ (0 ∷ 0 ∷ 0 ∷ 0 ∷ 0 ∷ 0x83 ∷ 0x00 ∷ 0x4D ∷ []) ++ zeros 8

-- Point 2, which locks at three failures, and the credential.
unfoldable pub door : List (List ℕ)
door = locking_point 2 3 0 ∷ credential 33 NEVER UNLIMITED NONE ∷ own_card ∷ []

-- A factor in an entry at point 2: its format is the small argument, its value the value. No entry of bits that are turned away.
unfoldable pub entered : Result Factor NotTwentySixBits → List (List ℕ)
entered (Ok made) = ((1 ∷ made.format ∷ 0 ∷ 0 ∷ []) ++ digits 4 100 ++ digits 4 2 ++ zeros 4 ++ made.value) ∷ []
entered (Err refusal) = []

-- The bits at the door, from fresh.
unfoldable pub shown : ℕ → RunResult
shown number = run_of door (entered (read_wiegand26 number 26))

-- The failures in the point's state.
unfoldable pub failures : RunResult → ℕ
failures r = field 4 1 r.state

pub record DoorCases : Type 0 where
  -- Granted to credential 33; no failure.
  granted : events (shown 50725019) ∷ (field 8 4 (shown 50725019).answers ∷ failures (shown 50725019) ∷ []) ∷ [] ≡ (1 ∷ []) ∷ (33 ∷ 0 ∷ []) ∷ []
  -- A flipped bit: 148, nobody named, a failure on the point.
  flipped : events (shown 50724891) ∷ (field 8 4 (shown 50724891).answers ∷ failures (shown 50724891) ∷ []) ∷ [] ≡ (148 ∷ []) ∷ (NONE ∷ 1 ∷ []) ∷ []
  -- Another card: 129.
  unknown : events (shown 50725021) ≡ 129 ∷ []

pub door_cases : DoorCases
unfolding definitions examples readers own_card door entered shown failures
door_cases = record { granted = refl; flipped = refl; unknown = refl }
