-- The worked cases of document 01, computed through the calls on bytes, site check included; and its misreadings.
use Prim.Native.Nat.{ℕ}
use mathlib.Core.Path.{◌≡◌, refl}
use mathlib.Core.List.{List, [], ◌∷◌, map, flatten}
use Rattle.octets.specs.Octets.{field}
use Rattle.model.specs.Numbers.{NONE, NEVER, UNLIMITED}
use Rattle.model.specs.Calls.{number}
use Rattle.model.specs.Lists.{answers_in}
use Rattle.model.specs.Print.{print_journal}
use Rattle.model.proofs.Open.{definitions}
use Rattle.model.proofs.Build.{zone, passback_zone, point, locking_point, credential, limited_credential, threat_point, factor, card, rule, every_rule, read, adjust, set_disable, run_of, events, examples}

-- The paper's site and journal.
unfoldable pub site : List (List ℕ)
site =
    zone 23 1 ∷ point 2 10 1 1 23 NONE ∷ credential 5 NEVER UNLIMITED NONE ∷ card 5 55 ∷ credential 6 NEVER UNLIMITED NONE
    ∷ card 6 66 ∷ []

unfoldable pub journal : List (List ℕ)
journal = read 2 100 55 ∷ read 2 160 66 ∷ read 2 220 77 ∷ []

-- The three printed answers. A site that expires its card at 100. A rule from minute 10 to minute 20. Point 3 leads out of zone 23 and
-- point 2 into it; an adjustment by 0 shows the count between the two passages. Two adjustments.
pub record WorkedCases : Type 0 where
  printed :
      (run_of site journal).answers
      ≡ 0x00 ∷ 0x01 ∷ 0x01 ∷ 0x00 ∷ 0x00 ∷ 0x00 ∷ 0x00 ∷ 0x01 ∷ 0x00 ∷ 0x00 ∷ 0x00 ∷ 0x05 ∷ 0x00 ∷ 0x00 ∷ 0x00 ∷ 0x01
      ∷ 0x00 ∷ 0x8E ∷ 0x01 ∷ 0x00 ∷ 0x00 ∷ 0x00 ∷ 0x00 ∷ 0x02 ∷ 0x00 ∷ 0x00 ∷ 0x00 ∷ 0x06 ∷ 0x00 ∷ 0x00 ∷ 0x00 ∷ 0x01
      ∷ 0x00 ∷ 0x81 ∷ 0x01 ∷ 0x00 ∷ 0x00 ∷ 0x00 ∷ 0x00 ∷ 0x03 ∷ 0x00 ∷ 0x3F ∷ 0xFF ∷ 0xFF ∷ 0x00 ∷ 0x00 ∷ 0x00 ∷ 0x01
      ∷ []
  -- The same as text.
  text :
      print_journal (flatten site) (flatten journal)
      ≡ 48 ∷ 48 ∷ 48 ∷ 49 ∷ 48 ∷ 49 ∷ 48 ∷ 48 ∷ 48 ∷ 48 ∷ 48 ∷ 48 ∷ 48 ∷ 48 ∷ 48 ∷ 49 ∷ 48 ∷ 48 ∷ 48 ∷ 48 ∷ 48 ∷ 48 ∷ 48 ∷ 53 ∷ 48 ∷ 48 ∷ 48 ∷ 48 ∷ 48 ∷ 48 ∷ 48 ∷ 49 ∷ 10 ∷ 48 ∷ 48 ∷ 56 ∷ 69 ∷ 48 ∷ 49 ∷ 48 ∷ 48 ∷ 48 ∷ 48 ∷ 48 ∷ 48 ∷ 48 ∷ 48 ∷ 48 ∷ 50 ∷ 48 ∷ 48 ∷ 48 ∷ 48 ∷ 48 ∷ 48 ∷ 48 ∷ 54 ∷ 48 ∷ 48 ∷ 48 ∷ 48 ∷ 48 ∷ 48 ∷ 48 ∷ 49 ∷ 10 ∷ 48 ∷ 48 ∷ 56 ∷ 49 ∷ 48 ∷ 49 ∷ 48 ∷ 48 ∷ 48 ∷ 48 ∷ 48 ∷ 48 ∷ 48 ∷ 48 ∷ 48 ∷ 51 ∷ 48 ∷ 48 ∷ 51 ∷ 70 ∷ 70 ∷ 70 ∷ 70 ∷ 70 ∷ 48 ∷ 48 ∷ 48 ∷ 48 ∷ 48 ∷ 48 ∷ 48 ∷ 49 ∷ 10 ∷ []
  printed_number : number (run_of site journal).returned ≡ 0
  -- Expiry equal to the time grants, one later 152.
  expiry :
      events (run_of (point 2 0 1 1 NONE NONE ∷ credential 5 100 UNLIMITED NONE ∷ card 5 55 ∷ []) (read 2 100 55 ∷ read 2 101 55 ∷ []))
      ≡ 1 ∷ 152 ∷ []
  -- Minute equal to from fits, to does not.
  minute :
      events
      (run_of (point 2 0 0 1 NONE NONE ∷ rule 9 1 2 10 20 ∷ credential 5 NEVER UNLIMITED 9 ∷ card 5 55 ∷ [])
      (read 2 600 55 ∷ read 2 1199 55 ∷ read 2 1200 55 ∷ []))
      ≡ 1 ∷ 1 ∷ 136 ∷ []
  -- Exit at count 0 gives 0, the entry after it 1.
  passages :
      map (field 12 4)
      (answers_in
      (run_of
      (zone 23 0 ∷ point 2 8 1 1 23 NONE ∷ point 3 8 1 1 NONE 23 ∷ credential 5 NEVER UNLIMITED NONE ∷ card 5 55 ∷ [])
      (read 3 100 55 ∷ adjust 23 0 ∷ read 2 120 55 ∷ [])).answers)
      ≡ 0 ∷ 0 ∷ 1 ∷ []
  -- Adjust −5 at 2 gives 0.
  adjustment :
      map (field 12 4) (answers_in (run_of (zone 23 0 ∷ []) (adjust 23 2 ∷ adjust 23 0xFFFFFFFB ∷ [])).answers) ≡ 2 ∷ 0 ∷ []

pub worked_cases : WorkedCases
unfolding definitions examples site journal
worked_cases = record { printed = refl; text = refl; printed_number = refl; expiry = refl; minute = refl; passages = refl; adjustment = refl }

-- ── the misreadings of the paper, each shown to be not what the definitions give

pub record Misreadings : Type 0 where
  -- "days fall on every grant": a card with two days is granted three times on the first, once more on the second, and then no more.
  days :
      events
      (run_of (point 2 0 1 1 NONE NONE ∷ credential 5 NEVER 2 NONE ∷ card 5 55 ∷ [])
      (read 2 0 55 ∷ read 2 100 55 ∷ read 2 86399 55 ∷ read 2 86400 55 ∷ read 2 86401 55 ∷ []))
      ≡ 1 ∷ 1 ∷ 1 ∷ 1 ∷ 155 ∷ []
  -- "a negative rule outside its hours still denies": it denies from minute 10 to minute 20 alone.
  negative_rule :
      events
      (run_of (point 2 0 0 1 NONE NONE ∷ rule 9 3 2 10 20 ∷ every_rule 9 ∷ credential 5 NEVER UNLIMITED 9 ∷ card 5 55 ∷ [])
      (read 2 599 55 ∷ read 2 600 55 ∷ read 2 1200 55 ∷ []))
      ≡ 1 ∷ 135 ∷ 1 ∷ []
  -- "timeout 0 read as expired": a factor timeout of 0 waits for ever, and a passback timeout of 0 holds for ever.
  factor_timeout :
      events
      (run_of (point 2 0 1 2 NONE NONE ∷ credential 5 NEVER UNLIMITED NONE ∷ card 5 55 ∷ factor 2 5 66 ∷ [])
      (read 2 0 55 ∷ read 2 4294967294 66 ∷ []))
      ≡ 0 ∷ 1 ∷ []
  passback_timeout :
      events
      (run_of (passback_zone 7 1 0 ∷ point 2 0 1 1 7 NONE ∷ credential 5 NEVER UNLIMITED NONE ∷ card 5 55 ∷ [])
      (read 2 0 55 ∷ read 2 4294967294 55 ∷ []))
      ≡ 1 ∷ 138 ∷ []
  -- "a clock set back makes lockout end": a point locked at 1000 for 60 seconds stays locked at 500 and at 1059.
  clock_set_back :
      events
      (run_of (locking_point 2 1 60 ∷ credential 5 NEVER UNLIMITED NONE ∷ card 5 55 ∷ [])
      (read 2 1000 77 ∷ read 2 500 55 ∷ read 2 1059 55 ∷ read 2 1060 55 ∷ []))
      ≡ 129 ∷ 161 ∷ 161 ∷ 1 ∷ []

pub misreadings : Misreadings
unfolding definitions examples
misreadings =
    record { days = refl; negative_rule = refl; factor_timeout = refl; passback_timeout = refl; clock_set_back = refl }

-- ── the order of checks, where several of them fail at once

-- Step 5: a card that is not yet active, expired, disabled and out of days and uses; one that is disabled in turn with 1, 2, 3 and 0; one
-- that is out of uses alone. Steps 7 and 8: a point that denies all at a threat level above the card's authority, and one in AUTHORIZE.
pub record OrderOfChecks : Type 0 where
  dates :
      events (run_of (point 2 0 1 1 NONE NONE ∷ limited_credential 5 1 200 100 0 0 ∷ card 5 55 ∷ []) (read 2 150 55 ∷ read 2 250 55 ∷ []))
      ≡ 151 ∷ 152 ∷ []
  disables :
      events
      (run_of (point 2 0 1 1 NONE NONE ∷ limited_credential 5 1 0 NEVER 0 0 ∷ card 5 55 ∷ [])
      (read 2 0 55 ∷ set_disable 5 2 ∷ read 2 0 55 ∷ set_disable 5 3 ∷ read 2 0 55 ∷ set_disable 5 0 ∷ read 2 0 55 ∷ []))
      ≡ 158 ∷ 0 ∷ 153 ∷ 0 ∷ 154 ∷ 0 ∷ 155 ∷ []
  uses :
      events (run_of (point 2 0 1 1 NONE NONE ∷ limited_credential 5 0 0 NEVER 0 UNLIMITED ∷ card 5 55 ∷ []) (read 2 0 55 ∷ []))
      ≡ 156 ∷ []
  threat :
      events
      (run_of (threat_point 2 2 50 ∷ threat_point 3 0 50 ∷ threat_point 4 0 0 ∷ credential 5 NEVER UNLIMITED NONE ∷ card 5 55 ∷ [])
      (read 2 0 55 ∷ read 3 0 55 ∷ read 4 0 55 ∷ []))
      ≡ 128 ∷ 137 ∷ 134 ∷ []

pub order_of_checks : OrderOfChecks
unfolding definitions examples
order_of_checks = record { dates = refl; disables = refl; uses = refl; threat = refl }
