-- The definitions of WrongTries (model/specs) on entries with their answers, and on lists of runs from fresh beside the state that they leave.
use Prim.Native.Nat.{ℕ}
use mathlib.Core.Path.{◌≡◌, refl}
use mathlib.Core.List.{List, [], ◌∷◌, ◌++◌, map}
use mathlib.Core.Bool.{true, false}
use Rattle.octets.specs.Octets.{digits}
use Rattle.model.specs.Lists.{Worked, History, ended, worked}
use Rattle.model.specs.DayPasses.{is_grant_of, state_left}
use Rattle.model.specs.WrongTries.{is_try_of, is_disable_of, tried, tried_once, tried_by, tried_after, most_tries, tried_of, tries_in, tries_since}
use Rattle.model.proofs.Build.{cut, history, examples}
use Rattle.cases.proofs.Change.{Field, with_fields}
use Rattle.cases.proofs.Fields.{disable, most_tries_field}
use Rattle.cases.proofs.Bytes.{hall, person, card, pin, entry}
use Rattle.cases.proofs.WrongTries.{floor_door, floor, shows_at, types_at, once, twice, thrice, lifted, story_open}

-- One name that opens the definitions, and the helpers of WrongTries.
unfoldable pub tries_open : Unit {0}
unfolding story_open examples is_grant_of state_left is_try_of is_disable_of tried_once tried_by tried_after most_tries tried_of tries_in tries_since
tries_open = tt

-- ── an entry with its answer

-- An entry, and an answer of this event, refusal and credential.
unfoldable pub got : List ℕ → ℕ → ℕ → ℕ → Worked
got e event refusal credential =
    record { found = []; entry = e; answer = digits 2 event ++ (1 ∷ refusal ∷ []) ++ digits 4 9 ++ digits 4 credential ++ digits 4 8 }

-- A factor read of credential 5 that came to this event; operation 4 on it with this argument.
unfoldable pub came : ℕ → Worked
came event = got (types_at 2 100 0x66) event 0 5

unfoldable pub disables : ℕ → Worked
disables argument = got (entry 4 argument 100 5 0 0) 0 0 5

-- "Failures 131 and 132 shall be counted for each credential": of 5; then of 6 and of nobody.
pub tries_of :
    map (λ event. is_try_of 5 (came event)) (131 ∷ 132 ∷ 0 ∷ 1 ∷ 129 ∷ 130 ∷ 133 ∷ 147 ∷ 148 ∷ 154 ∷ 161 ∷ [])
    ++ map (λ c. is_try_of 5 (got (types_at 2 100 0x66) 132 0 c)) (6 ∷ 4194303 ∷ []) ++ map (λ c. is_try_of c (came 131)) (5 ∷ 6 ∷ 4194303 ∷ [])
    ≡ true ∷ true ∷ false ∷ false ∷ false ∷ false ∷ false ∷ false ∷ false ∷ false ∷ false ∷ false ∷ false ∷ true ∷ false ∷ false ∷ []
unfolding tries_open got came
tries_of = refl

-- An accepted operation 4 on 5: with each argument; refused with 7 and with 8; on 4 and on 6; on 6 and on 5 where the answer names the other; operations 0 to
-- 6 but 4, of the instance 5.
pub disables_of :
    map (λ argument. is_disable_of 5 (disables argument)) (0 ∷ 1 ∷ 2 ∷ 3 ∷ [])
    ++ map (λ refusal. is_disable_of 5 (got (entry 4 0 100 5 0 0) 0 refusal 4194303)) (7 ∷ 8 ∷ [])
    ++ map (λ i. is_disable_of 5 (got (entry 4 0 100 i 0 0) 0 0 i)) (4 ∷ 6 ∷ [])
    ++ (is_disable_of 5 (got (entry 4 0 100 6 0 0) 0 0 5) ∷ is_disable_of 5 (got (entry 4 0 100 5 0 0) 0 0 6) ∷ [])
    ++ map (λ operation. is_disable_of 5 (got (entry operation 0 100 5 0 0) 0 0 5)) (0 ∷ 1 ∷ 2 ∷ 3 ∷ 5 ∷ 6 ∷ [])
    ≡ true ∷ true ∷ true ∷ true ∷ false ∷ false ∷ false ∷ false ∷ false ∷ true ∷ false ∷ false ∷ false ∷ false ∷ false ∷ false ∷ []
unfolding tries_open got disables
disables_of = refl

-- "Reaching the most sets the disable to LOCKOUT and zeroes the count": below it, at it, by a most of 1, by the largest.
pub tried_once_law :
    tried_once 3 (tried 0 0) ∷ tried_once 3 (tried 1 2) ∷ tried_once 3 (tried 2 2) ∷ tried_once 1 (tried 0 0) ∷ tried_once 255 (tried 253 1)
    ∷ tried_once 255 (tried 254 1) ∷ []
    ≡ tried 1 0 ∷ tried 2 2 ∷ tried 0 3 ∷ tried 0 3 ∷ tried 254 1 ∷ tried 0 3 ∷ []
unfolding tries_open
tried_once_law = refl

-- From two tries and MANUAL, with a most of 3: 132, 131; a grant, 148, 154, event 0; operation 4 with 0, 1, 3; a try and a grant of another.
pub tried_by_law :
    map (λ w. tried_by 3 5 w (tried 2 2))
    (came 132 ∷ came 131 ∷ came 1 ∷ came 148 ∷ came 154 ∷ came 0 ∷ disables 0 ∷ disables 1 ∷ disables 3 ∷ got (types_at 2 100 0x66) 132 0 6
    ∷ got (types_at 2 100 0x66) 1 0 6 ∷ [])
    ≡ tried 0 3 ∷ tried 0 3 ∷ tried 0 2 ∷ tried 2 2 ∷ tried 2 2 ∷ tried 2 2 ∷ tried 0 0 ∷ tried 0 1 ∷ tried 0 3 ∷ tried 2 2 ∷ tried 2 2 ∷ []
unfolding tries_open got came disables
tried_by_law = refl

-- With a most of 4; unset; operation 4 before all, though no answer to it has the event of a grant or a try.
pub tried_by_most :
    tried_by 4 5 (came 132) (tried 2 2) ∷ tried_by 0 5 (came 132) (tried 0 2) ∷ tried_by 0 5 (came 1) (tried 0 2) ∷ tried_by 0 5 (disables 1) (tried 0 2)
    ∷ tried_by 3 5 (got (entry 4 1 100 5 0 0) 1 0 5) (tried 2 2) ∷ tried_by 3 5 (got (entry 4 1 100 5 0 0) 132 0 5) (tried 1 2) ∷ []
    ≡ tried 3 2 ∷ tried 0 2 ∷ tried 0 2 ∷ tried 0 1 ∷ tried 0 1 ∷ tried 0 1 ∷ []
unfolding tries_open got came disables
tried_by_most = refl

-- Entries in turn, from one try: three tries, of which the second reaches the most; a grant and a try; operation 4 and two tries; none.
pub tried_after_law :
    map (tried_after 3 5 (tried 1 0))
    ((came 132 ∷ came 131 ∷ came 132 ∷ []) ∷ (came 132 ∷ came 1 ∷ came 132 ∷ []) ∷ (disables 2 ∷ came 132 ∷ came 132 ∷ []) ∷ [] ∷ [])
    ≡ tried 1 3 ∷ tried 1 0 ∷ tried 2 2 ∷ tried 1 0 ∷ []
unfolding tries_open got came disables
tried_after_law = refl

-- The tries since the last grant or operation 4, one before them: whatever the most, and not those of another; operation 4 before all.
pub tries_since_law :
    map (tries_since 5 1)
    ([] ∷ (came 132 ∷ came 131 ∷ came 132 ∷ []) ∷ (came 132 ∷ came 1 ∷ came 132 ∷ []) ∷ (came 132 ∷ came 132 ∷ disables 3 ∷ [])
    ∷ (came 148 ∷ came 154 ∷ came 0 ∷ got (types_at 2 100 0x66) 132 0 6 ∷ got (types_at 2 100 0x66) 1 0 6 ∷ [])
    ∷ (got (entry 4 1 100 5 0 0) 132 0 5 ∷ []) ∷ [])
    ≡ 1 ∷ 4 ∷ 1 ∷ 0 ∷ 1 ∷ 0 ∷ []
unfolding tries_open got came disables
tries_since_law = refl

-- ── lists of runs

-- The floor with credential 5 alone, fields of it changed.
unfoldable pub floor_of : List Field → List (List ℕ)
floor_of ps = hall ∷ floor_door 2 ∷ floor_door 3 ∷ with_fields ps person ∷ card ∷ pin ∷ []

-- What the answers show of a credential, tries and disable; what its state has; the tries since the last grant or operation 4.
unfoldable pub shown : ℕ → History → List ℕ
shown c h =
    (tried_of c h).tries ∷ (tried_of c h).disable ∷ (state_left c h).wrong_tries ∷ (state_left c h).disable ∷ tries_since c 0 (worked h) ∷ []

-- The floor of the request, in runs with one turned back: two wrong codes of 5, a grant, a wrong code.
unfoldable pub granted_between : History
unfolding tries_open
granted_between = history floor (twice ∷ (shows_at 2 0x120 0x55 ∷ types_at 2 0x121 0x66 ∷ []) ∷ cut ∷ (shows_at 3 0x130 0x55 ∷ types_at 3 0x131 0x99 ∷ []) ∷ []) refl

-- Three wrong codes; then a fourth; then MANUAL set by operation 4.
unfoldable pub to_the_most : History
unfolding tries_open
to_the_most = history floor (thrice ∷ []) refl

unfoldable pub past_the_most : History
unfolding tries_open
past_the_most = history floor ((thrice ++ (shows_at 2 0x130 0x55 ∷ types_at 2 0x131 0x99 ∷ [])) ∷ []) refl

unfoldable pub set_after : History
unfolding tries_open
set_after = history floor (thrice ∷ (entry 4 2 0x130 5 0 0 ∷ []) ∷ []) refl

-- The whole story, at whose end the disable is lifted and 5 granted.
unfoldable pub whole : History
unfolding tries_open
whole = history floor (lifted ∷ []) refl

-- The three wrong codes where the most is unset; one of them, and all three, where the site's disable is DISABLE.
unfoldable pub unset : History
unfolding tries_open floor_of
unset = history (floor_of []) (thrice ∷ []) refl

unfoldable pub disabled_once : History
unfolding tries_open floor_of
disabled_once = history (floor_of (disable 1 ∷ most_tries_field 3 ∷ [])) (once ∷ []) refl

unfoldable pub disabled_thrice : History
unfolding tries_open floor_of
disabled_thrice = history (floor_of (disable 1 ∷ most_tries_field 3 ∷ [])) (thrice ∷ []) refl

pub record Lists : Type 0 where
  -- Two tries, "a grant .. also zeroes it", one try.
  one_left : shown 5 granted_between ≡ 1 ∷ 0 ∷ 1 ∷ 0 ∷ 1 ∷ []
  -- "Reaching the most sets the disable to LOCKOUT and zeroes the count": the three tries still stand since the last grant or operation 4; the fourth counts on.
  locked_out : shown 5 to_the_most ≡ 0 ∷ 3 ∷ 0 ∷ 3 ∷ 3 ∷ []
  counts_on : shown 5 past_the_most ≡ 1 ∷ 3 ∷ 1 ∷ 3 ∷ 4 ∷ []
  -- "operation 4 also zeroes it", with its argument as disable; with 0, before a grant.
  set_manual : shown 5 set_after ≡ 0 ∷ 2 ∷ 0 ∷ 2 ∷ 0 ∷ []
  set_none : shown 5 whole ≡ 0 ∷ 0 ∷ 0 ∷ 0 ∷ 0 ∷ []
  -- "0 unset": no count, though there were three tries.
  most_unset : shown 5 unset ≡ 0 ∷ 0 ∷ 0 ∷ 0 ∷ 3 ∷ []
  -- The site's disable stays below the most.
  disabled_before : shown 5 disabled_once ++ shown 5 disabled_thrice ≡ 1 ∷ 1 ∷ 1 ∷ 1 ∷ 1 ∷ 0 ∷ 3 ∷ 0 ∷ 3 ∷ 3 ∷ []
  -- Another credential, and a number that is not there.
  another : shown 6 past_the_most ++ shown 7 past_the_most ≡ 0 ∷ 0 ∷ 0 ∷ 0 ∷ 0 ∷ 0 ∷ 0 ∷ 0 ∷ 0 ∷ 0 ∷ []
  -- The most in these sites: 3, unset, of another, of a number that is not there.
  mosts : most_tries 5 whole.site ∷ most_tries 5 unset.site ∷ most_tries 6 whole.site ∷ most_tries 7 whole.site ∷ [] ≡ 3 ∷ 0 ∷ 3 ∷ 0 ∷ []
  -- The count in a state, of 5, 6 and 7.
  in_state : map (λ c. tries_in c granted_between.site (ended granted_between)) (5 ∷ 6 ∷ 7 ∷ []) ≡ 1 ∷ 0 ∷ 0 ∷ []

pub lists : Lists
unfolding tries_open floor_of shown granted_between to_the_most past_the_most set_after whole unset disabled_once disabled_thrice
lists =
    record {
      one_left = refl;
      locked_out = refl;
      counts_on = refl;
      set_manual = refl;
      set_none = refl;
      most_unset = refl;
      disabled_before = refl;
      another = refl;
      mosts = refl;
      in_state = refl;
    }
