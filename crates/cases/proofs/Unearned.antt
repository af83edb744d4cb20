-- What an earned grant excludes: for each check, a read that fails it alone would be earned only where something false held. Point 2, and credential 5
-- with the card 55, unless a case says otherwise.
use Prim.Native.Nat.{ℕ, ◌≤◌, ◌<◌}
use mathlib.Core.Path.{◌≡◌, refl}
use mathlib.Core.List.{List, [], ◌∷◌, map, flatten}
use mathlib.Core.Bool.{true, false}
use Rattle.octets.specs.Octets.{put}
use Rattle.model.specs.Numbers.{NONE, NEVER, UNLIMITED}
use Rattle.model.specs.Site.{credential_id}
use Rattle.model.specs.State.{Panel, panel, sites, find, fresh}
use Rattle.model.specs.Entry.{entry_of}
use Rattle.model.specs.Step.{situation_of}
use Rattle.model.specs.Earned.{FittingRule, forbidden, Earned}
use Rattle.model.proofs.Open.{definitions}
use Rattle.model.proofs.Build.{zone, lower_zone, passback_zone, point, threat_point, credential, limited_credential, absent_credential, factor, card, rule, every_rule, read, adjust, lock, run_of, examples}
use Rattle.cases.proofs.Change.{with_fields}

-- The read e is earned for credential 5, in the state that the journal leaves from fresh.
unfoldable pub EarnedAfter : List (List ℕ) → List (List ℕ) → List ℕ → Type 0
EarnedAfter site journal e = Earned (panel (flatten site) (run_of site journal).state) (entry_of e) (credential_id 5)

unfoldable pub cards : List (List ℕ)
cards = credential 5 NEVER UNLIMITED NONE ∷ card 5 55 ∷ []

-- A door with one rule, fresh.
unfoldable pub ruled_site : List (List ℕ)
ruled_site = point 2 0 0 1 NONE NONE ∷ rule 9 1 2 10 20 ∷ credential 5 NEVER UNLIMITED 9 ∷ card 5 55 ∷ []

unfoldable pub ruled_panel : Panel
ruled_panel = panel (flatten ruled_site) (fresh (flatten ruled_site))

-- One name that opens these.
unfoldable pub earning : Unit {0}
unfolding EarnedAfter cards ruled_site ruled_panel Earned forbidden with_fields put
earning = tt

-- "Out of service: event 0".
pub out_of_service : EarnedAfter (point 2 1 1 1 NONE NONE ∷ cards) [] (read 2 9 55) → true ≡ false
unfolding definitions examples earning
out_of_service x = x.in_service

-- "Still locked: 161."
pub still_locked_law : EarnedAfter (point 2 0 1 1 NONE NONE ∷ cards) (lock 2 8 ∷ []) (read 2 9 55) → true ≡ false
unfolding definitions examples earning
still_locked_law x = x.not_locked

-- "elapsed > a set timeout: 131."
pub too_late :
    EarnedAfter (with_fields ((18, 2, 60) ∷ []) (point 2 0 1 2 NONE NONE) ∷ factor 2 5 66 ∷ cards) (read 2 9 55 ∷ []) (read 2 70 66) →
    true ≡ false
unfolding definitions examples earning
too_late x = x.in_time

-- "Format 1: 148."
pub error_read : EarnedAfter (point 2 0 1 1 NONE NONE ∷ cards) [] (with_fields ((1, 1, 1) ∷ []) (read 2 9 55)) → true ≡ false
unfolding definitions examples earning
error_read x = x.no_error

-- "no identifying factor: 129."
pub unknown_card : EarnedAfter (point 2 0 1 1 NONE NONE ∷ cards) [] (read 2 9 77) → (false ≡ true) × (false ≡ true)
unfolding definitions examples earning
unknown_card x = (x.in_site, x.matched)

-- "no confirming factor of that credential: 132": its identifying factor does not confirm.
pub not_confirming : EarnedAfter (point 2 0 1 2 NONE NONE ∷ factor 2 5 66 ∷ cards) (read 2 9 55 ∷ []) (read 2 10 55) → false ≡ true
unfolding definitions examples earning
not_confirming x = x.matched

-- "The answer names the credential .. that step 3 matched": the card of credential 6 is not 5's.
pub of_another : EarnedAfter (point 2 0 1 1 NONE NONE ∷ credential 6 NEVER UNLIMITED NONE ∷ card 6 66 ∷ cards) [] (read 2 9 66) →
    credential_id 6 ≡ credential_id 5
unfolding definitions examples earning
of_another x = x.of_credential

-- "Disabled factor: .. 2→143".
pub lost_card : EarnedAfter (point 2 0 1 1 NONE NONE ∷ with_fields ((3, 1, 2) ∷ []) (card 5 55) ∷ credential 5 NEVER UNLIMITED NONE ∷ []) [] (read 2 9 55) → ◌≡◌ {A = ℕ} 2 0
unfolding definitions examples earning
lost_card x = x.factor_enabled

-- "Not waiting and two wanted: wait from now, event 0."
pub first_of_two_law : EarnedAfter (point 2 0 1 2 NONE NONE ∷ factor 2 5 66 ∷ cards) [] (read 2 9 55) → credential_id NONE ≡ credential_id 5
unfolding definitions examples earning
first_of_two_law x = x.confirmed refl

-- "Time < activation 151; > expiry 152; disable 1→158 ..; days 0: 155; uses 0: 156; last use known and elapsed > absentee days × 86,400: 157."
pub not_yet_active : EarnedAfter (point 2 0 1 1 NONE NONE ∷ limited_credential 5 0 200 NEVER 7 8 ∷ card 5 55 ∷ []) [] (read 2 199 55) → 200 ≤ 199
unfolding definitions examples earning
not_yet_active x = x.active

pub expired : EarnedAfter (point 2 0 1 1 NONE NONE ∷ limited_credential 5 0 0 100 7 8 ∷ card 5 55 ∷ []) [] (read 2 101 55) → 101 ≤ 100
unfolding definitions examples earning
expired x = x.unexpired

pub disabled : EarnedAfter (point 2 0 1 1 NONE NONE ∷ limited_credential 5 3 0 NEVER 7 8 ∷ card 5 55 ∷ []) [] (read 2 9 55) → ◌≡◌ {A = ℕ} 3 0
unfolding definitions examples earning
disabled x = x.credential_enabled

pub no_days : EarnedAfter (point 2 0 1 1 NONE NONE ∷ limited_credential 5 0 0 NEVER 7 0 ∷ card 5 55 ∷ []) [] (read 2 9 55) → (0 < 0) × (0 < 7)
unfolding definitions examples earning
no_days x = (x.days_left, x.uses_left)

pub no_uses : EarnedAfter (point 2 0 1 1 NONE NONE ∷ limited_credential 5 0 0 NEVER 0 8 ∷ card 5 55 ∷ []) [] (read 2 9 55) → (0 < 8) × (0 < 0)
unfolding definitions examples earning
no_uses x = (x.days_left, x.uses_left)

pub absent : EarnedAfter (point 2 0 1 1 NONE NONE ∷ absent_credential 5 1 ∷ card 5 55 ∷ []) (read 2 9 55 ∷ []) (read 2 86410 55) → true ≡ false
unfolding definitions examples earning
absent x = x.not_absent

-- "DENY_ALL: 128." "Authority < threat: 137."
pub deny_all : EarnedAfter (point 2 0 2 1 NONE NONE ∷ cards) [] (read 2 9 55) → true ≡ false
unfolding definitions examples earning
deny_all x = (x.authorized refl).not_deny_all

pub threatened : EarnedAfter (threat_point 2 1 50 ∷ with_fields ((3, 1, 49) ∷ []) (credential 5 NEVER UNLIMITED NONE) ∷ card 5 55 ∷ []) [] (read 2 9 55) → 50 ≤ 49
unfolding definitions examples earning
threatened x = (x.authorized refl).authority

-- "Fitting negative: 135."
pub forbidden_here :
    EarnedAfter (point 2 0 0 1 NONE NONE ∷ every_rule 9 ∷ rule 9 3 2 10 20 ∷ credential 5 NEVER UNLIMITED 9 ∷ card 5 55 ∷ []) [] (read 2 600 55) →
    true ≡ false
unfolding definitions examples earning
forbidden_here x = (x.authorized refl).not_forbidden refl

-- "Fitting negative: 135. Else no fitting positive": each of the five ways in which a rule of another kind does not forbid, and the rule that lets in.
pub not_forbidden_by :
    map (λ s. forbidden (situation_of ruled_panel (entry_of (read 2 600 55)) (find 2 2 ruled_panel)) (s ∷ []) (entry_of (read 2 600 55)))
    (rule 9 3 2 10 20 ∷ rule 9 2 2 10 20 ∷ rule 9 1 2 10 20 ∷ rule 9 3 2 11 20 ∷ rule 9 3 3 10 20 ∷ rule 8 3 2 10 20 ∷ [])
    ≡ true ∷ false ∷ false ∷ false ∷ false ∷ false ∷ []
unfolding definitions examples earning
not_forbidden_by = refl

pub let_in : FittingRule (situation_of ruled_panel (entry_of (read 2 600 55)) (find 2 2 ruled_panel)) (sites ruled_panel) (entry_of (read 2 600 55))
unfolding definitions examples earning
let_in =
    record {
      rule = rule 9 1 2 10 20;
      in_site = refl;
      has_rights = refl;
      is_enabled = refl;
      is_positive = refl;
      place_fits = refl;
      is_in_time = refl;
    }

-- "hard 138".
pub twice_in : EarnedAfter (passback_zone 7 1 0 ∷ point 2 0 1 1 7 NONE ∷ cards) (read 2 9 55 ∷ []) (read 2 10 55) → true ≡ false
unfolding definitions examples earning
twice_in x = (x.authorized refl).no_hard_passback

-- "count ≤ lower: 141; then upper likewise for Zone_To, count ≥ upper: 142."
pub too_few : EarnedAfter (lower_zone 7 1 ∷ point 2 4 1 1 NONE 7 ∷ cards) (adjust 7 1 ∷ []) (read 2 9 55) → true ≡ false
unfolding definitions examples earning
too_few x = (x.authorized refl).above_lower_limit

pub too_many : EarnedAfter (zone 7 1 ∷ point 2 2 1 1 7 NONE ∷ cards) (adjust 7 1 ∷ []) (read 2 9 55) → true ≡ false
unfolding definitions examples earning
too_many x = (x.authorized refl).below_upper_limit

-- "Count adjust, Zone_To counting, count 4,294,967,295: 164." It holds of a master too.
pub uncountable :
    EarnedAfter (zone 7 0 ∷ point 2 8 1 1 7 NONE ∷ with_fields ((1, 1, 1) ∷ []) (credential 5 NEVER UNLIMITED NONE) ∷ card 5 55 ∷ [])
    (with_fields ((0, 1, 2) ∷ (12, 4, 4294967295) ∷ []) (adjust 7 0) ∷ []) (read 2 9 55) → true ≡ false
unfolding definitions examples earning
uncountable x = x.countable
