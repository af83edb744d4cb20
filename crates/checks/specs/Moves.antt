-- The order of checks in two moves: steps 1 to 5 are worked once, and the rules are walked for those reads only that come to step 9.
use Rattle.std.specs.Prelude.{ℕ, Bool, false, not, ◌&&◌, ltb, eqb, Option, is_none}
use Rattle.std.specs.Option.{unwrap_or, option_or}
use Rattle.model.specs.Numbers as n
use Rattle.model.specs.Checks.{authentication_of, authentication, validity_of, validity, permission}
use Rattle.model.specs.declared.Situation.{Situation}
use Rattle.model.specs.declared.Verdict.{Verdict}
use Rattle.model.specs.declared.Entry.{Entry}

-- Steps 1 to 5: their event, where one of them gives one.
unfoldable pub before_permission : Situation → Entry → Option ℕ
before_permission v e = option_or (authentication (authentication_of v e)) (validity (validity_of v e))

-- Step 9 is reached in AUTHORIZE, by a credential that is not master-exempt, where no step before gave an event.
unfoldable pub asks_rules : Situation → Option ℕ → Bool
asks_rules v before =
    eqb v.point.mode n.mode_authorize && not v.credential.master
    && not (ltb v.credential.threat_authority v.point.threat_level) && is_none before

-- What the rules say where they are not asked.
unfoldable pub no_verdict : Verdict
no_verdict = record { negative_fits = false; positive_fits = false; positive_located = false }

-- The event: that of the steps before, else that of steps 6 to 12.
unfoldable pub event_after : Situation → Verdict → Entry → Option ℕ → ℕ
event_after v rules e before = unwrap_or (option_or before (permission v rules e)) n.granted
