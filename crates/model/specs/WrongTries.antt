-- Document 02, job 4: "Wrong codes follow the card." What the entries of a list and their answers show of a credential's wrong tries, beside its most in the
-- site and its state.
use Rattle.std.specs.Prelude.{ℕ, ◌+◌, List, [], ◌∷◌, Bool, true, false, not, ◌&&◌, ◌||◌, leb, eqb, if◌then◌else◌, Option, Some, None}
use Rattle.model.specs.Numbers as n
use Rattle.model.specs.Site.{records, credential_of, disable_given, is_at, find_in}
use Rattle.model.specs.State.{panel, find, credential_state_of}
use Rattle.model.specs.Entry.{entry_of, operation_of}
use Rattle.model.specs.Lists.{Worked, event_in, refusal_in, credential_in, History, worked}
use Rattle.model.specs.DayPasses.{is_grant_of}
use Rattle.model.specs.declared.Operation.{Operation}
use Rattle.model.specs.declared.Operation.TheVariants.{Factor, SetCount, AdjustCount, SetDisable, SetService}

-- "Failures 131 and 132 shall be counted for each credential": one of them, in an answer that names the credential c.
unfoldable pub is_try_of : ℕ → Worked → Bool
is_try_of c w =
    (eqb (event_in w.answer) n.denied_authentication_factor_timeout || eqb (event_in w.answer) n.denied_incorrect_authentication_factor)
    && eqb (credential_in w.answer) c

-- "4. Set a credential's disable".
abbrev pub sets_disable : Option Operation → Bool
sets_disable (Some Factor) = false
sets_disable (Some SetCount) = false
sets_disable (Some AdjustCount) = false
sets_disable (Some SetDisable) = true
sets_disable (Some SetService) = false
sets_disable None = false

-- An accepted (refusal 0) operation 4 on the credential c.
unfoldable pub is_disable_of : ℕ → Worked → Bool
is_disable_of c w =
    sets_disable (operation_of (entry_of w.entry).operation) && eqb (entry_of w.entry).instance c
    && eqb (refusal_in w.answer) n.not_refused

-- ── the count and the disable, from the answers alone

-- A credential's wrong tries and its disable.
pub record Tried : Type 0 where
  pub tries : ℕ
  pub disable : ℕ

-- The same as a record of its parts.
abbrev pub tried : ℕ → ℕ → Tried
tried tries disable = record { tries = tries; disable = disable }

-- One more wrong try: "Reaching the most sets the disable to LOCKOUT and zeroes the count".
unfoldable pub tried_once : ℕ → Tried → Tried
tried_once most t = if leb most (t.tries + 1) then tried 0 n.disable_lockout else tried (t.tries + 1) t.disable

-- One entry with its answer: "a grant or operation 4 also zeroes it"; a try counts where the most is set.
unfoldable pub tried_by : ℕ → ℕ → Worked → Tried → Tried
tried_by most c w t =
    if is_disable_of c w then tried 0 (entry_of w.entry).argument else
    if is_grant_of c w then tried 0 t.disable else
    if not (eqb most 0) && is_try_of c w then tried_once most t else
    t

-- The entries in turn.
unfoldable pub tried_after : ℕ → ℕ → Tried → List Worked → Tried
tried_after most c t [] = t
tried_after most c t (w ∷ ws) = tried_after most c (tried_by most c w t) ws

-- The most wrong tries of a credential in a site.
unfoldable pub most_tries : ℕ → List ℕ → ℕ
most_tries c site = (credential_of (find_in (is_at n.access_credential c) (records site))).most_wrong_tries

-- What a list from fresh shows: no wrong tries and the site's disable, then its entries.
unfoldable pub tried_of : ℕ → History → Tried
tried_of c h =
    tried_after (most_tries c h.site) c (tried 0 (disable_given (find_in (is_at n.access_credential c) (records h.site)))) (worked h)

-- ── the tries since the count was last zeroed

-- The wrong tries in a state.
unfoldable pub tries_in : ℕ → List ℕ → List ℕ → ℕ
tries_in c site state = (credential_state_of (find n.access_credential c (panel site state)).1).wrong_tries

-- Those since the last grant of the credential or operation 4 on it, `before` of them before these entries.
unfoldable pub tries_since : ℕ → ℕ → List Worked → ℕ
tries_since c before [] = before
tries_since c before (w ∷ ws) =
    tries_since c (if is_disable_of c w || is_grant_of c w then 0 else if is_try_of c w then before + 1 else before) ws
