-- Document 02, job 5: "The estates now sell passes by days of admission." What the entries of a list and their answers show of a credential's grants, beside
-- its days in the site and in the state.
use Rattle.std.specs.Prelude.{ℕ, suc, ◌+◌, List, [], ◌∷◌, map, Bool, true, ◌&&◌, ltb, leb, eqb, if◌then◌else◌}
use Rattle.model.specs.Words.{keep, any, all, bit_of}
use Rattle.model.specs.Numbers as n
use Rattle.model.specs.Site.{records, days_given, is_at, find_in}
use Rattle.model.specs.State.{panel, find, credential_state_of}
use Rattle.model.specs.Entry.{entry_of}
use Rattle.model.specs.Effects.{date}
use Rattle.model.specs.Lists.{Worked, event_in, credential_in, History, ended, worked}
use Rattle.model.specs.declared.CredentialState.{CredentialState}

-- A grant of the credential c: event 1, in an answer that names it.
unfoldable pub is_grant_of : ℕ → Worked → Bool
is_grant_of c w = eqb (event_in w.answer) n.granted && eqb (credential_in w.answer) c

-- The times of its grants among worked entries, in turn.
unfoldable pub grant_times : ℕ → List Worked → List ℕ
grant_times c ws = map (λ (w : Worked). (entry_of w.entry).time) (keep (is_grant_of c) ws)

-- The times of its grants in a list, and their dates.
unfoldable pub times_granted : ℕ → History → List ℕ
times_granted c h = grant_times c (worked h)

unfoldable pub dates_granted : ℕ → History → List ℕ
dates_granted c h = map date (times_granted c h)

-- Its days in the site.
unfoldable pub days_in_site : ℕ → History → ℕ
days_in_site c h = days_given (find_in (is_at n.access_credential c) (records h.site))

-- Its state at the end of a list.
unfoldable pub state_left : ℕ → History → CredentialState
state_left c h = credential_state_of (find n.access_credential c (panel h.site (ended h))).1

-- The last of a list of times; `time` where there is none.
unfoldable pub last_of : ℕ → List ℕ → ℕ
last_of time [] = time
last_of time (t ∷ ts) = last_of t ts

-- The days that grants on these dates take, after a grant on the date `last`: one for each where "today's date is later than the last grant's".
unfoldable pub taken_since : ℕ → List ℕ → ℕ
taken_since last [] = 0
taken_since last (d ∷ ds) = bit_of (ltb last d) + taken_since d ds

-- The days that all grants take: one for the first too, where "the card has no earlier grant".
unfoldable pub days_taken : List ℕ → ℕ
days_taken [] = 0
days_taken (d ∷ ds) = suc (taken_since d ds)

-- Dates, or times, that never fall: none is before an earlier one of the list.
unfoldable pub never_fall : List ℕ → Bool
never_fall [] = true
never_fall (d ∷ ds) = all (leb d) ds && never_fall ds

-- The number of different dates.
unfoldable pub different : List ℕ → ℕ
different [] = 0
different (d ∷ ds) = if any (eqb d) ds then different ds else suc (different ds)
