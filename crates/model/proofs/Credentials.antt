-- A credential's state in a panel: after a write, in the situation of a factor read, when fresh, at the end of a list.
use Rattle.std.specs.Prelude.{if◌then◌else◌}
use Prim.Native.Nat.{ℕ}
use mathlib.Core.Path.{◌≡◌, refl, sym}
use mathlib.Core.List.{List, map}
use mathlib.Core.Bool.{Bool, true, false, not, ◌&&◌, ◌||◌}
use lib.Dec.{eqb}
use borrow.Author.Tests.{eqb-true, eqb-false}
use Rattle.model.specs.Words.{missing}
use Rattle.model.specs.Numbers as n
use Rattle.model.specs.Numbers.{NONE}
use Rattle.model.specs.Site.{credential_id, records, credential_of, is_at, find_in}
use Rattle.model.specs.State.{Pair, Panel, sites, find, seek, zone_bytes, credential_state_of, credential_bytes, fresh_credential, fresh_record}
use Rattle.model.specs.Entry.{entry_of}
use Rattle.model.specs.Checks.{waiting}
use Rattle.model.specs.Effects.{named}
use Rattle.model.specs.Step.{credential_at, situation_of, write_of, apply, after}
use Rattle.model.specs.Lists.{History}
use Rattle.model.specs.DayPasses.{state_left}
use Rattle.model.specs.declared.ZoneId.{ZoneId}
use Rattle.model.specs.declared.CredentialId.{CredentialId}
use Rattle.model.specs.declared.Situation.{Situation}
use Rattle.model.specs.declared.Entry.{Entry}
use Rattle.model.specs.declared.Answer.{Answer}
use Rattle.model.specs.declared.Outcome.{Outcome}
use Rattle.model.specs.declared.CredentialState.{CredentialState}
use Rattle.model.proofs.Laws.{kind_at, There, find_in_sites, sites_write_of, find_write_of_other, left_by, read_write_of, found_in}
use Rattle.model.proofs.RoundTrip.{credential_back}
use Rattle.model.proofs.Flat.{fresh_panel, find_fresh}
use Rattle.model.proofs.Runs.{all_entries, ended_panel}

-- ── a credential's state after a write

abbrev pub is_credential : ℕ → List ℕ → Bool
is_credential c = is_at n.access_credential c

-- Credential c's state in a panel.
unfoldable pub held : ℕ → Panel → CredentialState
held c ps = credential_state_of (find n.access_credential c ps).1

-- The state that an outcome leaves a credential of the state s.
unfoldable pub held_by : ℕ → Outcome → CredentialState → CredentialState
held_by c o s = left_by (λ (i : CredentialId). i.0) c o.credential s

-- The four writes of an outcome.
pub held_apply : (c : ℕ) → eqb c NONE ≡ false → (o : Outcome) (ps : Panel) → There n.access_credential c ps → held c (apply o ps) ≡ held_by c o (held c ps)
unfolding apply held held_by
held_apply c not_none o ps g =
    let left = write_of n.access_zone (λ (i : ZoneId). i.0) zone_bytes o.zone_from ps in
    let moved = write_of n.access_zone (λ (i : ZoneId). i.0) zone_bytes o.zone_to left in
    let there : There n.access_credential c moved = rw (sites_write_of, sites_write_of) g in
    rw (
      find_write_of_other n.access_credential c n.access_point _ _ o.point _ refl,
      read_write_of n.access_credential (λ (i : CredentialId). i.0) credential_bytes credential_state_of credential_back c not_none o.credential moved
          there,
      find_write_of_other n.access_credential c n.access_zone _ _ o.zone_to left refl,
      find_write_of_other n.access_credential c n.access_zone _ _ o.zone_from ps refl,
    )

-- ── a factor read

-- The answer grants the credential c.
abbrev pub grants : ℕ → Answer → Bool
grants c a = eqb a.event n.granted && eqb a.credential.0 c

-- The situation has the site record of the credential that is read.
pub credential_read_law : (ps : Panel) (e : Entry) (x : Pair) → eqb (situation_of ps e x).number.0 NONE ≡ false →
    (situation_of ps e x).credential ≡ credential_of (find_in (is_at n.access_credential (situation_of ps e x).number.0) (sites ps))
unfolding situation_of credential_at seek find
credential_read_law ps e x d = rw (d, find_in_sites)

module _ (c : ℕ) (not_none : eqb c NONE ≡ false) where
  -- An answer that names c is about the credential that was read.
  pub named_number : (v : Situation) (x : ℕ) → eqb (named v x).0 c ≡ true → v.number.0 ≡ c
  unfolding named
  named_number v x = go (not (waiting v) && (eqb x n.denied_lockout || eqb x n.denied_authentication_factor_error))
    where
      go : (b : Bool) → eqb (if b then credential_id NONE else v.number).0 c ≡ true → v.number.0 ≡ c
      go true h = absurd (eqb-false c NONE not_none (sym (eqb-true NONE c h)))
      go false h = eqb-true v.number.0 c h

  -- The situation of the credential c holds its state.
  pub state_read : (e : Entry) (ps : Panel) (x : Pair) → (situation_of ps e x).number.0 ≡ c → (situation_of ps e x).credential_state ≡ held c ps
  unfolding situation_of credential_at seek held
  state_read e ps x h = rw (h, not_none)

-- ── lists of runs from fresh

-- A credential's fresh state.
pub held_fresh : (c : ℕ) (ss : List (List ℕ)) → missing (find_in (is_credential c) ss) ≡ false →
    held c (fresh_panel ss) ≡ fresh_credential (find_in (is_credential c) ss)
unfolding held find fresh_record
held_fresh c ss g =
    rw (find_fresh (is_credential c) ss g, kind_at n.access_credential c (find_in (is_credential c) ss) (found_in (is_credential c) ss g))
    (credential_back (fresh_credential (find_in (is_credential c) ss)))

-- Its state at the end of a list, by the list's entries from the fresh panel.
pub state_left_law : (h : History) (c : ℕ) → state_left c h ≡ held c (after (fresh_panel (records h.site)) (map entry_of (all_entries h)))
unfolding state_left held
state_left_law h c = rw (ended_panel h)
