-- The border of a part: the state records that an entry writes are all on the side of the entry's object.
use Rattle.std.specs.Prelude.{if◌then◌else◌, Option, Some, None}
use Rattle.std.specs.Option.{IfSome, unwrap_or, option_or}
use Prim.Native.Nat.{ℕ}
use mathlib.Core.Path.{◌≡◌, refl, sym, ◌∙◌, ap}
use mathlib.Core.List.{List, [], ◌∷◌}
use mathlib.Core.Bool.{Bool, true, false, not, ◌&&◌, ◌||◌, and-false, or-true, beq}
use lib.Dec.{eqb, ltb}
use Rattle.model.specs.Words.{all, missing}
use Rattle.model.specs.Numbers as n
use Rattle.model.specs.Numbers.{NONE}
use Rattle.model.specs.Site.{credential_id, kind, instance, point_of, credential_of, is_at, find_in}
use Rattle.model.specs.State.{Pair, Panel, sites, find, store, write, count, point_state_of, credential_state_of}
use Rattle.model.specs.Entry.{operation_of, object_kind, in_form}
use Rattle.model.specs.Checks.{relinquished, still_locked, waiting, overdue, confirming, factor_for, credential_read, authentication_of, passback_violated, event_of}
use Rattle.model.specs.Effects.{named, is_failure, failures_before, is_first_failure, failures_with, locks_out, point_after, counts, count_after, soft_passback, credential_marks, marks, answer_with, outcome_with, outcome_of}
use Rattle.model.specs.Step.{write_of, unchanged, refuse, no_answer, zone_to, factor_read, number_read, situation_of, rules_at, factor_outcome, count_outcome, adjusted, adjust_outcome, disable_outcome, locks, service_after, service_outcome, worked_outcome, outcome_as, entry_outcome, apply}
use Rattle.model.specs.Part.{Part, member, holds, belongs, on_side, point_inside, inside, identifies, identified, identified_inside, read_inside_as}
use Rattle.model.specs.declared.ZoneId.{ZoneId}
use Rattle.model.specs.declared.CredentialId.{CredentialId}
use Rattle.model.specs.declared.PointState.{PointState}
use Rattle.model.specs.declared.CredentialState.{CredentialState}
use Rattle.model.specs.declared.Entry.{Entry}
use Rattle.model.specs.declared.Answer.{Answer}
use Rattle.model.specs.declared.Situation.{Situation}
use Rattle.model.specs.declared.Verdict.{Verdict}
use Rattle.model.specs.declared.Write.{Write}
use Rattle.model.specs.declared.Outcome.{Outcome}
use Rattle.model.specs.declared.Operation.{Operation}
use Rattle.model.specs.declared.Operation.TheVariants.{Factor, SetCount, AdjustCount, SetDisable, SetService}
use Rattle.model.proofs.Laws.{if_holds, and_left, and_right, kind_at, instance_at, only, only_apply, only_store_out, all_found, found}

-- Two Bools that are compared equal are equal.
pub beq_is : (m b : Bool) → beq m b ≡ true → m ≡ b
beq_is true true h = refl
beq_is true false h = sym h
beq_is false true h = h
beq_is false false h = refl

-- A factor read at a point that is there is not refused.
factor_refusal : (ps : Panel) (e : Entry) (x : Pair) → (factor_outcome ps e x).answer.refusal ≡ n.not_refused
unfolding factor_outcome unchanged outcome_of outcome_with answer_with
factor_refusal ps e x =
    if_holds (λ (o : Outcome). o.answer.refusal ≡ n.not_refused) (point_of x.0).out_of_service (unchanged _) (outcome_of _ e _) refl refl

-- ── a read at a point in service that waits for nobody, and is locked or reads an error: it comes to 161 or 148, whatever the card is

-- Such a read.
abbrev pub stopped : Situation → Entry → Bool
stopped v e = still_locked v e || eqb e.argument n.format_error

-- Its event.
abbrev pub stopped_event : Situation → Entry → ℕ
stopped_event v e = if still_locked v e then n.denied_lockout else n.denied_authentication_factor_error

-- That it comes to.
pub stopped_event_law : (v : Situation) (rules : Verdict) (e : Entry) → waiting v ≡ false → stopped v e ≡ true → event_of v rules e ≡ stopped_event v e
unfolding event_of authentication_of overdue
stopped_event_law v rules e w h = rw w (go (still_locked v e) (eqb e.argument n.format_error) _ _ h)
  where
    go : (a b : Bool) (o next : Option ℕ) → a || b ≡ true →
        unwrap_or (option_or (if a then Some n.denied_lockout else if b then Some n.denied_authentication_factor_error else o) next) n.granted
        ≡ (if a then n.denied_lockout else n.denied_authentication_factor_error)
    go true b o next h = refl
    go false true o next h = refl
    go false false o next h = cc

-- The same situation with nobody's card.
unfoldable pub nobody : Situation → Situation
nobody v =
    record {
      point = v.point;
      point_state = v.point_state;
      zone_to = v.zone_to;
      count_to = v.count_to;
      zone_from = v.zone_from;
      count_from = v.count_from;
      factor_disable = None;
      number = credential_id NONE;
      credential = credential_of [];
      credential_state = credential_state_of [];
    }

-- It names nobody.
stopped_named : (v : Situation) (locked : Bool) → waiting v ≡ false →
    named v (if locked then n.denied_lockout else n.denied_authentication_factor_error) ≡ credential_id NONE
unfolding named
stopped_named v true w = rw w
stopped_named v false w = rw w

-- It sets no mark 4.
stopped_soft : (v : Situation) (e : Entry) (locked : Bool) →
    soft_passback v e (if locked then n.denied_lockout else n.denied_authentication_factor_error) ≡ false
unfolding soft_passback
stopped_soft v e true = and-false (not v.credential.master && passback_violated v e && eqb v.zone_to.passback n.passback_soft)
stopped_soft v e false = and-false (not v.credential.master && passback_violated v e && eqb v.zone_to.passback n.passback_soft)

-- Two outcomes give the same answer and write the same.
pub record Alike (o p : Outcome) : Type 0 where
  pub same_answer : o.answer ≡ p.answer
  pub same_writes : (ps : Panel) → apply o ps ≡ apply p ps

-- The same outcome.
pub alike_same : {o p : Outcome} → o ≡ p → Alike o p
alike_same h = record { same_answer = ap (λ (o : Outcome). o.answer) h; same_writes = λ ps. ap (λ o. apply o ps) h }

-- The outcome is that of nobody's card.
pub stopped_alike : (v : Situation) (e : Entry) (locked : Bool) → waiting v ≡ false →
    Alike (outcome_of v e (if locked then n.denied_lockout else n.denied_authentication_factor_error))
    (outcome_of (nobody v) e (if locked then n.denied_lockout else n.denied_authentication_factor_error))
unfolding nobody waiting relinquished still_locked is_failure failures_before is_first_failure failures_with locks_out point_after counts count_after credential_marks marks answer_with outcome_with outcome_of apply write
stopped_alike v e true w =
    record {
      same_answer = rw (stopped_named v true w, stopped_named (nobody v) true w, stopped_soft v e true, stopped_soft (nobody v) e true);
      same_writes = λ ps. rw (stopped_named v true w, stopped_named (nobody v) true w);
    }
stopped_alike v e false w =
    record {
      same_answer = rw (stopped_named v false w, stopped_named (nobody v) false w, stopped_soft v e false, stopped_soft (nobody v) e false);
      same_writes = λ ps. rw (stopped_named v false w, stopped_named (nobody v) false w);
    }

module _ (P : Part) where
  -- ── references

  -- A reference on a side, if it is not NONE, names an object on that side.
  pub side_is : (k i : ℕ) (side : Bool) → on_side P k i side ≡ true → eqb i NONE ≡ false → member P k i ≡ side
  unfolding on_side
  side_is k i side h none = beq_is (member P k i) side (rw none at h)

  -- An object is on its own side.
  own_side : (k i : ℕ) → on_side P k i (member P k i) ≡ true
  unfolding on_side
  own_side k i = go (eqb i NONE) (member P k i)
    where
      go : (a m : Bool) → a || beq m m ≡ true
      go true m = refl
      go false true = refl
      go false false = refl

  -- NONE is on both sides.
  pub none_side : (k : ℕ) (side : Bool) → on_side P k NONE side ≡ true
  unfolding on_side
  none_side k side = refl

  -- The part holds the records of a kind and instance where it has that object.
  pub holds_at : (k i : ℕ) (s : List ℕ) → is_at k i s ≡ true → holds P s ≡ member P k i
  unfolding holds
  holds_at k i s h = cc (kind_at k i s h, instance_at k i s h)

  -- ── writes

  -- The part's records after an outcome are its records with the same outcome.
  pub part_apply : (o : Outcome) (ps : Panel) → only (holds P) (apply o ps) ≡ apply o (only (holds P) ps)
  part_apply o ps = only_apply (holds P) (member P) holds_at o ps

  -- A write outside the part leaves the part's records as they are.
  write_out : (k i : ℕ) (b : List ℕ) (ps : Panel) → on_side P k i false ≡ true → only (holds P) (write k i b ps) ≡ only (holds P) ps
  unfolding write
  write_out k i b ps h = go (eqb i NONE) refl
    where
      go : (c : Bool) → eqb i NONE ≡ c → only (holds P) (if c then ps else store k i b ps) ≡ only (holds P) ps
      go true e = refl
      go false e = only_store_out (holds P) k i b (λ s a. holds_at k i s a ∙ side_is k i false h e) ps

  write_of_out : {I S : Type 0} (k : ℕ) (i : I → ℕ) (b : S → List ℕ) (o : Option (Write I S)) (ps : Panel) →
      IfSome o (λ w. on_side P k (i w.instance) false ≡ true) → only (holds P) (write_of k i b o ps) ≡ only (holds P) ps
  write_of_out k i b None ps h = refl
  write_of_out k i b (Some w) ps h = write_out k (i w.instance) (b w.state) ps h

  -- All that an outcome writes is on one side, and the point that it writes waits for NONE or a credential on the point's side.
  pub record Sided (o : Outcome) (side : Bool) : Type 0 where
    pub point : IfSome o.point (λ w. on_side P n.access_point w.instance.0 side ≡ true)
    pub credential : IfSome o.credential (λ w. on_side P n.access_credential w.instance.0 side ≡ true)
    pub zone_to : IfSome o.zone_to (λ w. on_side P n.access_zone w.instance.0 side ≡ true)
    pub zone_from : IfSome o.zone_from (λ w. on_side P n.access_zone w.instance.0 side ≡ true)
    pub waits :
        IfSome o.point (λ w. on_side P n.access_credential w.state.waiting_credential.0 (member P n.access_point w.instance.0) ≡ true)

  -- An outcome outside the part leaves the part's records as they are.
  pub apply_out : (o : Outcome) (ps : Panel) → Sided o false → only (holds P) (apply o ps) ≡ only (holds P) ps
  unfolding apply
  apply_out o ps h =
      write_of_out n.access_point _ _ o.point _ h.point ∙ write_of_out n.access_credential _ _ o.credential _ h.credential
      ∙ write_of_out n.access_zone _ _ o.zone_to _ h.zone_to ∙ write_of_out n.access_zone _ _ o.zone_from ps h.zone_from

  -- ── what holds of every record while a journal is worked through

  -- A point waits for NONE or a credential on its side.
  unfoldable pub wait_inside : Pair → Bool
  wait_inside x =
      not (eqb (kind x.0) n.access_point)
      || on_side P n.access_credential (point_state_of x.1).waiting_credential.0 (holds P x.0)

  -- A site record names nothing across the border, and its state record no credential across it to wait for.
  unfoldable pub pair_inside : Pair → Bool
  pair_inside x = inside P x.0 && wait_inside x

  -- The same of the point of an instance: its zones and the credential that it waits for.
  pub record PointInside (i : ℕ) (x : Pair) : Type 0 where
    pub zone_to : on_side P n.access_zone (point_of x.0).zone_to.0 (member P n.access_point i) ≡ true
    pub zone_from : on_side P n.access_zone (point_of x.0).zone_from.0 (member P n.access_point i) ≡ true
    pub waits : on_side P n.access_credential (point_state_of x.1).waiting_credential.0 (member P n.access_point i) ≡ true

  -- A point whose records are inside.
  pub point_inside_law : (i : ℕ) (x : Pair) → is_at n.access_point i x.0 ≡ true → pair_inside x ≡ true → PointInside i x
  unfolding pair_inside inside point_inside wait_inside
  point_inside_law i x a h =
      let k = kind_at n.access_point i x.0 a in
      let m = holds_at n.access_point i x.0 a in
      let f = rw (k, m) at (and_left (inside P x.0) (wait_inside x) h) in
      record {
        zone_to = and_left _ (on_side P n.access_zone (point_of x.0).zone_from.0 (member P n.access_point i)) f;
        zone_from = and_right (on_side P n.access_zone (point_of x.0).zone_to.0 (member P n.access_point i)) _ f;
        waits = rw (k, m) at (and_right (inside P x.0) (wait_inside x) h);
      }

  -- ── the outcome of an entry is on the side of the entry's object

  -- An outcome that writes nothing is on both sides.
  sided_unchanged : (a : Answer) (side : Bool) → Sided (unchanged a) side
  unfolding unchanged
  sided_unchanged a side = record { point = tt; credential = tt; zone_to = tt; zone_from = tt; waits = tt }

  -- The credential of a factor read, waited for or identified, is on the point's side.
  pub number_side : (c : CredentialId) (e : Entry) (ss : List (List ℕ)) →
      on_side P n.access_credential c.0 (member P n.access_point e.instance) ≡ true →
      (eqb c.0 NONE ≡ true → identified_inside P ss e ≡ true) →
      on_side P n.access_credential (credential_read c (factor_for c e ss)).0 (member P n.access_point e.instance) ≡ true
  unfolding credential_read factor_for identified identified_inside
  number_side c e ss h g = go (eqb c.0 NONE) refl
    where
      side : Bool
      side = member P n.access_point e.instance

      matched : (f : List ℕ) → missing f || beq (member P n.access_credential (instance f)) side ≡ true →
          on_side P n.access_credential (if missing f then NONE else instance f) side ≡ true
      matched [] g = none_side n.access_credential side
      matched (x ∷ f) g = unfold on_side in rw (g, or-true)

      go : (d : Bool) → eqb c.0 NONE ≡ d →
          on_side P n.access_credential
          (if not d then c else
          credential_id (if missing (if d then identified ss e else find_in (confirming c e.argument e.value) ss) then NONE else
          instance (if d then identified ss e else find_in (confirming c e.argument e.value) ss))).0
          side
          ≡ true
      go true none = matched (identified ss e) (g none)
      go false none = h

  -- The outcome of a factor read that names the credential c and leaves the point p: c, the one that p waits for and the point's zones are on the
  -- point's side.
  sided_with : (v : Situation) (e : Entry) (x m : ℕ) (c : CredentialId) (p : PointState) →
      on_side P n.access_credential c.0 (member P n.access_point e.instance) ≡ true →
      on_side P n.access_credential p.waiting_credential.0 (member P n.access_point e.instance) ≡ true →
      on_side P n.access_zone v.point.zone_to.0 (member P n.access_point e.instance) ≡ true →
      on_side P n.access_zone v.point.zone_from.0 (member P n.access_point e.instance) ≡ true →
      Sided (outcome_with v e x m c p) (member P n.access_point e.instance)
  unfolding outcome_with
  sided_with v e x m c p names waits to from =
      record {
        point = own_side n.access_point e.instance;
        credential =
            if_holds (λ (o : Option (Write CredentialId CredentialState)). IfSome o (λ w. on_side P n.access_credential w.instance.0 side ≡ true))
            (eqb x n.no_event) None (Some _) tt names;
        zone_to = if_holds zone_here (counts v x v.zone_to.counting) (Some _) None to tt;
        zone_from = if_holds zone_here (counts v x v.zone_from.counting) (Some _) None from tt;
        waits = waits;
      }
    where
      side : Bool
      side = member P n.access_point e.instance

      zone_here : Option (Write ZoneId ℕ) → Type 0
      zone_here o = IfSome o (λ w. on_side P n.access_zone w.instance.0 side ≡ true)

  -- The outcome of a factor read, in any situation whose references are on the point's side.
  sided_outcome : (v : Situation) (e : Entry) (x : ℕ) →
      on_side P n.access_credential v.number.0 (member P n.access_point e.instance) ≡ true →
      on_side P n.access_credential v.point_state.waiting_credential.0 (member P n.access_point e.instance) ≡ true →
      on_side P n.access_zone v.point.zone_to.0 (member P n.access_point e.instance) ≡ true →
      on_side P n.access_zone v.point.zone_from.0 (member P n.access_point e.instance) ≡ true →
      Sided (outcome_of v e x) (member P n.access_point e.instance)
  unfolding outcome_of named point_after
  sided_outcome v e x number waits to from =
      sided_with v e x _ _ _
      (if_holds credential_here (not (waiting v) && (eqb x n.denied_lockout || eqb x n.denied_authentication_factor_error)) (credential_id NONE) v.number
      (none_side n.access_credential _) number)
      (if_holds credential_here (eqb x n.no_event) v.number _ number
      (if_holds credential_here (eqb x n.denied_lockout) v.point_state.waiting_credential (credential_id NONE) waits (none_side n.access_credential _)))
      to from
    where
      credential_here : CredentialId → Type 0
      credential_here c = on_side P n.access_credential c.0 (member P n.access_point e.instance) ≡ true

  -- That of a read that is stopped, which names nobody.
  sided_stopped : (v : Situation) (e : Entry) (locked : Bool) → waiting v ≡ false →
      on_side P n.access_credential v.point_state.waiting_credential.0 (member P n.access_point e.instance) ≡ true →
      on_side P n.access_zone v.point.zone_to.0 (member P n.access_point e.instance) ≡ true →
      on_side P n.access_zone v.point.zone_from.0 (member P n.access_point e.instance) ≡ true →
      Sided (outcome_of v e (if locked then n.denied_lockout else n.denied_authentication_factor_error)) (member P n.access_point e.instance)
  unfolding outcome_of point_after
  sided_stopped v e locked w waits to from =
      sided_with v e _ _ _ _ (rw (stopped_named v locked w) (none_side n.access_credential _)) (waits_for locked) to from
    where
      waits_for : (locked : Bool) →
          on_side P n.access_credential
          (point_after v e (if locked then n.denied_lockout else n.denied_authentication_factor_error)).waiting_credential.0
          (member P n.access_point e.instance) ≡ true
      waits_for true = waits
      waits_for false = none_side n.access_credential _

  -- What a read at a point in service comes to: it is stopped for nobody waiting, or the card that it names is on the point's side.
  pub data Read (ps : Panel) (e : Entry) (x : Pair) : Type 0 where
    halted : waiting (situation_of ps e x) ≡ false → stopped (situation_of ps e x) e ≡ true → Read ps e x
    taken : (eqb (point_state_of x.1).waiting_credential.0 NONE ≡ true → identified_inside P (sites ps) e ≡ true) → Read ps e x

  pub read_as : (ps : Panel) (e : Entry) (x : Pair) → (point_of x.0).out_of_service ≡ false →
      read_inside_as (Some Factor) P ps e x ≡ true → Read ps e x
  unfolding identifies situation_of waiting
  read_as ps e x s g =
      go (point_of x.0).out_of_service (eqb (point_state_of x.1).waiting_credential.0 NONE) (still_locked (situation_of ps e x) e)
      (eqb e.argument n.format_error) s refl refl refl g
    where
      go : (c d a b : Bool) → c ≡ false → eqb (point_state_of x.1).waiting_credential.0 NONE ≡ d → still_locked (situation_of ps e x) e ≡ a →
          eqb e.argument n.format_error ≡ b → not (not (c || a || not d || b)) || identified_inside P (sites ps) e ≡ true → Read ps e x
      go true d a b s w l f g = taken (λ none. cc)
      go false false a b s w l f g = taken (λ none. cc)
      go false true true b s w l f g = halted (rw w) (rw l)
      go false true false true s w l f g = halted (rw w) (rw (l, f))
      go false true false false s w l f g = taken (λ none. g)

  -- The outcome of a factor read at the point x.
  sided_factor : (ps : Panel) (e : Entry) (x : Pair) → PointInside e.instance x → read_inside_as (Some Factor) P ps e x ≡ true →
      Sided (factor_outcome ps e x) (member P n.access_point e.instance)
  unfolding factor_outcome
  sided_factor ps e x h g = go (point_of x.0).out_of_service refl
    where
      served : Read ps e x → Sided (outcome_of (situation_of ps e x) e (event_of (situation_of ps e x) (rules_at ps e x) e)) (member P n.access_point e.instance)
      served (halted w s) =
          rw (stopped_event_law (situation_of ps e x) (rules_at ps e x) e w s)
          (unfold situation_of in sided_stopped (situation_of ps e x) e (still_locked (situation_of ps e x) e) w h.waits h.zone_to h.zone_from)
      served (taken i) =
          unfold situation_of number_read factor_read in
          sided_outcome _ e _ (number_side (point_state_of x.1).waiting_credential e (sites ps) h.waits i) h.waits h.zone_to h.zone_from

      go : (c : Bool) → (point_of x.0).out_of_service ≡ c →
          Sided
          (if c then unchanged (no_answer n.not_refused (point_state_of x.1).tag (count (zone_to ps x).1))
          else outcome_of (situation_of ps e x) e (event_of (situation_of ps e x) (rules_at ps e x) e))
          (member P n.access_point e.instance)
      go true s = sided_unchanged _ _
      go false s = served (read_as ps e x s g)

  -- The outcome of a count that is set.
  sided_count : (e : Entry) (counted : ℕ) → Sided (count_outcome e counted) (member P n.access_zone e.instance)
  unfolding count_outcome
  sided_count e counted = record { point = tt; credential = tt; zone_to = own_side n.access_zone e.instance; zone_from = tt; waits = tt }

  -- The outcome of every operation at its object x.
  sided_worked : (o : Option Operation) (ps : Panel) (e : Entry) (x : Pair) → is_at (object_kind o) e.instance x.0 ≡ true →
      pair_inside x ≡ true → read_inside_as o P ps e x ≡ true → Sided (worked_outcome o ps e x) (member P (object_kind o) e.instance)
  unfolding refuse adjust_outcome disable_outcome service_outcome service_after
  sided_worked (Some Factor) ps e x a h g = sided_factor ps e x (point_inside_law e.instance x a h) g
  sided_worked (Some SetCount) ps e x a h g = sided_count e e.amount
  sided_worked (Some AdjustCount) ps e x a h g =
      if_holds (λ o. Sided o (member P n.access_zone e.instance)) (ltb n.largest_count (adjusted (count x.1) e.amount)) (refuse n.refused_count) _ (sided_unchanged _ _)
      (sided_count e _)
  sided_worked (Some SetDisable) ps e x a h g =
      record { point = tt; credential = own_side n.access_credential e.instance; zone_to = tt; zone_from = tt; waits = tt }
  sided_worked (Some SetService) ps e x a h g =
      record {
        point = own_side n.access_point e.instance;
        credential = tt;
        zone_to = tt;
        zone_from = tt;
        waits =
            if_holds (λ (c : CredentialId). on_side P n.access_credential c.0 (member P n.access_point e.instance) ≡ true) (locks e) (credential_id NONE) _ (none_side n.access_credential _)
            (point_inside_law e.instance x a h).waits;
      }
  sided_worked None ps e x a h g = sided_unchanged _ _

  -- The premise on one entry with the object x: it is refused, or identifies no credential across the border.
  unfoldable pub answered_inside_as : Option Operation → Panel → Entry → Pair → Bool
  answered_inside_as o ps e x = not (eqb (outcome_as o ps e x).answer.refusal n.not_refused) || read_inside_as o P ps e x

  -- The same of an entry at a panel.
  unfoldable pub answered_inside : Panel → Entry → Bool
  answered_inside ps e =
      answered_inside_as (operation_of e.operation) ps e (find (object_kind (operation_of e.operation)) e.instance ps)

  -- So an entry that is in form, at an object that is there, identifies no credential across the border.
  pub worked_inside : (o : Option Operation) (ps : Panel) (e : Entry) (x : Pair) → answered_inside_as o ps e x ≡ true → in_form o e ≡ true →
      missing x.0 ≡ false → read_inside_as o P ps e x ≡ true
  unfolding answered_inside_as outcome_as
  worked_inside (Some Factor) ps e x g f m = rw (f, m, factor_refusal ps e x) at g
  worked_inside (Some SetCount) ps e x g f m = refl
  worked_inside (Some AdjustCount) ps e x g f m = refl
  worked_inside (Some SetDisable) ps e x g f m = refl
  worked_inside (Some SetService) ps e x g f m = refl
  worked_inside None ps e x g f m = refl

  -- The outcome of an entry under an operation: refused or worked.
  sided_as : (o : Option Operation) (ps : Panel) (e : Entry) → all pair_inside ps ≡ true →
      answered_inside_as o ps e (find (object_kind o) e.instance ps) ≡ true →
      Sided (outcome_as o ps e (find (object_kind o) e.instance ps)) (member P (object_kind o) e.instance)
  unfolding outcome_as refuse find
  sided_as o ps e h g = go (in_form o e) (missing (find (object_kind o) e.instance ps).0) refl refl
    where
      go : (c d : Bool) → in_form o e ≡ c → missing (find (object_kind o) e.instance ps).0 ≡ d →
          Sided
          (if not c then refuse n.refused_form else
          if d then refuse n.refused_no_object else
          worked_outcome o ps e (find (object_kind o) e.instance ps)) (member P (object_kind o) e.instance)
      go false d f m = sided_unchanged _ _
      go true true f m = sided_unchanged _ _
      go true false f m =
          sided_worked o ps e _ (found (is_at (object_kind o) e.instance) ps m)
          (all_found pair_inside (is_at (object_kind o) e.instance) ps h m) (worked_inside o ps e _ g f m)

  -- All that an entry writes is on the side of its object.
  pub sided : (ps : Panel) (e : Entry) → all pair_inside ps ≡ true → answered_inside ps e ≡ true → Sided (entry_outcome ps e) (belongs P e)
  unfolding entry_outcome belongs answered_inside
  sided ps e h g = sided_as (operation_of e.operation) ps e h g
