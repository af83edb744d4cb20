-- Demand 3, the self-contained part: its answers and its state records are those of its own records and entries, worked through alone.
use Rattle.std.specs.Prelude.{if◌then◌else◌}
use Rattle.std.proofs.lemmas.Option.{IfSome_then}
use Prim.Native.Nat.{ℕ}
use mathlib.Core.Path.{◌≡◌, refl, sym, ◌∙◌, ap, ap₂}
use mathlib.Core.List.{List, [], ◌∷◌, map}
use mathlib.Core.Bool.{Bool, true, false, not, ◌||◌}
use lib.Dec.{eqb}
use borrow.Author.Tests.{eqb-true}
use Rattle.model.specs.Words.{keep, all}
use Rattle.model.specs.Numbers.{access_zone, access_point, access_credential}
use Rattle.model.specs.Site.{records, kind, record_kind, is_at}
use Rattle.model.specs.State.{Pair, Panel, panel, point_state_of, point_bytes, fresh_point, fresh_record_as, fresh_record}
use Rattle.model.specs.Entry.{entry_of, answer_bytes}
use Rattle.model.specs.Step.{outcome_as, entry_outcome, apply, panels, after, answers}
use Rattle.model.specs.Lists.{Worked, History, ended}
use Rattle.model.specs.Part.{Part, member, holds, belongs, on_side, inside, entry_inside, read_inside, SelfContained, part_records, part_worked, part_entries, part_answers, part_state}
use Rattle.model.specs.Demands.{Isolation}
use Rattle.model.specs.declared.Entry.{Entry}
use Rattle.model.specs.declared.PointState.{PointState}
use Rattle.model.specs.declared.Outcome.{Outcome}
use Rattle.model.proofs.Laws.{and_left, and_right, kind_at, only, if_any, all_write_of}
use Rattle.model.proofs.RoundTrip.{point_back, refusal_back}
use Rattle.model.proofs.Flat.{fresh_panel, only_fresh}
use Rattle.model.proofs.Runs.{worked_at, all_entries, ended_panel, worked_list}
use Rattle.model.proofs.Border.{none_side, holds_at, part_apply, Sided, apply_out, wait_inside, pair_inside, answered_inside_as, answered_inside, sided}
use Rattle.model.proofs.Isolated.{outcome_part}

-- An entry with its answer at a panel.
abbrev pub answered : Panel → List ℕ → Worked
answered ps b = record { found = ps; entry = b; answer = answer_bytes (entry_outcome ps (entry_of b)).answer }

-- The entries of a list, as their fields.
abbrev entries_of : List Worked → List Entry
entries_of ws = map entry_of (map (λ (w : Worked). w.entry) ws)

module _ (P : Part) where
  -- ── every record is inside in a fresh panel and after every entry

  -- A state record other than a point's may become any other.
  other_written : (k i : ℕ) → eqb k access_point ≡ false → (b : List ℕ) (x : Pair) → is_at k i x.0 ≡ true →
      pair_inside P x ≡ true → pair_inside P (x.0, b) ≡ true
  unfolding pair_inside wait_inside
  other_written k i other b x a h = rw (and_left (inside P x.0) (wait_inside P x) h, kind_at k i x.0 a, other)

  -- A point's may become one that waits for NONE or a credential on the point's side.
  point_written : (i : ℕ) (p : PointState) →
      on_side P access_credential p.waiting_credential.0 (member P access_point i) ≡ true → (x : Pair) →
      is_at access_point i x.0 ≡ true → pair_inside P x ≡ true → pair_inside P (x.0, point_bytes p) ≡ true
  unfolding pair_inside wait_inside
  point_written i p w x a h =
      rw (
        and_left (inside P x.0) (wait_inside P x) h,
        kind_at access_point i x.0 a,
        holds_at P access_point i x.0 a,
        point_back p,
        w,
      )

  -- An outcome on one side leaves every record inside.
  apply_inside : (o : Outcome) (side : Bool) (ps : Panel) → Sided P o side → all (pair_inside P) ps ≡ true →
      all (pair_inside P) (apply o ps) ≡ true
  unfolding apply
  apply_inside o side ps h a =
      all_write_of (pair_inside P) access_point _ _ o.point _ (IfSome_then o.point h.waits (λ w. point_written w.instance.0 w.state))
      (all_write_of (pair_inside P) access_credential _ _ o.credential _ (if_any _ o.credential (λ w. other_written access_credential w.instance.0 refl _))
      (all_write_of (pair_inside P) access_zone _ _ o.zone_to _ (if_any _ o.zone_to (λ w. other_written access_zone w.instance.0 refl _))
      (all_write_of (pair_inside P) access_zone _ _ o.zone_from ps (if_any _ o.zone_from (λ w. other_written access_zone w.instance.0 refl _)) a)))

  -- A fresh point waits for nobody.
  fresh_wait : (s : List ℕ) → wait_inside P (s, fresh_record s) ≡ true
  unfolding wait_inside fresh_record
  fresh_wait s = go (eqb (kind s) access_point) refl
    where
      go : (c : Bool) → eqb (kind s) access_point ≡ c →
          not c || on_side P access_credential (point_state_of (fresh_record_as (record_kind s) s)).waiting_credential.0 (holds P s) ≡ true
      go true e = rw (eqb-true (kind s) access_point e, point_back fresh_point) (unfold fresh_point in none_side P access_credential _)
      go false e = refl

  -- Every record of a fresh panel is inside.
  pub fresh_inside : (ss : List (List ℕ)) → all (inside P) ss ≡ true → all (pair_inside P) (fresh_panel ss) ≡ true
  unfolding pair_inside
  fresh_inside [] h = refl
  fresh_inside (s ∷ ss) h =
      rw (and_left (inside P s) (all (inside P) ss) h, fresh_wait s, fresh_inside ss (and_right (inside P s) (all (inside P) ss) h))

  -- ── a list of entries at a panel

  -- For the entries bs at the panel ps, where ws are the part's entries with their answers: these answers, and the part's records after
  -- all of bs, are those of the part's records alone after the part's entries.
  record Alone (ps : Panel) (bs : List (List ℕ)) (ws : List Worked) : Type 0 where
    same_answers : map (λ (w : Worked). w.answer) ws ≡ map answer_bytes (answers (only (holds P) ps) (entries_of ws))
    same_records : only (holds P) (after ps (map entry_of bs)) ≡ after (only (holds P) ps) (entries_of ws)

  -- The premise on reads, of one entry.
  pub entry_inside_law : (ps : Panel) (b : List ℕ) → read_inside P (answered ps b) ≡ answered_inside P ps (entry_of b)
  unfolding read_inside entry_inside answered_inside answered_inside_as entry_outcome outcome_as
  entry_inside_law ps b = rw (refusal_back (entry_outcome ps (entry_of b)).answer)

  -- An entry leaves every record inside.
  pub inside_after : (ps : Panel) (e : Entry) → all (pair_inside P) ps ≡ true → answered_inside P ps e ≡ true →
      all (pair_inside P) (apply (entry_outcome ps e) ps) ≡ true
  inside_after ps e h g = apply_inside _ _ ps (sided P ps e h g) h

  -- The part's records after an entry of the part are those that it leaves at them alone.
  pub part_in : (ps : Panel) (e : Entry) → all (pair_inside P) ps ≡ true → answered_inside P ps e ≡ true → belongs P e ≡ true →
      only (holds P) (apply (entry_outcome ps e) ps) ≡ apply (entry_outcome (only (holds P) ps) e) (only (holds P) ps)
  part_in ps e h g m = part_apply P (entry_outcome ps e) ps ∙ sym ((outcome_part P ps e h g m).same_writes (only (holds P) ps))

  -- An entry outside the part leaves them as they are.
  pub part_out : (ps : Panel) (e : Entry) → all (pair_inside P) ps ≡ true → answered_inside P ps e ≡ true → belongs P e ≡ false →
      only (holds P) (apply (entry_outcome ps e) ps) ≡ only (holds P) ps
  part_out ps e h g m = apply_out P (entry_outcome ps e) ps (rw m at (sided P ps e h g))

  -- One entry before the list.
  alone_step : (b : List ℕ) (bs : List (List ℕ)) (ws : List Worked) (ps : Panel) → all (pair_inside P) ps ≡ true →
      answered_inside P ps (entry_of b) ≡ true → Alone (apply (entry_outcome ps (entry_of b)) ps) bs ws →
      Alone ps (b ∷ bs) (if belongs P (entry_of b) then answered ps b ∷ ws else ws)
  unfolding after answers
  alone_step b bs ws ps h g ih = go (belongs P (entry_of b)) refl
    where
      go : (c : Bool) → belongs P (entry_of b) ≡ c → Alone ps (b ∷ bs) (if c then answered ps b ∷ ws else ws)
      go true m =
          let r = part_in ps (entry_of b) h g m in
          record {
            same_answers =
                ap₂ ◌∷◌ (ap answer_bytes (sym (outcome_part P ps (entry_of b) h g m).same_answer))
                (ih.same_answers ∙ ap (λ p. map answer_bytes (answers p (entries_of ws))) r);
            same_records = ih.same_records ∙ ap (λ p. after p (entries_of ws)) r;
          }
      go false m =
          let r = part_out ps (entry_of b) h g m in
          record {
            same_answers = ih.same_answers ∙ ap (λ p. map answer_bytes (answers p (entries_of ws))) r;
            same_records = ih.same_records ∙ ap (λ p. after p (entries_of ws)) r;
          }

  -- Every list of entries, at a panel whose records are all inside.
  alone : (bs : List (List ℕ)) (ps : Panel) → all (pair_inside P) ps ≡ true → all (read_inside P) (worked_at ps bs) ≡ true →
      Alone ps bs (keep (λ (w : Worked). belongs P (entry_of w.entry)) (worked_at ps bs))
  unfolding panels after answers worked_at
  alone [] ps h g = record { same_answers = refl; same_records = refl }
  alone (b ∷ bs) ps h g =
      let now = sym (entry_inside_law ps b) ∙ and_left (read_inside P (answered ps b)) _ g in
      let next = apply (entry_outcome ps (entry_of b)) ps in
      let later = and_right (read_inside P (answered ps b)) (all (read_inside P) (worked_at next bs)) g in
      alone_step b bs _ ps h now
      (alone bs next (inside_after ps (entry_of b) h now) later)

  -- ── a list of runs from fresh

  -- The part's answers, and its records at the end, from the part's records and entries alone.
  alone_list : (h : History) → SelfContained P h →
      (part_answers P h ≡ map answer_bytes (answers (fresh_panel (part_records P h)) (map entry_of (part_entries P h))))
      × (only (holds P) (panel h.site (ended h)) ≡ after (fresh_panel (part_records P h)) (map entry_of (part_entries P h)))
  unfolding part_records part_worked part_entries part_answers
  alone_list h c =
      let ss = records h.site in
      let a = alone (all_entries h) (fresh_panel ss) (fresh_inside ss c.site) (rw (← worked_list h) c.reads) in
      rw (worked_list h, ended_panel h, ← only_fresh (holds P) ss) (a.same_answers, a.same_records)

-- Two lists with the same records and entries of the part: both are the part's list alone.
pub isolation : Isolation
unfolding Isolation part_state
isolation P g h c d p q =
    let a = alone_list P g c in
    let b = alone_list P h d in (
      a.0 ∙ ap₂ (λ ss bs. map answer_bytes (answers (fresh_panel ss) (map entry_of bs))) p q ∙ sym b.0,
      ap (map (λ (x : Pair). x.1)) (a.1 ∙ ap₂ (λ ss bs. after (fresh_panel ss) (map entry_of bs)) p q ∙ sym b.1),
    )
