-- Demand 3, the count: after every list of runs from fresh a zone's count is T less the smaller of zero and L.
use Rattle.std.specs.Prelude.{if◌then◌else◌, Option, Some, None}
use Prim.Native.Nat.{ℕ, ◌+◌, ◌-◌}
use mathlib.Core.Path.{◌≡◌, refl, sym, ap}
use mathlib.Core.List.{List, [], ◌∷◌, map}
use mathlib.Core.Bool.{Bool, true, false, not, ◌&&◌, and-false}
use lib.Dec.{eqb, ltb}
use lib.IntN.{pos, neg_ℤ}
use borrow.Author.Tests.{eqb-true, eq-eqb}
use Rattle.octets.specs.Octets.{field}
use Rattle.model.specs.Words.{all, missing}
use Rattle.model.specs.Numbers as n
use Rattle.model.specs.Numbers.{NONE}
use Rattle.model.specs.Site.{records, reference, zone_of, point_of, is_at, find_in}
use Rattle.model.specs.Accept.{in_range, point_in_range}
use Rattle.model.specs.State.{Pair, Panel, sites, find, seek, count, zone_bytes, fresh_record}
use Rattle.model.specs.Entry.{entry_of, operation_of, object_kind, answer_bytes}
use Rattle.model.specs.Checks.{event_of}
use Rattle.model.specs.Effects.{counts, count_after, answer_with, outcome_with, outcome_of}
use Rattle.model.specs.Step.{unchanged, refuse, zone_to, zone_from, situation_of, rules_at, factor_outcome, count_outcome, is_negative, adjusted, adjust_outcome, disable_outcome, service_outcome, worked_outcome, entry_outcome, write_of, apply, panels, after, answers}
use Rattle.model.specs.Tally.{Tally, move, set_to, signed, passed, tallied_as, tallied, tally, tally_of, standing, count_of}
use Rattle.model.specs.Demands.{Count}
use Rattle.model.specs.declared.ZoneId.{ZoneId}
use Rattle.model.specs.declared.Entry.{Entry}
use Rattle.model.specs.declared.Answer.{Answer}
use Rattle.model.specs.declared.Outcome.{Outcome}
use Rattle.model.specs.declared.Operation.{Operation}
use Rattle.model.specs.declared.Operation.TheVariants.{Factor, SetCount, AdjustCount, SetDisable, SetService}
use Rattle.model.proofs.Laws.{if_holds, kind_at, There, find_in_sites, found, sites_write_of, sites_apply, find_write_of_other, left_by, left_if, read_write_of, all_found_in, found_in}
use Rattle.model.proofs.Outcomes.{entry_holds}
use Rattle.model.proofs.RoundTrip.{count_back, event_back, refusal_back}
use Rattle.model.proofs.Flat.{fresh_panel, sites_fresh, find_fresh}
use Rattle.model.proofs.Runs.{object_found, object_real, object_there, worked_at, all_entries, accepted, ended_panel, worked_list}
use Rattle.model.proofs.Whole.{standing_set, standing_up, standing_down}

-- The record is that of zone z, or of point i.
abbrev is_zone : ℕ → List ℕ → Bool
is_zone z = is_at n.access_zone z

abbrev is_point : ℕ → List ℕ → Bool
is_point i = is_at n.access_point i

-- ── a zone's count after a write

-- Zone z's count in a panel.
unfoldable zone_count : ℕ → Panel → ℕ
zone_count z ps = count (find n.access_zone z ps).1

-- The count that an outcome leaves a zone of the count c.
unfoldable count_by : ℕ → Outcome → ℕ → ℕ
count_by z o c = left_by (λ (i : ZoneId). i.0) z o.zone_to (left_by (λ (i : ZoneId). i.0) z o.zone_from c)

module _ (z : ℕ) (not_none : eqb z NONE ≡ false) where
  -- The four writes of an outcome.
  count_apply : (o : Outcome) (ps : Panel) → There n.access_zone z ps → zone_count z (apply o ps) ≡ count_by z o (zone_count z ps)
  unfolding apply count_by zone_count
  count_apply o ps g =
      let left = write_of n.access_zone (λ (i : ZoneId). i.0) zone_bytes o.zone_from ps in
      let there : There n.access_zone z left = rw sites_write_of g in
      rw (
        find_write_of_other n.access_zone z n.access_point _ _ o.point _ refl,
        find_write_of_other n.access_zone z n.access_credential _ _ o.credential _ refl,
        read_write_of n.access_zone (λ (i : ZoneId). i.0) zone_bytes count count_back z not_none o.zone_to left there,
        read_write_of n.access_zone (λ (i : ZoneId). i.0) zone_bytes count count_back z not_none o.zone_from ps g,
      )

-- ── what an accepted site says of its points

-- A point does not lead from a zone into that zone.
zones_differ : (z : ℕ) → eqb z NONE ≡ false → (i : ℕ) (s : List ℕ) → is_point i s ≡ true → in_range s ≡ true →
    eqb (point_of s).zone_to.0 z && eqb (point_of s).zone_from.0 z ≡ false
unfolding in_range point_in_range point_of
zones_differ z not_none i s p r = go (eqb (reference 8 s) z) (eqb (reference 12 s) z) refl refl
  where
    go : (a b : Bool) → eqb (reference 8 s) z ≡ a → eqb (reference 12 s) z ≡ b → a && b ≡ false
    go true true e f =
        let k = kind_at n.access_point i s p in
        sym (simp (k, eqb-true (reference 8 s) z e, eqb-true (reference 12 s) z f, not_none, eq-eqb z z refl, and-false) at r)
    go true false e f = refl
    go false b e f = refl

-- ── a count c and a tally t whose standing it is

module _ (c : ℕ) (t : Tally) (h : pos c ≡ standing t) where
  -- The count adjusted is the standing of the tally moved by the signed amount.
  standing_adjusted : (amount : ℕ) → pos (adjusted c amount) ≡ standing (move (signed amount) t)
  unfolding adjusted signed
  standing_adjusted amount = go (is_negative amount)
    where
      go : (d : Bool) →
          pos (if d then c - (n.modulus - amount) else c + amount)
          ≡ standing (move (if d then neg_ℤ (pos (n.modulus - amount)) else pos amount) t)
      go true = standing_down c t h (n.modulus - amount)
      go false = standing_up c t h amount

  -- A passage of zone z. G: granted with count adjust; into, out: the point's zones are z; Cto, Cfrom, Z: they and z are counting.
  standing_passed : (G into out Cto Cfrom Z : Bool) (to from : ℕ) → (into ≡ true → (Cto ≡ Z) × (to ≡ c)) →
      (out ≡ true → (Cfrom ≡ Z) × (from ≡ c)) → into && out ≡ false →
      pos (if G && Cto && into then (if G && Cto then to + 1 else to) else if G && Cfrom && out then from - 1 else c)
      ≡ standing (if G && Z then (if into then move (pos 1) t else if out then move (neg_ℤ (pos 1)) t else t) else t)
  standing_passed G true true Cto Cfrom Z to from p q d = cc
  standing_passed G true false Cto Cfrom Z to from p q d = rw ((p refl).0, (p refl).1, and-false (G && Cfrom)) (go (G && Z))
    where
      go : (g : Bool) → pos (if g && true then (if g then c + 1 else c) else c) ≡ standing (if g then move (pos 1) t else t)
      go true = standing_up c t h 1
      go false = h
  standing_passed G false true Cto Cfrom Z to from p q d = rw ((q refl).0, (q refl).1, and-false (G && Cto)) (go (G && Z))
    where
      go : (g : Bool) → pos (if g && true then c - 1 else c) ≡ standing (if g then move (neg_ℤ (pos 1)) t else t)
      go true = standing_down c t h 1
      go false = h
  standing_passed G false false Cto Cfrom Z to from p q d = rw (and-false (G && Cto), and-false (G && Cfrom)) (go (G && Z))
    where
      go : (g : Bool) → pos c ≡ standing (if g then t else t)
      go true = h
      go false = h

-- What the tally asks of a passage, as one test: X granted, A count adjust, Z a counting zone.
passage_if : (X A Z : Bool) (s t : Tally) → (if X then (if not (A && Z) then t else s) else t) ≡ (if X && A && Z then s else t)
passage_if false A Z s t = refl
passage_if true false Z s t = refl
passage_if true true true s t = refl
passage_if true true false s t = refl

-- ── one entry

-- The entry e at the panel ps, where the count of zone z is the standing of the tally t.
module _ (z : ℕ) (not_none : eqb z NONE ≡ false) (ps : Panel) (t : Tally) (h : pos (zone_count z ps) ≡ standing t) (e : Entry) where
  -- The count after the outcome is the standing of the tally that its answer makes.
  Fits : Option Operation → Outcome → Type 0
  Fits o u =
      pos (count_by z u (zone_count z ps)) ≡ standing (tallied_as o z (sites ps) e u.answer.event u.answer.refusal t)

  -- A refusal.
  fits_refuse : (r : ℕ) → eqb r n.not_refused ≡ false → (o : Option Operation) → Fits o (refuse r)
  unfolding Fits count_by refuse unchanged
  fits_refuse r d (Some Factor) = h
  fits_refuse r d (Some SetCount) = rw d h
  fits_refuse r d (Some AdjustCount) = rw d h
  fits_refuse r d (Some SetDisable) = h
  fits_refuse r d (Some SetService) = h
  fits_refuse r d None = h

  -- Operation 2.
  fits_set : Fits (Some SetCount) (count_outcome e e.amount)
  unfolding Fits count_by count_outcome
  fits_set = go (eqb e.instance z)
    where
      go : (c : Bool) → pos (if c then e.amount else zone_count z ps) ≡ standing (if c then set_to e.amount else t)
      go true = standing_set e.amount
      go false = h

  -- Operation 3: m is the count of the zone that the entry names.
  fits_adjust : (m : ℕ) → (eqb e.instance z ≡ true → m ≡ zone_count z ps) → Fits (Some AdjustCount) (adjust_outcome e m)
  unfolding Fits count_by adjust_outcome count_outcome
  fits_adjust m s =
      if_holds (Fits (Some AdjustCount)) (ltb n.largest_count (adjusted m e.amount)) (refuse n.refused_count) (count_outcome e (adjusted m e.amount))
      (fits_refuse n.refused_count refl (Some AdjustCount)) (go (eqb e.instance z) refl)
    where
      go : (c : Bool) → eqb e.instance z ≡ c →
          pos (if c then adjusted m e.amount else zone_count z ps) ≡ standing (if c then move (signed e.amount) t else t)
      go true q = rw (s q) (standing_adjusted (zone_count z ps) t h e.amount)
      go false q = h

  -- A zone that a reference to z finds is z.
  same_zone : (i : ℕ) → eqb i z ≡ true →
      ((zone_of (seek n.access_zone i ps).0).counting ≡ (zone_of (find_in (is_zone z) (sites ps))).counting)
      × (count (seek n.access_zone i ps).1 ≡ zone_count z ps)
  unfolding zone_count seek find
  same_zone i q = rw (eqb-true i z q, not_none) (ap (λ s. (zone_of s).counting) (find_in_sites (is_zone z) ps), refl)

  -- Operation 1: any event x at the point's records p.
  fits_outcome : (p : Pair) (x : ℕ) → find_in (is_point e.instance) (sites ps) ≡ p.0 →
      eqb (point_of p.0).zone_to.0 z && eqb (point_of p.0).zone_from.0 z ≡ false → Fits (Some Factor) (outcome_of (situation_of ps e p) e x)
  unfolding Fits count_by outcome_of outcome_with answer_with count_after counts passed situation_of zone_to zone_from
  fits_outcome p x f d =
      simp (f, left_if, passage_if)
      (standing_passed (zone_count z ps) t h (eqb x n.granted && (point_of p.0).count_adjust) (eqb (point_of p.0).zone_to.0 z)
      (eqb (point_of p.0).zone_from.0 z) _ _ _ _ _ (same_zone (point_of p.0).zone_to.0) (same_zone (point_of p.0).zone_from.0) d)

  -- The operation at its object's records x.
  fits_worked : all in_range (sites ps) ≡ true → (o : Option Operation) (x : Pair) → find (object_kind o) e.instance ps ≡ x →
      is_at (object_kind o) e.instance x.0 ≡ true → missing x.0 ≡ false → Fits o (worked_outcome o ps e x)
  unfolding Fits count_by find factor_outcome disable_outcome service_outcome unchanged refuse zone_count
  fits_worked a (Some Factor) x f p g =
      let s : find_in (is_point e.instance) (sites ps) ≡ x.0 = rw (← find_in_sites (is_point e.instance) ps, f) in
      let r : in_range x.0 ≡ true = rw s at (all_found_in in_range (is_point e.instance) (sites ps) a (rw s g)) in
      if_holds (Fits (Some Factor)) (point_of x.0).out_of_service _ _ h
      (fits_outcome x (event_of (situation_of ps e x) (rules_at ps e x) e) s (zones_differ z not_none e.instance x.0 p r))
  fits_worked a (Some SetCount) x f p g = fits_set
  fits_worked a (Some AdjustCount) x f p g = fits_adjust (count x.1) (λ q. rw (← f, eqb-true e.instance z q))
  fits_worked a (Some SetDisable) x f p g = h
  fits_worked a (Some SetService) x f p g = h
  fits_worked a None x f p g = h

  -- Any entry.
  fits_entry : all in_range (sites ps) ≡ true → Fits (operation_of e.operation) (entry_outcome ps e)
  unfolding find
  fits_entry a =
      entry_holds Fits ps e (λ o r d. fits_refuse r d o)
      (λ o x f i g. fits_worked a o x f (rw f at (found (is_at (object_kind o) e.instance) ps (rw f g))) g)

-- ── a list of entries

-- An entry and the bytes of its answer.
tallied_answer : (z : ℕ) (ss : List (List ℕ)) (ps : Panel) (b : List ℕ) (a : Answer) (t : Tally) →
    tallied z ss (record { found = ps; entry = b; answer = answer_bytes a }) t
    ≡ tallied_as (operation_of (entry_of b).operation) z ss (entry_of b) a.event a.refusal t
unfolding tallied
tallied_answer z ss ps b a t = rw (event_back a, refusal_back a)

module _ (z : ℕ) (not_none : eqb z NONE ≡ false) where
  -- One entry: the count that it leaves is the standing of its tally.
  count_entry : (b : List ℕ) (ps : Panel) (t : Tally) → pos (zone_count z ps) ≡ standing t → all in_range (sites ps) ≡ true → There n.access_zone z ps →
      pos (zone_count z (apply (entry_outcome ps (entry_of b)) ps))
      ≡ standing (tallied z (sites ps) (record { found = ps; entry = b; answer = answer_bytes (entry_outcome ps (entry_of b)).answer }) t)
  unfolding Fits
  count_entry b ps t h a g =
      rw (count_apply z not_none (entry_outcome ps (entry_of b)) ps g, tallied_answer z (sites ps) ps b (entry_outcome ps (entry_of b)).answer t)
      (fits_entry z not_none ps t h (entry_of b) a)

  -- Any list of entries.
  count_entries : (bs : List (List ℕ)) (ps : Panel) (t : Tally) → pos (zone_count z ps) ≡ standing t → all in_range (sites ps) ≡ true →
      There n.access_zone z ps →
      pos (zone_count z (after ps (map entry_of bs))) ≡ standing (tally z (sites ps) (worked_at ps bs) t)
  unfolding panels after answers tally worked_at
  count_entries [] ps t h a g = h
  count_entries (b ∷ bs) ps t h a g =
      let s = sites_apply (entry_outcome ps (entry_of b)) ps in
      rw s at (count_entries bs (apply (entry_outcome ps (entry_of b)) ps) _ (count_entry b ps t h a g) (rw s a) (rw s g))

-- ── lists of runs from fresh

-- Every zone's count is 0 in the fresh state.
fresh_count : (z : ℕ) (ss : List (List ℕ)) → missing (find_in (is_zone z) ss) ≡ false → zone_count z (fresh_panel ss) ≡ 0
unfolding zone_count find fresh_record field
fresh_count z ss g = rw (find_fresh (is_zone z) ss g, kind_at n.access_zone z (find_in (is_zone z) ss) (found_in (is_zone z) ss g))

-- Every zone's count, after every list of runs from fresh.
pub count_is_tally : Count
unfolding Count count_of tally_of zone_count
count_is_tally h z x =
    let ps = fresh_panel (records h.site) in
    let s : sites ps ≡ records h.site = sites_fresh (records h.site) in
    let a : all in_range (sites ps) ≡ true = rw s (accepted h).fields_in_range in
    let f : pos (zone_count z ps) ≡ standing (set_to 0) = rw (fresh_count z (records h.site) (object_found h n.access_zone z x)) (standing_set 0) in
    rw (ended_panel h, worked_list h)
    (rw s at (count_entries z (object_real h n.access_zone z x) (all_entries h) ps (set_to 0) f a (object_there h n.access_zone z x)))
