-- What is turned back or refused changes nothing: the theorems `turned_back` and `refused`.
use Rattle.std.specs.Prelude.{Option, Some, None}
use Prim.Native.Nat.{ℕ, suc, ◌<◌, ◌/◌}
use native.Mathlib.Omega.{arith}
use mathlib.Core.Path.{◌≡◌, refl, sym, ◌∙◌, ap}
use mathlib.Core.List.{List, [], ◌∷◌, map}
use mathlib.Core.Bool.{false}
use lib.Dec.{ltb, eqb}
use lib.ListN.{length, take, get_or, length-map, get_or-map}
use lib.Seq.{take-suc}
use Rattle.model.specs.Site.{point_of}
use Rattle.model.specs.State.{Pair, Panel, panel, state_of}
use Rattle.model.specs.Entry.{entry_of, entries, answer_bytes}
use Rattle.model.specs.Effects.{answer_with, outcome_with, outcome_of}
use Rattle.model.specs.Step.{no_answer, unchanged, refuse, factor_outcome, count_outcome, adjusted, adjust_outcome, disable_outcome, service_outcome, worked_outcome, entry_outcome, apply, after}
use Rattle.model.specs.Calls.{fresh_state, run_journal}
use Rattle.model.specs.Lists.{run_on, refusal_in}
use Rattle.model.specs.Longer.{shorten_state, lengthen_state}
use Rattle.model.specs.Demands.{TurnedBack, Refused}
use Rattle.model.proofs.Laws.{if_holds}
use Rattle.model.proofs.Outcomes.{entry_holds}
use Rattle.model.proofs.RoundTrip.{refusal_back}
use Rattle.model.proofs.Runs.{after_append}
use Rattle.model.proofs.Entries.{length_entries, state_at, answer_at}
use Rattle.model.specs.declared.Entry.{Entry}
use Rattle.model.specs.declared.Outcome.{Outcome}
use Rattle.model.specs.declared.Operation.{Operation}
use Rattle.model.specs.declared.Operation.TheVariants.{Factor, SetCount, AdjustCount, SetDisable, SetService}

pub turned_back : TurnedBack
unfolding TurnedBack fresh_state run_on run_journal shorten_state lengthen_state
turned_back site state long r = (λ w. rw w, λ w. (rw w, rw w), λ w. rw w, λ w. rw w)

-- ── an outcome whose answer refuses is a refusal

Refusal : Outcome → Type 0
Refusal o = eqb o.answer.refusal 0 ≡ false → o ≡ refuse o.answer.refusal

refusal_refuse : (n : ℕ) → Refusal (refuse n)
unfolding Refusal refuse unchanged
refusal_refuse n h = refl

-- No worked operation refuses, but for an adjustment to a count that is too large.
refusal_worked : (o : Option Operation) (ps : Panel) (e : Entry) (x : Pair) → Refusal (worked_outcome o ps e x)
unfolding Refusal factor_outcome unchanged outcome_of outcome_with answer_with count_outcome disable_outcome service_outcome adjust_outcome
refusal_worked (Some Factor) ps e x =
    if_holds Refusal (point_of x.0).out_of_service (unchanged _) (outcome_of _ e _) (λ h. cc) (λ h. cc)
refusal_worked (Some SetCount) ps e x = λ h. cc
refusal_worked (Some AdjustCount) ps e x =
    if_holds Refusal (ltb _ (adjusted _ e.amount)) (refuse _) (count_outcome e _) (refusal_refuse _) (λ h. cc)
refusal_worked (Some SetDisable) ps e x = λ h. cc
refusal_worked (Some SetService) ps e x = λ h. cc
refusal_worked None ps e x = refusal_refuse _

refusal_entry : (ps : Panel) (e : Entry) → Refusal (entry_outcome ps e)
refusal_entry ps e = entry_holds (λ o. Refusal) ps e (λ o r d. refusal_refuse r) (λ o x f i g. refusal_worked o ps e x)

-- A refusal writes nothing.
apply_refuse : (n : ℕ) (ps : Panel) → apply (refuse n) ps ≡ ps
unfolding apply refuse unchanged
apply_refuse n ps = refl

-- ── the i-th entry of a run

-- One entry more than the first i.
pub after_next : (es : List Entry) (i : ℕ) (d : Entry) (ps : Panel) → i < length es →
    after ps (take (suc i) es) ≡ apply (entry_outcome (after ps (take i es)) (get_or es i d)) (after ps (take i es))
unfolding after
after_next es i d ps h = ap (after ps) (take-suc es i d h) ∙ after_append (take i es) (get_or es i d ∷ []) ps

pub refused : Refused
unfolding Refused Refusal refuse unchanged
refused site state r i w h q =
    let es = map entry_of (entries r.journal) in
    let n : length es ≡ length r.journal / 24 = length-map (entries r.journal) entry_of ∙ length_entries site state r w in
    let ps = after (panel site state) (take i es) in
    let e = entry_of (get_or (entries r.journal) i []) in
    let a = answer_at site state r w i h in
    let b : eqb (entry_outcome ps e).answer.refusal 0 ≡ false = rw (a, refusal_back (entry_outcome ps e).answer) at q in
    let o = refusal_entry ps e b in
    let p : after (panel site state) (take (suc i) es) ≡ ps = after_next es i (entry_of []) (panel site state) (omega (arith, n)) ∙ ap (λ x. apply (entry_outcome ps x) ps) (get_or-map entry_of (entries r.journal) i []) ∙ ap (λ x. apply x ps) o ∙ apply_refuse (entry_outcome ps e).answer.refusal ps in (
      state_at site state r w (suc i) h ∙ ap state_of p ∙ sym (state_at site state r w i (omega arith)),
      a ∙ ap (λ (x : Outcome). answer_bytes x.answer) o ∙ ap (λ k. answer_bytes (no_answer k 0 0)) (sym (ap refusal_in a ∙ refusal_back (entry_outcome ps e).answer)),
    )
