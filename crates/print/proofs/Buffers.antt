-- What the lent state and answers held does not show in the text: two runs from fresh, in buffers of the same lengths, return the same and,
-- worked through, leave the same answers.
use Prim.Native.Nat.{ℕ, ◌*◌, ◌/◌}
use mathlib.Core.Path.{◌≡◌, refl, sym, ◌∙◌}
use mathlib.Core.List.{List}
use mathlib.Core.Bool.{Bool, true, false}
use lib.ListN.{length, length-replicate}
use Rattle.model.specs.Words.{zeros}
use Rattle.model.specs.State.{state_length}
use Rattle.model.specs.Calls.{is_worked, fresh_returned, fresh_state, check_state, run_returned, run_journal}
use Rattle.model.specs.Print.{from_fresh, print_journal}
use Rattle.print.specs.Print.{text_of, run_into}

module _ (site journal s t a b : List ℕ) (l : length s ≡ length t) (m : length a ≡ length b) where
  same_fresh : fresh_returned site s ≡ fresh_returned site t
  unfolding fresh_returned
  same_fresh = rw l

  same_returned : run_returned site (fresh_state site s).state journal a ≡ run_returned site (fresh_state site t).state journal b
  unfolding fresh_state check_state run_returned
  same_returned = go (is_worked (fresh_returned site t)) refl
    where
      go : (w : Bool) → is_worked (fresh_returned site t) ≡ w → run_returned site (fresh_state site s).state journal a ≡ run_returned site (fresh_state site t).state journal b
      go true e = simp (same_fresh, e, m)
      go false e = simp (same_fresh, e)

  same_state : (w : Bool) → is_worked (fresh_returned site t) ≡ w → is_worked (run_returned site (fresh_state site t).state journal b) ≡ true
      → (fresh_state site s).state ≡ (fresh_state site t).state
  unfolding fresh_state check_state run_returned
  same_state true e h = rw (same_fresh, e)
  same_state false e h = let z : false ≡ true = simp e at h in cc

  same_text : text_of (run_into site journal s a) ≡ text_of (run_into site journal t b)
  unfolding text_of run_into run_journal
  same_text = go (is_worked (run_returned site (fresh_state site t).state journal b)) refl
    where
      go : (w : Bool) → is_worked (run_returned site (fresh_state site t).state journal b) ≡ w → text_of (run_into site journal s a) ≡ text_of (run_into site journal t b)
      go true e = rw (same_returned, e, same_state (is_worked (fresh_returned site t)) refl e)
      go false e = rw (same_returned, e)

-- In buffers of the lengths that a run asks for, the text is the paper's.
pub prints_journal : (site journal state answers : List ℕ) → length state ≡ state_length site → length answers ≡ length journal / 24 * 16
    → text_of (run_into site journal state answers) ≡ print_journal site journal
unfolding print_journal from_fresh
prints_journal site journal state answers l m =
    same_text site journal state (zeros (state_length site)) answers (zeros (length journal / 24 * 16))
    (l ∙ sym (length-replicate (state_length site) 0)) (m ∙ sym (length-replicate (length journal / 24 * 16) 0))
    ∙ unfold text_of run_into in refl
