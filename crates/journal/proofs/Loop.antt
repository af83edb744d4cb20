-- The loop over the entries of a journal: what is done after k of them.
use Prim.Native.Nat.{ℕ, zero, suc, ◌+◌, ◌*◌, ◌<◌}
use native.Mathlib.Numerals.{add-one}
use native.Mathlib.Omega.{arith}
use mathlib.Core.Path.{◌≡◌, refl, sym, ◌∙◌, ap, ap₂}
use mathlib.Core.List.{List, [], ◌∷◌, append-nil, map, flatten}
use lib.ListN.{length, take, get_or, drop_of_length-le}
use lib.Seq.{take_all}
use Rattle.octets.specs.Octets.{with_part}
use Rattle.octets.proofs.Written.{written, written_start, written_step, written_end}
use Rattle.model.specs.State.{Panel, state_length, panel, state_of}
use Rattle.model.specs.Entry.{answer_bytes}
use Rattle.model.specs.Step.{apply, entry_outcome, after, answers}
use Rattle.model.proofs.Flat.{state_of_panel, panel_back, length_back}
use Rattle.model.proofs.Runs.{length_answers}
use Rattle.model.proofs.Untouched.{after_next}
use Rattle.model.specs.declared.Answer.{Answer}
use Rattle.model.specs.declared.Entry.{Entry}

-- The answer to the k-th entry is that at the panel after those before it.
answer_at : (es : List Entry) (ps : Panel) (k : ℕ) (a : Answer) (d : Entry) → k < length es
    → get_or (answers ps es) k a ≡ (entry_outcome (after ps (take k es)) (get_or es k d)).answer
unfolding after answers
answer_at [] ps k a d h = absurd (omega arith)
answer_at (e ∷ es) ps zero a d h = refl
answer_at (e ∷ es) ps (suc k) a d h = answer_at es (apply (entry_outcome ps e) ps) k a d (omega arith)

module _ (site : List ℕ) (es : List Entry) (ps : Panel) (room : List ℕ) where
  -- After k entries: the state holds the panel that they leave, and their answers stand at the head of the buffer.
  pub record Done (k : ℕ) (state text : List ℕ) : Type 0 where
    pub same_length : length state ≡ state_length site
    pub state_is : panel site state ≡ after ps (take k es)
    pub answers_are : text ≡ written answer_bytes 16 (answers ps es) room k

  pub done_start : (state : List ℕ) → length state ≡ state_length site → panel site state ≡ ps → Done 0 state room
  unfolding after
  done_start state l p = record { same_length = l; state_is = p; answers_are = written_start answer_bytes 16 (answers ps es) room }

  pub done_step : length room ≡ length es * 16 → (k : ℕ) (state text state' text' : List ℕ) (e : Entry) (a : Answer) →
      k < length es → e ≡ get_or es k e → length text ≡ length room →
      state' ≡ state_of (apply (entry_outcome (panel site state) e) (panel site state)) → a ≡ (entry_outcome (panel site state) e).answer →
      text' ≡ with_part 16 k (answer_bytes a) text → Done k state text → Done (k + 1) state' text'
  unfolding after
  done_step fits k state text state' text' e a h g l s r b done =
      let q = done.state_is in
      let n : apply (entry_outcome (panel site state) e) (panel site state) ≡ after ps (take (suc k) es) =
      ap₂ (λ x y. apply (entry_outcome x y) x) q g ∙ sym (after_next es k e ps h) in
      let w : a ≡ get_or (answers ps es) k a = r ∙ ap₂ (λ x y. (entry_outcome x y).answer) q g ∙ sym (answer_at es ps k a e h) in
      record {
        same_length = ap length s ∙ length_back site state done.same_length (e ∷ []);
        state_is = rw add-one (ap (panel site) s ∙ panel_back site state done.same_length (e ∷ []) ∙ n);
        answers_are =
            written_step answer_bytes 16 (answers ps es) room k a text text' (omega (arith, length_answers es ps)) (omega arith) l done.answers_are
            (b ∙ ap (λ x. with_part 16 k (answer_bytes x) text) w);
      }

  pub done_end : length room ≡ length es * 16 → (k : ℕ) (state text : List ℕ) → k ≡ length es → Done k state text →
      (state ≡ state_of (after ps es)) × (text ≡ flatten (map answer_bytes (answers ps es)))
  done_end fits k state text j done = (
    sym (state_of_panel site state done.same_length) ∙ ap state_of done.state_is ∙ ap (λ fs. state_of (after ps fs)) (take_all k es (omega arith)),
    written_end answer_bytes 16 (answers ps es) room k (length es) text j (length_answers es ps) done.answers_are
        ∙ rw (drop_of_length-le room {i = length es * 16} (omega arith)) (append-nil _),
  )
