-- With room every text fits: the lines of a run that is worked through, since its answers are 16 bytes for an entry, and every number.
-- What is then written at the head of the text is what `print_into` has, and its length is within the text.
use Prim.Native.Nat.{ℕ, ◌*◌, ◌/◌, ◌≤◌, ◌<◌}
use native.Mathlib.Omega.{arith}
use mathlib.Core.Path.{◌≡◌, refl, ap}
use mathlib.Core.List.{List, ◌++◌}
use Rattle.std.specs.Prelude.{Some, None, Ok, Err, is_ok}
use Rattle.std.proofs.lemmas.Bool.{and_parts}
use mathlib.Core.Bool.{Bool, true, false}
use lib.Dec.{leb, lit<}
use lib.ListN.{length, drop, length-append}
use borrow.Author.Tests.{leb-true}
use Rattle.model.specs.Calls.{Returned, number, is_worked, fresh_state, run_journal}
use Rattle.model.specs.Print.{answers_text, decimal_line}
use Rattle.calls.proofs.Laws.{answers_length}
use Rattle.print.specs.Print.{has_room, text_of, run_into, PrintResult, print_result, print_into}
use Rattle.model.specs.declared.Refusal.TheVariants.{SiteLength, SiteField, SiteTwice, SiteMissing, StateLength, StateForm, JournalLength, AnswersLength}

-- Every number has at most two digits.
pub number_short : (r : Returned) → number r < 100
number_short (Ok tt) = lit< tt
number_short (Err SiteLength) = lit< tt
number_short (Err SiteField) = lit< tt
number_short (Err SiteTwice) = lit< tt
number_short (Err SiteMissing) = lit< tt
number_short (Err StateLength) = lit< tt
number_short (Err StateForm) = lit< tt
number_short (Err JournalLength) = lit< tt
number_short (Err AnswersLength) = lit< tt

pub worked_if_ok : (r : Returned) → is_worked r ≡ is_ok r
unfolding is_worked
worked_if_ok (Ok tt) = refl
worked_if_ok (Err SiteLength) = refl
worked_if_ok (Err SiteField) = refl
worked_if_ok (Err SiteTwice) = refl
worked_if_ok (Err SiteMissing) = refl
worked_if_ok (Err StateLength) = refl
worked_if_ok (Err StateForm) = refl
worked_if_ok (Err JournalLength) = refl
worked_if_ok (Err AnswersLength) = refl

pub number_fits : (journal text : List ℕ) → has_room journal text ≡ true → 3 ≤ length text
unfolding has_room
number_fits journal text h = leb-true 3 (length text) (and_parts (leb (length journal / 24 * 33) (length text)) (leb 3 (length text)) h).1

module _ (site journal state answers text : List ℕ) where
  module _ (h : has_room journal text ≡ true) (returned : Returned) (e : returned ≡ (run_into site journal state answers).returned) where
    pub lines_fit : is_worked returned ≡ true → length answers / 16 * 33 ≤ length text
    unfolding has_room run_into run_journal
    lines_fit w =
        let l = answers_length site (fresh_state site state).state journal answers (rw e at w) in
        let m = leb-true (length journal / 24 * 33) (length text) (and_parts (leb (length journal / 24 * 33) (length text)) (leb 3 (length text)) h).0 in
        omega arith

    module _ (n : ℕ) (state' answers' text' : List ℕ) (f : state' ≡ (run_into site journal state answers).state) (g : answers' ≡ (run_into site journal state answers).answers) where
      pub answers_printed : is_worked returned ≡ true → text' ≡ answers_text answers' ++ drop n text → n ≡ length (answers_text answers')
          → print_result (Some n) state' answers' text' ≡ print_into site journal state answers text
      unfolding print_into text_of
      answers_printed w p q = rw (h, ← e, w, p, q, f, g)

      pub number_printed : (k : ℕ) → k ≡ number returned → is_worked returned ≡ false → text' ≡ decimal_line k ++ drop n text → n ≡ length (decimal_line k)
          → print_result (Some n) state' answers' text' ≡ print_into site journal state answers text
      unfolding print_into text_of
      number_printed k m w p q = rw (h, ← e, w, p, q, f, g, m)

  pub written_fits : (n : ℕ) (state' answers' text' : List ℕ) → print_result (Some n) state' answers' text' ≡ print_into site journal state answers text
      → n ≤ length text'
  unfolding print_into
  written_fits n state' answers' text' e = go (has_room journal text) refl
    where
      go : (w : Bool) → has_room journal text ≡ w → n ≤ length text'
      go true h =
          let xs = text_of (run_into site journal state answers) in
          let p : Some n ≡ Some (length xs) = ap (λ (r : PrintResult). r.printed) (rw h at e) in
          let m : n ≡ length xs = cc in
          let t : text' ≡ xs ++ drop (length xs) text = ap (λ (r : PrintResult). r.text) (rw h at e) in
          omega (arith, simp length-append at (ap length t))
      go false h =
          let p : Some n ≡ None = ap (λ (r : PrintResult). r.printed) (rw h at e) in
          let z : ◌≡◌ {A = ℕ} 0 1 = cc in
          omega arith
