-- The stores are the head of the text; in each arm the test of `decimal_line` is known.
use native.Mathlib.Omega.{arith}
use mathlib.Core.Path.{refl, ◌∙◌}
use mathlib.Core.List.{[], ◌∷◌}
use borrow.Author.Tests.{lt-ltb, le-ltb}
use lib.Seq.{sets-eq}
use Rattle.model.specs.Print.{line_feed, decimal_line}
use Rattle.print.proofs.lines.write_decimal_line.Goals as goal

pub returns-then-number-lt10 : goal.returns-then-number-lt10
unfolding decimal_line
returns-then-number-lt10 c =
    let digit = c.decimal_digit in
    rw (lt-ltb _ _ c.if-number-lt10.true)
    record { text_after = sets-eq (digit.result ∷ line_feed ∷ []) c.args.text.now 0 (omega arith) ∙ rw digit.ensures; value = refl }

pub returns : goal.returns
unfolding decimal_line
returns c =
    let tens = c.decimal_digit-2 in
    let ones = c.decimal_digit-3 in
    rw (le-ltb _ _ c.if-number-lt10.false)
    record {
      text_after = sets-eq (tens.result ∷ ones.result ∷ line_feed ∷ []) c.args.text.now 0 (omega arith) ∙ rw (ones.ensures, tens.ensures);
      value = refl;
    }
