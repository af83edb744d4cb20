-- The lines and the rest of the text are as long as the text was, so that the lines are as long as what is returned.
use Prim.Native.Nat.{◌*◌}
use native.Mathlib.Omega.{arith}
use mathlib.Core.Path.{refl, sym, ◌∙◌}
use lib.ListN.{length}
use Rattle.octets.proofs.Written.{head_length}
use Rattle.model.specs.Lists.{answers_in}
use Rattle.model.specs.Print.{answers_text}
use Rattle.print.proofs.Chunks.{length_whole}
use Rattle.print.proofs.lines.write_answers.Goals as goal

pub returns-clause-text_after : goal.returns-clause-text_after
unfolding answers_text answers_in
returns-clause-text_after c = c.put_each.ensures ∙ rw c.groups-whole.ensures refl

pub returns-clause-value : goal.returns-clause-value
returns-clause-value c =
    let answers = c.args.answers.now in
    let whole = c.groups-whole.result.now in
    sym (head_length (length whole * 33) (answers_text answers) c.args.text.now (omega (arith, length_whole answers whole c.groups-whole.ensures))
    (rw (returns-clause-text_after c) at c.put_each.auto.bytes))
