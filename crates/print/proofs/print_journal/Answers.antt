-- With room the run's text is written, and the laws of `Text.antt` join it to what is returned; without room nothing is done.
use native.Mathlib.Omega.{arith}
use mathlib.Core.Path.{sym, ap, ◌∙◌}
use Rattle.model.specs.Calls.{RunResult}
use Rattle.print.specs.Print.{print_into}
use Rattle.print.proofs.Text.{worked_if_ok, number_short, number_fits, lines_fit, answers_printed, number_printed}
use Rattle.print.proofs.print_journal.Goals as goal

pub returns-then-not-has_room : goal.returns-then-not-has_room
unfolding print_into
returns-then-not-has_room c = rw (sym c.has_room.ensures ∙ c.if-not-has_room.true)

pub write_answers-requires : goal.write_answers-requires
write_answers-requires c =
    let a = c.args in
    let run = c.run_into-outcome in
    let h = sym c.has_room.ensures ∙ c.if-not-has_room.false in
    let w = worked_if_ok run.result ∙ sym c.is_ok.ensures.value ∙ c.if-is_ok.true in
    omega (arith, lines_fit a.site.now a.journal.now a.state.now a.answers.now a.text.now h run.result (ap (λ (x : RunResult). x.returned) run.ensures) w)

pub returns-then-is_ok : goal.returns-then-is_ok
returns-then-is_ok c =
    let write = c.write_answers in
    let a = c.args in
    let run = c.run_into-outcome in
    let h = sym c.has_room.ensures ∙ c.if-not-has_room.false in
    let w = worked_if_ok run.result ∙ sym c.is_ok.ensures.value ∙ c.if-is_ok.true in
    answers_printed a.site.now a.journal.now a.state.now a.answers.now a.text.now h run.result (ap (λ (x : RunResult). x.returned) run.ensures) write.result _ _ _
    (ap (λ (x : RunResult). x.state) run.ensures) (ap (λ (x : RunResult). x.answers) run.ensures) w write.ensures.text_after write.ensures.value

pub write_decimal_line-requires : goal.write_decimal_line-requires
write_decimal_line-requires c =
    let a = c.args in
    let h = sym c.has_room.ensures ∙ c.if-not-has_room.false in
    omega (arith, number_fits a.journal.now a.text.now h, c.number_of.ensures, number_short c.run_into-outcome.result)

pub returns : goal.returns
returns c =
    let number = c.number_of in
    let write = c.write_decimal_line in
    let a = c.args in
    let run = c.run_into-outcome in
    let h = sym c.has_room.ensures ∙ c.if-not-has_room.false in
    let w = worked_if_ok run.result ∙ sym c.is_ok.ensures.value ∙ c.if-is_ok.false in
    number_printed a.site.now a.journal.now a.state.now a.answers.now a.text.now h run.result (ap (λ (x : RunResult). x.returned) run.ensures) write.result _ _ _
    (ap (λ (x : RunResult). x.state) run.ensures) (ap (λ (x : RunResult). x.answers) run.ensures) number.result number.ensures w write.ensures.text_after write.ensures.value
