-- The text's length that the call returns is within the text (`written_fits`).
use Rattle.std.proofs.Common.{◌≡◌}
use native.Mathlib.Omega.{arith}
use lib.ListN.{length-take}
use Rattle.print.proofs.Text.{written_fits}
use Rattle.std.specs.Prelude.{Some}
use Rattle.print_journal.proofs.print_bytes.Goals as goal

pub slice_bounds-write_all-end : goal.slice_bounds-write_all-end
slice_bounds-write_all-end c =
    let a = c.args in
    let print = c.print_journal in
    let n = c.in-Some.length in
    let e : print.result ≡ Some n = cc in
    written_fits a.site.now a.journal.now a.state.now a.answers.now a.text.now n _ _ _ (rw e at print.ensures)

pub slice_bounds-write_all-end-2 : goal.slice_bounds-write_all-end-2
slice_bounds-write_all-end-2 c = simp length-take (omega (arith, slice_bounds-write_all-end c))
