-- The state's length is within its room (`state_fits`).
use native.Mathlib.Omega.{arith}
use lib.ListN.{length-take}
use Rattle.print_journal.proofs.Rooms.{state_fits}
use Rattle.print_journal.proofs.print_files.Goals as goal

pub slice_bounds-state-end : goal.slice_bounds-state-end
slice_bounds-state-end c = omega (arith, c.state_length-state_size.ensures, state_fits c.in_ok-site.site.now, c.in_ok-site.ensures)

pub slice_bounds-print_bytes-end : goal.slice_bounds-print_bytes-end
slice_bounds-print_bytes-end c = simp length-take (omega (arith, c.state_length-state_size.ensures, state_fits c.in_ok-site.site.now, c.in_ok-site.ensures))
