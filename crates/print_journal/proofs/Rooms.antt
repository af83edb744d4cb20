-- A state is no longer than its site.
use Prim.Native.Nat.{ℕ, ◌≤◌}
use native.Mathlib.Omega.{arith}
use mathlib.Core.List.{List}
use lib.ListN.{length}
use Rattle.model.specs.Site.{records}
use Rattle.model.specs.State.{state_length}
use Rattle.index.proofs.Building.{length_records}
use Rattle.model.specs.State.{kept}
use Rattle.model.proofs.Laws.{length_keep}

pub state_fits : (site : List ℕ) → state_length site ≤ length site
unfolding state_length
state_fits site = omega (arith, length_keep kept (records site), length_records site)
