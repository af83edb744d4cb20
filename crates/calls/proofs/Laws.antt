-- The lengths that a call may rely on once its checks have passed.
use Rattle.std.specs.Prelude.{Ok}
use Prim.Native.Nat.{ℕ, ◌*◌, ◌/◌, ◌%◌}
use mathlib.Core.Path.{◌≡◌, ap}
use mathlib.Core.List.{List}
use mathlib.Core.Bool.{true}
use lib.ListN.{length}
use Rattle.model.specs.Calls.{is_worked, fresh_returned, run_returned, run_journal}
use Rattle.model.specs.Lists.{run_on}
use Rattle.model.proofs.Entries.{lengths, run_accepted}

-- Answers of 16 bytes for each entry.
pub answers_length : (site state journal answers : List ℕ) → is_worked (run_returned site state journal answers) ≡ true → length answers ≡ length journal / 24 * 16
unfolding run_on run_journal
answers_length site state journal answers w = (run_accepted site state (record { journal = journal; answers = answers }) w).answers_length

-- A site that is worked through is of whole records.
pub fresh_whole : (site state : List ℕ) → fresh_returned site state ≡ Ok tt → length site % 32 ≡ 0
unfolding is_worked
fresh_whole site state e = (lengths site state (ap is_worked e)).0
