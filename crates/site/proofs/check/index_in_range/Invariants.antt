-- From the last record to the first: those from i on are in range and indexed.
use mathlib.Core.Path.{◌≡◌}
use mathlib.Core.Bool.{true}
use lib.ListN.{drop}
use Rattle.model.specs.Words.{all}
use Rattle.model.specs.Accept.{in_range}
use Rattle.index.specs.Index.{IndexedFrom}
use Rattle.site.proofs.check.index_in_range.Given as goal

abbrev pub invariant-loop-i : goal.invariant-loop-i
invariant-loop-i l = IndexedFrom l.i l.records l.words × (all in_range (drop l.i l.records) ≡ true)
