-- After each turn state and answers are those of as many entries.
use mathlib.Core.List.{map}
use lib.ListN.{length}
use Rattle.model.specs.State.{panel}
use Rattle.model.specs.Entry.{entry_of, entries}
use Rattle.journal.proofs.Loop.{Done}
use Rattle.journal.proofs.run.run.Given as goal

abbrev pub invariant-loop-k : goal.invariant-loop-k
invariant-loop-k l =
    Done l.site (map entry_of (entries l.journal)) (panel l.site l.initial.state) l.initial.answers (length l.yielded) l.state l.answers
