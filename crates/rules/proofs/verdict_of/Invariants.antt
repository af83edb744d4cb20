-- From nothing, a round of the classes that are walked, whose rules find what all records find.
use Rattle.model.specs.Site.{records}
use Rattle.rules.proofs.Rounds.{Round}
use Rattle.rules.proofs.verdict_of.Given as goal

abbrev pub invariant-loop-class : goal.invariant-loop-class
invariant-loop-class l = Round l.a (records l.site) l.class-items l.v l.class-index
