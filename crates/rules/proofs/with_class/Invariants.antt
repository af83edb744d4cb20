-- A walk along the chain of the class's bucket, as long as a rule of the class may be left.
use Rattle.model.specs.Site.{records}
use Rattle.rules.proofs.Chains.{ClassWalk}
use Rattle.rules.proofs.with_class.Given as goal

abbrev pub invariant-loop : goal.invariant-loop
invariant-loop l = ClassWalk l.a l.fn.class (records l.site) l.fn.found l.v l.chain.0
