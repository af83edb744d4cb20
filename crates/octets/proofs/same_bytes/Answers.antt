-- By the library's law of `fold`, over pairs.
use Rattle.std.proofs.Common.{rules, tests, ◌∙◌, ℕ, Bool, true}
use Rattle.std.proofs.lemmas.Grind.{common_steps}
use Rattle.std.proofs.lemmas.Iterator.{YieldsList-from_slice, YieldsList-from_zip}
use Rattle.std.proofs.lemmas.Iterator.Consumers.{fold_from_yields_List}
use mathlib.Core.Bool.{◌&&◌}
use native.Mathlib.Omega.{arith}
use lib.Dec.{eqb}
use Rattle.octets.proofs.Laws.{same_pairs}
use Rattle.octets.proofs.same_bytes.Goals as goal

pub returns-then-a-b : goal.returns-then-a-b
returns-then-a-b c =
    let pairs = YieldsList-from_zip (YieldsList-from_slice c.args.a.now (grind (arith, common_steps))) (YieldsList-from_slice c.args.b.now (grind (arith, common_steps))) in
    let e = fold_from_yields_List _ (λ (all : Bool) (p : ℕ × ℕ). all && eqb p.0 p.1) true c.fold.result c.fold.ensures.ran pairs (λ t x b f k. search (rules, tests)) in
    e ∙ same_pairs c.args.a.now c.args.b.now (search rules)
