-- Each record is tried, in turn.
use Prim.Native.Nat.{ℕ, ◌+◌, ◌-◌}
use mathlib.Core.Path.{◌≡◌, refl, ap, ◌∙◌}
use mathlib.Core.List.{[]}
use mathlib.Core.Bool.{Bool}
use native.Mathlib.Omega.{arith}
use lib.ListN.{length, drop, get_or}
use Rattle.std.proofs.Common.{rules, tests}
use Rattle.std.proofs.lemmas.Iterator.{YieldsList-from_range}
use Rattle.std.proofs.lemmas.Iterator.Search.{any_from_yields_List}
use Rattle.model.specs.Words.{any}
use Rattle.model.specs.Site.{records}
use Rattle.model.specs.Accept.{twins}
use Rattle.site.proofs.Records.{twice_of}
use Rattle.site.proofs.twins.has_twins.Goals as goal

pub returns : goal.returns
returns c =
    let ss = records c.args.site.now in
    let n = length c.records.result.now in
    let q : ℕ → Bool = λ i. any (twins (get_or ss i [])) (drop (i + 1) ss) in
    let z : n - 0 ≡ n = omega arith in
    any_from_yields_List q _ _ c.any.result c.any.ensures.ran (YieldsList-from_range 0 n n refl z) (λ x b q k. search (rules, tests))
    ∙ twice_of ss n 0 (omega (arith, ap length c.records.ensures.value))
