-- Each record that is tried is in range.
use mathlib.Core.Path.{◌≡◌, ap, ◌∙◌}
use mathlib.Core.Bool.{true}
use lib.ListN.{length}
use native.Mathlib.Omega.{arith}
use Rattle.std.proofs.Common.{rules, tests}
use Rattle.std.proofs.lemmas.Iterator.{YieldsList-from_slice}
use Rattle.std.proofs.lemmas.Iterator.Search.{all_from_yields_List}
use Rattle.std.proofs.lemmas.Iterator.Adapters.{serves_from_places}
use Rattle.model.specs.Words.{all}
use Rattle.model.specs.Site.{records}
use Rattle.model.specs.Accept.{in_range, names_exist}
use Rattle.site.proofs.Records.{all_at, all_is}
use Rattle.site.proofs.names.all_names_exist.Goals as goal

pub all-requires-clause-callable : goal.all-requires-clause-callable
all-requires-clause-callable c =
    serves_from_places (YieldsList-from_slice _ c.iter.ensures.rest) (λ x q k. search (rules, tests))
    (λ x k l e.
    let h : in_range x.now ≡ true = rw (e, c.records.ensures.value) (all_at in_range (records c.args.site.now) c.requires k x.now (omega (arith, ap length c.records.ensures.value))) in
    search rules)

pub returns : goal.returns
returns c =
    let q = names_exist (records c.args.site.now) in
    let e = all_from_yields_List q _ _ c.all.result c.all.ensures.ran (YieldsList-from_slice _ c.iter.ensures.rest) (λ x b q k. search (rules, tests)) in
    e ∙ all_is q c.records.result.now ∙ ap (all q) c.records.ensures.value
