-- What the library's search gives, handed to one lemma; a further lemma would take all these facts.
use Rattle.std.proofs.Common.{rules, tests}
use Rattle.std.proofs.lemmas.Iterator.{YieldsList-from_slice}
use Rattle.std.proofs.lemmas.Iterator.Search.{find_from_yields_List}
use Rattle.site.specs.Factor.{fits}
use Rattle.site.proofs.Records.{part_found}
use Rattle.site.proofs.lookup.find_factor.Goals as goal

pub returns : goal.returns
returns c =
    let q = fits c.args.p in
    part_found q _ c.part_of.ensures (find_from_yields_List q _ _ _ c.find.ensures.ran (YieldsList-from_slice _ c.iter.ensures.rest) (λ x b q k. search (rules, tests))) c.records.ensures
