-- By the library's law of `fold`.
use Rattle.std.proofs.Common.{rules}
use Rattle.std.proofs.lemmas.Iterator.{YieldsList-from_slice}
use Rattle.std.proofs.lemmas.Iterator.Consumers.{fold_from_yields_List}
use Rattle.model.specs.Site.{records}
use Rattle.rules.proofs.Chains.{scan_finds}
use Rattle.rules.proofs.scanned.Goals as goal

pub returns : goal.returns
returns c =
    let ss = records c.args.site.now in
    scan_finds c.args.a ss c.default.ensures
    (fold_from_yields_List _ _ _ _ c.fold.ensures.ran (YieldsList-from_slice ss cc) (λ v x w q k. search rules))
