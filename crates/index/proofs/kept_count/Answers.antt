-- What the library's count gives.
use mathlib.Core.Path.{sym, ap, ◌∙◌}
use lib.ListN.{length}
use Rattle.std.proofs.Common.{rules, tests}
use Rattle.std.proofs.lemmas.Iterator.{YieldsList-from_slice}
use Rattle.std.proofs.lemmas.Iterator.Consumers.{count_from_yields_List, YieldsList-from_filter}
use Rattle.model.specs.State.{kept}
use Rattle.index.proofs.Counts.{filter_kept}
use Rattle.index.proofs.kept_count.Goals as goal

pub returns : goal.returns
returns c =
    count_from_yields_List _ c.count.result c.count.ensures.ran
    (YieldsList-from_filter {s = c.filter.result} _ kept (rw (sym c.filter.ensures.source) at (YieldsList-from_slice {s = c.iter.result} _ c.iter.ensures.rest)) c.filter.ensures.closure
    (λ x b q k. search (rules, tests))) ∙ ap length (filter_kept c.args.records.now)
