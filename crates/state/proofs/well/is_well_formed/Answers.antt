-- By the library's law of `all`, over pairs.
use Rattle.std.proofs.Common.{rules, tests, ◌∙◌, ap, ap₂}
use Rattle.std.specs.List.{zip}
use Rattle.std.proofs.lemmas.Iterator.{YieldsList-from_slice, YieldsList-from_zip}
use Rattle.std.proofs.lemmas.Iterator.Consumers.{YieldsList-from_filter}
use Rattle.std.proofs.lemmas.Iterator.Search.{all_from_yields_List}
use Rattle.model.specs.Words.{keep, all}
use Rattle.model.specs.Site.{records}
use Rattle.model.specs.State.{kept, record_well, well_formed}
use Rattle.site.proofs.Records.{all_is}
use Rattle.model.proofs.Longer.{none_well}
use Rattle.index.proofs.Counts.{filter_kept}
use Rattle.state.proofs.Pairs.{all_panel}
use Rattle.state.proofs.well.is_well_formed.Goals as goal

pub returns : goal.returns
unfolding well_formed
returns c =
    let q = record_well (records c.args.site.now) in
    let sites = YieldsList-from_filter _ kept (YieldsList-from_slice c.records.result.now (search rules)) (search rules) (λ x b f k. search (rules, tests)) in
    let pairs = YieldsList-from_zip sites (YieldsList-from_slice c.groups.result.now (search rules)) in
    let e = all_from_yields_List q c.all.new.self _ c.all.result c.all.ensures.ran pairs (λ x b f k. search (rules, tests)) in
    let s = filter_kept _ ∙ ap (keep kept) c.records.ensures.value in
    e ∙ all_is q _ ∙ ap (all q) (ap₂ zip s c.groups.ensures) ∙ all_panel q (none_well (records c.args.site.now)) c.args.site.now c.args.state.now c.requires
