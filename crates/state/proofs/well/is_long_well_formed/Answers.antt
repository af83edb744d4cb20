-- By the library's law of `all`, over pairs.
use Rattle.std.proofs.Common.{rules, tests, ◌∙◌, ap, ap₂}
use Rattle.std.specs.List.{zip}
use Rattle.std.proofs.lemmas.Iterator.{YieldsList-from_slice, YieldsList-from_zip}
use Rattle.std.proofs.lemmas.Iterator.Search.{all_from_yields_List}
use Rattle.model.specs.Words.{all}
use Rattle.model.specs.Site.{records}
use Rattle.model.specs.Longer.{long_record_well, long_well_formed}
use Rattle.site.proofs.Records.{all_is}
use Rattle.state.proofs.Pairs.{zip_panel}
use Rattle.state.proofs.well.is_long_well_formed.Goals as goal

pub returns : goal.returns
unfolding long_well_formed
returns c =
    let q = long_record_well (records c.args.site.now) in
    let pairs = YieldsList-from_zip (YieldsList-from_slice c.records.result.now (search rules)) (YieldsList-from_slice c.groups.result.now (search rules)) in
    let e = all_from_yields_List q c.all.new.self _ c.all.result c.all.ensures.ran pairs (λ x b f k. search (rules, tests)) in
    e ∙ all_is q _ ∙ ap (all q) (ap₂ zip c.records.ensures.value c.groups.ensures ∙ zip_panel c.args.site.now c.args.long.now c.requires)
