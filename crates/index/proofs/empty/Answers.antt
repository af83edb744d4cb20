-- Every head holds the number of records, and the last count none.
use mathlib.Core.Path.{◌∙◌}
use native.Mathlib.Omega.{arith}
use borrow.Rule.Slice.PartMut.{same_len_mid}
use lib.ListN.{length}
use Rattle.index.proofs.Building.{emptied, filled}
use Rattle.index.proofs.empty.Goals as goal

pub returns : goal.returns
returns c =
    let n = length c.args.records.now in
    let f = c.fill.ensures.after (λ y k. k) in
    let size = same_len_mid 2000 1040 c.args.words.now c.fill.new.self c.fill.ensures.len ∙ c.told-words in
    emptied c.args.records.now _ size c.requires (filled n 1040 c.args.words.now c.fill.new.self _ c.told-words (omega arith) f)
