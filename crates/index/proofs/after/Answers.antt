-- The link of the record, or the next of the kind: none comes before the first of its class, and none after the last.
use Prim.Native.Nat.{◌+◌, ◌%◌}
use mathlib.Core.Path.{◌≡◌, sym, ap, ◌∙◌}
use native.Mathlib.Omega.{arith}
use lib.ListN.{length}
use Rattle.model.specs.Site.{kind, records}
use Rattle.index.specs.Index.{most_records, buckets, kind_classes, next_in}
use Rattle.index.proofs.Walks.{kind_later, kind_past}
use Rattle.index.proofs.after.Goals as goal

pub returns-then-from-i : goal.returns-then-from-i
returns-then-from-i c k l x =
    let a = c.args in
    let z : most_records + buckets + c.kind_class.result + kind_classes ≡ most_records + buckets + kind_classes + a.kind % kind_classes = omega (arith, c.kind_class.ensures) in
    let p = rw (c.from.ensures, z) at c.if-from-i.true in
    rw c.if-along.false (ap length c.records-records.ensures ∙ sym (kind_past k (records a.site.now) a.words.now x a.kind a.i l c.requires.1 p))

pub returns : goal.returns
returns c k l x =
    let a = c.args in
    let ss = records a.site.now in
    let e = rw c.kind_class.ensures at c.from-2.ensures ∙ x.kinds (a.kind % kind_classes) (omega arith) in
    let n = rw c.records-records.ensures at c.next_of_kind.ensures ∙ ap (λ j. next_in kind a.kind j ss) c.max.ensures in
    rw c.if-along.false (n ∙ kind_later a.kind k a.i c.from-2.result ss l e)
