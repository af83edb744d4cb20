-- The stores put the record before the others of its bucket, and of its kind's class, and count it, where it has state.
use Prim.Native.Nat.{◌+◌, ◌*◌, ◌/◌, ◌%◌}
use mathlib.Core.Path.{◌≡◌, ◌∙◌, ap}
use native.Mathlib.Omega.{arith}
use lib.Bits.{bit_or}
use Rattle.index.specs.Index.{most_records, buckets, kind_classes, count_step, chain_scale, head, count_more, count_at}
use Rattle.index.proofs.Building.{inserted}
use Rattle.index.proofs.Counts.{count_few}
use Rattle.index.proofs.put.Goals as goal

pub count_more-count-requires : goal.count_more-count-requires
count_more-count-requires c =
    let x = c.requires.indexed_from in
    omega (arith, x.counted, count_few (c.args.i + 1) c.args.records.now, x.few)

pub returns : goal.returns
returns c =
    let l = c.last_after-last in
    let ss = c.args.records.now in
    let i = c.args.i in
    let x = c.args.words.now in
    let o = c.args.slot in
    let q = c.requires.i_in_bounds.1 in
    let n = c.number-head.ensures in
    let z : most_records + buckets + kind_classes + c.kind_class.result ≡ most_records + buckets + c.kind_class.result + kind_classes = omega arith in
    let f = c.before-2.ensures ∙ ap (λ w. i + bit_or w (head c.number-head.result x / chain_scale) * chain_scale) q.mark in
    let more = c.count_more-count.ensures ∙ ap (count_more (count_at ((i + 1) / count_step) x) i) c.is_kept.ensures in
    inserted i ss x c.requires.i_in_bounds.0 c.number-head.result (n ∙ q.bucket) (omega (arith, n))
    c.kind_class.result (c.kind_class.ensures ∙ ap (λ w. w % kind_classes) c.kind_of.ensures) (omega (arith, c.kind_class.ensures)) c.requires.indexed_from
    c.before-2.result.0 f l.result (rw z l.ensures) _ more
