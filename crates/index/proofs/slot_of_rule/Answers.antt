-- The bit of a rule's tag is one of four.
use Prim.Native.Nat.{◌*◌, ◌%◌, ◌^◌, ◌<◌}
use mathlib.Core.Path.{◌≡◌}
use native.Mathlib.Omega.{arith}
use lib.Pow.{pow-lt}
use Rattle.index.specs.Index.{tags, bucket_of, mark_of}
use Rattle.index.proofs.slot_of_rule.Goals as goal

pub returns : goal.returns
unfolding bucket_of mark_of
returns c =
    let k = c.requires in
    let r = c.class_of_rule-class in
    let t = c.tag.result in
    let g : t ≡ r.result % tags = c.tag.ensures in
    let l : 2 ^ t < 32 = pow-lt {i = t} {j = 5} (omega arith) in
    let e : 1 * 2 ^ t % 65536 ≡ 2 ^ t = omega arith in
    record { bucket = rw (k, ← r.ensures) c.bucket.ensures; mark = rw (e, g, k, ← r.ensures); small = omega arith }
