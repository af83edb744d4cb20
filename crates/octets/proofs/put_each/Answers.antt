-- The turn's bytes stand behind those before them.
use native.Mathlib.Omega.{arith}
use native.Mathlib.Nat.{mul-le-mul_right, le_of_lt}
use Rattle.octets.proofs.Written.{written_step}
use Rattle.octets.proofs.put_each.Goals as goal

pub loop-i-preserved : goal.loop-i-preserved
loop-i-preserved g c =
    let l = c.loop-i in
    let n = g.row.N in
    let a = c.args in
    let h = c.loop-i-test.true in
    let e = rw (c.chunk.ensures, c.index-items-i.is) at c.put_group.ensures in
    written_step g.C.Chunk.chunk n a.items.now a.bytes.now l.i c.index-items-i.result l.bytes c.put_group.new.bytes h
    (omega (arith, mul-le-mul_right n (le_of_lt h), c.requires.in_range)) l.auto.bytes l.invariant e
