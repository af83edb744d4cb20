-- As long as the chain may hold a rule of the class, its first record is one of the site.
use mathlib.Core.Path.{ap}
use native.Mathlib.Omega.{arith}
use lib.ListN.{length}
use Rattle.rules.proofs.Chains.{walk_start, walk_goes_on, walk_turn}
use Rattle.rules.proofs.with_class.Goals as goal

pub loop-init : goal.loop-init
loop-init c = walk_start (rw c.bucket.ensures at c.head-chain.ensures)

pub bounds-records-at : goal.bounds-records-at
bounds-records-at c =
    omega (
      arith,
      ap length c.records-records.ensures.value,
      walk_goes_on c.loop.invariant (rw c.number-number.ensures at c.may_hold.ensures) c.if-not-may_hold.false c.record-at.ensures,
    )

pub link-chain-requires : goal.link-chain-requires
link-chain-requires c = walk_goes_on c.loop.invariant (rw c.number-number.ensures at c.may_hold.ensures) c.if-not-may_hold.false c.record-at.ensures

pub loop-preserved : goal.loop-preserved
loop-preserved c =
    let read = rw c.records-records.ensures.value at c.with_record-v.ensures in
    walk_turn c.loop.invariant (rw c.number-number.ensures at c.may_hold.ensures) c.if-not-may_hold.false c.record-at.ensures read c.link-chain.ensures
