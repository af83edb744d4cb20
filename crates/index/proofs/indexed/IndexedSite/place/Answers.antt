-- Before the i-th stand those before the fourth record, and as many of its four as the bits below the i-th say.
use Rattle.std.specs.Prelude.{ℕ, ◌+◌, ◌-◌, ◌*◌, ◌/◌, ◌%◌, ◌^◌, ◌<◌, ◌≡◌, List, length, count_ones}
use mathlib.Core.Path.{ap}
use native.Mathlib.Omega.{arith}
use Rattle.model.specs.Site.{records}
use Rattle.model.specs.State.{state_place}
use Rattle.index.specs.Index.{kept_from, count_from}
use Rattle.index.proofs.Counts.{kept_all, count_above, shifted, place_counted}
use Rattle.index.proofs.indexed.IndexedSite.place.Goals as goal

pub overflow_sub-before : goal.overflow_sub-before
overflow_sub-before c =
    let m = c.args.i / 4 * 4 in
    let ss = records c.args.self.now in
    let a = count_above m ss in
    let b = kept_all m ss in
    rw (c.count_of-count.ensures, c.kept_count.ensures, a) (omega (arith, b))

-- What is returned, from the numbers alone.
before : (i : ℕ) (ss : List (List ℕ)) (all count : ℕ) → i < length ss → all ≡ kept_from 0 ss → count ≡ count_from (i / 4 * 4) ss
    → all - count / 16 + count_ones (count % (1 * 2 ^ (i % 4) % 65536)) ≡ state_place i ss
before i ss all count h a b = rw (shifted (i % 4) (omega arith), a, b) (place_counted i ss h)

pub returns : goal.returns
returns c =
    let e = before c.args.i (records c.args.self.now) c.kept_count.result c.count_of-count.result c.requires c.kept_count.ensures c.count_of-count.ensures in
    rw c.from.ensures (ap (λ p. record { site = c.args.i; state = p }) e)
