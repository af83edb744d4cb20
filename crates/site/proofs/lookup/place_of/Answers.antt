-- The record at i is the one that is sought, or the next decides and its state record is passed over.
use Prim.Native.Nat.{ℕ, ◌+◌}
use mathlib.Core.Path.{◌≡◌, refl, sym, ap, ◌∙◌}
use native.Mathlib.Omega.{arith}
use lib.ListN.{length}
use Rattle.std.specs.Prelude.{Some, None}
use Rattle.model.specs.Words.{bit_of}
use Rattle.model.specs.Site.{records, is_at}
use Rattle.model.specs.State.{state_place}
use Rattle.index.specs.declared.Place.{Place}
use Rattle.index.proofs.Counts.{place_one, place_few}
use Rattle.index.proofs.Places.{place_here, place_end, place_after}
use Rattle.site.specs.Place.{site_place, place_of}
use Rattle.site.proofs.lookup.place_of.Goals as goal

-- The place of two numbers.
abbrev placed : ℕ → ℕ → Place
placed i state = record { site = i; state = state }

pub loop-i-init : goal.loop-i-init
unfolding state_place site_place
loop-i-init g c = (refl, refl)

pub returns-then-is_at : goal.returns-then-is_at
unfolding place_of
returns-then-is_at g c =
    let k = g.O.Object.KIND in
    let n = g.O.Object.instance c.args.object in
    let v = c.records-part-items.ensures in
    let e : site_place k n c.args.site.now ≡ Some c.loop-i.i =
    sym c.loop-i.invariant.1 ∙ place_here (is_at k n) (records c.args.site.now) c.loop-i.i (omega (arith, ap length v)) (sym (rw v at c.is_at.ensures) ∙ c.if-is_at.true) in
    rw e (ap (λ s. Some (placed c.loop-i.i s)) c.loop-i.invariant.0)

pub overflow_add-state : goal.overflow_add-state
overflow_add-state g c =
    let ss = records c.args.site.now in
    let v = c.records-part-items.ensures in
    let i = c.loop-i.i in
    omega (arith, ap length v, place_one i ss (omega (arith, ap length v)), place_few (i + 1) ss, c.from-state.ensures ∙ ap bit_of (rw v at c.is_kept.ensures), c.records-part-items.type_inv)

pub loop-i-preserved : goal.loop-i-preserved
loop-i-preserved g c =
    let q = is_at g.O.Object.KIND (g.O.Object.instance c.args.object) in
    let ss = records c.args.site.now in
    let v = c.records-part-items.ensures in
    let i = c.loop-i.i in
    let p = place_one i ss (omega (arith, ap length v)) in
    let b = c.from-state.ensures ∙ ap bit_of (rw v at c.is_kept.ensures) in
    (omega (arith, p, b), place_after q ss i (omega (arith, ap length v)) (sym (rw v at c.is_at.ensures) ∙ c.if-is_at.false) ∙ c.loop-i.invariant.1)

pub returns : goal.returns
unfolding place_of
returns g c =
    let k = g.O.Object.KIND in
    let n = g.O.Object.instance c.args.object in
    let e : site_place k n c.args.site.now ≡ None = sym c.loop-i.invariant.1 ∙ place_end (is_at k n) (records c.args.site.now) c.loop-i.i (omega (arith, ap length c.records-part-items.ensures)) in
    rw e
