-- From the first of the kind's class, or where the scan begins, to the last.
use Prim.Native.Nat.{◌%◌}
use mathlib.Core.Path.{sym, ap, ◌∙◌}
use native.Mathlib.Omega.{arith}
use lib.ListN.{length}
use Rattle.model.specs.Site.{records}
use Rattle.index.specs.Index.{kind_classes, kind_class}
use Rattle.index.proofs.Walks.{next_high}
use Rattle.index.proofs.Places.{place_position, place_scan}
use Rattle.index.proofs.indexed.IndexedSite.scan.Goals as goal

pub clamp-end-requires : goal.clamp-end-requires
clamp-end-requires g c =
    let n = ap length c.records-records.ensures.value in
    let h = next_high kind_class (c.kind-kind.result % kind_classes) 0 (records c.args.self.now) (omega arith) in
    omega (arith, n, h, c.first_of_kind.ensures)

pub offset_bounds-records-first : goal.offset_bounds-records-first
offset_bounds-records-first g c =
    let h = next_high kind_class (c.kind-kind.result % kind_classes) 0 (records c.args.self.now) (omega arith) in
    omega (arith, h, c.first_of_kind.ensures)

pub slice_bounds-place_among-end : goal.slice_bounds-place_among-end
slice_bounds-place_among-end g c =
    let n = ap length c.records-records.ensures.value in
    let h = next_high kind_class (c.kind-kind.result % kind_classes) 0 (records c.args.self.now) (omega arith) in
    omega (arith, n, h, c.first_of_kind.ensures)

pub returns-in_err-at : goal.returns-in_err-at
returns-in_err-at g c =
    let a = c.args in
    let v = c.records-records.ensures.value in
    let e = place_scan (g.S.Sought.fits a.sought) (records a.self.now) c.kind-kind.result
    (λ s t. g.met.S.Sought.of_kind a.sought s t ∙ sym c.kind-kind.ensures) a.from c.first_of_kind.result c.end_of_kind.result c.max-first.result c.clamp-end.result
    c.place_among.result c.requires c.first_of_kind.ensures c.end_of_kind.ensures c.max-first.ensures (rw v at c.clamp-end.ensures) (rw v at (c.place_among.ensures ∙ place_position (g.S.Sought.fits a.sought) _)) in
    c.from_residual.ensures ∙ rw c.in_err-at.was at e

pub returns : goal.returns
returns g c =
    let a = c.args in
    let v = c.records-records.ensures.value in
    let e = place_scan (g.S.Sought.fits a.sought) (records a.self.now) c.kind-kind.result
    (λ s t. g.met.S.Sought.of_kind a.sought s t ∙ sym c.kind-kind.ensures) a.from c.first_of_kind.result c.end_of_kind.result c.max-first.result c.clamp-end.result
    c.place_among.result c.requires c.first_of_kind.ensures c.end_of_kind.ensures c.max-first.ensures (rw v at c.clamp-end.ensures) (rw v at (c.place_among.ensures ∙ place_position (g.S.Sought.fits a.sought) _)) in
    rw c.in_ok-at.was at e
