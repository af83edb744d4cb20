-- What the library's search gives, handed to one lemma; a further lemma would take all these facts.
use Rattle.std.proofs.Common.{rules, tests}
use Prim.Native.Nat.{ℕ}
use mathlib.Core.Path.{sym, ap, ◌∙◌}
use mathlib.Core.List.{List}
use native.Mathlib.Omega.{arith}
use lib.Dec.{eqb}
use Rattle.std.specs.Prelude.{position}
use Rattle.std.proofs.lemmas.Iterator.{YieldsList-from_slice}
use Rattle.std.proofs.lemmas.Iterator.Search.{position_from_yields_List}
use Rattle.model.specs.Site.{kind}
use Rattle.index.proofs.Walks.{next_end}
use Rattle.index.proofs.Places.{next_position}
use Rattle.index.proofs.next_of_kind.Goals as goal

pub returns-in_default : goal.returns-in_default
returns-in_default c = sym (next_end kind c.args.kind c.args.from c.args.records.now (omega (arith, c.in_default.ensures.lookup.0)))

pub returns-in-Some-position : goal.returns-in-Some-position
returns-in-Some-position c =
    let a = c.args in
    let q = λ (s : List ℕ). eqb (kind s) a.kind in
    let l = c.in-Some.ensures.lookup.0 in
    let e = position_from_yields_List q _ _ _ c.position.ensures.ran (YieldsList-from_slice _ c.iter.ensures.rest) (λ x b q k. search (rules, tests)) in
    sym (rw c.in-Some-position.is at (next_position kind a.kind a.from a.records.now _ l.0 (e ∙ ap (position q) l.2)))

pub returns-in-None : goal.returns-in-None
returns-in-None c =
    let a = c.args in
    let q = λ (s : List ℕ). eqb (kind s) a.kind in
    let l = c.in-Some.ensures.lookup.0 in
    let e = position_from_yields_List q _ _ _ c.position.ensures.ran (YieldsList-from_slice _ c.iter.ensures.rest) (λ x b q k. search (rules, tests)) in
    sym (rw c.in-None.is at (next_position kind a.kind a.from a.records.now _ l.0 (e ∙ ap (position q) l.2)))
