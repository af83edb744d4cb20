-- What holds of the outcome of an entry: refused for its form, refused for want of an object, or worked at its object.
use Rattle.std.specs.Prelude.{if◌then◌else◌, Option}
use Prim.Native.Nat.{ℕ}
use mathlib.Core.Path.{◌≡◌, refl}
use mathlib.Core.Bool.{Bool, true, false, not}
use lib.Dec.{eqb}
use Rattle.model.specs.Words.{missing}
use Rattle.model.specs.Numbers as n
use Rattle.model.specs.State.{Pair, Panel, find}
use Rattle.model.specs.Entry.{operation_of, object_kind, in_form}
use Rattle.model.specs.Step.{refuse, worked_outcome, outcome_as, entry_outcome}
use Rattle.model.specs.declared.Entry.{Entry}
use Rattle.model.specs.declared.Outcome.{Outcome}
use Rattle.model.specs.declared.Operation.{Operation}

-- What holds of every refusal, and of each operation in form at its object's records x.
pub entry_holds : (Q : Option Operation → Outcome → Type 0) (ps : Panel) (e : Entry) →
    ((o : Option Operation) (r : ℕ) → eqb r n.not_refused ≡ false → Q o (refuse r)) →
    ((o : Option Operation) (x : Pair) → find (object_kind o) e.instance ps ≡ x → in_form o e ≡ true → missing x.0 ≡ false →
    Q o (worked_outcome o ps e x)) →
    Q (operation_of e.operation) (entry_outcome ps e)
unfolding entry_outcome outcome_as
entry_holds Q ps e refused worked = formed (operation_of e.operation) (in_form (operation_of e.operation) e) refl
  where
    there : (o : Option Operation) → in_form o e ≡ true → (c : Bool) → missing (find (object_kind o) e.instance ps).0 ≡ c →
        Q o (if c then refuse n.refused_no_object else worked_outcome o ps e (find (object_kind o) e.instance ps))
    there o f true m = refused o n.refused_no_object refl
    there o f false m = worked o _ refl f m

    formed : (o : Option Operation) (c : Bool) → in_form o e ≡ c →
        Q o
        (if not c then refuse n.refused_form else
        if missing (find (object_kind o) e.instance ps).0 then refuse n.refused_no_object else
        worked_outcome o ps e (find (object_kind o) e.instance ps))
    formed o true f = there o f (missing (find (object_kind o) e.instance ps).0) refl
    formed o false f = refused o n.refused_form refl
