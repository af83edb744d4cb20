-- The factor that a point looks for is found by what is presented.
use Rattle.std.specs.Prelude.{if◌then◌else◌}
use Rattle.std.specs.Bool.{then_some}
use Prim.Native.Nat.{ℕ}
use mathlib.Core.Path.{◌≡◌, refl}
use mathlib.Core.List.{List}
use mathlib.Core.Bool.{Bool, true, false, not}
use lib.Dec.{eqb}
use Rattle.model.specs.Numbers.{NONE}
use Rattle.model.specs.Site.{find_in}
use Rattle.model.specs.Checks.{identifying, confirming, factor_for}
use Rattle.model.specs.declared.CredentialId.{CredentialId}
use Rattle.model.specs.declared.Entry.{Entry}
use Rattle.site.specs.Factor.{fits_as, fits}
use Rattle.site.specs.declared.Presented.{Presented}

pub presented_for : (p : Presented) (waiting : CredentialId) (e : Entry) (ss : List (List ℕ)) →
    p.confirms ≡ then_some (not (eqb waiting.0 NONE)) waiting → p.format ≡ e.argument → p.value ≡ e.value →
    find_in (fits p) ss ≡ factor_for waiting e ss
unfolding fits factor_for
presented_for p waiting e ss c f v = rw (c, f, v) (go (eqb waiting.0 NONE))
  where
    go : (b : Bool) → find_in (fits_as (then_some (not b) waiting) e.argument e.value) ss
        ≡ if b then find_in (identifying e.argument e.value) ss else find_in (confirming waiting e.argument e.value) ss
    go true = refl
    go false = refl
