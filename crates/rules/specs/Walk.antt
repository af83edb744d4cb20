-- What the rules are asked, what they find, and the classes that a walk over them goes through.
use Rattle.std.specs.Prelude.{ℕ, ◌≡◌, List, [], ◌∷◌, Bool, not, ◌&&◌, ◌||◌, eqb, if◌then◌else◌}
use Rattle.model.specs.Words.{keep, any}
use Rattle.model.specs.Numbers.{NONE, access_zone, access_point}
use Rattle.model.specs.Checks.{verdict}
use Rattle.model.specs.declared.Verdict.{Verdict}
use Rattle.index.specs.Index.{rule_class, in_class}
use Rattle.rules.specs.declared.Asked.{Asked}

-- What the rules among some records find of what is asked.
abbrev pub findings : Asked → List (List ℕ) → Verdict
findings a ss = verdict a.first a.second a.point a.to a.time ss

-- What a rule finds that fits in location, by its sign and whether its hours fit.
abbrev pub found : Bool → Bool → Verdict
found negative timely = record { negative_fits = negative && timely; positive_fits = not negative && timely; positive_located = not negative }

-- What two verdicts find, each over records of its own.
unfoldable pub both : Verdict → Verdict → Verdict
both v w =
    record {
      negative_fits = v.negative_fits || w.negative_fits;
      positive_fits = v.positive_fits || w.positive_fits;
      positive_located = v.positive_located || w.positive_located;
    }

-- From v to w what the records that a test keeps find is gained, and nothing that no record finds: what else completes the one to the findings of all
-- completes the other.
abbrev pub Gains : Asked → (List ℕ → Bool) → List (List ℕ) → Verdict → Verdict → Type 0
Gains a q ss v w = (rest : Verdict) → both v (both (findings a (keep q ss)) rest) ≡ findings a ss → both w rest ≡ findings a ss

-- A rule of one of some classes.
abbrev pub in_some : List ℕ → List ℕ → Bool
in_some cs s = any (λ c. in_class c s) cs

-- The classes of what is asked: everywhere, at the point and at its Zone_To, of the one rights number and then of the other.
abbrev pub rule_classes : Asked → List ℕ
rule_classes a =
    rule_class a.first.0 0 0
    ∷ rule_class a.first.0 access_point a.point.0
    ∷ rule_class a.first.0 access_zone a.to.0
    ∷ rule_class a.second.0 0 0
    ∷ rule_class a.second.0 access_point a.point.0
    ∷ rule_class a.second.0 access_zone a.to.0
    ∷ []

-- How many of them are walked: those of the second rights number are not where it is the first again, or NONE.
unfoldable pub class_count : Asked → ℕ
class_count a = if eqb a.second.0 a.first.0 || eqb a.second.0 NONE then 3 else 6
