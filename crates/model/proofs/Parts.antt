-- Parts for examples, and the premises of `Isolation` and `OthersLeftOut` as tests.
use Prim.Native.Nat.{ℕ}
use mathlib.Core.List.{List, [], ◌∷◌, map, flatten}
use mathlib.Core.Bool.{Bool, false, ◌&&◌}
use lib.Dec.{eqb}
use Rattle.octets.specs.Octets.{same}
use Rattle.model.specs.Words.{all}
use Rattle.model.specs.Site.{records}
use Rattle.model.specs.Calls.{number}
use Rattle.model.specs.Lists.{Worked, returns, History, begun, worked}
use Rattle.model.specs.Part.{member, holds, belongs, on_side, point_inside, credential_inside, inside, identifies, identified, identified_inside, entry_inside, read_inside, part_records, part_worked, part_entries, part_answers, part_state, part_journal, part_run, part_runs, others_left_out, Part}

-- In its order: the border in both sites, the reads in both lists, the same records, the same
-- entries; last the conclusion.
unfoldable pub isolation_tests : Part → History → History → List Bool
isolation_tests P g h =
    all (inside P) (records g.site) ∷ all (inside P) (records h.site)
    ∷ all (read_inside P) (worked g) ∷ all (read_inside P) (worked h)
    ∷ same (flatten (part_records P g)) (flatten (part_records P h)) ∷ same (flatten (part_entries P g)) (flatten (part_entries P h))
    ∷ (same (flatten (part_answers P g)) (flatten (part_answers P h)) && same (flatten (part_state P g)) (flatten (part_state P h))) ∷ []

-- In its order: the border, the reads; then the same entries, the same answers, the same state, the same numbers returned.
unfoldable pub left_out_tests : Part → History → List Bool
left_out_tests P h =
    all (inside P) (records h.site) ∷ all (read_inside P) (worked h)
    ∷ same (flatten (map (λ (w : Worked). w.entry) (worked (others_left_out P h)))) (flatten (part_entries P h))
    ∷ same (flatten (map (λ (w : Worked). w.answer) (worked (others_left_out P h)))) (flatten (part_answers P h))
    ∷ same (flatten (part_state P (others_left_out P h))) (flatten (part_state P h))
    ∷ same (map number (returns h.site (begun h) (others_left_out P h).runs)) (map number (returns h.site (begun h) h.runs)) ∷ []

-- The part: point 1 and credential 1, with the zones and rights given.
unfoldable pub part : (ℕ → Bool) → (ℕ → Bool) → Part
part zones rights = record { zones = λ z. zones z.0; points = λ p. eqb p.0 1; credentials = λ c. eqb c.0 1; rights = λ r. rights r.0 }

unfoldable pub nothing : ℕ → Bool
nothing i = false

-- One name that opens these and the definitions of Part.
unfoldable pub parts : Unit {0}
unfolding isolation_tests left_out_tests part nothing member holds belongs on_side point_inside credential_inside inside identifies identified identified_inside entry_inside read_inside part_records part_worked part_entries part_answers part_state part_journal part_run part_runs others_left_out
parts = tt
