-- "The self-contained part (demand 3)": what belongs to a part, what is across its border, which reads name a credential.
use Prim.Native.Nat.{ℕ}
use mathlib.Core.Path.{◌≡◌, refl}
use mathlib.Core.List.{List, [], ◌∷◌, map, flatten}
use mathlib.Core.Bool.{Bool, true, false}
use lib.Dec.{eqb}
use Rattle.octets.specs.Octets.{put}
use Rattle.model.specs.Numbers.{NONE, NEVER, UNLIMITED}
use Rattle.model.specs.State.{Panel, panel}
use Rattle.model.specs.Entry.{entry_of, answer_bytes}
use Rattle.model.specs.Step.{entry_outcome}
use Rattle.model.specs.Lists.{History}
use Rattle.model.specs.Part.{Part, member, holds, belongs, on_side, point_inside, credential_inside, inside, identifies, identified, identified_inside, entry_inside, read_inside, part_records, part_worked, part_entries, part_answers, part_state}
use Rattle.model.proofs.Open.{definitions}
use Rattle.model.proofs.Build.{zone, point, credential, ruled_credential, factor, card, every_rule, read, set_count, adjust, set_disable, lock, run_of, history, examples}
use Rattle.cases.proofs.Change.{with_fields}

-- Zone 1, point 2, rights 3, credential 4.
unfoldable pub four : Part
four =
    record {
      zones = λ z. eqb z.0 1;
      points = λ p. eqb p.0 2;
      credentials = λ c. eqb c.0 4;
      rights = λ r. eqb r.0 3;
    }

-- One name that opens these and the definitions of Part.
unfoldable pub border : Unit {0}
unfolding four with_fields put member holds belongs on_side point_inside credential_inside inside identifies identified identified_inside entry_inside read_inside part_records part_worked part_entries part_answers part_state
border = tt

-- "A part is a set of zones, points, credentials and rights numbers, with the rules and factors under them": kinds 0 to 6, numbers 0 to 5.
pub members :
    map (λ k. map (member four k) (0 ∷ 1 ∷ 2 ∷ 3 ∷ 4 ∷ 5 ∷ [])) (0 ∷ 1 ∷ 2 ∷ 3 ∷ 4 ∷ 5 ∷ 6 ∷ [])
    ≡ (false ∷ false ∷ false ∷ false ∷ false ∷ false ∷ []) ∷ (false ∷ true ∷ false ∷ false ∷ false ∷ false ∷ [])
    ∷ (false ∷ false ∷ true ∷ false ∷ false ∷ false ∷ []) ∷ (false ∷ false ∷ false ∷ true ∷ false ∷ false ∷ [])
    ∷ (false ∷ false ∷ false ∷ false ∷ true ∷ false ∷ []) ∷ (false ∷ false ∷ false ∷ false ∷ true ∷ false ∷ [])
    ∷ (false ∷ false ∷ false ∷ false ∷ false ∷ false ∷ []) ∷ []
unfolding definitions examples border
members = refl

-- "an entry belongs by its instance under its operation, unknown operations to none".
pub belongings :
    map (λ o. map (λ i. belongs four (entry_of (with_fields ((0, 1, o) ∷ (8, 4, i) ∷ []) (adjust 0 0)))) (1 ∷ 2 ∷ 3 ∷ 4 ∷ [])) (0 ∷ 1 ∷ 2 ∷ 3 ∷ 4 ∷ 5 ∷ 6 ∷ [])
    ≡ (false ∷ false ∷ false ∷ false ∷ []) ∷ (false ∷ true ∷ false ∷ false ∷ []) ∷ (true ∷ false ∷ false ∷ false ∷ [])
    ∷ (true ∷ false ∷ false ∷ false ∷ []) ∷ (false ∷ false ∷ false ∷ true ∷ []) ∷ (false ∷ true ∷ false ∷ false ∷ [])
    ∷ (false ∷ false ∷ false ∷ false ∷ []) ∷ []
unfolding definitions examples border
belongings = refl

-- "no point's zone is across the border": point 2 of the part, then point 3 outside it; NONE is on both sides.
pub points_inside :
    map (λ p. inside four p)
    (point 2 0 1 1 1 NONE ∷ point 2 0 1 1 NONE 1 ∷ point 2 0 1 1 NONE NONE ∷ point 2 0 1 1 9 NONE ∷ point 2 0 1 1 NONE 9 ∷ point 2 0 1 1 9 1
    ∷ point 3 0 1 1 9 NONE ∷ point 3 0 1 1 NONE 9 ∷ point 3 0 1 1 NONE NONE ∷ point 3 0 1 1 1 NONE ∷ point 3 0 1 1 NONE 1 ∷ [])
    ≡ true ∷ true ∷ true ∷ false ∷ false ∷ false ∷ true ∷ true ∷ true ∷ false ∷ false ∷ []
unfolding definitions examples border
points_inside = refl

-- "rights that a credential of the part names are in it": credential 4 of the part, then credential 5 outside it.
pub credentials_inside :
    map (λ c. inside four c)
    (ruled_credential 4 3 NONE ∷ ruled_credential 4 NONE 3 ∷ ruled_credential 4 NONE NONE ∷ ruled_credential 4 9 NONE ∷ ruled_credential 4 NONE 9
    ∷ ruled_credential 4 9 3 ∷ ruled_credential 5 9 3 ∷ [])
    ≡ true ∷ true ∷ true ∷ false ∷ false ∷ false ∷ true ∷ []
unfolding definitions examples border
credentials_inside = refl

-- Zones, rules, factors and what has no kind name nothing across the border: a rule's location is free.
pub others_inside :
    map (λ s. inside four s) (zone 1 0 ∷ zone 9 0 ∷ every_rule 3 ∷ every_rule 9 ∷ card 4 11 ∷ card 9 11 ∷ with_fields ((0, 1, 6) ∷ []) (card 4 11) ∷ [])
    ≡ true ∷ true ∷ true ∷ true ∷ true ∷ true ∷ true ∷ []
unfolding definitions examples border
others_inside = refl

-- ── "no factor read names, as identifying factor, a credential across the border"

-- Point 2 of the part and point 3 outside; credential 4 of the part has card 11 and the code 22, credential 5 outside card 33.
unfoldable pub doors : List (List ℕ)
doors =
    zone 1 0 ∷ point 2 0 1 1 NONE NONE ∷ point 3 0 1 1 NONE NONE ∷ credential 4 NEVER UNLIMITED NONE ∷ card 4 11 ∷ factor 2 4 22
    ∷ credential 5 NEVER UNLIMITED NONE ∷ card 5 33 ∷ []

-- The panel of a site after a journal from fresh.
unfoldable pub after_journal : List (List ℕ) → List (List ℕ) → Panel
after_journal site journal = panel (flatten site) (run_of site journal).state

-- Whether an entry is as the premise asks, at that panel.
unfoldable pub asked : List (List ℕ) → List (List ℕ) → List ℕ → Bool
asked site journal e =
    read_inside four
    (record {
      found = after_journal site journal;
      entry = e;
      answer = answer_bytes (entry_outcome (after_journal site journal) (entry_of e)).answer;
    })

-- The part's card, a card that nobody has, a code and a card from outside: at point 2, then at point 3.
pub cards_named :
    map (λ e. asked doors [] e)
    (read 2 5 11 ∷ read 2 5 77 ∷ read 2 5 22 ∷ read 2 5 33 ∷ read 3 5 11 ∷ read 3 5 77 ∷ read 3 5 22 ∷ read 3 5 33 ∷ [])
    ≡ true ∷ true ∷ true ∷ false ∷ false ∷ true ∷ true ∷ true ∷ []
unfolding definitions examples border doors after_journal asked
cards_named = refl

-- Asked of reads that come to step 3 for nobody waiting: not at a locked point, at one whose lock is just relinquished, at one out of service, at one that
-- waits, of an error, of a read that is refused.
pub named_nobody :
    asked doors (lock 2 4 ∷ []) (read 2 5 33)
    ∷ asked (with_fields ((20, 4, 1) ∷ []) (point 2 0 1 1 NONE NONE) ∷ credential 5 NEVER UNLIMITED NONE ∷ card 5 33 ∷ []) (lock 2 4 ∷ []) (read 2 5 33)
    ∷ asked (point 2 1 1 1 NONE NONE ∷ credential 5 NEVER UNLIMITED NONE ∷ card 5 33 ∷ []) [] (read 2 5 33)
    ∷ asked (point 2 0 1 2 NONE NONE ∷ credential 4 NEVER UNLIMITED NONE ∷ card 4 11 ∷ credential 5 NEVER UNLIMITED NONE ∷ card 5 33 ∷ []) (read 2 4 11 ∷ []) (read 2 5 33)
    ∷ asked doors [] (with_fields ((1, 1, 1) ∷ []) (read 2 5 33)) ∷ asked doors [] (with_fields ((3, 1, 1) ∷ []) (read 2 5 33)) ∷ asked doors [] (read 9 5 33) ∷ []
    ≡ true ∷ false ∷ true ∷ true ∷ true ∷ true ∷ true ∷ []
unfolding definitions examples border doors after_journal asked
named_nobody = refl

-- Nothing is asked of the other operations, whatever stands in their entries.
pub other_entries :
    map (λ e. asked doors [] e) (set_count 1 5 ∷ adjust 1 5 ∷ set_disable 4 1 ∷ set_disable 5 1 ∷ lock 2 5 ∷ lock 3 5 ∷ with_fields ((0, 1, 6) ∷ []) (read 2 5 33) ∷ [])
    ≡ true ∷ true ∷ true ∷ true ∷ true ∷ true ∷ true ∷ []
unfolding definitions examples border doors after_journal asked
other_entries = refl

-- ── "Records, in file order, and entries, in order" and "the answers to the part's entries, in order, and the state records of its records, in file order"

unfoldable pub morning : History
unfolding definitions examples border doors
morning = history doors ((read 3 5 33 ∷ read 2 6 11 ∷ adjust 1 4 ∷ []) ∷ (set_disable 5 1 ∷ set_disable 4 2 ∷ []) ∷ []) refl

pub its_records : part_records four morning
    ≡ zone 1 0 ∷ point 2 0 1 1 NONE NONE ∷ credential 4 NEVER UNLIMITED NONE ∷ card 4 11 ∷ factor 2 4 22 ∷ []
unfolding definitions examples border doors morning
its_records = refl

pub its_entries : part_entries four morning ≡ read 2 6 11 ∷ adjust 1 4 ∷ set_disable 4 2 ∷ []
unfolding definitions examples border doors morning
its_entries = refl

pub its_answers : part_answers four morning
    ≡ (0 ∷ 1 ∷ 1 ∷ 0 ∷ 0 ∷ 0 ∷ 0 ∷ 1 ∷ 0 ∷ 0 ∷ 0 ∷ 4 ∷ 0 ∷ 0 ∷ 0 ∷ 0 ∷ []) ∷ (0 ∷ 0 ∷ 0 ∷ 0 ∷ 0 ∷ 0 ∷ 0 ∷ 0 ∷ 0 ∷ 0x3F ∷ 0xFF ∷ 0xFF ∷ 0 ∷ 0 ∷ 0 ∷ 4 ∷ [])
    ∷ (0 ∷ 0 ∷ 0 ∷ 0 ∷ 0 ∷ 0 ∷ 0 ∷ 0 ∷ 0 ∷ 0 ∷ 0 ∷ 4 ∷ 0 ∷ 0 ∷ 0 ∷ 0 ∷ []) ∷ []
unfolding definitions examples border doors morning
its_answers = refl

-- The count 4; the tag 1 and nobody waited for; last use 6, event 1, disable 2, point 2, last grant 6; the factors have no record.
pub its_state : part_state four morning
    ≡ (0 ∷ 0 ∷ 0 ∷ 4 ∷ 0 ∷ 0 ∷ 0 ∷ 0 ∷ 0 ∷ 0 ∷ 0 ∷ 0 ∷ 0 ∷ 0 ∷ 0 ∷ 0 ∷ 0 ∷ 0 ∷ 0 ∷ 0 ∷ 0 ∷ 0 ∷ 0 ∷ 0 ∷ 0 ∷ 0 ∷ 0 ∷ 0 ∷ 0 ∷ 0 ∷ 0 ∷ 0 ∷ [])
    ∷ (0 ∷ 0 ∷ 0 ∷ 1 ∷ 0 ∷ 0 ∷ 0 ∷ 0 ∷ 0 ∷ 0 ∷ 0 ∷ 0 ∷ 0 ∷ 0 ∷ 0 ∷ 0 ∷ 0 ∷ 0x3F ∷ 0xFF ∷ 0xFF ∷ 0 ∷ 0 ∷ 0 ∷ 0 ∷ 0 ∷ 0 ∷ 0 ∷ 0 ∷ 0 ∷ 0 ∷ 0 ∷ 0 ∷ [])
    ∷ (0xFF ∷ 0xFF ∷ 0xFF ∷ 0xFF ∷ 0 ∷ 0 ∷ 0 ∷ 6 ∷ 0 ∷ 0x3F ∷ 0xFF ∷ 0xFF ∷ 0xFF ∷ 0xFF ∷ 0xFF ∷ 0xFF ∷ 0 ∷ 1 ∷ 2 ∷ 0 ∷ 0 ∷ 0 ∷ 0 ∷ 2 ∷ 0 ∷ 0 ∷ 0 ∷ 6 ∷ 0 ∷ 0 ∷ 0 ∷ 0 ∷ []) ∷ [] ∷ [] ∷ []
unfolding definitions examples border doors morning
its_state = refl
