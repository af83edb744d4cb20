-- Why `Isolation` and `OthersLeftOut` have their premises: for each of them lists from fresh in which all the others hold and the conclusion fails.
use Prim.Native.Nat.{ℕ}
use mathlib.Core.Path.{◌≡◌, refl, ap}
use mathlib.Core.List.{List, [], ◌∷◌, ◌++◌}
use mathlib.Core.Bool.{true, false}
use lib.Dec.{eqb}
use Rattle.model.specs.Numbers.{NONE, NEVER, UNLIMITED}
use Rattle.model.specs.Words.{all}
use Rattle.model.specs.Lists.{History}
use Rattle.model.specs.Part.{Part, inside, part_records}
use Rattle.model.proofs.Open.{definitions}
use Rattle.model.proofs.Build.{zone, lower_zone, point, credential, ruled_credential, factor, card, every_rule, read, adjust, set_disable, lock, history, examples}
use Rattle.model.proofs.Parts.{part, nothing, isolation_tests, left_out_tests, parts}

-- ── the border of the part's own records. They are the same in both sites, and so is what they name: where one site breaks the border by a record of
-- the part, the other does too.

pub same_border : (P : Part) (g h : History) → part_records P g ≡ part_records P h → all (inside P) (part_records P g) ≡ all (inside P) (part_records P h)
same_border P g h records = ap (all (inside P)) records

-- A point of the part leads into zone 9 across the border, which holds one person: somebody else enters first, or nobody does.
lobby : List (List ℕ)
lobby =
    zone 9 1 ∷ point 1 10 1 1 9 NONE ∷ point 2 10 1 1 9 NONE ∷ credential 1 NEVER UNLIMITED NONE ∷ card 1 11
    ∷ credential 2 NEVER UNLIMITED NONE ∷ card 2 22 ∷ []

crowded : History
unfolding definitions examples lobby
crowded = history lobby ((read 2 5 22 ∷ read 1 6 11 ∷ []) ∷ []) refl

quiet : History
unfolding definitions examples lobby
quiet = history lobby ((read 1 6 11 ∷ []) ∷ []) refl

zone_to_outside : isolation_tests (part nothing nothing) crowded quiet ≡ false ∷ false ∷ true ∷ true ∷ true ∷ true ∷ false ∷ []
unfolding definitions examples lobby crowded quiet parts
zone_to_outside = refl

-- A point of the part leads out of zone 9 across the border, where one person has to stay: somebody else is there, or nobody is.
watched : List (List ℕ)
watched = lower_zone 9 1 ∷ point 1 4 1 1 NONE 9 ∷ credential 1 NEVER UNLIMITED NONE ∷ card 1 11 ∷ []

staffed : History
unfolding definitions examples watched
staffed = history watched ((adjust 9 2 ∷ read 1 6 11 ∷ []) ∷ []) refl

unstaffed : History
unfolding definitions examples watched
unstaffed = history watched ((adjust 9 1 ∷ read 1 6 11 ∷ []) ∷ []) refl

zone_from_outside : isolation_tests (part nothing nothing) staffed unstaffed ≡ false ∷ false ∷ true ∷ true ∷ true ∷ true ∷ false ∷ []
unfolding definitions examples watched staffed unstaffed parts
zone_from_outside = refl

-- A credential of the part names rights 5 across the border, first or second, which have a rule in one site and none in the other.
first_office : List (List ℕ)
first_office = point 1 0 0 1 NONE NONE ∷ ruled_credential 1 5 NONE ∷ card 1 11 ∷ []

first_ruled : History
unfolding definitions examples first_office
first_ruled = history (every_rule 5 ∷ first_office) ((read 1 5 11 ∷ []) ∷ []) refl

first_unruled : History
unfolding definitions examples first_office
first_unruled = history first_office ((read 1 5 11 ∷ []) ∷ []) refl

first_rights_outside : isolation_tests (part nothing nothing) first_ruled first_unruled ≡ false ∷ false ∷ true ∷ true ∷ true ∷ true ∷ false ∷ []
unfolding definitions examples first_office first_ruled first_unruled parts
first_rights_outside = refl

second_office : List (List ℕ)
second_office = point 1 0 0 1 NONE NONE ∷ ruled_credential 1 NONE 5 ∷ card 1 11 ∷ []

second_ruled : History
unfolding definitions examples second_office
second_ruled = history (every_rule 5 ∷ second_office) ((read 1 5 11 ∷ []) ∷ []) refl

second_unruled : History
unfolding definitions examples second_office
second_unruled = history second_office ((read 1 5 11 ∷ []) ∷ []) refl

second_rights_outside : isolation_tests (part nothing nothing) second_ruled second_unruled ≡ false ∷ false ∷ true ∷ true ∷ true ∷ true ∷ false ∷ []
unfolding definitions examples second_office second_ruled second_unruled parts
second_rights_outside = refl

-- ── the border of the other records, in one site alone: the premise is asked of both sites

-- Zone 9 is the part's. In one site point 2, across the border, leads into it or out of it; the other site has no such point.
wing : List (List ℕ)
wing = zone 9 1 ∷ point 1 10 1 1 9 NONE ∷ credential 1 NEVER UNLIMITED NONE ∷ card 1 11 ∷ []

strangers : List (List ℕ)
strangers = credential 2 NEVER UNLIMITED NONE ∷ card 2 22 ∷ []

entered_from_outside : History
unfolding definitions examples wing strangers
entered_from_outside = history (wing ++ strangers ++ point 2 10 1 1 9 NONE ∷ []) ((read 2 5 22 ∷ read 1 6 11 ∷ []) ∷ []) refl

left_from_outside : History
unfolding definitions examples wing strangers
left_from_outside = history (wing ++ strangers ++ point 2 10 1 1 NONE 9 ∷ []) ((read 1 6 11 ∷ read 2 7 22 ∷ []) ∷ []) refl

wing_alone : History
unfolding definitions examples wing
wing_alone = history wing ((read 1 6 11 ∷ []) ∷ []) refl

zone_to_from_outside : isolation_tests (part (λ i. eqb i 9) nothing) entered_from_outside wing_alone ≡ false ∷ true ∷ true ∷ true ∷ true ∷ true ∷ false ∷ []
unfolding definitions examples wing strangers entered_from_outside wing_alone parts
zone_to_from_outside = refl

zone_from_from_outside : isolation_tests (part (λ i. eqb i 9) nothing) left_from_outside wing_alone ≡ false ∷ true ∷ true ∷ true ∷ true ∷ true ∷ false ∷ []
unfolding definitions examples wing strangers left_from_outside wing_alone parts
zone_from_from_outside = refl

-- The other site of the two.
zone_to_in_the_other_site : isolation_tests (part (λ i. eqb i 9) nothing) wing_alone entered_from_outside ≡ true ∷ false ∷ true ∷ true ∷ true ∷ true ∷ false ∷ []
unfolding definitions examples wing strangers entered_from_outside wing_alone parts
zone_to_in_the_other_site = refl

-- ── the reads

-- A card of credential 2, across the border, is read at point 1. One site has that card, the other has not.
door : List (List ℕ)
door = point 1 0 1 1 NONE NONE ∷ credential 1 NEVER UNLIMITED NONE ∷ card 1 11 ∷ []

visited : History
unfolding definitions examples door strangers
visited = history (door ++ strangers) ((read 1 5 22 ∷ []) ∷ []) refl

unvisited : History
unfolding definitions examples door
unvisited = history door ((read 1 5 22 ∷ []) ∷ []) refl

card_outside : isolation_tests (part nothing nothing) visited unvisited ≡ true ∷ true ∷ false ∷ true ∷ true ∷ true ∷ false ∷ []
unfolding definitions examples door strangers visited unvisited parts
card_outside = refl

-- The part's card is read at point 2, across the border, or it is not: its last use differs.
gate : List (List ℕ)
gate = point 2 0 1 1 NONE NONE ∷ door

strayed : History
unfolding definitions examples gate door
strayed = history gate ((read 2 5 11 ∷ []) ∷ []) refl

stayed : History
unfolding definitions examples gate door
stayed = history gate ([] ∷ []) refl

card_abroad : isolation_tests (part nothing nothing) strayed stayed ≡ true ∷ true ∷ false ∷ true ∷ true ∷ true ∷ false ∷ []
unfolding definitions examples gate door strayed stayed parts
card_abroad = refl

-- ── the same records, the same entries

-- Point 1 grants, or denies all.
closed : History
unfolding definitions examples
closed = history (point 1 0 2 1 NONE NONE ∷ credential 1 NEVER UNLIMITED NONE ∷ card 1 11 ∷ []) ((read 1 5 11 ∷ []) ∷ []) refl

open_early : History
unfolding definitions examples door
open_early = history door ((read 1 5 11 ∷ []) ∷ []) refl

open_late : History
unfolding definitions examples door
open_late = history door ((read 1 6 11 ∷ []) ∷ []) refl

other_records : isolation_tests (part nothing nothing) open_early closed ≡ true ∷ true ∷ true ∷ true ∷ false ∷ true ∷ false ∷ []
unfolding definitions examples door open_early closed parts
other_records = refl

-- The card is read at another time.
other_entries : isolation_tests (part nothing nothing) open_early open_late ≡ true ∷ true ∷ true ∷ true ∷ true ∷ false ∷ false ∷ []
unfolding definitions examples door open_early open_late parts
other_entries = refl

-- ── reads that name nobody as identifying factor: the premise asks nothing of them

-- Credential 2 across the border has a card; the other site has neither.
keypad : List (List ℕ)
keypad = point 1 0 1 2 NONE NONE ∷ credential 1 NEVER UNLIMITED NONE ∷ card 1 11 ∷ factor 2 1 22 ∷ []

-- A PIN of credential 1 that is somebody else's card: it is read as the confirming factor of credential 1.
pin_alike : History
unfolding definitions examples keypad strangers
pin_alike = history (keypad ++ strangers) ((read 1 5 11 ∷ read 1 6 22 ∷ []) ∷ []) refl

pin_alone : History
unfolding definitions examples keypad
pin_alone = history keypad ((read 1 5 11 ∷ read 1 6 22 ∷ []) ∷ []) refl

foreign_pin : isolation_tests (part nothing nothing) pin_alike pin_alone ≡ true ∷ true ∷ true ∷ true ∷ true ∷ true ∷ true ∷ []
unfolding definitions examples keypad strangers pin_alike pin_alone parts
foreign_pin = refl

-- Credential 2's card at a locked door.
locked_visited : History
unfolding definitions examples door strangers
locked_visited = history (door ++ strangers) ((lock 1 4 ∷ read 1 5 22 ∷ []) ∷ []) refl

locked_unvisited : History
unfolding definitions examples door
locked_unvisited = history door ((lock 1 4 ∷ read 1 5 22 ∷ []) ∷ []) refl

foreign_card_locked : isolation_tests (part nothing nothing) locked_visited locked_unvisited ≡ true ∷ true ∷ true ∷ true ∷ true ∷ true ∷ true ∷ []
unfolding definitions examples door strangers locked_visited locked_unvisited parts
foreign_card_locked = refl

-- The same card at a door out of service.
dead_door : List (List ℕ)
dead_door = point 1 1 1 1 NONE NONE ∷ credential 1 NEVER UNLIMITED NONE ∷ card 1 11 ∷ []

dead_visited : History
unfolding definitions examples dead_door strangers
dead_visited = history (dead_door ++ strangers) ((read 1 5 22 ∷ []) ∷ []) refl

dead_unvisited : History
unfolding definitions examples dead_door
dead_unvisited = history dead_door ((read 1 5 22 ∷ []) ∷ []) refl

foreign_card_out_of_service : isolation_tests (part nothing nothing) dead_visited dead_unvisited ≡ true ∷ true ∷ true ∷ true ∷ true ∷ true ∷ true ∷ []
unfolding definitions examples dead_door strangers dead_visited dead_unvisited parts
foreign_card_out_of_service = refl

-- ── `OthersLeftOut`: its premises are on one list

-- The border: what others do in zone 9, across it, changes the answer at point 1, into it and out of it. It returns what it did and has the same entries.
crowded_left : left_out_tests (part nothing nothing) crowded ≡ false ∷ true ∷ true ∷ false ∷ false ∷ true ∷ []
unfolding definitions examples lobby crowded parts
crowded_left = refl

staffed_left : left_out_tests (part nothing nothing) staffed ≡ false ∷ true ∷ true ∷ false ∷ false ∷ true ∷ []
unfolding definitions examples watched staffed parts
staffed_left = refl

-- Zone 9 is the part's, and a point across the border leads into it, or out of it.
entered_left : left_out_tests (part (λ i. eqb i 9) nothing) entered_from_outside ≡ false ∷ true ∷ true ∷ false ∷ false ∷ true ∷ []
unfolding definitions examples wing strangers entered_from_outside parts
entered_left = refl

emptied_left : left_out_tests (part (λ i. eqb i 9) nothing) left_from_outside ≡ false ∷ true ∷ true ∷ true ∷ false ∷ true ∷ []
unfolding definitions examples wing strangers left_from_outside parts
emptied_left = refl

-- The reads: the part's card is read across the border; a card from there, which is disabled there, is read at the part's point.
strayed_left : left_out_tests (part nothing nothing) strayed ≡ true ∷ false ∷ true ∷ true ∷ false ∷ true ∷ []
unfolding definitions examples gate door strayed parts
strayed_left = refl

disabled_visitor : History
unfolding definitions examples door strangers
disabled_visitor = history (door ++ strangers) ((set_disable 2 2 ∷ read 1 5 22 ∷ []) ∷ []) refl

visitor_left : left_out_tests (part nothing nothing) disabled_visitor ≡ true ∷ false ∷ true ∷ false ∷ true ∷ true ∷ []
unfolding definitions examples door strangers disabled_visitor parts
visitor_left = refl
