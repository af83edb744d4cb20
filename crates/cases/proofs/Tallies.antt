-- "A zone's tally reads the site, the entries and, of their answers, event and refusal."
use Prim.Native.Nat.{ℕ}
use mathlib.Core.Path.{◌≡◌, refl}
use mathlib.Core.List.{List, [], ◌∷◌, map, flatten}
use lib.IntN.{ℤ, pos, negsuc}
use Rattle.octets.specs.Octets.{put}
use Rattle.model.specs.Numbers.{NONE, NEVER, UNLIMITED}
use Rattle.model.specs.Site.{records}
use Rattle.model.specs.State.{fresh}
use Rattle.model.specs.Lists.{worked_in, History}
use Rattle.model.specs.Tally.{smaller, move, set_to, signed, passed, tallied, tally, tally_of, standing, count_of}
use Rattle.model.proofs.Open.{definitions}
use Rattle.model.proofs.Build.{zone, point, credential, card, read, adjust, set_disable, lock, cut, run, history, examples}
use Rattle.cases.proofs.Change.{with_fields}

-- T and L.
abbrev pub Both : Type 0
Both = ℤ × ℤ

-- Zones 8, 9 and 12 count, zone 7 does not. Point 1 leads into 9, 2 out of 9, 3 from 8 into 9, 4 into 7, 5 into 12, 6 out of 12, all with count adjust;
-- point 9 leads into 9 without. Point 10 leads into 9 and wants two factors.
unfoldable pub campus : List (List ℕ)
campus =
    zone 9 0 ∷ zone 8 0 ∷ zone 12 0 ∷ with_fields ((1, 1, 0) ∷ []) (zone 7 0) ∷ point 1 8 1 1 9 NONE ∷ point 2 8 1 1 NONE 9 ∷ point 3 8 1 1 9 8
    ∷ point 4 8 1 1 7 NONE ∷ point 5 8 1 1 12 NONE ∷ point 6 8 1 1 NONE 12 ∷ point 9 0 1 1 9 NONE ∷ point 10 8 1 2 9 NONE ∷ credential 5 NEVER UNLIMITED NONE ∷ credential 9 NEVER UNLIMITED NONE ∷ card 5 55 ∷ []

-- A zone's tally after a journal from fresh.
unfoldable pub tallied_by : ℕ → List (List ℕ) → Both
tallied_by z journal =
    let t = tally z (records (flatten campus)) (worked_in (flatten campus) (fresh (flatten campus)) (run journal ∷ [])) (set_to 0) in
    (t.T, t.L)

-- Operation 2 for operation 3's entry.
unfoldable pub set : ℕ → ℕ → List ℕ
set i amount = with_fields ((0, 1, 2) ∷ []) (adjust i amount)

-- One name that opens these and the definitions of Tally.
unfoldable pub tallying : Unit {0}
unfolding campus tallied_by set with_fields put smaller move set_to signed passed tallied tally tally_of standing count_of
tallying = tt

-- "T and L are whole numbers, negative too, and start at 0." "in, if the zone is the point's Zone_To (T gains 1), or out, if it is its Zone_From
-- (T loses 1). After each move L becomes the smaller of L and T."
pub passages :
    map (tallied_by 9)
    ([] ∷ (read 1 1 55 ∷ []) ∷ (read 1 1 55 ∷ read 1 2 55 ∷ []) ∷ (read 2 1 55 ∷ []) ∷ (read 2 1 55 ∷ read 2 2 55 ∷ read 1 3 55 ∷ []) ∷ (read 3 1 55 ∷ []) ∷ [])
    ≡ (pos 0, pos 0) ∷ (pos 1, pos 0) ∷ (pos 2, pos 0) ∷ (negsuc 0, negsuc 0) ∷ (negsuc 0, negsuc 1) ∷ (pos 1, pos 0) ∷ []
unfolding definitions examples tallying
passages = refl

-- Out of zone 8, the Zone_From of point 3. Zone 7 does not count. "Any other entry changes neither."
pub other_passages :
    tallied_by 8 (read 3 1 55 ∷ read 1 2 55 ∷ read 2 3 55 ∷ []) ∷ tallied_by 7 (read 4 1 55 ∷ [])
    ∷ tallied_by 9 (read 4 1 55 ∷ read 9 2 55 ∷ read 1 3 77 ∷ []) ∷ tallied_by 9 (read 5 1 55 ∷ []) ∷ tallied_by 9 (read 6 1 55 ∷ [])
    ∷ tallied_by 9 (read 10 1 55 ∷ []) ∷ []
    ≡ (negsuc 0, negsuc 0) ∷ (pos 0, pos 0) ∷ (pos 0, pos 0) ∷ (pos 0, pos 0) ∷ (pos 0, pos 0) ∷ (pos 0, pos 0) ∷ []
unfolding definitions examples tallying
other_passages = refl

-- "An accepted (refusal 0) operation 2 on the zone makes both its amount".
pub sets :
    map (tallied_by 9)
    ((set 9 3 ∷ []) ∷ (read 2 1 55 ∷ set 9 3 ∷ []) ∷ (set 9 3 ∷ set 8 5 ∷ []) ∷ (set 9 3 ∷ with_fields ((3, 1, 1) ∷ []) (set 9 5) ∷ []) ∷ (set 9 3 ∷ read 2 1 55 ∷ [])
    ∷ (set 9 3 ∷ set 12 5 ∷ []) ∷ [])
    ≡ (pos 3, pos 3) ∷ (pos 3, pos 3) ∷ (pos 3, pos 3) ∷ (pos 3, pos 3) ∷ (pos 2, pos 2) ∷ (pos 3, pos 3) ∷ []
unfolding definitions examples tallying
sets = refl

-- "an accepted operation 3 adds its signed amount to T".
pub adjustments :
    map (tallied_by 9)
    ((adjust 9 5 ∷ []) ∷ (adjust 9 0xFFFFFFFB ∷ []) ∷ (adjust 9 0x7FFFFFFF ∷ []) ∷ (adjust 9 0x80000000 ∷ []) ∷ (adjust 8 5 ∷ [])
    ∷ (adjust 9 5 ∷ adjust 9 0xFFFFFFFE ∷ []) ∷ (adjust 12 5 ∷ []) ∷ [])
    ≡ (pos 5, pos 0) ∷ (negsuc 4, negsuc 4) ∷ (pos 0x7FFFFFFF, pos 0) ∷ (negsuc 0x7FFFFFFF, negsuc 0x7FFFFFFF) ∷ (pos 0, pos 0) ∷ (pos 3, pos 0) ∷ (pos 0, pos 0) ∷ []
unfolding definitions examples tallying
adjustments = refl

-- A refused one changes neither: by its form, and to a count above the largest.
pub refused_adjustments :
    map (tallied_by 9) ((adjust 9 5 ∷ with_fields ((1, 1, 1) ∷ []) (adjust 9 5) ∷ []) ∷ (set 9 0xFFFFFFFF ∷ adjust 9 1 ∷ []) ∷ [])
    ≡ (pos 5, pos 0) ∷ (pos 0xFFFFFFFF, pos 0xFFFFFFFF) ∷ []
unfolding definitions examples tallying
refused_adjustments = refl

-- Operations 4, 5 and one that is unknown, on objects of the zone's number.
pub other_operations :
    tallied_by 9 (adjust 9 5 ∷ set_disable 9 1 ∷ lock 9 2 ∷ with_fields ((0, 1, 6) ∷ []) (adjust 9 5) ∷ []) ≡ (pos 5, pos 0)
unfolding definitions examples tallying
other_operations = refl

-- "T less the smaller of zero and T's lowest standing".
pub standings :
    map standing
    (record { T = pos 5; L = negsuc 1 } ∷ record { T = pos 5; L = pos 2 } ∷ record { T = negsuc 2; L = negsuc 2 } ∷ record { T = pos 0; L = pos 0 } ∷ [])
    ≡ pos 7 ∷ pos 5 ∷ pos 0 ∷ pos 0 ∷ []
unfolding definitions examples tallying
standings = refl

-- "the smaller of".
pub smallest : smaller (pos 3) (pos 5) ∷ smaller (pos 5) (pos 3) ∷ smaller (negsuc 0) (pos 0) ∷ [] ≡ pos 3 ∷ pos 3 ∷ negsuc 0 ∷ []
unfolding definitions examples tallying
smallest = refl

-- "A list .. is of journal runs on one accepted site .. a journal turned back adds nothing": the tally and the count of zones 9 and 8.
unfoldable pub day : History
unfolding definitions examples tallying
day = history campus ((read 2 1 55 ∷ read 1 2 55 ∷ []) ∷ cut ∷ (adjust 8 3 ∷ read 3 3 55 ∷ []) ∷ []) refl

pub whole_day : tally_of 9 day ∷ tally_of 8 day ∷ [] ≡ record { T = pos 1; L = negsuc 0 } ∷ record { T = pos 2; L = pos 0 } ∷ []
unfolding definitions examples tallying day
whole_day = refl

pub end_of_day : count_of 9 day ∷ count_of 8 day ∷ [] ≡ 2 ∷ 2 ∷ []
unfolding definitions examples tallying day
end_of_day = refl
