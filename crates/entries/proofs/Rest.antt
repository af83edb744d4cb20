-- The entries of a journal from a place on: none where fewer than 24 bytes are left, else the one at the place and those from 24 bytes further on.
use Rattle.std.proofs.Common.{ℕ, suc, ◌≡◌, ◌+◌, ◌-◌, ◌≤◌, ◌<◌, ◌/◌, List, [], ◌∷◌, map, ap, ◌∙◌, arith, length, take, drop}
use Rattle.std.specs.Array.{IsFirstChunk}
use Rattle.std.proofs.lemmas.List.{drop-drop, length-drop, take-take}
use Rattle.octets.specs.Octets.{groups}
use Rattle.model.specs.Entry.{entry_of, entries}

-- The entry at a place, of the first 24 bytes from there on.
pub entry_from : (at : ℕ) (journal part : List ℕ) → at + 24 ≤ length journal → IsFirstChunk (take (length journal - at) (drop at journal)) part 24 → entry_of part ≡ entry_of (take 24 (drop at journal))
entry_from at journal part h c = ap entry_of (c.same ∙ take-take 24 (length journal - at) (drop at journal) (omega arith))

-- Fewer bytes than an entry's have none.
pub entries_none : (s : List ℕ) → length s < 24 → entries s ≡ []
unfolding entries groups
entries_none s h =
    let n : length s / 24 ≡ 0 = omega arith in
    rw n

-- The others begin with one.
pub entries_first : (s : List ℕ) → 24 ≤ length s → entries s ≡ take 24 s ∷ entries (drop 24 s)
unfolding entries groups
entries_first s h =
    let n : length s / 24 ≡ suc (length (drop 24 s) / 24) = omega (arith, length-drop 24 s) in
    rw n

-- Of a journal, from a place on.
pub none_from : (at : ℕ) (journal : List ℕ) → length journal - at < 24 → map entry_of (entries (drop at journal)) ≡ []
none_from at journal h = rw (entries_none (drop at journal) (omega (arith, length-drop at journal)))

pub first_from : (at : ℕ) (journal : List ℕ) → at + 24 ≤ length journal → map entry_of (entries (drop at journal)) ≡ entry_of (take 24 (drop at journal)) ∷ map entry_of (entries (drop (at + 24) journal))
first_from at journal h =
    rw (entries_first (drop at journal) (omega (arith, length-drop at journal)), drop-drop 24 at journal)
