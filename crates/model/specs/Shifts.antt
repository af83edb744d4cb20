-- A shift across midnight, and the two rules that it had to be written as before (beyond document 02).
use Rattle.std.specs.Prelude.{ℕ, ◌+◌, ◌*◌, ◌/◌, ◌%◌, ◌≡◌, List, Bool, true, not, ◌&&◌, ◌||◌, eqb}
use Rattle.octets.specs.Octets.{put, same}
use Rattle.model.specs.Words.{keep, any, all}
use Rattle.model.specs.Numbers as n
use Rattle.model.specs.Site.{kind, weekdays}
use Rattle.model.specs.Checks.{crosses_midnight}

-- A rule; a record of another kind.
abbrev pub is_rule : List ℕ → Bool
is_rule s = eqb (kind s) n.access_rule

abbrev pub not_rule : List ℕ → Bool
not_rule s = not (is_rule s)

-- A rule with from > to.
unfoldable pub is_shift : List ℕ → Bool
is_shift s = is_rule s && crosses_midnight s

-- The days after a set of days: Sunday's bit becomes Monday's.
unfoldable pub following_days : ℕ → ℕ
following_days days = days % 64 * 2 + days / 64

-- Its first half: "from..1,440 on these days".
unfoldable pub until_midnight : List ℕ → List ℕ
until_midnight s = put 14 2 n.minutes_of_day s

-- Its second half: "0..to on the days after them".
unfoldable pub since_midnight : List ℕ → List ℕ
since_midnight s = put 12 2 0 (put 3 1 (following_days (weekdays s)) s)

-- ── two sites that differ in their shifts alone: those of the one may stand as their halves in the other

-- A record stands among records.
abbrev pub stands : List (List ℕ) → List ℕ → Bool
stands ss s = any (same s) ss

-- It stands there as it is, or as both its halves.
unfoldable pub stands_halved : List (List ℕ) → List ℕ → Bool
stands_halved ts s = stands ts s || is_shift s && stands ts (until_midnight s) && stands ts (since_midnight s)

-- It is a half of a shift.
abbrev pub is_half : List ℕ → List ℕ → Bool
is_half t s = is_shift s && (same (until_midnight s) t || same (since_midnight s) t)

-- It stands there as it is, or it is a half of a shift that does.
unfoldable pub stands_whole : List (List ℕ) → List ℕ → Bool
stands_whole ss t = stands ss t || any (is_half t) ss

-- Records of two sites: all but rules are the same lists. Rules may stand in any sequence, and any number of times.
pub record Halved (ss ts : List (List ℕ)) : Type 0 where
  pub others : keep not_rule ss ≡ keep not_rule ts
  pub halved : all (stands_halved ts) ss ≡ true
  pub whole : all (stands_whole ss) ts ≡ true
