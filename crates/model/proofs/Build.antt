-- Site records and entries for examples, and a journal of them from fresh. What is not given is zero, unlimited, end of time or
-- NONE.
use Rattle.std.specs.Prelude.{Ok}
use Prim.Native.Nat.{ℕ, ◌*◌, ◌/◌}
use mathlib.Core.Path.{◌≡◌}
use mathlib.Core.List.{List, [], ◌∷◌, ◌++◌, map, flatten}
use lib.ListN.{length}
use Rattle.octets.specs.Octets.{digits}
use Rattle.model.specs.Words.{zeros}
use Rattle.model.specs.Numbers as n
use Rattle.model.specs.Numbers.{NONE, NEVER, UNLIMITED, entry_size, answer_size}
use Rattle.model.specs.State.{state_length}
use Rattle.model.specs.Calls.{RunResult, fresh_state}
use Rattle.model.specs.Lists.{event_in, answers_in, Run, History}
use Rattle.model.specs.Print.{from_fresh}

-- A counting zone with its upper limit.
unfoldable pub zone : ℕ → ℕ → List ℕ
zone i upper = (n.access_zone ∷ 1 ∷ 0 ∷ 0 ∷ []) ++ digits 4 i ++ digits 4 upper ++ zeros 20

-- A counting zone with its lower limit.
unfoldable pub lower_zone : ℕ → ℕ → List ℕ
lower_zone i lower = (n.access_zone ∷ 1 ∷ 0 ∷ 0 ∷ []) ++ digits 4 i ++ zeros 4 ++ digits 4 lower ++ zeros 16

-- A zone with its passback and the passback's timeout.
unfoldable pub passback_zone : ℕ → ℕ → ℕ → List ℕ
passback_zone i passback timeout =
    (n.access_zone ∷ 0 ∷ passback ∷ 0 ∷ []) ++ digits 4 i ++ zeros 8 ++ digits 4 timeout ++ zeros 12

-- A point with its flags, mode, factors wanted, Zone_To and Zone_From; then most failures, factor timeout and lockout relinquish.
unfoldable pub point : ℕ → ℕ → ℕ → ℕ → ℕ → ℕ → List ℕ
point i flags mode factors to from =
    (n.access_point ∷ flags ∷ mode ∷ factors ∷ []) ++ digits 4 i ++ digits 4 to ++ digits 4 from ++ zeros 16

unfoldable pub locking_point : ℕ → ℕ → ℕ → List ℕ
locking_point i most relinquish =
    (n.access_point ∷ 0 ∷ 1 ∷ 1 ∷ []) ++ digits 4 i ++ digits 4 NONE ++ digits 4 NONE ++ (0 ∷ most ∷ 0 ∷ 0 ∷ []) ++ digits 4 relinquish
    ++ zeros 8

-- A point with its mode and threat level.
unfoldable pub threat_point : ℕ → ℕ → ℕ → List ℕ
threat_point i mode threat =
    (n.access_point ∷ 0 ∷ mode ∷ 1 ∷ []) ++ digits 4 i ++ digits 4 NONE ++ digits 4 NONE ++ (threat ∷ zeros 15)

-- A credential with its expiry, days and first rights number.
unfoldable pub credential : ℕ → ℕ → ℕ → ℕ → List ℕ
credential i expiry days rights =
    (n.access_credential ∷ 0 ∷ 0 ∷ 0 ∷ []) ++ digits 4 i ++ digits 4 0 ++ digits 4 expiry ++ digits 2 UNLIMITED ++ digits 2 days
    ++ digits 2 UNLIMITED ++ zeros 2 ++ digits 4 rights ++ digits 4 NONE

-- A credential with its disable, activation, expiry, uses and days.
unfoldable pub limited_credential : ℕ → ℕ → ℕ → ℕ → ℕ → ℕ → List ℕ
limited_credential i disable activation expiry uses days =
    (n.access_credential ∷ 0 ∷ disable ∷ 0 ∷ []) ++ digits 4 i ++ digits 4 activation ++ digits 4 expiry ++ digits 2 uses
    ++ digits 2 days ++ digits 2 UNLIMITED ++ zeros 2 ++ digits 4 NONE ++ digits 4 NONE

-- A credential with its absentee days.
unfoldable pub absent_credential : ℕ → ℕ → List ℕ
absent_credential i days =
    (n.access_credential ∷ 0 ∷ 0 ∷ 0 ∷ []) ++ digits 4 i ++ digits 4 0 ++ digits 4 NEVER ++ digits 2 UNLIMITED ++ digits 2 UNLIMITED
    ++ digits 2 days ++ zeros 2 ++ digits 4 NONE ++ digits 4 NONE

-- A master-exempt credential.
unfoldable pub master_credential : ℕ → List ℕ
master_credential i =
    (n.access_credential ∷ 1 ∷ 0 ∷ 0 ∷ []) ++ digits 4 i ++ digits 4 0 ++ digits 4 NEVER ++ digits 2 UNLIMITED ++ digits 2 UNLIMITED
    ++ digits 2 UNLIMITED ++ zeros 2 ++ digits 4 NONE ++ digits 4 NONE

-- A credential with its disable and its most wrong tries.
unfoldable pub tried_credential : ℕ → ℕ → ℕ → List ℕ
tried_credential i disable most =
    (n.access_credential ∷ 0 ∷ disable ∷ 0 ∷ []) ++ digits 4 i ++ digits 4 0 ++ digits 4 NEVER ++ digits 2 UNLIMITED ++ digits 2 UNLIMITED
    ++ digits 2 UNLIMITED ++ (most ∷ 0 ∷ []) ++ digits 4 NONE ++ digits 4 NONE

-- A credential with both rights numbers.
unfoldable pub ruled_credential : ℕ → ℕ → ℕ → List ℕ
ruled_credential i first second =
    (n.access_credential ∷ 0 ∷ 0 ∷ 0 ∷ []) ++ digits 4 i ++ digits 4 0 ++ digits 4 NEVER ++ digits 2 UNLIMITED ++ digits 2 UNLIMITED
    ++ digits 2 UNLIMITED ++ zeros 2 ++ digits 4 first ++ digits 4 second

unfoldable pub factor : ℕ → ℕ → ℕ → List ℕ
factor role i value = (n.authentication_factor ∷ 0 ∷ role ∷ 0 ∷ []) ++ digits 4 i ++ (2 ∷ zeros 7) ++ digits 4 0 ++ digits 4 value ++ zeros 8

unfoldable pub card : ℕ → ℕ → List ℕ
card i value = factor n.role_identifying i value

unfoldable pub code : ℕ → ℕ → List ℕ
code i value = factor n.role_confirming i value

-- A rule of a rights number at a point, on a Monday from a minute to another; an enabled rule that fits always and everywhere.
unfoldable pub rule : ℕ → ℕ → ℕ → ℕ → ℕ → List ℕ
rule rights flags at from to =
    (n.access_rule ∷ flags ∷ n.access_point ∷ 1 ∷ []) ++ digits 4 rights ++ digits 4 at ++ digits 2 from ++ digits 2 to ++ zeros 16

unfoldable pub every_rule : ℕ → List ℕ
every_rule rights = (n.access_rule ∷ 13 ∷ 0 ∷ 0 ∷ []) ++ digits 4 rights ++ zeros 24

-- A factor of format 2 read at a point; one that is damaged; a zone's count set; adjusted; a credential's disable set.
unfoldable pub read : ℕ → ℕ → ℕ → List ℕ
read at time value = (1 ∷ 2 ∷ 0 ∷ 0 ∷ []) ++ digits 4 time ++ digits 4 at ++ zeros 8 ++ digits 4 value

unfoldable pub damaged : ℕ → ℕ → List ℕ
damaged at time = (1 ∷ n.format_error ∷ 0 ∷ 0 ∷ []) ++ digits 4 time ++ digits 4 at ++ zeros 12

unfoldable pub set_count : ℕ → ℕ → List ℕ
set_count i amount = (2 ∷ 0 ∷ 0 ∷ 0 ∷ []) ++ digits 4 0 ++ digits 4 i ++ digits 4 amount ++ zeros 8

unfoldable pub adjust : ℕ → ℕ → List ℕ
adjust i amount = (3 ∷ 0 ∷ 0 ∷ 0 ∷ []) ++ digits 4 0 ++ digits 4 i ++ digits 4 amount ++ zeros 8

unfoldable pub set_disable : ℕ → ℕ → List ℕ
set_disable i disable = (4 ∷ disable ∷ 0 ∷ 0 ∷ []) ++ digits 4 0 ++ digits 4 i ++ zeros 12

-- A point locked; a journal that is no whole entry.
unfoldable pub lock : ℕ → ℕ → List ℕ
lock i time = (5 ∷ n.argument_lock ∷ 0 ∷ 0 ∷ []) ++ digits 4 time ++ digits 4 i ++ zeros 12

unfoldable pub cut : List (List ℕ)
cut = (1 ∷ []) ∷ []

-- ── a journal from fresh, of records and entries

unfoldable pub run_of : List (List ℕ) → List (List ℕ) → RunResult
run_of site journal = from_fresh (flatten site) (flatten journal)

-- The events of the answers.
unfoldable pub events : RunResult → List ℕ
events r = map event_in (answers_in r.answers)

-- ── lists of runs

-- A run of a journal of entries, with room for its answers.
unfoldable pub run : List (List ℕ) → Run
run journal = record { journal = flatten journal; answers = zeros (length (flatten journal) / entry_size * answer_size) }

-- Journals from fresh over a site of records.
unfoldable pub history : (site : List (List ℕ)) → List (List (List ℕ)) → (fresh_state (flatten site) (zeros (state_length (flatten site)))).returned ≡ Ok tt → History
history site journals accepted =
    record {
      site = flatten site;
      buffer = zeros (state_length (flatten site));
      accepted = accepted;
      runs = map run journals;
    }

-- One name that opens them all.
unfoldable pub examples : Unit {0}
unfolding zone lower_zone passback_zone point locking_point threat_point credential limited_credential absent_credential master_credential tried_credential ruled_credential factor card code rule every_rule read damaged set_count adjust set_disable lock cut run_of events run history
examples = tt
