-- "A list, in both halves, is of journal runs on one accepted site, each with a journal and answers of its own. Its entries are those of the
-- journals worked through, in turn; a journal turned back adds nothing."
use Prim.Native.Nat.{ℕ}
use mathlib.Core.Path.{◌≡◌, refl}
use mathlib.Core.List.{List, [], ◌∷◌, ◌++◌, map}
use lib.ListN.{replicate}
use Rattle.octets.specs.Octets.{put}
use Rattle.model.specs.State.{Panel}
use Rattle.model.specs.Calls.{number}
use Rattle.model.specs.Lists.{History, with_answers, answers_in, returns, begun, ended, worked, first_of, event_in, refusal_in, credential_in}
use Rattle.model.proofs.Open.{definitions}
use Rattle.cases.proofs.Records.{record_of, entry_with, tables}
use Rattle.cases.proofs.SiteCheck.{zone_at, point_at, records_at}
use Rattle.cases.proofs.Lookups.{offsets}

-- Zone 8 adjusted by 5; a journal of a byte; answers of a byte too many; then the zone adjusted by 2, and one that is not there.
unfoldable pub five_more : List ℕ
five_more = entry_with ((0, 1, 3) ∷ (8, 4, 8) ∷ (12, 4, 5) ∷ [])

unfoldable pub two_more : List ℕ
two_more = entry_with ((0, 1, 3) ∷ (8, 4, 8) ∷ (12, 4, 2) ∷ [])

unfoldable pub two_elsewhere : List ℕ
two_elsewhere = entry_with ((0, 1, 3) ∷ (8, 4, 9) ∷ (12, 4, 2) ∷ [])

unfoldable pub four_runs : History
unfolding definitions tables put records_at
four_runs =
    record {
      site = zone_at 8;
      buffer = replicate 32 9;
      accepted = refl;
      runs =
          record { journal = five_more; answers = replicate 16 9 } ∷ record { journal = 9 ∷ []; answers = [] }
          ∷ record { journal = five_more; answers = replicate 17 9 }
          ∷ record { journal = two_more ++ two_elsewhere; answers = replicate 32 9 } ∷ [];
    }

-- The panel of the zone with a count.
unfoldable pub counted : ℕ → Panel
counted n = (zone_at 8, 0 ∷ 0 ∷ 0 ∷ n ∷ replicate 28 0) ∷ []

unfoldable pub runs_open : Unit {0}
unfolding five_more two_more two_elsewhere four_runs counted
runs_open = tt

pub four_returns : map number (returns four_runs.site (begun four_runs) four_runs.runs) ≡ 0 ∷ 10 ∷ 11 ∷ 0 ∷ []
unfolding definitions tables put records_at runs_open
four_returns = refl

-- A state whose bytes would pass for a site of zone 0 and point 0, at which a card that is not known is a failure. The site has neither: the entry
-- is refused, and both journals are worked through.
pub state_no_site :
    map number
    (returns (zone_at 8 ++ point_at 2 4194303 4194303)
    (record_of ((0, 1, 1) ∷ []) ++ record_of ((0, 4, 0x02000101) ∷ (12, 4, 4194303) ∷ (16, 4, 4194303) ∷ []))
    (record { journal = entry_with ((0, 1, 1) ∷ (1, 1, 2) ∷ []); answers = replicate 16 9 } ∷ record { journal = []; answers = [] } ∷ []))
    ≡ 0 ∷ 0 ∷ []
unfolding definitions tables put records_at
state_no_site = refl

-- From fresh, 0, to 7.
pub four_states : begun four_runs ∷ ended four_runs ∷ [] ≡ replicate 32 0 ∷ (0 ∷ 0 ∷ 0 ∷ 7 ∷ replicate 28 0) ∷ []
unfolding definitions tables put records_at runs_open
four_states = refl

pub four_worked :
    worked four_runs
    ≡ record { found = counted 0; entry = five_more; answer = 0 ∷ 0 ∷ 0 ∷ 0 ∷ 0 ∷ 0 ∷ 0 ∷ 0 ∷ 0x00 ∷ 0x3F ∷ 0xFF ∷ 0xFF ∷ 0 ∷ 0 ∷ 0 ∷ 5 ∷ [] }
    ∷ record { found = counted 5; entry = two_more; answer = 0 ∷ 0 ∷ 0 ∷ 0 ∷ 0 ∷ 0 ∷ 0 ∷ 0 ∷ 0x00 ∷ 0x3F ∷ 0xFF ∷ 0xFF ∷ 0 ∷ 0 ∷ 0 ∷ 7 ∷ [] }
    ∷ record { found = counted 7; entry = two_elsewhere; answer = 0 ∷ 0 ∷ 0 ∷ 8 ∷ 0 ∷ 0 ∷ 0 ∷ 0 ∷ 0x00 ∷ 0x3F ∷ 0xFF ∷ 0xFF ∷ 0 ∷ 0 ∷ 0 ∷ 0 ∷ [] } ∷ []
unfolding definitions tables put records_at runs_open
four_worked = refl

-- Panels, entries and answers go together as far as there are all three.
pub paired_answers :
    with_answers ([] ∷ counted 6 ∷ []) ((1 ∷ []) ∷ (2 ∷ []) ∷ []) ((3 ∷ []) ∷ []) ∷ with_answers (counted 6 ∷ []) ((1 ∷ []) ∷ (2 ∷ []) ∷ []) ((3 ∷ []) ∷ (4 ∷ []) ∷ [])
    ∷ with_answers ([] ∷ []) [] ((3 ∷ []) ∷ []) ∷ []
    ≡ (record { found = []; entry = 1 ∷ []; answer = 3 ∷ [] } ∷ []) ∷ (record { found = counted 6; entry = 1 ∷ []; answer = 3 ∷ [] } ∷ []) ∷ [] ∷ []
paired_answers = refl

-- The first entry of two, with the room for its answer; none of them.
pub first_entries :
    map (λ i. first_of i record { journal = replicate 24 1 ++ replicate 24 2; answers = replicate 16 3 ++ replicate 16 4 }) (0 ∷ 1 ∷ 2 ∷ [])
    ≡ record { journal = []; answers = [] } ∷ record { journal = replicate 24 1; answers = replicate 16 3 }
    ∷ record { journal = replicate 24 1 ++ replicate 24 2; answers = replicate 16 3 ++ replicate 16 4 } ∷ []
unfolding definitions
first_entries = refl

-- "Answer: 0 event (2) .. 3 refusal .. 8 credential", 16 bytes each.
pub answer_fields : map (λ f. f offsets) (event_in ∷ refusal_in ∷ credential_in ∷ []) ≡ 0x0001 ∷ 3 ∷ 0x08090A0B ∷ []
unfolding definitions offsets
answer_fields = refl

pub answers_apart : answers_in (replicate 16 1 ++ replicate 16 2 ++ replicate 15 3) ≡ replicate 16 1 ∷ replicate 16 2 ∷ []
unfolding definitions
answers_apart = refl
