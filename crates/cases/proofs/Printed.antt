-- "One journal printed": "from fresh writes each answer as 32 upper-case hexadecimal digits and a line feed, no header; of an input turned back,
-- only the number in decimal and a line feed".
use Prim.Native.Nat.{ℕ}
use mathlib.Core.Path.{◌≡◌, refl}
use mathlib.Core.List.{List, [], ◌∷◌, ◌++◌, map, flatten}
use lib.ListN.{replicate}
use Rattle.octets.specs.Octets.{put}
use Rattle.model.specs.Print.{hex_byte, answers_text, decimal_line, print_journal}
use Rattle.model.proofs.Open.{definitions}
use Rattle.cases.proofs.Change.{with_fields}
use Rattle.cases.proofs.Records.{record_of, entry_with, tables}
use Rattle.cases.proofs.SiteCheck.{zone_at, point_at, credential_with, factor_with, records_at}

-- The paper's: "Site: zone 23, counting, upper 1; point 2 into it, flags 10, mode 1, one factor; credentials 5 and 6, each with an identifying
-- factor; all else zero, unlimited, end of time or NONE. Journal: 5's card at 100, 6's at 160, an unknown card at 220."
unfoldable pub unlimited_credential : ℕ → List ℕ
unlimited_credential i = with_fields ((12, 4, 4294967295) ∷ (16, 4, 4294967295) ∷ (20, 2, 65535) ∷ []) (credential_with i)

unfoldable pub read_at_two : ℕ → ℕ → List ℕ
read_at_two time value = entry_with ((0, 1, 1) ∷ (1, 1, 2) ∷ (4, 4, time) ∷ (8, 4, 2) ∷ (20, 4, value) ∷ [])

-- The text is 00010100000000010000000500000001, 008E0100000000020000000600000001, 0081010000000003003FFFFF00000001.
pub three_lines :
    print_journal
    (flatten
    (with_fields ((1, 1, 1) ∷ (8, 4, 1) ∷ []) (zone_at 23) ∷ with_fields ((1, 1, 10) ∷ (2, 1, 1) ∷ []) (point_at 2 23 4194303)
    ∷ unlimited_credential 5 ∷ factor_with 1 5 55 ∷ unlimited_credential 6 ∷ factor_with 1 6 66 ∷ []))
    (flatten (read_at_two 100 55 ∷ read_at_two 160 66 ∷ read_at_two 220 77 ∷ []))
    ≡ 48 ∷ 48 ∷ 48 ∷ 49 ∷ 48 ∷ 49 ∷ 48 ∷ 48 ∷ 48 ∷ 48 ∷ 48 ∷ 48 ∷ 48 ∷ 48 ∷ 48 ∷ 49 ∷ 48 ∷ 48 ∷ 48 ∷ 48 ∷ 48 ∷ 48 ∷ 48 ∷ 53 ∷ 48 ∷ 48 ∷ 48 ∷ 48 ∷ 48 ∷ 48
    ∷ 48 ∷ 49 ∷ 10
    ∷ 48 ∷ 48 ∷ 56 ∷ 69 ∷ 48 ∷ 49 ∷ 48 ∷ 48 ∷ 48 ∷ 48 ∷ 48 ∷ 48 ∷ 48 ∷ 48 ∷ 48 ∷ 50 ∷ 48 ∷ 48 ∷ 48 ∷ 48 ∷ 48 ∷ 48 ∷ 48 ∷ 54 ∷ 48 ∷ 48 ∷ 48 ∷ 48 ∷ 48 ∷ 48
    ∷ 48 ∷ 49 ∷ 10
    ∷ 48 ∷ 48 ∷ 56 ∷ 49 ∷ 48 ∷ 49 ∷ 48 ∷ 48 ∷ 48 ∷ 48 ∷ 48 ∷ 48 ∷ 48 ∷ 48 ∷ 48 ∷ 51 ∷ 48 ∷ 48 ∷ 51 ∷ 70 ∷ 70 ∷ 70 ∷ 70 ∷ 70 ∷ 48 ∷ 48 ∷ 48 ∷ 48 ∷ 48 ∷ 48
    ∷ 48 ∷ 49 ∷ 10 ∷ []
unfolding definitions tables put records_at unlimited_credential read_at_two
three_lines = refl

-- Turned back: a site of a byte, of a kind 0, with a zone twice, with a credential missing; a journal of a byte, also where the site is as long as whole
-- entries. 1, 2, 3, 4, 10, 10.
pub turned_back_lines :
    map (λ site. print_journal (flatten site) (9 ∷ []))
    (((9 ∷ []) ∷ []) ∷ (record_of [] ∷ []) ∷ (zone_at 8 ∷ zone_at 8 ∷ []) ∷ (factor_with 1 5 7 ∷ []) ∷ (zone_at 8 ∷ [])
    ∷ (zone_at 7 ∷ zone_at 8 ∷ zone_at 9 ∷ []) ∷ [])
    ≡ (49 ∷ 10 ∷ []) ∷ (50 ∷ 10 ∷ []) ∷ (51 ∷ 10 ∷ []) ∷ (52 ∷ 10 ∷ []) ∷ (49 ∷ 48 ∷ 10 ∷ []) ∷ (49 ∷ 48 ∷ 10 ∷ []) ∷ []
unfolding definitions tables put records_at
turned_back_lines = refl

-- "in decimal": 0, 9, 10, 11 and 19, of which a printed run returns 10 alone.
pub decimal_lines :
    map decimal_line (0 ∷ 9 ∷ 10 ∷ 11 ∷ 19 ∷ []) ≡ (48 ∷ 10 ∷ []) ∷ (57 ∷ 10 ∷ []) ∷ (49 ∷ 48 ∷ 10 ∷ []) ∷ (49 ∷ 49 ∷ 10 ∷ []) ∷ (49 ∷ 57 ∷ 10 ∷ []) ∷ []
unfolding definitions
decimal_lines = refl

-- "upper-case hexadecimal": 09, 0A, 9F, A0, FF.
pub hexadecimal :
    map hex_byte (0x09 ∷ 0x0A ∷ 0x9F ∷ 0xA0 ∷ 0xFF ∷ []) ≡ (48 ∷ 57 ∷ []) ∷ (48 ∷ 65 ∷ []) ∷ (57 ∷ 70 ∷ []) ∷ (65 ∷ 48 ∷ []) ∷ (70 ∷ 70 ∷ []) ∷ []
unfolding definitions
hexadecimal = refl

-- "Each line is one answer", of 16 bytes.
pub two_answers :
    answers_text (replicate 16 0x1A ++ replicate 16 0xB2)
    ≡ 49 ∷ 65 ∷ 49 ∷ 65 ∷ 49 ∷ 65 ∷ 49 ∷ 65 ∷ 49 ∷ 65 ∷ 49 ∷ 65 ∷ 49 ∷ 65 ∷ 49 ∷ 65 ∷ 49 ∷ 65 ∷ 49 ∷ 65 ∷ 49 ∷ 65 ∷ 49 ∷ 65 ∷ 49 ∷ 65 ∷ 49 ∷ 65 ∷ 49 ∷ 65
    ∷ 49 ∷ 65 ∷ 10
    ∷ 66 ∷ 50 ∷ 66 ∷ 50 ∷ 66 ∷ 50 ∷ 66 ∷ 50 ∷ 66 ∷ 50 ∷ 66 ∷ 50 ∷ 66 ∷ 50 ∷ 66 ∷ 50 ∷ 66 ∷ 50 ∷ 66 ∷ 50 ∷ 66 ∷ 50 ∷ 66 ∷ 50 ∷ 66 ∷ 50 ∷ 66 ∷ 50 ∷ 66 ∷ 50
    ∷ 66 ∷ 50 ∷ 10 ∷ []
unfolding definitions
two_answers = refl
