-- "One journal printed": "from fresh writes each answer as 32 upper-case hexadecimal digits and a line feed, no header; of an input turned
-- back, only the number in decimal and a line feed".
use Rattle.std.specs.Prelude.{ℕ, ◌+◌, ◌*◌, ◌/◌, ◌%◌, ltb, length, if◌then◌else◌}
use mathlib.Core.List.{List, [], ◌∷◌, ◌++◌, map, flatten}
use Rattle.model.specs.Words.{zeros}
use Rattle.model.specs.Numbers.{entry_size, answer_size}
use Rattle.model.specs.State.{state_length}
use Rattle.model.specs.Calls.{number, is_worked, fresh_state, RunResult, run_journal}
use Rattle.model.specs.Lists.{answers_in}

-- The characters: 0 to 9 from here, A to F as 10 to 15 from there, and the line feed.
abbrev pub digit_zero : ℕ
digit_zero = 48

-- A is 10 above this character.
abbrev pub letter_base : ℕ
letter_base = 55

-- The end of a line.
abbrev pub line_feed : ℕ
line_feed = 10

-- A digit, "upper-case hexadecimal".
unfoldable pub hex_digit : ℕ → ℕ
hex_digit n = if ltb n 10 then digit_zero + n else letter_base + n

-- A byte: two digits, the high one first.
unfoldable pub hex_byte : ℕ → List ℕ
hex_byte b = hex_digit (b / 16) ∷ hex_digit (b % 16) ∷ []

-- "each answer as 32 upper-case hexadecimal digits and a line feed".
unfoldable pub hex_line : List ℕ → List ℕ
hex_line answer = flatten (map hex_byte answer) ++ line_feed ∷ []

-- "Each line is one answer."
unfoldable pub answers_text : List ℕ → List ℕ
answers_text answers = flatten (map hex_line (answers_in answers))

-- Every number that a call returns has one or two digits.
unfoldable pub decimal_line : ℕ → List ℕ
decimal_line n =
    (if ltb n 10 then (digit_zero + n) ∷ [] else (digit_zero + n / 10) ∷ (digit_zero + n % 10) ∷ []) ++ line_feed ∷ []

-- A journal from fresh, with room for an answer to each whole entry.
unfoldable pub from_fresh : List ℕ → List ℕ → RunResult
from_fresh site journal =
    run_journal site (fresh_state site (zeros (state_length site))).state journal (zeros (length journal / entry_size * answer_size))

-- What the printing program writes of a site and a journal.
unfoldable pub print_journal : List ℕ → List ℕ → List ℕ
print_journal site journal =
    if is_worked (from_fresh site journal).returned then answers_text (from_fresh site journal).answers
    else decimal_line (number (from_fresh site journal).returned)
