-- What `print_journal` gives: the text of a journal that is run from fresh, and every lent buffer.
use Rattle.std.specs.Prelude.{ℕ, ◌*◌, ◌/◌, List, ◌++◌, Bool, ◌&&◌, leb, length, drop, if◌then◌else◌, Option, Some, None}
use Rattle.model.specs.Numbers.{entry_size}
use Rattle.model.specs.Calls.{number, is_worked, fresh_state, RunResult, run_journal}
use Rattle.model.specs.Print.{answers_text, decimal_line}

-- "32 upper-case hexadecimal digits and a line feed".
abbrev pub line_size : ℕ
line_size = 33

-- The longest number, of two digits, and a line feed.
abbrev pub number_size : ℕ
number_size = 3

-- What the call gives: how long the text is, or that there is no room for it, and the later contents of every lent buffer.
pub record PrintResult : Type 0 where
  pub printed : Option ℕ
  pub state : List ℕ
  pub answers : List ℕ
  pub text : List ℕ

-- The record of its fields.
abbrev pub print_result : Option ℕ → List ℕ → List ℕ → List ℕ → PrintResult
print_result printed state answers text = record { printed = printed; state = state; answers = answers; text = text }

-- Room for a line for each whole entry of the journal, and for a number with its line feed.
unfoldable pub has_room : List ℕ → List ℕ → Bool
has_room journal text = leb (length journal / entry_size * line_size) (length text) && leb number_size (length text)

-- The text of what a run gives: "each answer ..; of an input turned back, only the number".
unfoldable pub text_of : RunResult → List ℕ
text_of r = if is_worked r.returned then answers_text r.answers else decimal_line (number r.returned)

-- A run from fresh in the lent state and answers. A state that is not as long as a state of the site, or answers that are not 16 bytes for an entry,
-- are turned back as in every call.
unfoldable pub run_into : List ℕ → List ℕ → List ℕ → List ℕ → RunResult
run_into site journal state answers = run_journal site (fresh_state site state).state journal answers

-- The text of a run at the head of its buffer, the bytes behind it as they were.
abbrev pub print_run : RunResult → List ℕ → PrintResult
print_run run text =
    print_result (Some (length (text_of run))) run.state run.answers (text_of run ++ drop (length (text_of run)) text)

-- Without room nothing is changed.
unfoldable pub print_into : List ℕ → List ℕ → List ℕ → List ℕ → List ℕ → PrintResult
print_into site journal state answers text =
    if has_room journal text then print_run (run_into site journal state answers) text else print_result None state answers text
