-- What a call gives to C: the number of its outcome, and the later contents of the buffers that it is lent to write.
use Rattle.std.specs.Prelude.{ℕ, List, Result, Ok, Err}
use Rattle.model.specs.Calls.{number, StateResult, RunResult}
use Rattle.wiegand.specs.Wiegand.{returned_number}
use Rattle.wiegand.specs.declared.Factor.{Factor}
use Rattle.wiegand.specs.declared.NotTwentySixBits.{NotTwentySixBits}

-- Of a call that writes a state, the number and that state.
abbrev pub numbered_state : StateResult → ℕ × List ℕ
numbered_state f = (number f.returned, f.state)

-- Of a run, the number, the state and the answers.
abbrev pub numbered_run : RunResult → ℕ × List ℕ × List ℕ
numbered_run f = (number f.returned, f.state, f.answers)

-- Of a reading, the number, the format and the value; where nothing is made, these two as they were.
abbrev pub numbered_reading : Result Factor NotTwentySixBits → ℕ → List ℕ → ℕ × ℕ × List ℕ
numbered_reading (Ok made) format value = (returned_number (Ok made), made.format, made.value)
numbered_reading (Err refusal) format value = (returned_number (Err refusal), format, value)
