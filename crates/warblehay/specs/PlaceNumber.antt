-- A place as numbers for C: that of the site record among those of the site, and the offset of its state record in the state, in bytes; or the largest number
-- of 64 bits for each, where there is none.
use Rattle.std.specs.Prelude.{ℕ, ◌*◌, Option, Some, None}
use Rattle.model.specs.Numbers.{record_size}
use Rattle.index.specs.declared.Place.{Place}

abbrev pub nowhere : ℕ
nowhere = 18446744073709551615

abbrev pub place_numbers : Option Place → ℕ × ℕ
place_numbers (Some p) = (p.site, p.state * record_size)
place_numbers None = (nowhere, nowhere)
