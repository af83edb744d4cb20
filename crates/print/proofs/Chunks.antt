-- The line of an answer, and how many lines there are.
use Prim.Native.Nat.{ℕ, ◌*◌, ◌/◌}
use mathlib.Core.Path.{◌≡◌, refl, ap, ◌∙◌}
use mathlib.Core.List.{List, ◌++◌, map, flatten}
use lib.ListN.{length, drop, replicate}
use Rattle.octets.specs.Octets.{groups}
use Rattle.octets.proofs.GroupLaws.{length_groups}
use Rattle.model.specs.Print.{line_feed, hex_byte, hex_line}

-- Behind the digits of 16 bytes the last of 33 line feeds is left.
pub line_ended : (answer line : List ℕ) → length answer ≡ 16 → line ≡ flatten (map hex_byte answer) ++ drop (length answer * 2) (replicate 33 line_feed) → line ≡ hex_line answer
unfolding hex_line
line_ended answer line l e = e ∙ rw l refl

-- There are as many answers as 16 bytes.
pub length_whole : (answers : List ℕ) (whole : List (List ℕ)) → whole ≡ groups 16 (length answers / 16) answers → length whole ≡ length answers / 16
length_whole answers whole e = ap length e ∙ length_groups 16 (length answers / 16) answers
