-- Changed bits are found: one, or two of which one is in each half.
use mathlib.Core.Path.{◌≡◌, refl, ap, ◌∙◌}
use Rattle.std.specs.Prelude.{Ok}
use mathlib.Core.Bool.{Bool, true, false, not}
use Prim.Native.Nat.{ℕ, ◌<◌}
use lib.Dec.{ltb}
use borrow.Author.Tests.{ltb-true, ltb-false}
use Rattle.wiegand.specs.Wiegand.{bits, first_parity, last_parity, factor_of, reading_error, read_wiegand26, write_wiegand26}
use Rattle.wiegand.specs.Theorems.{changed, OneChanged, HalvesChanged}
use Rattle.wiegand.proofs.Parity.{first_changed, last_changed}
use Rattle.wiegand.proofs.Written.{read_bits, written_lt, written_first, written_last}

-- Where the first parity is wrong, or the last.
first_wrong : (n : ℕ) → n < 67108864 → first_parity (bits 26 n) ≡ false → read_wiegand26 n 26 ≡ Ok reading_error
unfolding factor_of
first_wrong n l h = rw (read_bits n l, h)

last_wrong : (n : ℕ) → n < 67108864 → first_parity (bits 26 n) ≡ true → last_parity (bits 26 n) ≡ false → read_wiegand26 n 26 ≡ Ok reading_error
unfolding factor_of
last_wrong n l h k = rw (read_bits n l, h, k)

one_changed_in : (f c i : ℕ) (t : Bool) → ltb i 13 ≡ t → i < 26 → read_wiegand26 (changed i (write_wiegand26 f c)) 26 ≡ Ok reading_error
one_changed_in f c i true h l =
    let n = write_wiegand26 f c in
    let t = last_changed i n (ltb-true i 13 h) (written_lt f c) in
    last_wrong (changed i n) t.0 (t.1 ∙ written_first f c) (t.2 ∙ ap not (written_last f c))
one_changed_in f c i false h l =
    let n = write_wiegand26 f c in
    let t = first_changed i n (ltb-false i 13 h) l (written_lt f c) in
    first_wrong (changed i n) t.0 (t.1 ∙ ap not (written_first f c))

pub one_changed : OneChanged
unfolding OneChanged
one_changed f c i l = one_changed_in f c i (ltb i 13) refl l

pub halves_changed : HalvesChanged
unfolding HalvesChanged
halves_changed f c i j g h l =
    let n = write_wiegand26 f c in
    let t = last_changed j n l (written_lt f c) in
    let u = first_changed i (changed j n) g h t.0 in
    first_wrong (changed i (changed j n)) u.0 (u.1 ∙ ap not (t.1 ∙ written_first f c))
