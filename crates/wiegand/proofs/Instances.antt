-- The theorems applied to 002's card, so that their premises are seen to hold somewhere.
use mathlib.Core.Path.{◌≡◌, refl}
use Rattle.std.specs.Prelude.{Ok}
use lib.Dec.{lit<, lit≤}
use Rattle.wiegand.specs.Wiegand.{factor, reading_error, read_wiegand26, write_wiegand26}
use Rattle.wiegand.specs.Theorems.{facility_in, card_in, changed, ReadBack, OneChanged, OnlyWritten, NoneShared, HalvesChanged}
use Rattle.wiegand.proofs.Cases.{readers}
use Rattle.wiegand.proofs.Written.{read_back, only_written, none_shared}
use Rattle.wiegand.proofs.Changed.{one_changed, halves_changed}

pub record Instances : Type 0 where
  read : read_wiegand26 (write_wiegand26 131 77) 26 ≡ Ok (factor 131 77)
  -- Bit 7 is one of the card number, bit 25 the first parity bit.
  one : read_wiegand26 (changed 7 (write_wiegand26 131 77)) 26 ≡ Ok reading_error
  two : read_wiegand26 (changed 25 (changed 7 (write_wiegand26 131 77))) 26 ≡ Ok reading_error
  only : 50725019 ≡ write_wiegand26 (facility_in (factor 131 77)) (card_in (factor 131 77))
  none : 50725019 ≡ write_wiegand26 131 77

pub instances : Instances
unfolding readers ReadBack OneChanged OnlyWritten NoneShared HalvesChanged
instances =
    record {
      read = (read_back 131 77 (lit< tt) (lit< tt)).0;
      one = one_changed 131 77 7 (lit< tt);
      two = halves_changed 131 77 25 7 (lit≤ tt) (lit< tt) (lit< tt);
      only = (only_written 50725019 26 (factor 131 77) refl refl).3;
      none = none_shared 50725019 (write_wiegand26 131 77) (factor 131 77) refl refl refl;
    }
