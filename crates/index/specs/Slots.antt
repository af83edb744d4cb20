-- Where a record goes in an index.
use Rattle.std.specs.Prelude.{ℕ, ◌<◌, ◌≡◌, List}
use Rattle.index.specs.Index.{bucket_of, mark_of}
use Rattle.index.specs.declared.Slot.{Slot}

-- Its bucket and its mark, which is five bits.
pub record Slotted (s : List ℕ) (slot : Slot) : Type 0 where
  pub bucket : slot.bucket ≡ bucket_of s
  pub mark : slot.mark ≡ mark_of s
  pub small : slot.mark < 32
