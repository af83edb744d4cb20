-- The pairs of a panel: the records of the site and those of the state side by side.
use Rattle.std.specs.List.{zip}
use Rattle.std.specs.Prelude.{if◌then◌else◌}
use Prim.Native.Nat.{ℕ, zero, suc, ◌/◌}
use native.Mathlib.Omega.{arith}
use mathlib.Core.Path.{◌≡◌, refl, ap}
use mathlib.Core.List.{List, [], ◌∷◌}
use mathlib.Core.Bool.{Bool, true, false, ◌&&◌}
use lib.ListN.{length, take, drop}
use Rattle.octets.specs.Octets.{groups}
use Rattle.model.specs.Words.{keep, all}
use Rattle.model.specs.Site.{records}
use Rattle.model.specs.State.{Pair, kept, state_size, paired, panel, state_length}
use Rattle.model.specs.Longer.{long_panel}
use Rattle.index.proofs.Building.{length_records}

-- The records that have state, beside those of the state: where the others pass a test, it tells the same of the whole panel.
module _ (q : Pair → Bool) (passes : (s t : List ℕ) → kept s ≡ false → q (s, t) ≡ true) where
  all_kept : (ss : List (List ℕ)) (n : ℕ) (state : List ℕ) → length (keep kept ss) ≡ n → all q (zip (keep kept ss) (groups 32 n state)) ≡ all q (paired state_size ss state)
  unfolding groups paired state_size
  all_kept [] n state h = refl
  all_kept (s ∷ ss) n state h = go (kept s) refl n h (λ n state. all_kept ss n state)
    where
      go : (c : Bool) → kept s ≡ c → (n : ℕ) → length (if c then s ∷ keep kept ss else keep kept ss) ≡ n →
          ((n : ℕ) (state : List ℕ) → length (keep kept ss) ≡ n → all q (zip (keep kept ss) (groups 32 n state)) ≡ all q (paired state_size ss state)) →
          all q (zip (if c then s ∷ keep kept ss else keep kept ss) (groups 32 n state))
          ≡ (q (s, take (if c then 32 else 0) state) && all q (paired state_size ss (drop (if c then 32 else 0) state)))
      go true e zero h rest = absurd (omega (arith, h))
      go true e (suc n) h rest = ap (λ b. q (s, take 32 state) && b) (rest n (drop 32 state) (omega (arith, h)))
      go false e n h rest = rw (passes s (take 0 state) e) (rest n state h)

  pub all_panel : (site state : List ℕ) → length state ≡ state_length site →
      all q (zip (keep kept (records site)) (groups 32 (length state / 32) state)) ≡ all q (panel site state)
  unfolding panel state_length
  all_panel site state h = all_kept (records site) (length state / 32) state (omega (arith, h))

-- The longer state has a record beside each.
zip_groups : (ss : List (List ℕ)) (n : ℕ) (state : List ℕ) → length ss ≡ n → zip ss (groups 32 n state) ≡ paired (λ s. 32) ss state
unfolding groups paired
zip_groups [] n state h = refl
zip_groups (s ∷ ss) zero state h = absurd (omega (arith, h))
zip_groups (s ∷ ss) (suc n) state h = ap (λ ps. (s, take 32 state) ∷ ps) (zip_groups ss n (drop 32 state) (omega (arith, h)))

pub zip_panel : (site long : List ℕ) → length long ≡ length site → zip (records site) (groups 32 (length long / 32) long) ≡ long_panel site long
unfolding long_panel
zip_panel site long h = rw h (zip_groups (records site) (length site / 32) long (length_records site))
