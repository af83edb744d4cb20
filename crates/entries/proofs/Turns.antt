-- A `for` over the numbered entries of a journal: what a turn is given, and how many turns there were.
use Rattle.std.proofs.Common.{ℕ, ◌≡◌, ◌<◌, ◌/◌, ◌∙◌, List, map, ap, arith, length, get_or}
use lib.ListN.{length-map}
use Rattle.std.specs.Prelude.{Option, Some, None}
use Rattle.std.specs.List.{enumerate_from}
use Rattle.std.specs.Iterator.{Yields, YieldsFirst}
use Rattle.std.specs.Iterator.Adapters.{enumerate_source, enumerate_count, enumerate_steps}
use Rattle.std.specs.declared.iter.Enumerate.{Enumerate}
use Rattle.std.proofs.lemmas.Iterator.{YieldsList}
use Rattle.std.proofs.lemmas.Iterator.Consumers.{YieldsList-from_first, YieldsList-from_enumerate, YieldsList-turn, YieldsList-end}
use Rattle.std.proofs.lemmas.List.FromFn.{length-enumerate_from, get_or-enumerate_from}
use Rattle.octets.specs.Octets.{groups}
use Rattle.octets.proofs.GroupLaws.{length_groups}
use Rattle.model.specs.Entry.{entry_of, entries}
use Rattle.model.specs.declared.Entry.{Entry}

-- A call of `next` on the numbered entries.
abbrev pub Steps : Enumerate (List Entry) → Option (ℕ × Entry) → Enumerate (List Entry) → Type 0
Steps = enumerate_steps (YieldsFirst (λ (es : List Entry). es))

module _ (es : List Entry) (start : Enumerate (List Entry)) (all : enumerate_source start ≡ es) (zero : enumerate_count start ≡ 0) (xs : List (ℕ × Entry)) (now : Enumerate (List Entry)) (so_far : Yields Steps start xs now) (next : Enumerate (List Entry)) (result : Option (ℕ × Entry)) (steps : Steps now result next) where
  numbered : YieldsList Steps (λ (p : ℕ × Entry). (p.0, p.1)) start (enumerate_from 0 es)
  numbered = YieldsList-from_enumerate (YieldsList-from_first (λ (e : Entry). e) (λ (fs : List Entry). fs) es all) zero

  -- It is given the number of turns before it and the entry of that number.
  pub turn : (k : ℕ) (e : Entry) → result ≡ Some (k, e) → (length xs < length es) × (k ≡ length xs) × (e ≡ get_or es (length xs) e)
  turn k e is =
      let t = YieldsList-turn numbered xs now so_far result next (k, e) is steps in
      let l : length xs < length es = omega (arith, t.0, length-enumerate_from 0 es) in
      let p = t.1 ∙ get_or-enumerate_from 0 es (length xs) (k, e) l in
      (l, omega (arith, ap (λ (q : ℕ × Entry). q.0) p), ap (λ (q : ℕ × Entry). q.1) p)

  -- There were as many as entries.
  pub turns : result ≡ None → length xs ≡ length es
  turns is = (YieldsList-end numbered xs now so_far result next is steps).1 ∙ length-enumerate_from 0 es

-- A journal has an entry for each 24 bytes.
pub length_entries : (journal : List ℕ) → length (map entry_of (entries journal)) ≡ length journal / 24
unfolding entries
length_entries journal = length-map (groups 24 (length journal / 24) journal) entry_of ∙ length_groups 24 (length journal / 24) journal
