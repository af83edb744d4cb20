-- "A zone's tally reads the site, the entries and, of their answers, event and refusal. T and L are whole numbers, negative too, and
-- start at 0."
use Rattle.std.specs.Prelude.{ℕ, ◌-◌, List, [], ◌∷◌, not, ◌&&◌, eqb, ℤ, pos, neg_ℤ, ◌+ℤ◌, ◌-ℤ◌, if◌then◌else◌, Option, Some, None}
use Rattle.std.specs.Int.Signed.{le_z}
use Rattle.model.specs.Numbers as n
use Rattle.model.specs.Site.{records, zone_of, point_of, is_at, find_in}
use Rattle.model.specs.State.{panel, find, count}
use Rattle.model.specs.Entry.{entry_of, operation_of}
use Rattle.model.specs.Step.{is_negative}
use Rattle.model.specs.Lists.{Worked, event_in, refusal_in, History, ended, worked}
use Rattle.model.specs.declared.Entry.{Entry}
use Rattle.model.specs.declared.Operation.{Operation}
use Rattle.model.specs.declared.Operation.TheVariants.{Factor, SetCount, AdjustCount, SetDisable, SetService}

-- "L is T's lowest standing".
pub record Tally : Type 0 where
  pub T : ℤ
  pub L : ℤ

-- "the smaller of" two whole numbers.
unfoldable pub smaller : ℤ → ℤ → ℤ
smaller a b = if le_z a b then a else b

-- "After each move L becomes the smaller of L and T."
unfoldable pub move : ℤ → Tally → Tally
move d t = record { T = t.T +ℤ d; L = smaller t.L (t.T +ℤ d) }

-- "An accepted (refusal 0) operation 2 on the zone makes both its amount."
unfoldable pub set_to : ℕ → Tally
set_to amount = record { T = pos amount; L = pos amount }

-- "its signed amount".
unfoldable pub signed : ℕ → ℤ
signed amount = if is_negative amount then neg_ℤ (pos (n.modulus - amount)) else pos amount

-- "A granted (event 1) entry at a point with count adjust is a counted passage of a counting zone: in, if the zone is the point's Zone_To
-- (T gains 1), or out, if it is its Zone_From (T loses 1)." The zone z; p the point's record.
unfoldable pub passed : ℕ → List (List ℕ) → List ℕ → Tally → Tally
passed z ss p t =
    if not ((point_of p).count_adjust && (zone_of (find_in (is_at n.access_zone z) ss)).counting) then t else
    if eqb (point_of p).zone_to.0 z then move (pos 1) t else
    if eqb (point_of p).zone_from.0 z then move (neg_ℤ (pos 1)) t else
    t

-- One entry, with the event and the refusal of its answer. "Any other entry changes neither."
abbrev pub tallied_as : Option Operation → ℕ → List (List ℕ) → Entry → ℕ → ℕ → Tally → Tally
tallied_as (Some Factor) z ss e event refusal t =
    if eqb event n.granted then passed z ss (find_in (is_at n.access_point e.instance) ss) t else t
tallied_as (Some SetCount) z ss e event refusal t =
    if eqb refusal n.not_refused && eqb e.instance z then set_to e.amount else t
tallied_as (Some AdjustCount) z ss e event refusal t =
    if eqb refusal n.not_refused && eqb e.instance z then move (signed e.amount) t else t
tallied_as (Some SetDisable) z ss e event refusal t = t
tallied_as (Some SetService) z ss e event refusal t = t
tallied_as None z ss e event refusal t = t

-- One worked entry: the tally reads its "event and refusal".
unfoldable pub tallied : ℕ → List (List ℕ) → Worked → Tally → Tally
tallied z ss w t =
    tallied_as (operation_of (entry_of w.entry).operation) z ss (entry_of w.entry) (event_in w.answer) (refusal_in w.answer) t

-- Worked entries, in turn.
unfoldable pub tally : ℕ → List (List ℕ) → List Worked → Tally → Tally
tally z ss [] t = t
tally z ss (w ∷ ws) t = tally z ss ws (tallied z ss w t)

-- The zone's tally over a list; T and L "start at 0".
unfoldable pub tally_of : ℕ → History → Tally
tally_of z h = tally z (records h.site) (worked h) (set_to 0)

-- T less the smaller of zero and L.
unfoldable pub standing : Tally → ℤ
standing t = t.T -ℤ smaller (pos 0) t.L

-- "the count meant is that in the zone's state record"
unfoldable pub count_of : ℕ → History → ℕ
count_of z h = count (find n.access_zone z (panel h.site (ended h))).1
