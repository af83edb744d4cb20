-- A shift across midnight and its two halves: what they share, and that the shift fits exactly when one of them does.
use Prim.Native.Nat.{ℕ, zero, suc, ◌+◌, ◌-◌, ◌/◌, ◌%◌, ◌≤◌, ◌<◌}
use native.Mathlib.Nat.{min-le_right}
use native.Mathlib.Numerals.{add-one}
use native.Mathlib.Omega.{arith}
use mathlib.Core.Path.{◌≡◌, refl, sym, ◌∙◌, ap}
use mathlib.Core.List.{List}
use mathlib.Core.Bool.{Bool, true, false, not, ◌&&◌, ◌||◌, and-true, and-false, or-true, or_self}
use lib.Dec.{ltb, leb, eqb-suc-zero}
use lib.ListN.{length, take, drop, length-take, length-drop}
use borrow.Author.Tests.{ltb-true, leb-true, eqb-true, lt-ltb, le-ltb, le-leb, not-false}
use Rattle.octets.specs.Octets.{put}
use Rattle.octets.proofs.Laws.{length_put, drop_put, get_put_same, get_put_before, get_put_after, same_eq}
use Rattle.model.specs.Words.{bit, zeros, within}
use Rattle.model.specs.Numbers as n
use Rattle.model.specs.Site.{kind, flags, instance, always, everywhere, location_kind, weekdays, location, from_minute, to_minute}
use Rattle.model.specs.Accept.{clear, real, location_in_range, rule_in_range, in_range}
use Rattle.model.specs.Checks.{weekday, weekday_before, minute_of_day, crosses_midnight, fits_within_day, fits_past_midnight, time_fits}
use Rattle.model.specs.Shifts.{is_rule, is_shift, following_days, until_midnight, since_midnight}
use Rattle.model.specs.Demands.{ShiftHalves}
use Rattle.model.proofs.Bits.{bit_above, bit_mod}
use Rattle.model.proofs.Laws.{and_left, and_right, or_left, or_right}

-- ── a rule in range

-- What is used of it.
pub record RuleRange (s : List ℕ) : Type 0 where
  pub days_in : ltb (weekdays s) 128 ≡ true
  pub place_in : location_in_range s ≡ true
  pub from_in : leb (from_minute s) n.minutes_of_day ≡ true
  pub spare_in : clear 16 16 s ≡ true

pub rule_range : (s : List ℕ) → rule_in_range s ≡ true → RuleRange s
unfolding rule_in_range
rule_range s h =
    let a = ltb (flags s) 16 && ltb (weekdays s) 128 in
    let b = a && location_in_range s in
    let c = b && leb (from_minute s) n.minutes_of_day in
    let d = c && leb (to_minute s) n.minutes_of_day in
    let minutes = and_left d (clear 16 16 s) h in
    let from = and_left c (leb (to_minute s) n.minutes_of_day) minutes in
    let place = and_left b (leb (from_minute s) n.minutes_of_day) from in
    let first = and_left a (location_in_range s) place in
    record {
      days_in = and_right (ltb (flags s) 16) (ltb (weekdays s) 128) first;
      place_in = and_right a (location_in_range s) place;
      from_in = and_right b (leb (from_minute s) n.minutes_of_day) from;
      spare_in = and_right d (clear 16 16 s) h;
    }

-- Not everywhere, it is at a zone or a point.
pub rule_location : (s : List ℕ) → RuleRange s → everywhere s ≡ false → (n.access_zone ≤ location_kind s) × (location_kind s ≤ n.access_point)
rule_location s r e =
    let inside : within n.access_zone n.access_point (location_kind s) && real (location s) ≡ true = rw e at r.place_in in
    let w = and_left (within n.access_zone n.access_point (location_kind s)) (real (location s)) inside in (
      leb-true n.access_zone (location_kind s) (and_left (leb n.access_zone (location_kind s)) (leb (location_kind s) n.access_point) w),
      leb-true (location_kind s) n.access_point (and_right (leb n.access_zone (location_kind s)) (leb (location_kind s) n.access_point) w),
    )

-- Its spare bytes are there.
pub whole_rule : (s : List ℕ) → RuleRange s → 32 ≤ length s
unfolding clear
whole_rule s r =
    let e : length (take 16 (drop 16 s)) ≡ 16 = ap length ((same_eq (take 16 (drop 16 s)) (zeros 16)).0 r.spare_in) in
    let m : 16 ≤ length (drop 16 s) = omega (arith, sym e ∙ length-take 16 (drop 16 s), min-le_right 16 (length (drop 16 s))) in
    let l = length-drop 16 s in
    omega arith

-- ── a record with other days or minutes

-- All fields of a rule but these.
pub record Like (s t : List ℕ) : Type 0 where
  pub same_kind : kind t ≡ kind s
  pub same_flags : flags t ≡ flags s
  pub same_place_kind : location_kind t ≡ location_kind s
  pub same_instance : instance t ≡ instance s
  pub same_place : location t ≡ location s
  pub same_spare : drop 16 t ≡ drop 16 s

module _ (s : List ℕ) (long : 32 ≤ length s) where
  days_like : (v : ℕ) → Like s (put 3 1 v s)
  days_like v =
      record {
        same_kind = get_put_before 3 1 v 0 1 s (omega arith) (omega arith);
        same_flags = get_put_before 3 1 v 1 1 s (omega arith) (omega arith);
        same_place_kind = get_put_before 3 1 v 2 1 s (omega arith) (omega arith);
        same_instance = get_put_after 3 1 v 4 4 s (omega arith) (omega arith);
        same_place = get_put_after 3 1 v 8 4 s (omega arith) (omega arith);
        same_spare = drop_put 3 1 v 16 s (omega arith) (omega arith);
      }

  minutes_like : (at v : ℕ) → 12 ≤ at → at ≤ 14 → Like s (put at 2 v s)
  minutes_like at v low high =
      record {
        same_kind = get_put_before at 2 v 0 1 s (omega arith) (omega arith);
        same_flags = get_put_before at 2 v 1 1 s (omega arith) (omega arith);
        same_place_kind = get_put_before at 2 v 2 1 s (omega arith) (omega arith);
        same_instance = get_put_before at 2 v 4 4 s (omega arith) (omega arith);
        same_place = get_put_before at 2 v 8 4 s (omega arith) (omega arith);
        same_spare = drop_put at 2 v 16 s (omega arith) (omega arith);
      }

like_trans : (s t u : List ℕ) → Like s t → Like t u → Like s u
like_trans s t u a b =
    record {
      same_kind = b.same_kind ∙ a.same_kind;
      same_flags = b.same_flags ∙ a.same_flags;
      same_place_kind = b.same_place_kind ∙ a.same_place_kind;
      same_instance = b.same_instance ∙ a.same_instance;
      same_place = b.same_place ∙ a.same_place;
      same_spare = b.same_spare ∙ a.same_spare;
    }

-- ── the halves

-- A bit below Sunday's.
low_bit : (d i : ℕ) → i < 6 → bit (d % 64) i ≡ bit d i
low_bit d i h =
    let e : suc (5 - i) + i ≡ 6 = omega arith in
    rw e at (bit_mod (5 - i) i d)

-- Before Monday is Sunday; before any other day, the one before it.
before_monday : weekday_before 0 ≡ 6
unfolding weekday_before
before_monday = refl

before_later : (i : ℕ) → weekday_before (suc i) ≡ i
unfolding weekday_before
before_later i = rw (eqb-suc-zero i) (omega arith)

-- The bit of a day among the following days is the bit of the day before.
next_bit : (d i : ℕ) → d < 128 → i < 7 → bit (following_days d) i ≡ bit d (weekday_before i)
unfolding following_days
next_bit d zero h k =
    let monday : following_days d / 1 % 2 ≡ d / 64 % 2 = omega arith in
    rw (before_monday, monday)
next_bit d (suc i) h k =
    let half : following_days d / 2 ≡ d % 64 = omega arith in
    let up : bit (d % 64) i ≡ bit (following_days d) (suc i) = rw (half, add-one i) at (bit_above (following_days d) i 1) in
    rw (before_later i) (sym up ∙ low_bit d i (omega arith))

-- A day has seven weekdays and 1,440 minutes.
weekday_below : (time : ℕ) → weekday time < 7
unfolding weekday
weekday_below time = omega arith

minute_below : (time : ℕ) → minute_of_day time < 1440
unfolding minute_of_day
minute_below time = omega arith

-- The fields of the halves.
module _ (s : List ℕ) (long : 32 ≤ length s) where
  pub until_like : Like s (until_midnight s)
  unfolding until_midnight
  until_like = minutes_like s long 14 n.minutes_of_day (omega arith) (omega arith)

  abbrev later : List ℕ
  later = put 3 1 (following_days (weekdays s)) s

  long_later : 32 ≤ length later
  long_later = rw (length_put 3 1 (following_days (weekdays s)) s (omega (arith, long))) long

  pub since_like : Like s (since_midnight s)
  unfolding since_midnight
  since_like = like_trans s later (since_midnight s) (days_like s long (following_days (weekdays s))) (minutes_like later long_later 12 0 (omega arith) (omega arith))

  until_days : weekdays (until_midnight s) ≡ weekdays s
  unfolding until_midnight
  until_days = get_put_before 14 2 n.minutes_of_day 3 1 s (omega (arith, long)) (omega arith)

  until_from : from_minute (until_midnight s) ≡ from_minute s
  unfolding until_midnight
  until_from = get_put_before 14 2 n.minutes_of_day 12 2 s (omega (arith, long)) (omega arith)

  until_to : to_minute (until_midnight s) ≡ n.minutes_of_day
  unfolding until_midnight
  until_to = get_put_same 14 1 n.minutes_of_day s (omega (arith, long))

  since_days : weekdays (since_midnight s) ≡ following_days (weekdays s)
  unfolding since_midnight
  since_days =
      get_put_before 12 2 0 3 1 later (omega (arith, long_later)) (omega arith) ∙ get_put_same 3 0 (following_days (weekdays s)) s (omega (arith, long))

  since_from : from_minute (since_midnight s) ≡ 0
  unfolding since_midnight
  since_from = get_put_same 12 1 0 later (omega (arith, long_later))

  since_to : to_minute (since_midnight s) ≡ to_minute s
  unfolding since_midnight
  since_to =
      get_put_after 12 2 0 14 2 later (omega (arith, long_later)) (omega arith)
      ∙ get_put_after 3 1 (following_days (weekdays s)) 14 2 s (omega (arith, long)) (omega arith)

  since_within : crosses_midnight (since_midnight s) ≡ false
  unfolding crosses_midnight
  since_within = rw (since_from, since_to) (le-ltb (to_minute s) 0 (omega arith))

-- The days after are days of the week.
following_in : (d : ℕ) → ltb d 128 ≡ true → ltb (following_days d) 128 ≡ true
unfolding following_days
following_in d h = let l = ltb-true d 128 h in lt-ltb (following_days d) 128 (omega arith)

-- A rule's range, and its instance's.
as_rule : (s : List ℕ) → kind s ≡ n.access_rule → in_range s ≡ real (instance s) && rule_in_range s
unfolding in_range
as_rule s k = rw k

-- The shift is in range exactly when both halves are.
pub range_halves : (s : List ℕ) → 32 ≤ length s → is_shift s ≡ true → not (in_range s) ≡ not (in_range (until_midnight s)) || not (in_range (since_midnight s))
unfolding is_shift rule_in_range clear
range_halves s long i =
    let k = eqb-true (kind s) n.access_rule (and_left (is_rule s) _ i) in
    let u = until_like s long in
    let v = since_like s long in
    rw (
      as_rule s k,
      as_rule (until_midnight s) (u.same_kind ∙ k),
      as_rule (since_midnight s) (v.same_kind ∙ k),
      u.same_instance,
      u.same_flags,
      u.same_place_kind,
      u.same_place,
      u.same_spare,
      until_days s long,
      until_from s long,
      until_to s long,
      v.same_instance,
      v.same_flags,
      v.same_place_kind,
      v.same_place,
      v.same_spare,
      since_days s long,
      since_from s long,
      since_to s long,
    )
    (halves (real (instance s)) (ltb (flags s) 16) (ltb (weekdays s) 128) (ltb (following_days (weekdays s)) 128) (location_in_range s)
    (leb (from_minute s) n.minutes_of_day) (leb (to_minute s) n.minutes_of_day) (clear 16 16 s) (following_in (weekdays s)))
  where
    halves : (a b c c' d f g h : Bool) → (c ≡ true → c' ≡ true) → not (a && (b && c && d && f && g && h))
        ≡ not (a && (b && c && d && f && true && h)) || not (a && (b && c' && d && true && g && h))
    halves false b c c' d f g h l = refl
    halves true false c c' d f g h l = refl
    halves true true false c' d f g h l = refl
    halves true true true c' false f g h l = refl
    halves true true true c' true false g h l = refl
    halves true true true c' true true false h l = rw (l refl) (sym (or-true (not h)))
    halves true true true c' true true true h l = rw (l refl) (sym (or_self (not h)))

module _ (s : List ℕ) (r : RuleRange s) where
  abbrev long : 32 ≤ length s
  long = whole_rule s r

  until_within : crosses_midnight (until_midnight s) ≡ false
  unfolding crosses_midnight
  until_within = rw (until_from s long, until_to s long) (le-ltb n.minutes_of_day (from_minute s) (leb-true _ _ r.from_in))

  -- The shift fits exactly when one of them does.
  until_fits : (time : ℕ) → time_fits time (until_midnight s) ≡ always s || bit (weekdays s) (weekday time) && leb (from_minute s) (minute_of_day time)
  unfolding time_fits fits_within_day
  until_fits time =
      rw ((until_like s long).same_flags, until_within, until_days s long, until_from s long, until_to s long, lt-ltb (minute_of_day time) n.minutes_of_day (minute_below time))
      (simp and-true)

  since_fits : (time : ℕ) → time_fits time (since_midnight s) ≡ always s || bit (weekdays s) (weekday_before (weekday time)) && ltb (minute_of_day time) (to_minute s)
  unfolding time_fits fits_within_day
  since_fits time =
      rw (
        (since_like s long).same_flags,
        since_within s long,
        since_days s long,
        since_from s long,
        since_to s long,
        next_bit (weekdays s) (weekday time) (ltb-true (weekdays s) 128 r.days_in) (weekday_below time),
        le-leb 0 (minute_of_day time) (omega arith),
      )
      (simp and-true)

  pub fits_halves : crosses_midnight s ≡ true → (time : ℕ) → time_fits time s ≡ time_fits time (until_midnight s) || time_fits time (since_midnight s)
  unfolding time_fits fits_past_midnight
  fits_halves c time =
      rw (c, until_fits time, since_fits time)
      (or_over (always s) (bit (weekdays s) (weekday time) && leb (from_minute s) (minute_of_day time)) _)
    where
      or_over : (a b d : Bool) → a || (b || d) ≡ (a || b) || (a || d)
      or_over true b d = refl
      or_over false b d = refl

-- ── a shift in range

pub shift_rule : (s : List ℕ) → in_range s ≡ true → is_shift s ≡ true → RuleRange s
unfolding is_shift
shift_rule s h i =
    let k = eqb-true (kind s) n.access_rule (and_left (is_rule s) (crosses_midnight s) i) in
    rule_range s (and_right (real (instance s)) (rule_in_range s) (sym (as_rule s k) ∙ h))

pub shift_halves : ShiftHalves
unfolding ShiftHalves is_shift
shift_halves s h i =
    let r = shift_rule s h i in
    let long = whole_rule s r in
    let both : not (in_range (until_midnight s)) || not (in_range (since_midnight s)) ≡ false = sym (range_halves s long i) ∙ ap not h in (
      fits_halves s r (and_right (is_rule s) (crosses_midnight s) i),
      within_day (until_midnight s) (or_left (not (in_range (until_midnight s))) (not (in_range (since_midnight s))) both) (until_within s r),
      within_day (since_midnight s) (or_right (not (in_range (until_midnight s))) (not (in_range (since_midnight s))) both) (since_within s long),
    )
  where
    within_day : (t : List ℕ) → not (in_range t) ≡ false → crosses_midnight t ≡ false → in_range t && not (is_rule t && crosses_midnight t) ≡ true
    within_day t r c = rw (not-false (in_range t) r, c, and-false (is_rule t))
