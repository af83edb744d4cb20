-- Step 9: "AUTHORIZE only, over enabled rules of both rights."
use Prim.Native.Nat.{ℕ}
use mathlib.Core.Path.{◌≡◌, refl}
use mathlib.Core.List.{List, [], ◌∷◌, ◌++◌, map}
use Rattle.cases.proofs.Change.{Field, with_fields}
use Rattle.cases.proofs.Fields.{instance, flags, mode, zone_to_field, zone_from_field, location_kind_field, weekdays, location, from_minute_field, to_minute_field, first_rights, second_rights}
use Rattle.cases.proofs.Bytes.{door, hall, yard, rule, person, entry, shows, site, from_new, told, bytes}

-- The site of point 2 in AUTHORIZE, from zone 8 into zone 7, where credential 5 has rights 9; rules with fields changed, and other objects.
unfoldable pub ruled : List (List Field) → List (List ℕ) → List (List ℕ)
ruled rs others =
    map (λ fs. with_fields fs rule) rs ++ others
    ++ (hall ∷ yard ∷ site (mode 0 ∷ zone_to_field 7 ∷ zone_from_field 8 ∷ []) (first_rights 9 ∷ []) [])

-- The events of the card at 0, and at the times given.
unfoldable pub under : List (List Field) → List ℕ
under rs = told (from_new (ruled rs []) (shows 0 0x55 ∷ []))

unfoldable pub during : List (List Field) → List ℕ → List ℕ
during rs times = told (from_new (ruled rs []) (map (λ time. shows time 0x55) times))

-- The event where credential 5 has these rights, beside an always fitting rule of rights 9.
unfoldable pub holding : ℕ → ℕ → List ℕ
holding first second =
    told (from_new (rule ∷ site (mode 0 ∷ []) (first_rights first ∷ second_rights second ∷ []) []) (shows 0 0x55 ∷ []))

-- The event at a point without zones.
unfoldable pub outside : List (List Field) → List ℕ
outside rs =
    told (from_new (map (λ fs. with_fields fs rule) rs ++ (hall ∷ site (mode 0 ∷ []) (first_rights 9 ∷ []) [])) (shows 0 0x55 ∷ []))

pub record Rights : Type 0 where
  -- "over enabled rules of both rights": the first, the second, both, none of them. "A missing rights number is ignored."
  of_both :
      holding 9 4194303 ++ holding 4194303 9 ++ holding 9 9 ++ holding 10 9 ++ holding 10 11 ++ holding 4194303 4194303
      ≡ 1 ∷ 1 ∷ 1 ∷ 1 ∷ 134 ∷ 134 ∷ []
  -- "real instances are smaller" than NONE: the first and the last of them.
  real :
      told (from_new (with_fields (instance 0 ∷ []) rule ∷ site (mode 0 ∷ []) (first_rights 0 ∷ []) []) (shows 0 0x55 ∷ []))
      ++ told (from_new (with_fields (instance 4194302 ∷ []) rule ∷ site (mode 0 ∷ []) (second_rights 4194302 ∷ []) []) (shows 0 0x55 ∷ []))
      ≡ 1 ∷ 1 ∷ []
  -- "enabled".
  enabled : under ([] ∷ []) ++ under ((flags 4 ∷ []) ∷ []) ≡ 1 ∷ 133 ∷ []
  -- "Instances are numbered per object type": a credential 9 with the flags of a rule is none.
  a_credential : told (from_new (ruled [] (with_fields (instance 9 ∷ flags 13 ∷ []) person ∷ [])) (shows 0 0x55 ∷ [])) ≡ 133 ∷ []

pub rights : Rights
unfolding bytes ruled under holding
rights = record { of_both = refl; real = refl; enabled = refl; a_credential = refl }

pub record Locations : Type 0 where
  -- "A location fits if everywhere, this point, or its Zone_To."
  fits :
      under ((flags 13 ∷ location_kind_field 0 ∷ location 0 ∷ []) ∷ []) ++ under ([] ∷ []) ++ under ((location_kind_field 1 ∷ location 7 ∷ []) ∷ [])
      ≡ 1 ∷ 1 ∷ 1 ∷ []
  -- Another point, whose number is not the card's format.
  another_point :
      told
      (from_new
      (with_fields (location 3 ∷ []) rule ∷ with_fields (instance 3 ∷ mode 0 ∷ []) door ∷ site [] (first_rights 9 ∷ []) [])
      (entry 1 2 0 3 0 0x55 ∷ []))
      ≡ 1 ∷ []
  -- The zone of the last real instance.
  last_zone :
      told
      (from_new
      (with_fields (location_kind_field 1 ∷ location 4194302 ∷ []) rule ∷ with_fields (instance 4194302 ∷ []) hall
      ∷ site (mode 0 ∷ zone_to_field 4194302 ∷ []) (first_rights 9 ∷ []) [])
      (shows 0 0x55 ∷ []))
      ≡ 1 ∷ []
  -- Zone_From does not; nor other points, a point with the number of Zone_To, a zone with the number of the point.
  elsewhere :
      under ((location_kind_field 1 ∷ location 8 ∷ []) ∷ [])
      ++ told (from_new (ruled ((location 1 ∷ []) ∷ []) (with_fields (instance 1 ∷ []) door ∷ [])) (shows 0 0x55 ∷ []))
      ++ told (from_new (ruled ((location 3 ∷ []) ∷ []) (with_fields (instance 3 ∷ []) door ∷ [])) (shows 0 0x55 ∷ []))
      ++ told (from_new (ruled ((location 7 ∷ []) ∷ []) (with_fields (instance 7 ∷ []) door ∷ [])) (shows 0 0x55 ∷ []))
      ++ told (from_new (ruled ((location_kind_field 1 ∷ []) ∷ []) (with_fields (instance 2 ∷ []) hall ∷ [])) (shows 0 0x55 ∷ []))
      ≡ 133 ∷ 133 ∷ 133 ∷ 133 ∷ 133 ∷ []
  -- "else 133 with a Zone_To, 134 without".
  without_zone :
      outside ((flags 13 ∷ location_kind_field 0 ∷ location 0 ∷ []) ∷ []) ++ outside ([] ∷ []) ++ outside ((location_kind_field 1 ∷ location 7 ∷ []) ∷ [])
      ≡ 1 ∷ 1 ∷ 134 ∷ []

pub locations : Locations
unfolding bytes ruled under outside
locations = record { fits = refl; another_point = refl; last_zone = refl; elsewhere = refl; without_zone = refl }

-- An enabled rule at point 2 on these days, from a minute to another.
abbrev pub on : ℕ → ℕ → ℕ → List Field
on ds from to = flags 1 ∷ weekdays ds ∷ from_minute_field from ∷ to_minute_field to ∷ []

pub record Times : Type 0 where
  -- "bit 0 Monday to bit 6 Sunday": Tuesday, Thursday and Saturday.
  each_day :
      during (on 0x2A 0 1440 ∷ []) (0 ∷ 86400 ∷ 172800 ∷ 259200 ∷ 345600 ∷ 432000 ∷ 518400 ∷ []) ≡ 136 ∷ 1 ∷ 136 ∷ 1 ∷ 136 ∷ 1 ∷ 136 ∷ []
  -- Sunday: from the end of Saturday to the Monday after it; a week later.
  sunday :
      during (on 0x40 0 1440 ∷ []) (518399 ∷ 518400 ∷ 604799 ∷ 604800 ∷ 1123199 ∷ 1123200 ∷ 1209599 ∷ 1209600 ∷ [])
      ≡ 136 ∷ 1 ∷ 1 ∷ 136 ∷ 136 ∷ 1 ∷ 1 ∷ 136 ∷ []
  -- Monday: of three weeks.
  monday :
      during (on 0x01 0 1440 ∷ []) (0 ∷ 86399 ∷ 86400 ∷ 604799 ∷ 604800 ∷ 1209600 ∷ []) ≡ 1 ∷ 1 ∷ 136 ∷ 136 ∷ 1 ∷ 1 ∷ []
  -- "from ≤ minute of day < to": from 10 to 20, on the first and on the fourth day.
  minutes :
      during (on 0x7F 10 20 ∷ []) (599 ∷ 600 ∷ 1199 ∷ 1200 ∷ 259799 ∷ 259800 ∷ 260399 ∷ 260400 ∷ [])
      ≡ 136 ∷ 1 ∷ 1 ∷ 136 ∷ 136 ∷ 1 ∷ 1 ∷ 136 ∷ []
  -- The last minute and the first; no minute at all.
  last_minute : during (on 0x7F 1439 1440 ∷ []) (86339 ∷ 86340 ∷ 86399 ∷ 86400 ∷ []) ≡ 136 ∷ 1 ∷ 1 ∷ 136 ∷ []
  first_minute : during (on 0x7F 0 1 ∷ []) (0 ∷ 59 ∷ 60 ∷ 86399 ∷ 86400 ∷ []) ≡ 1 ∷ 1 ∷ 136 ∷ 136 ∷ 1 ∷ []
  no_minute : during (on 0x7F 10 10 ∷ []) (599 ∷ 600 ∷ 660 ∷ []) ≡ 136 ∷ 136 ∷ 136 ∷ []

pub times : Times
unfolding bytes ruled during
times =
    record {
      each_day = refl;
      sunday = refl;
      monday = refl;
      minutes = refl;
      last_minute = refl;
      first_minute = refl;
      no_minute = refl;
    }

pub record Signs : Type 0 where
  -- "Fitting negative: 135", before or after a fitting positive in the file; of the second rights too.
  negative :
      under ((flags 7 ∷ []) ∷ [] ∷ []) ++ under ([] ∷ (flags 7 ∷ []) ∷ [])
      ++ told
      (from_new
      (rule ∷ with_fields (flags 7 ∷ instance 10 ∷ []) rule ∷ site (mode 0 ∷ []) (first_rights 9 ∷ second_rights 10 ∷ []) [])
      (shows 0 0x55 ∷ []))
      ≡ 135 ∷ 135 ∷ 135 ∷ []
  -- A negative that is disabled, of no rights of the credential, elsewhere, or outside its hours does not fit.
  unfit :
      under ((flags 6 ∷ []) ∷ [] ∷ []) ++ under ((flags 7 ∷ instance 10 ∷ []) ∷ [] ∷ [])
      ++ under ((flags 7 ∷ location_kind_field 1 ∷ location 8 ∷ []) ∷ [] ∷ [])
      ++ under ((flags 3 ∷ weekdays 0x7F ∷ from_minute_field 10 ∷ to_minute_field 20 ∷ []) ∷ [] ∷ [])
      ≡ 1 ∷ 1 ∷ 1 ∷ 1 ∷ []
  -- 135 before 136 and 133.
  negative_first : under ((flags 7 ∷ []) ∷ on 0x7F 10 20 ∷ []) ++ under ((flags 7 ∷ []) ∷ []) ≡ 135 ∷ 135 ∷ []
  -- "no fitting positive: 136 if a positive fits in location": out of its hours, and beside another elsewhere; without a Zone_To too; of
  -- the second rights.
  out_of_time :
      under (on 0x7F 10 20 ∷ []) ++ under (on 0x7F 10 20 ∷ (location_kind_field 1 ∷ location 8 ∷ []) ∷ []) ++ outside (on 0x7F 10 20 ∷ [])
      ++ told (from_new (with_fields (on 0x7F 10 20) rule ∷ site (mode 0 ∷ []) (second_rights 9 ∷ []) []) (shows 0 0x55 ∷ []))
      ≡ 136 ∷ 136 ∷ 136 ∷ 136 ∷ []
  -- "else 133": the located one is negative, disabled, of other rights.
  not_located :
      under ((flags 3 ∷ weekdays 0x7F ∷ from_minute_field 10 ∷ to_minute_field 20 ∷ []) ∷ [])
      ++ under ((flags 0 ∷ weekdays 0x7F ∷ from_minute_field 10 ∷ to_minute_field 20 ∷ []) ∷ [])
      ++ under ((flags 1 ∷ instance 10 ∷ weekdays 0x7F ∷ from_minute_field 10 ∷ to_minute_field 20 ∷ []) ∷ [])
      ≡ 133 ∷ 133 ∷ 133 ∷ []
  -- The last of several fits.
  last : under ((flags 4 ∷ []) ∷ (instance 10 ∷ []) ∷ on 0x7F 10 20 ∷ [] ∷ []) ≡ 1 ∷ []
  -- "AUTHORIZE only": in GRANT_ACTIVE no rule is asked.
  grant_active : told (from_new (with_fields (flags 7 ∷ []) rule ∷ site [] (first_rights 9 ∷ []) []) (shows 0 0x55 ∷ [])) ≡ 1 ∷ []

pub signs : Signs
unfolding bytes ruled under outside
signs =
    record {
      negative = refl;
      unfit = refl;
      negative_first = refl;
      out_of_time = refl;
      not_located = refl;
      last = refl;
      grant_active = refl;
    }
