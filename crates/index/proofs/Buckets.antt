-- What is looked up is in the bucket in which it is sought.
use Rattle.std.specs.Prelude.{if◌then◌else◌, Some, None}
use Prim.Native.Nat.{ℕ}
use mathlib.Core.Path.{◌≡◌, refl, sym, ap, ◌∙◌}
use mathlib.Core.List.{List}
use mathlib.Core.Bool.{Bool, true, false, false≢true, ◌&&◌, ◌||◌}
use native.Mathlib.Omega.{arith}
use lib.Dec.{eqb}
use borrow.Author.Tests.{eqb-true, ne_eqb}
use Rattle.octets.specs.Octets.{field, same}
use Rattle.octets.proofs.Laws.{field_part, same_eq, same_refl}
use Rattle.model.specs.Numbers.{access_zone, access_point, access_rule, access_credential, authentication_factor, role_identifying, role_confirming}
use Rattle.model.specs.Site.{kind, record_kind, instance, role, format, value, is_at}
use Rattle.model.specs.Checks.{presents, identifying, confirming}
use Rattle.model.specs.Accept.{twin_factors, twins_as, twins}
use Rattle.model.specs.declared.CredentialId.{CredentialId}
use Rattle.model.specs.declared.RecordKind.TheVariants.{OfZone, OfPoint, OfCredential}
use Rattle.model.proofs.Laws.{and_left, and_right}
use Rattle.index.specs.Index.{ByInstance, object_bucket, factor_bucket, owner, bucket_of}

-- The two words of a value.
words : (s read : List ℕ) → same (value s) read ≡ true → (field 16 4 s ≡ field 0 4 read) × (field 20 4 s ≡ field 4 4 read)
words s read e =
    let v : value s ≡ read = (same_eq (value s) read).0 e in
    (sym (field_part 0 4 16 8 s (omega arith)) ∙ ap (field 0 4) v, sym (field_part 4 4 16 8 s (omega arith)) ∙ ap (field 4 4) v)

-- A zone, a point or a credential.
pub object_bucket_law : (k i : ℕ) → ByInstance k → (s : List ℕ) → is_at k i s ≡ true → bucket_of s ≡ object_bucket k i
unfolding bucket_of
object_bucket_law k i n s e =
    let p : kind s ≡ k = eqb-true (kind s) k (and_left (eqb (kind s) k) (eqb (instance s) i) e) in
    let q : instance s ≡ i = eqb-true (instance s) i (and_right (eqb (kind s) k) (eqb (instance s) i) e) in
    rw (p, q, ne_eqb k authentication_factor n.1, ne_eqb k access_rule n.0)

-- A factor of a format, a value and an owner.
factor_bucket_law : (form : ℕ) (read : List ℕ) (who : ℕ) (s : List ℕ) → eqb (kind s) authentication_factor ≡ true → presents form read s ≡ true
    → owner s ≡ who → bucket_of s ≡ factor_bucket form (field 0 4 read) (field 4 4 read) who
unfolding bucket_of presents
factor_bucket_law form read who s k p o =
    let w = words s read (and_right (eqb (format s) form) (same (value s) read) p) in
    let f : format s ≡ form = eqb-true (format s) form (and_left (eqb (format s) form) (same (value s) read) p) in
    rw (k, f, w.0, w.1, o)

pub identifying_bucket : (form : ℕ) (read : List ℕ) (s : List ℕ) → identifying form read s ≡ true
    → bucket_of s ≡ factor_bucket form (field 0 4 read) (field 4 4 read) 0
unfolding identifying owner
identifying_bucket form read s e =
    let i = eqb (role s) role_identifying in
    let r = and_right (eqb (kind s) authentication_factor) (i && presents form read s) e in
    factor_bucket_law form read 0 s (and_left (eqb (kind s) authentication_factor) (i && presents form read s) e) (and_right i (presents form read s) r)
    (rw (and_left i (presents form read s) r))

pub confirming_bucket : (c : CredentialId) (form : ℕ) (read : List ℕ) (s : List ℕ) → confirming c form read s ≡ true
    → bucket_of s ≡ factor_bucket form (field 0 4 read) (field 4 4 read) c.0
unfolding confirming owner
confirming_bucket c form read s e =
    let i = eqb (role s) role_confirming in
    let a = and_left (is_at authentication_factor c.0 s) (i && presents form read s) e in
    let r = and_right (is_at authentication_factor c.0 s) (i && presents form read s) e in
    let o : role s ≡ role_confirming = eqb-true (role s) role_confirming (and_left i (presents form read s) r) in
    let n : instance s ≡ c.0 = eqb-true (instance s) c.0 (and_right (eqb (kind s) authentication_factor) (eqb (instance s) c.0) a) in
    factor_bucket_law form read c.0 s (and_left (eqb (kind s) authentication_factor) (eqb (instance s) c.0) a) (and_right i (presents form read s) r)
    (rw (o, n))

-- Twins share a bucket.
twin_owner : (s t : List ℕ) → role s ≡ role t → eqb (role s) role_identifying || eqb (instance s) (instance t) ≡ true → owner t ≡ owner s
unfolding owner
twin_owner s t r e = rw (← r) (go (eqb (role s) role_identifying) e)
  where
    go : (c : Bool) → c || eqb (instance s) (instance t) ≡ true → if c then 0 else instance t ≡ if c then 0 else instance s
    go true h = refl
    go false h = sym (eqb-true (instance s) (instance t) h)

twin_factors_law : (s t : List ℕ) → eqb (kind t) authentication_factor ≡ true → twin_factors s t ≡ true
    → bucket_of t ≡ factor_bucket (format s) (field 16 4 s) (field 20 4 s) (owner s)
unfolding bucket_of twin_factors
twin_factors_law s t k e =
    let r = eqb (role s) (role t) in
    let f = eqb (format s) (format t) in
    let v = same (value s) (value t) in
    let o = eqb (role s) role_identifying || eqb (instance s) (instance t) in
    let rfv = and_left (r && f && v) o e in
    let rf = and_left (r && f) v rfv in
    let w = words s (value t) (and_right (r && f) v rfv) in
    let x = words t (value t) (same_refl (value t)) in
    rw (
      k,
      twin_owner s t (eqb-true (role s) (role t) (and_left r f rf)) (and_right (r && f && v) o e),
      ← eqb-true (format s) (format t) (and_right r f rf),
      x.0,
      x.1,
      ← w.0,
      ← w.1,
    )

pub twins_bucket : (s t : List ℕ) → twins s t ≡ true → bucket_of t ≡ bucket_of s
unfolding twins bucket_of
twins_bucket s t e = sym (go (eqb (kind s) authentication_factor) refl (eqb (kind s) access_rule) refl (and_right (eqb (kind s) (kind t)) alike_as e))
  where
    alike_as : Bool
    alike_as = twins_as (record_kind s) s t

    alike : kind s ≡ kind t
    alike = eqb-true (kind s) (kind t) (and_left (eqb (kind s) (kind t)) alike_as e)

    -- Neither a rule nor a factor, whatever it is of the others.
    object : (z p c : Bool) → twins_as (if z then Some OfZone else if p then Some OfPoint else if c then Some OfCredential else None) s t ≡ eqb (instance s) (instance t)
    object true p c = refl
    object false true c = refl
    object false false true = refl
    object false false false = refl

    go : (c : Bool) → eqb (kind s) authentication_factor ≡ c → (d : Bool) → eqb (kind s) access_rule ≡ d → alike_as ≡ true → bucket_of s ≡ bucket_of t
    go c p true q h = absurd (false≢true (rw (eqb-true (kind s) access_rule q) at h))
    go true p false q h = rw p (sym (twin_factors_law s t (rw (← alike) p) (rw (eqb-true (kind s) authentication_factor p) at h)))
    go false p false q h =
        let o = object (eqb (kind s) access_zone) (eqb (kind s) access_point) (eqb (kind s) access_credential) in
        rw (p, q, ← alike, p, q, eqb-true (instance s) (instance t) (sym o ∙ rw (p, q) at h))
