-- What is sought by the index: an object, a factor, a twin. Each is of one bucket and of one kind.
use Rattle.std.specs.Prelude.{Option, Some, None}
use Prim.Native.Nat.{ℕ}
use mathlib.Core.Path.{◌≡◌, sym}
use mathlib.Core.List.{List}
use mathlib.Core.Bool.{true, false, ◌&&◌, ◌||◌}
use lib.Dec.{eqb}
use borrow.Author.Tests.{eqb-true, eqb-false}
use Rattle.octets.specs.Octets.{field}
use Rattle.model.specs.Numbers.{access_rule, authentication_factor, role_identifying, role_confirming}
use Rattle.model.specs.Site.{kind, role, is_at}
use Rattle.model.specs.Accept.{twins}
use Rattle.model.specs.Checks.{presents, identifying, confirming}
use Rattle.model.specs.declared.CredentialId.{CredentialId}
use Rattle.model.proofs.Laws.{and_left, or_left, or_right, kind_at}
use Rattle.index.specs.Index.{ByInstance, factor_bucket, bucket_of}
use Rattle.index.proofs.Buckets.{identifying_bucket, confirming_bucket}
use Rattle.site.specs.Factor.{fits_as, fits, presented_owner, presented_bucket}
use Rattle.site.specs.declared.Presented.{Presented}

-- Records of any kind but those of rules and factors are looked up by their instance.
pub by_instance : (k : ℕ) → eqb k access_rule || eqb k authentication_factor ≡ false → ByInstance k
by_instance k h =
    let other = eqb-false k access_rule (or_left (eqb k access_rule) (eqb k authentication_factor) h) in
    (other, eqb-false k authentication_factor (or_right (eqb k access_rule) (eqb k authentication_factor) h))

-- A factor that fits what is presented, as one that confirms or as one that identifies.
module _ (p : Presented) (s : List ℕ) where
  pub fits_bucket : fits p s ≡ true → bucket_of s ≡ presented_bucket p
  unfolding fits presented_bucket
  fits_bucket h = go p.confirms h
    where
      go : (c : Option CredentialId) → fits_as c p.format p.value s ≡ true
          → bucket_of s ≡ factor_bucket p.format (field 0 4 p.value) (field 4 4 p.value) (presented_owner c)
      go (Some c) h = confirming_bucket c p.format p.value s h
      go None h = identifying_bucket p.format p.value s h

  pub fits_kind : fits p s ≡ true → kind s ≡ authentication_factor
  unfolding fits identifying confirming
  fits_kind h = go p.confirms h
    where
      go : (c : Option CredentialId) → fits_as c p.format p.value s ≡ true → kind s ≡ authentication_factor
      go (Some c) h = kind_at authentication_factor c.0 s (and_left (is_at authentication_factor c.0 s) (eqb (role s) role_confirming && presents p.format p.value s) h)
      go None h = eqb-true (kind s) authentication_factor (and_left (eqb (kind s) authentication_factor) (eqb (role s) role_identifying && presents p.format p.value s) h)

-- Twins are of one kind.
pub twins_kind : (s t : List ℕ) → twins s t ≡ true → kind t ≡ kind s
unfolding twins
twins_kind s t h = sym (eqb-true (kind s) (kind t) (and_left (eqb (kind s) (kind t)) _ h))
