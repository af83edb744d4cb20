-- The tags of a chain: where one is missing, no rule of its class is left.
use Rattle.std.specs.Prelude.{if◌then◌else◌}
use Prim.Native.Nat.{ℕ, zero, suc, ◌/◌, ◌%◌, ◌^◌, ◌<◌}
use mathlib.Core.Path.{◌≡◌, refl, sym, ◌∙◌}
use mathlib.Core.List.{List, [], ◌∷◌}
use mathlib.Core.Bool.{Bool, true, false, false≢true}
use native.Mathlib.Nat.{one-mul, zero-div}
use native.Mathlib.Omega.{arith}
use lib.Bits.{bit_or, or_shr, or_mod, or_comm}
use lib.Dec.{eqb}
use lib.ListN.{length}
use lib.Pow.{shl-shr}
use borrow.Author.Tests.{eqb-true, eq-eqb}
use Rattle.model.specs.Words.{keep, bit}
use Rattle.model.specs.Numbers.{access_rule}
use Rattle.model.specs.Site.{kind}
use Rattle.model.proofs.Laws.{and_left, and_right}
use Rattle.index.specs.Index.{tags, class_of_rule, bucket_of, in_class, mark_of, tags_of}

-- A bit of either of two numbers is a bit of their union.
one_or : (x : ℕ) → x < 2 → bit_or 1 x ≡ 1
one_or zero h = refl
one_or (suc zero) h = refl
one_or (suc (suc x)) h = absurd (omega arith)

either : (a b t : ℕ) → bit a t ≡ true → bit (bit_or a b) t ≡ true
either a b t e = rw (or_shr a b t, or_mod (a / 2 ^ t) (b / 2 ^ t) 1, eqb-true (a / 2 ^ t % 2) 1 e, one_or (b / 2 ^ t % 2) (omega arith))

own_bit : (t : ℕ) → bit (2 ^ t) t ≡ true
own_bit t = rw (rw one-mul at (shl-shr 1 t))

-- A rule of a class has its tag in the chain.
rule_tag : (c : ℕ) (s : List ℕ) (ss : List (List ℕ)) → in_class c s ≡ true → bit (tags_of (c / tags) (s ∷ ss)) (c % tags) ≡ true
unfolding tags_of bucket_of mark_of
rule_tag c s ss e =
    let k : kind s ≡ access_rule = eqb-true (kind s) access_rule (and_left (eqb (kind s) access_rule) (eqb (class_of_rule s) c) e) in
    let q : class_of_rule s ≡ c = eqb-true (class_of_rule s) c (and_right (eqb (kind s) access_rule) (eqb (class_of_rule s) c) e) in
    rw (k, q, eq-eqb (c / tags) (c / tags) refl) (either (2 ^ (c % tags)) (tags_of (c / tags) ss) (c % tags) (own_bit (c % tags)))

-- A record before takes no tag away.
tag_stays : (b t : ℕ) (s : List ℕ) (ss : List (List ℕ)) → bit (tags_of b ss) t ≡ true → bit (tags_of b (s ∷ ss)) t ≡ true
unfolding tags_of
tag_stays b t s ss e = go (eqb (bucket_of s) b)
  where
    go : (c : Bool) → bit (if c then bit_or (mark_of s) (tags_of b ss) else tags_of b ss) t ≡ true
    go true = rw or_comm (either (tags_of b ss) (mark_of s) t e)
    go false = e

-- Where a tag is in a chain, a record is left; where one is not, no rule of its class is.
pub some_left : (b t : ℕ) (ss : List (List ℕ)) → bit (tags_of b ss) t ≡ true → 0 < length ss
unfolding tags_of
some_left b t [] e = absurd (false≢true (rw zero-div at e))
some_left b t (s ∷ ss) e = omega arith

pub none_left : (c : ℕ) (ss : List (List ℕ)) → bit (tags_of (c / tags) ss) (c % tags) ≡ false → keep (in_class c) ss ≡ []
none_left c [] e = refl
none_left c (s ∷ ss) e = go (in_class c s) refl (bit (tags_of (c / tags) ss) (c % tags)) refl (none_left c ss)
  where
    go : (x : Bool) → in_class c s ≡ x → (y : Bool) → bit (tags_of (c / tags) ss) (c % tags) ≡ y → (y ≡ false → keep (in_class c) ss ≡ [])
        → if x then s ∷ keep (in_class c) ss else keep (in_class c) ss ≡ []
    go true p y q ih = absurd (false≢true (sym e ∙ rule_tag c s ss p))
    go false p true q ih = absurd (false≢true (sym e ∙ tag_stays (c / tags) (c % tags) s ss q))
    go false p false q ih = ih refl
