-- What is written of a number, a state record or an answer is read back.
use Prim.Native.Nat.{ℕ, suc}
use mathlib.Core.Path.{◌≡◌, refl}
use mathlib.Core.List.{[], append-nil}
use mathlib.Core.Bool.{Bool, true, false}
use lib.Dec.{eqb}
use lib.ListN.{length}
use Rattle.octets.specs.Octets.{field, digits}
use Rattle.octets.proofs.Laws.{field_digits}
use Rattle.model.specs.Words.{bit_of}
use Rattle.model.specs.Site.{zone_id, point_id, credential_id, reference}
use Rattle.model.specs.State.{count, zone_bytes, point_state_of, point_bytes, credential_state_of, credential_bytes}
use Rattle.model.specs.Entry.{answer_bytes}
use Rattle.model.specs.Lists.{event_in, refusal_in, credential_in}
use Rattle.model.specs.declared.Answer.{Answer}
use Rattle.model.specs.declared.PointState.{PointState}
use Rattle.model.specs.declared.CredentialState.{CredentialState}

-- A number of any width.
back : (w n : ℕ) → field 0 (suc w) (digits (suc w) n) ≡ n
back w n = rw append-nil at (field_digits 0 w n [] [] refl)

locked_back : (b : Bool) → eqb (field 0 1 (digits 1 (bit_of b))) 1 ≡ b
unfolding field digits
locked_back true = refl
locked_back false = refl

pub count_back : (n : ℕ) → count (zone_bytes n) ≡ n
unfolding zone_bytes field digits
count_back n = back 3 n

pub point_back : (p : PointState) → point_state_of (point_bytes p) ≡ p
unfolding point_state_of point_bytes field digits reference
point_back p =
    λ i. record {
      tag = back 3 p.tag i;
      failures = back 0 p.failures i;
      locked = locked_back p.locked i;
      lock_time = back 3 p.lock_time i;
      first_failure = back 3 p.first_failure i;
      waiting_credential = credential_id (back 3 p.waiting_credential.0 i);
      waiting_since = back 3 p.waiting_since i;
    }

pub credential_back : (c : CredentialState) → credential_state_of (credential_bytes c) ≡ c
unfolding credential_state_of credential_bytes field digits reference
credential_back c =
    λ i. record {
      uses = back 1 c.uses i;
      days = back 1 c.days i;
      last_use = back 3 c.last_use i;
      zone = zone_id (back 3 c.zone.0 i);
      entered = back 3 c.entered i;
      last_event = back 1 c.last_event i;
      disable = back 0 c.disable i;
      wrong_tries = back 0 c.wrong_tries i;
      last_point = point_id (back 3 c.last_point.0 i);
      last_grant = back 3 c.last_grant i;
    }

pub event_back : (a : Answer) → event_in (answer_bytes a) ≡ a.event
unfolding answer_bytes field digits
event_back a = back 1 a.event

pub refusal_back : (a : Answer) → refusal_in (answer_bytes a) ≡ a.refusal
unfolding answer_bytes field digits
refusal_back a = back 0 a.refusal

pub credential_named_back : (a : Answer) → credential_in (answer_bytes a) ≡ a.credential.0
unfolding answer_bytes field digits
credential_named_back a = back 3 a.credential.0

-- Every written record has 32 bytes, and every answer 16.
pub length_zone : (n : ℕ) → length (zone_bytes n) ≡ 32
unfolding zone_bytes digits
length_zone n = refl

pub length_point : (p : PointState) → length (point_bytes p) ≡ 32
unfolding point_bytes digits
length_point p = refl

pub length_credential : (c : CredentialState) → length (credential_bytes c) ≡ 32
unfolding credential_bytes digits
length_credential c = refl

pub length_answer : (a : Answer) → length (answer_bytes a) ≡ 16
unfolding answer_bytes digits
length_answer a = refl
