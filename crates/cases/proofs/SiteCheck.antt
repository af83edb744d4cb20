-- "Turned back": refusals 1, 3 and 4 of a site, and their order.
use Prim.Native.Nat.{ℕ}
use mathlib.Core.Path.{◌≡◌, refl}
use mathlib.Core.List.{List, [], ◌∷◌, map}
use lib.ListN.{replicate}
use Rattle.octets.specs.Octets.{put}
use Rattle.model.specs.Calls.{number, check_site}
use Rattle.model.proofs.Open.{definitions}
use Rattle.cases.proofs.Records.{record_of, site_number, tables}

-- A zone; a point into a zone and out of a zone; an enabled rule at a location; a credential; a factor of format 2.
unfoldable pub zone_at : ℕ → List ℕ
zone_at i = record_of ((0, 1, 1) ∷ (4, 4, i) ∷ [])

unfoldable pub point_at : ℕ → ℕ → ℕ → List ℕ
point_at i to from = record_of ((0, 1, 2) ∷ (3, 1, 1) ∷ (4, 4, i) ∷ (8, 4, to) ∷ (12, 4, from) ∷ [])

unfoldable pub rule_at : ℕ → ℕ → ℕ → List ℕ
rule_at i kind location = record_of ((0, 1, 3) ∷ (1, 1, 5) ∷ (2, 1, kind) ∷ (4, 4, i) ∷ (8, 4, location) ∷ [])

unfoldable pub credential_with : ℕ → List ℕ
credential_with i = record_of ((0, 1, 4) ∷ (4, 4, i) ∷ (24, 4, 4194303) ∷ (28, 4, 4194303) ∷ [])

unfoldable pub factor_with : ℕ → ℕ → ℕ → List ℕ
factor_with role i value = record_of ((0, 1, 5) ∷ (2, 1, role) ∷ (4, 4, i) ∷ (8, 1, 2) ∷ (20, 4, value) ∷ [])

unfoldable pub records_at : Unit {0}
unfolding zone_at point_at rule_at credential_with factor_with
records_at = tt

-- Refusal 1: "site not a multiple of 32, or above 64,000 bytes". "At most 2,000; none is allowed." A record of zeros has no kind.
pub lengths :
    map (λ n. number (check_site (replicate n 0))) (0 ∷ 1 ∷ 31 ∷ 32 ∷ 33 ∷ 64000 ∷ 64032 ∷ []) ≡ 0 ∷ 1 ∷ 1 ∷ 2 ∷ 1 ∷ 2 ∷ 1 ∷ []
unfolding definitions
lengths = refl

-- Refusal 3: "two zones, points or credentials of one instance"; rules may be of one rights number. "Instances are numbered per object type, so
-- zone 7 is never credential 7."
pub instances_twice :
    map site_number
    ((zone_at 7 ∷ zone_at 7 ∷ []) ∷ (zone_at 7 ∷ zone_at 8 ∷ []) ∷ (zone_at 8 ∷ zone_at 7 ∷ []) ∷ (zone_at 7 ∷ zone_at 8 ∷ zone_at 7 ∷ [])
    ∷ (zone_at 8 ∷ zone_at 7 ∷ zone_at 7 ∷ [])
    ∷ (point_at 7 4194303 4194303 ∷ point_at 7 4194303 4194303 ∷ []) ∷ (point_at 7 4194303 4194303 ∷ point_at 8 4194303 4194303 ∷ [])
    ∷ (point_at 8 4194303 4194303 ∷ point_at 7 4194303 4194303 ∷ []) ∷ (credential_with 7 ∷ credential_with 7 ∷ [])
    ∷ (credential_with 7 ∷ credential_with 8 ∷ []) ∷ (credential_with 8 ∷ credential_with 7 ∷ [])
    ∷ (zone_at 7 ∷ point_at 7 7 4194303 ∷ credential_with 7 ∷ rule_at 7 1 7 ∷ rule_at 7 1 7 ∷ factor_with 1 7 7 ∷ [])
    ∷ (credential_with 7 ∷ point_at 7 4194303 4194303 ∷ zone_at 7 ∷ []) ∷ [])
    ≡ 3 ∷ 0 ∷ 0 ∷ 3 ∷ 3 ∷ 3 ∷ 0 ∷ 0 ∷ 3 ∷ 0 ∷ 0 ∷ 0 ∷ 0 ∷ []
unfolding definitions tables put records_at
instances_twice = refl

-- "two identifying factors alike in format and value; two confirming ones alike in credential, format and value". "all eight value bytes are
-- compared, leading zeros included."
pub factors_twice :
    map (λ fs. site_number (credential_with 5 ∷ credential_with 6 ∷ fs))
    ((factor_with 1 5 7 ∷ factor_with 1 6 7 ∷ []) ∷ (factor_with 1 5 7 ∷ factor_with 1 5 7 ∷ []) ∷ (factor_with 1 5 7 ∷ factor_with 1 5 8 ∷ [])
    ∷ (factor_with 1 5 7 ∷ factor_with 2 5 7 ∷ []) ∷ (factor_with 2 5 7 ∷ factor_with 1 5 7 ∷ []) ∷ (factor_with 2 5 7 ∷ factor_with 2 5 7 ∷ [])
    ∷ (factor_with 2 5 7 ∷ factor_with 2 6 7 ∷ []) ∷ (factor_with 2 6 7 ∷ factor_with 2 5 7 ∷ [])
    ∷ (factor_with 1 5 0 ∷ record_of ((0, 1, 5) ∷ (2, 1, 1) ∷ (4, 4, 5) ∷ (8, 1, 3) ∷ []) ∷ [])
    ∷ (record_of ((0, 1, 5) ∷ (2, 1, 1) ∷ (4, 4, 5) ∷ (8, 1, 3) ∷ []) ∷ factor_with 1 5 0 ∷ [])
    ∷ (factor_with 1 5 0 ∷ record_of ((0, 1, 5) ∷ (2, 1, 1) ∷ (4, 4, 5) ∷ (8, 1, 2) ∷ (16, 1, 1) ∷ []) ∷ [])
    ∷ (factor_with 1 5 256 ∷ factor_with 1 6 512 ∷ []) ∷ [])
    ≡ 3 ∷ 3 ∷ 0 ∷ 0 ∷ 0 ∷ 3 ∷ 0 ∷ 0 ∷ 0 ∷ 0 ∷ 0 ∷ 0 ∷ []
unfolding definitions tables put records_at
factors_twice = refl

-- Refusal 4: "A point's zone, a factor's credential and, unless everywhere, a rule's location must exist. A missing rights number is ignored."
-- A record can name one that stands after it.
pub missing_names :
    map site_number
    ((point_at 1 7 4194303 ∷ zone_at 7 ∷ []) ∷ (point_at 1 4194303 7 ∷ zone_at 7 ∷ []) ∷ (point_at 1 7 4194303 ∷ zone_at 8 ∷ credential_with 7 ∷ [])
    ∷ (point_at 1 4194303 7 ∷ zone_at 6 ∷ point_at 7 4194303 4194303 ∷ [])
    ∷ (rule_at 1 1 7 ∷ zone_at 7 ∷ []) ∷ (rule_at 1 2 7 ∷ zone_at 7 ∷ []) ∷ (rule_at 1 1 7 ∷ point_at 7 4194303 4194303 ∷ [])
    ∷ (rule_at 1 2 7 ∷ point_at 7 4194303 4194303 ∷ []) ∷ (record_of ((0, 1, 3) ∷ (1, 1, 8) ∷ (4, 4, 1) ∷ []) ∷ [])
    ∷ (factor_with 1 7 0 ∷ credential_with 7 ∷ []) ∷ (factor_with 1 7 0 ∷ credential_with 8 ∷ zone_at 7 ∷ [])
    ∷ (record_of ((0, 1, 4) ∷ (4, 4, 7) ∷ (24, 4, 1) ∷ (28, 4, 2) ∷ []) ∷ []) ∷ [])
    ≡ 0 ∷ 0 ∷ 4 ∷ 4 ∷ 0 ∷ 4 ∷ 4 ∷ 0 ∷ 0 ∷ 0 ∷ 4 ∷ 0 ∷ []
unfolding definitions tables put records_at
missing_names = refl

-- "Tried over the whole input as 1 to 6": a site of a field out of range in its last record, the same twice and a name missing, less a byte;
-- whole; without the field; and with the missing name alone.
pub site_order :
    map site_number
    (((0 ∷ []) ∷ zone_at 7 ∷ point_at 1 9 4194303 ∷ zone_at 7 ∷ zone_at 4194303 ∷ [])
    ∷ (zone_at 7 ∷ point_at 1 9 4194303 ∷ zone_at 7 ∷ zone_at 4194303 ∷ []) ∷ (zone_at 7 ∷ point_at 1 9 4194303 ∷ zone_at 7 ∷ [])
    ∷ (zone_at 7 ∷ point_at 1 9 4194303 ∷ []) ∷ [])
    ≡ 1 ∷ 2 ∷ 3 ∷ 4 ∷ []
unfolding definitions tables put records_at
site_order = refl
