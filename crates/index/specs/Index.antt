-- The index of a site's records: the bucket of a record, the next record of a bucket, how many records have state, and what the numbers of an index are.
use Rattle.std.specs.Prelude.{ℕ, suc, ◌+◌, ◌-◌, ◌*◌, ◌/◌, ◌%◌, ◌^◌, ◌≤◌, ◌<◌, ◌≡◌, List, [], ◌∷◌, Bool, ◌&&◌, eqb, length, take, drop, get_or, if◌then◌else◌}
use Rattle.std.specs.Int.Bits.{bit_or}
use Rattle.octets.specs.Octets.{field}
use Rattle.model.specs.Words.{keep, bit_of}
use Rattle.model.specs.Numbers.{access_rule, authentication_factor, role_identifying}
use Rattle.model.specs.Site.{kind, instance, everywhere, location_kind, location, role, format, records}
use Rattle.model.specs.State.{kept}

-- The most records of a site; the buckets; classes of kinds; the numbers of an index: a link for each record, then a head for each bucket, a head
-- and a last record for each class of kinds, and a count for each fourth record and for their end.
abbrev pub most_records : ℕ
most_records = 2000

abbrev pub buckets : ℕ
buckets = 1024

abbrev pub kind_classes : ℕ
kind_classes = 8

abbrev pub index_size : ℕ
index_size = 3541

-- A count is how many records have state from a fourth one on, and below the scale a bit for each of the four.
abbrev pub count_step : ℕ
count_step = 4

abbrev pub count_scale : ℕ
count_scale = 16

-- A link or a head is a chain: the number of its first record below the scale, and above it the tags of its rules, a bit each; the tags; classes of
-- rules, each of a bucket and a tag.
abbrev pub chain_scale : ℕ
chain_scale = 2048

abbrev pub tags : ℕ
tags = 4

abbrev pub rule_class_count : ℕ
rule_class_count = 4096

-- Three numbers in one; spread over the buckets, and turned on by a fourth.
abbrev pub mixed : ℕ → ℕ → ℕ → ℕ
mixed a b c = a * 663608941 + b * 444758427 + c * 786033565

unfoldable pub spread : ℕ → ℕ → ℕ → ℕ → ℕ
spread a b c turn = (mixed a b c / 1048576 + turn * 204) % buckets

-- The kinds whose records are looked up by their instance alone: all but rules and factors.
abbrev pub ByInstance : ℕ → Type 0
ByInstance k = (k ≡ access_rule → ⊥) × (k ≡ authentication_factor → ⊥)

-- A zone, a point or a credential is looked up by its kind and instance.
abbrev pub object_bucket : ℕ → ℕ → ℕ
object_bucket k i = spread i 0 0 k

-- A rule is looked up by its rights number and its location; everywhere is location 0 of kind 0. They are spread over the classes as others are over
-- the buckets: a class is its bucket, with two bits more, which are its tag.
unfoldable pub rule_class : ℕ → ℕ → ℕ → ℕ
rule_class rights k place = (mixed rights place k / 262144 + access_rule * 204 * tags) % rule_class_count

unfoldable pub class_of_rule : List ℕ → ℕ
class_of_rule s =
    if everywhere s then rule_class (instance s) 0 0 else rule_class (instance s) (location_kind s) (location s)

-- A factor is looked up by its format and value, and one that confirms by its credential too.
abbrev pub factor_bucket : ℕ → ℕ → ℕ → ℕ → ℕ
factor_bucket form high low owner = spread low high owner (form + authentication_factor)

unfoldable pub owner : List ℕ → ℕ
owner s = if eqb (role s) role_identifying then 0 else instance s

unfoldable pub bucket_of : List ℕ → ℕ
bucket_of s =
    if eqb (kind s) authentication_factor then factor_bucket (format s) (field 16 4 s) (field 20 4 s) (owner s)
    else if eqb (kind s) access_rule then class_of_rule s / tags
    else object_bucket (kind s) (instance s)

-- The number of the first record of a class, such as a bucket or a kind, the first of the list counted as `from`; the number past the last where
-- there is none.
unfoldable pub first_from : (List ℕ → ℕ) → ℕ → ℕ → List (List ℕ) → ℕ
first_from class c from [] = from
first_from class c from (s ∷ ss) = if eqb (class s) c then from else first_from class c (suc from) ss

-- The number of the first record of a class from the i-th on.
unfoldable pub next_in : (List ℕ → ℕ) → ℕ → ℕ → List (List ℕ) → ℕ
next_in class c i ss = first_from class c i (drop i ss)

-- A rule of a class.
abbrev pub in_class : ℕ → List ℕ → Bool
in_class c s = eqb (kind s) access_rule && eqb (class_of_rule s) c

-- The bit of a rule's tag; other records have none.
unfoldable pub mark_of : List ℕ → ℕ
mark_of s = if eqb (kind s) access_rule then 2 ^ (class_of_rule s % tags) else 0

-- The tags of the rules of a bucket.
unfoldable pub tags_of : ℕ → List (List ℕ) → ℕ
tags_of b [] = 0
tags_of b (s ∷ ss) = if eqb (bucket_of s) b then bit_or (mark_of s) (tags_of b ss) else tags_of b ss

-- The chain of a bucket from the k-th record on, and the first record of a chain.
abbrev pub chain_from : ℕ → ℕ → List (List ℕ) → ℕ
chain_from b k ss = next_in bucket_of b k ss + tags_of b (drop k ss) * chain_scale

abbrev pub record_of : ℕ → ℕ
record_of chain = chain % chain_scale

-- The chain of a bucket from the k-th record on. The records are few, so that each one's number is below the scale.
pub record ChainFrom (b k : ℕ) (ss : List (List ℕ)) (chain : ℕ) : Type 0 where
  pub is : chain ≡ chain_from b k ss
  pub few : length ss ≤ most_records

-- The kinds are a class each.
abbrev pub kind_class : List ℕ → ℕ
kind_class s = kind s % kind_classes

-- The numbers that stand for a bucket, for a class of kinds, and for a record.
abbrev pub head : ℕ → List ℕ → ℕ
head b index = get_or index (most_records + b) 0

abbrev pub kind_head : ℕ → List ℕ → ℕ
kind_head c index = get_or index (most_records + buckets + c) 0

abbrev pub kind_last : ℕ → List ℕ → ℕ
kind_last c index = get_or index (most_records + buckets + kind_classes + c) 0

abbrev pub link : ℕ → List ℕ → ℕ
link i index = get_or index i 0

-- The record that a walk for a kind tries after the i-th: the next of its bucket, or the next of the kind.
abbrev pub after : Bool → ℕ → ℕ → List (List ℕ) → List ℕ → ℕ
after along k i ss index = if along then record_of (link i index) else next_in kind k (i + 1) ss

-- How many records have state from the i-th on.
abbrev pub kept_from : ℕ → List (List ℕ) → ℕ
kept_from i ss = length (keep kept (drop i ss))

-- The bits of those that have state among some, that of the first of the worth w.
abbrev pub bits_of : ℕ → List (List ℕ) → ℕ
bits_of w [] = 0
bits_of w (s ∷ ss) = bit_of (kept s) * w + bits_of (w + w) ss

-- The count from the i-th record on, with the bits of those up to the next fourth one.
abbrev pub count_from : ℕ → List (List ℕ) → ℕ
count_from i ss = kept_from i ss * count_scale + bits_of (2 ^ (i % count_step)) (take (count_step - i % count_step) (drop i ss))

-- The count from the i-th record on, of that from the next one on: the bits of other four are left.
abbrev pub count_more : ℕ → ℕ → Bool → ℕ
count_more next i has =
    (if eqb (i % count_step) 3 then next / count_scale * count_scale else next) + (if has then count_scale + 2 ^ (i % count_step) else 0)

-- The number that stands for the m-th fourth record.
abbrev pub count_at : ℕ → List ℕ → ℕ
count_at m index = get_or index (most_records + buckets + kind_classes + kind_classes + m) 0

-- The numbers of an index of the records from the k-th on: the chain of each bucket, the first and the last record of each class of kinds, what
-- follows each record in its bucket's chain, and how many have state from each fourth record on, and from the k-th on. The number of records ends a chain.
pub record IndexedFrom (k : ℕ) (ss : List (List ℕ)) (index : List ℕ) : Type 0 where
  pub size : length index ≡ index_size
  pub few : length ss ≤ most_records
  pub within : k ≤ length ss
  pub heads : (b : ℕ) → b < buckets → head b index ≡ chain_from b k ss
  pub kinds : (c : ℕ) → c < kind_classes → kind_head c index ≡ next_in kind_class c k ss
  pub lasts : (c : ℕ) → c < kind_classes → kind_head c index < length ss → next_in kind_class c (kind_last c index + 1) ss ≡ length ss
  pub links : (i : ℕ) → k ≤ i → i < length ss → link i index ≡ chain_from (bucket_of (get_or ss i [])) (i + 1) ss
  pub counts : (m : ℕ) → k ≤ m * count_step → m * count_step ≤ length ss → count_at m index ≡ count_from (m * count_step) ss
  pub counted : count_at (k / count_step) index ≡ count_from k ss

-- The i-th record, where there is one, is of a bucket.
pub record OfBucket (b i : ℕ) (ss : List (List ℕ)) : Type 0 where
  pub high : i ≤ length ss
  pub here : i < length ss → bucket_of (get_or ss i []) ≡ b

-- The index of a site.
abbrev pub Indexed : List ℕ → List ℕ → Type 0
Indexed site index = IndexedFrom 0 (records site) index
