-- "Entries, 24 bytes; answers, 16 bytes": their fields, the operations, and the forms that refusal 7 asks.
use Rattle.std.specs.Prelude.{ℕ, ◌/◌, List, ◌++◌, Bool, false, not, ◌&&◌, leb, ltb, eqb, length, take, drop, if◌then◌else◌, Option, Some, None}
use Rattle.octets.specs.Octets.{field, digits, groups, same}
use Rattle.model.specs.Words.{zeros}
use Rattle.model.specs.Numbers.{NONE, NEVER, entry_size, access_zone, access_point, access_credential, format_undefined, argument_lock, largest_disable}
use Rattle.model.specs.declared.Entry.{Entry}
use Rattle.model.specs.declared.Answer.{Answer}
use Rattle.model.specs.declared.Operation.{Operation}
use Rattle.model.specs.declared.Operation.TheVariants.{Factor, SetCount, AdjustCount, SetDisable, SetService}

-- "Entry: 0 operation, 1 small argument, 4 time, 8 instance, 12 amount (4 each), 16 value (8)."
unfoldable pub entry_of : List ℕ → Entry
entry_of b =
    record {
      operation = field 0 1 b;
      argument = field 1 1 b;
      spare = field 2 2 b;
      time = field 4 4 b;
      instance = field 8 4 b;
      amount = field 12 4 b;
      value = take 8 (drop 16 b);
    }

-- "The reader moves on by one 24-byte entry each time."
unfoldable pub entries : List ℕ → List (List ℕ)
entries journal = groups entry_size (length journal / entry_size) journal

-- "Answer: 0 event (2); 2 marks; 3 refusal; 4 tag; 8 credential or NONE; 12 count."
unfoldable pub answer_bytes : Answer → List ℕ
answer_bytes a =
    digits 2 a.event ++ digits 1 a.marks ++ digits 1 a.refusal ++ digits 4 a.tag ++ digits 4 a.credential.0
    ++ digits 4 a.count

-- 1 a factor at a point, 2 set a zone's count, 3 adjust it, 4 set a credential's disable, 5 a point in service or not.
unfoldable pub operation_of : ℕ → Option Operation
operation_of n =
    if eqb n 1 then Some Factor else
    if eqb n 2 then Some SetCount else
    if eqb n 3 then Some AdjustCount else
    if eqb n 4 then Some SetDisable else
    if eqb n 5 then Some SetService else
    None

-- The kind of the object that an operation's instance names.
abbrev pub object_kind : Option Operation → ℕ
object_kind (Some Factor) = access_point
object_kind (Some SetCount) = access_zone
object_kind (Some AdjustCount) = access_zone
object_kind (Some SetDisable) = access_credential
object_kind (Some SetService) = access_point
object_kind None = 0

-- ── refusal 7: "operation unknown, field or spare byte out of range, instance not real, time never". "Unused bytes are zero."

-- The amount is unused.
unfoldable pub no_amount : Entry → Bool
no_amount e = eqb e.amount 0

-- The value is unused.
unfoldable pub no_value : Entry → Bool
no_value e = same e.value (zeros 8)

-- "1 is the format, never 0"; the argument of 4 is 0..3; the argument of 5 is 0 or 1; those of 2 and 3 are unused.
abbrev pub arguments_fit : Option Operation → Entry → Bool
arguments_fit (Some Factor) e = not (eqb e.argument format_undefined) && no_amount e
arguments_fit (Some SetCount) e = eqb e.argument 0 && no_value e
arguments_fit (Some AdjustCount) e = eqb e.argument 0 && no_value e
arguments_fit (Some SetDisable) e = leb e.argument largest_disable && no_amount e && no_value e
arguments_fit (Some SetService) e = leb e.argument argument_lock && no_amount e && no_value e
arguments_fit None e = false

-- "field or spare byte out of range, instance not real, time never": none of these.
unfoldable pub in_form : Option Operation → Entry → Bool
in_form o e = arguments_fit o e && eqb e.spare 0 && ltb e.instance NONE && not (eqb e.time NEVER)
