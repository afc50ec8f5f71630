-- Reading a format from left to right up to the first fault, which private functions are tied to.
-- It is proved to be what the formats spell, and the faults that stand.
use Rattle.std.specs.Prelude.{◌≡◌, ℕ, ℤ, List, [], ◌∷◌, length, take, drop, Option, Some, None, Result, Ok, Err, nat_lt, if◌then◌else◌}
use Rattle.std.specs.Int.{from_be_bytes, cast_signed}
use Rattle.std.specs.Str.{is_utf8}
use Rattle.std.specs.List.{position_or_len, before_first, after_first}
use Rattle.messages.specs.declared.fault.MsgFault.{MsgFault}
use Rattle.messages.specs.declared.fault.MsgFault.TheVariants.{Short, BadText, NegativeCount, Trailing, OutOfMemory}
use Rattle.messages.specs.Field.{Size, width, byte_count, count_limit, Field, Unsigned, Signed, Count, Byte, String, Text, Content, Value, is_zero}
use Rattle.messages.specs.Format.{Format, done, one, followed_by}

-- a value and the bytes after it, or the first fault
abbrev pub Read : Type 0 → Type 0
Read A = Result (A × List ℕ) MsgFault

-- what the first bytes say as a number
unfoldable pub number_in : Size → List ℕ → ℕ
number_in size bytes = from_be_bytes (width size) (take (byte_count size) bytes)

-- a number without a sign, if there are enough bytes
unfoldable pub unsigned_at : Size → List ℕ → Read ℕ
unsigned_at size bytes = if nat_lt (length bytes) (byte_count size) then Err Short else Ok (number_in size bytes, drop (byte_count size) bytes)

-- a number with a sign, if there are enough bytes
unfoldable pub signed_at : Size → List ℕ → Read ℤ
signed_at size bytes = if nat_lt (length bytes) (byte_count size) then Err Short else Ok (cast_signed (width size) (number_in size bytes), drop (byte_count size) bytes)

-- a count or length, if there are enough bytes and it is not negative
unfoldable pub count_at : Size → List ℕ → Read ℕ
count_at size bytes =
    if nat_lt (length bytes) (byte_count size) then Err Short
    else (if nat_lt (number_in size bytes) (count_limit size) then Ok (number_in size bytes, drop (byte_count size) bytes) else Err NegativeCount)

-- the byte and the rest, or what is wrong with the byte
abbrev pub unless_wrong : Option MsgFault → ℕ → List ℕ → Read ℕ
unless_wrong None b rest = Ok (b, rest)
unless_wrong (Some fault) b rest = Err fault

-- one byte, if there is one and its table finds nothing wrong with it
unfoldable pub byte_at : (ℕ → Option MsgFault) → List ℕ → Read ℕ
byte_at table [] = Err Short
byte_at table (b ∷ rest) = unless_wrong (table b) b rest

-- the bytes before the first zero byte, if there is one and they are UTF-8
unfoldable pub string_at : List ℕ → Read (List ℕ)
string_at bytes =
    if nat_lt (position_or_len is_zero bytes) (length bytes)
    then (if is_utf8 (before_first is_zero bytes) then Ok (before_first is_zero bytes, after_first is_zero bytes) else Err BadText)
    else Err Short

-- the first n bytes, if there are so many and they are UTF-8
unfoldable pub text_at : ℕ → List ℕ → Read (List ℕ)
text_at n bytes =
    if nat_lt (length bytes) n then Err Short
    else (if is_utf8 (take n bytes) then Ok (take n bytes, drop n bytes) else Err BadText)

-- the first n bytes, if there are so many
unfoldable pub content_at : ℕ → List ℕ → Read (List ℕ)
content_at n bytes = if nat_lt (length bytes) n then Err Short else Ok (take n bytes, drop n bytes)

-- the value of a field at the beginning of the bytes, or what is wrong with them
abbrev pub read_field : (f : Field) → List ℕ → Read (Value f)
read_field (Unsigned size) bytes = unsigned_at size bytes
read_field (Signed size) bytes = signed_at size bytes
read_field (Count size) bytes = count_at size bytes
read_field (Byte table) bytes = byte_at table bytes
read_field String bytes = string_at bytes
read_field (Text n) bytes = text_at n bytes
read_field (Content n) bytes = content_at n bytes

-- the next step with what was read, or the fault
abbrev pub if_read : {A B : Type 0} → Result A MsgFault → (A → Result B MsgFault) → Result B MsgFault
if_read (Ok x) next = next x
if_read (Err fault) next = Err fault

-- the value of a format at the beginning of the bytes, or the first fault
abbrev pub read : {A : Type 0} → Format A → List ℕ → Read A
read (done a) bytes = Ok (a, bytes)
read (one f) bytes = read_field f bytes
read (followed_by p next) bytes = if_read (read p bytes) (λ x. read (next x.0) x.1)

-- the value, if no bytes are left; else they are Trailing
abbrev pub ended : {A : Type 0} → A → List ℕ → Result A MsgFault
ended a [] = Ok a
ended a (b ∷ rest) = Err Trailing

-- all of the bytes
abbrev pub read_all : {A : Type 0} → Format A → List ℕ → Result A MsgFault
read_all p bytes = if_read (read p bytes) (λ x. ended x.0 x.1)

-- What a function returned is what reading gives, unless memory ran out.
abbrev pub IsFault : {B : Type 0} → MsgFault → Result B MsgFault → Type 0
IsFault OutOfMemory reading = Unit {0}
IsFault fault reading = reading ≡ Err fault

-- A function read the value, seen by view, and left the rest; or it met the fault.
abbrev pub GivesBy : {X A : Type 0} → (X → A) → Result X MsgFault → List ℕ → Read A → Type 0
GivesBy view (Ok x) rest reading = reading ≡ Ok (view x, rest)
GivesBy view (Err fault) rest reading = IsFault fault reading

-- A function read the value and left the rest; or it met the fault.
abbrev pub Gives : {A : Type 0} → Result A MsgFault → List ℕ → Read A → Type 0
Gives result rest reading = GivesBy (λ x. x) result rest reading

-- A function read all of the bytes, or met the fault.
abbrev pub IsReading : {A : Type 0} → Result A MsgFault → Result A MsgFault → Type 0
IsReading (Ok a) reading = reading ≡ Ok a
IsReading (Err fault) reading = IsFault fault reading
