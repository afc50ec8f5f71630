-- The fields that messages are made of ('Message Data Types' of the PostgreSQL manual): for each kind
-- its values, their one spelling, which values there are, and what is wrong where none stands.
use Rattle.std.specs.Prelude.{◌≡◌, ℕ, ℤ, ◌^◌, ◌<◌, Bool, List, [], ◌∷◌, ◌++◌, length, Option, Some, None, FitsSigned, IsUtf8, nat_lt, ◌==◌, if◌then◌else◌}
use Rattle.std.specs.Int.{Width, w16, w32, w64, to_be_bytes, cast_unsigned}
use Rattle.std.specs.List.{Contains, list_any}
use Rattle.messages.specs.declared.fault.MsgFault.{MsgFault}
use Rattle.messages.specs.declared.fault.MsgFault.TheVariants.{Short, BadText, NegativeCount}

-- how many bytes a number takes
pub data Size : Type 0 where
  two : Size
  four : Size
  eight : Size

-- the width of a number of this size: 16, 32 or 64 bits
abbrev pub width : Size → Width
width two = w16
width four = w32
width eight = w64

-- how many bytes a number of this size takes
abbrev pub byte_count : Size → ℕ
byte_count two = 2
byte_count four = 4
byte_count eight = 8

-- a number of this size, without a sign, is below this
abbrev pub limit : Size → ℕ
limit two = 2 ^ 16
limit four = 2 ^ 32
limit eight = 2 ^ 64

-- a count is a signed number that is not negative
abbrev pub count_limit : Size → ℕ
count_limit two = 2 ^ 15
count_limit four = 2 ^ 31
count_limit eight = 2 ^ 63

-- a number's bytes, the most significant first
unfoldable pub number_bytes : Size → ℕ → List ℕ
number_bytes size n = to_be_bytes (width size) n

-- One field, by its kind.
pub data Field : Type 0 where
  -- a number without a sign, and one with a sign
  Unsigned : Size → Field
  Signed : Size → Field
  -- a count or a length
  Count : Size → Field
  -- one byte; the table says what is wrong with it, if anything
  Byte : (ℕ → Option MsgFault) → Field
  -- UTF-8 that ends in a zero byte
  String : Field
  -- this many bytes of UTF-8, and this many bytes
  Text : ℕ → Field
  Content : ℕ → Field

-- what a field says
abbrev pub Value : Field → Type 0
Value (Unsigned size) = ℕ
Value (Signed size) = ℤ
Value (Count size) = ℕ
Value (Byte table) = ℕ
Value String = List ℕ
Value (Text n) = List ℕ
Value (Content n) = List ℕ

-- the bytes that say it
abbrev pub spelling : (f : Field) → Value f → List ℕ
spelling (Unsigned size) n = number_bytes size n
spelling (Signed size) n = number_bytes size (cast_unsigned (width size) n)
spelling (Count size) n = number_bytes size n
spelling (Byte table) b = b ∷ []
spelling String text = text ++ 0 ∷ []
spelling (Text n) text = text
spelling (Content n) bytes = bytes

-- no byte of the text is zero
abbrev pub HasNoZero : List ℕ → Type 0
HasNoZero text = ¬ (Contains text 0)

-- UTF-8 without a zero byte
pub record IsName (text : List ℕ) : Type 0 where
  pub utf8 : IsUtf8 text
  pub no_zero : HasNoZero text

-- which values there are
abbrev pub Fits : (f : Field) → Value f → Type 0
Fits (Unsigned size) n = n < limit size
Fits (Signed size) n = FitsSigned (width size) n
Fits (Count size) n = n < count_limit size
Fits (Byte table) b = table b ≡ None
Fits String text = IsName text
Fits (Text n) text = (length text ≡ n) × IsUtf8 text
Fits (Content n) bytes = length bytes ≡ n

-- The bytes begin with the field, which has this value, before the rest.
pub record Begins (bytes : List ℕ) (f : Field) (value : Value f) (rest : List ℕ) : Type 0 where
  pub fits : Fits f value
  pub parts : bytes ≡ spelling f value ++ rest

-- the byte is zero
abbrev pub is_zero : ℕ → Bool
is_zero b = b == 0

-- the fault of a byte by its table; Short if it has none, which a wrong byte never has
abbrev pub fault_or_short : Option MsgFault → MsgFault
fault_or_short None = Short
fault_or_short (Some fault) = fault

-- What is wrong with bytes that no value of the field begins.
abbrev pub wrong : Field → List ℕ → MsgFault
wrong (Unsigned size) bytes = Short
wrong (Signed size) bytes = Short
wrong (Count size) bytes = if nat_lt (length bytes) (byte_count size) then Short else NegativeCount
wrong (Byte table) [] = Short
wrong (Byte table) (b ∷ bytes) = fault_or_short (table b)
wrong String bytes = if list_any is_zero bytes then BadText else Short
wrong (Text n) bytes = if nat_lt (length bytes) n then Short else BadText
wrong (Content n) bytes = Short
