-- The single bytes of messages: tags, flags, and the letters that say what follows.
use Rattle.std.specs.Prelude.{ℕ, Bool, true, false, List, [], ◌∷◌, Option, Some, None, codes, ◌==◌, if◌then◌else◌}
use Rattle.std.specs.List.{list_any}
use Rattle.messages.specs.declared.fault.MsgFault.{MsgFault}
use Rattle.messages.specs.declared.fault.MsgFault.TheVariants.{UnknownTag, TwoPhase, BadTupleKind, BinaryColumn, BadFlag}
use Rattle.messages.specs.declared.relation.ReplicaIdentity.{ReplicaIdentity}
use Rattle.messages.specs.declared.relation.ReplicaIdentity.TheVariants as identities
use Rattle.messages.specs.declared.relation.TruncateOptions.{TruncateOptions}
use Rattle.messages.specs.declared.tag.Tag.{Tag}
use Rattle.messages.specs.declared.tag.Tag.TheVariants as tags
use Rattle.messages.specs.Field.{Byte}
use Rattle.messages.specs.Format.{Format, done, one, ◌>>=◌}

-- the byte is one of these letters
abbrev pub is_in : List ℕ → ℕ → Bool
is_in letters b = list_any (λ c. c == b) letters

-- no fault if the test holds, else this one
abbrev pub none_or : Bool → MsgFault → Option MsgFault
none_or true fault = None
none_or false fault = Some fault

-- One of these bytes stands here, or else it is this fault.
abbrev pub one_of : List ℕ → MsgFault → ℕ → Option MsgFault
one_of letters fault b = none_or (is_in letters b) fault

-- a flag is 0 or 1
unfoldable pub flag : Format Bool
flag = do
  b ← one (Byte (one_of (0 ∷ 1 ∷ []) BadFlag))
  done (b == 1)

-- flags of which none is defined
unfoldable pub no_flags : Format ℕ
no_flags = one (Byte (one_of (0 ∷ []) BadFlag))

-- 1 for CASCADE, 2 for RESTART IDENTITY
abbrev pub options_of : ℕ → TruncateOptions
options_of b = record { cascade = is_in (1 ∷ 3 ∷ []) b; restart_identity = is_in (2 ∷ 3 ∷ []) b }

-- Truncate's option bits: one byte from 0 to 3
unfoldable pub truncate_options : Format TruncateOptions
truncate_options = do
  b ← one (Byte (one_of (0 ∷ 1 ∷ 2 ∷ 3 ∷ []) BadFlag))
  done (options_of b)

-- what stands in the list where the letter stands in its own; the last one if the byte is none of the letters
abbrev pub by_letter : {A : Type 0} → List ℕ → List A → A → ℕ → A
by_letter (c ∷ letters) (value ∷ values) last b = if c == b then value else by_letter letters values last b
by_letter _ _ last b = last

-- the replica identity that a letter says: 'd', 'n', 'f', or else 'i'
abbrev pub identity_of : ℕ → ReplicaIdentity
identity_of b =
    by_letter (codes "dnf") (identities.Default ∷ identities.Nothing ∷ identities.Full ∷ []) identities.Index b

-- the replica identity of a Relation: 'd', 'n', 'f' or 'i'
unfoldable pub identity : Format ReplicaIdentity
identity = do
  b ← one (Byte (one_of (codes "dnfi") BadFlag))
  done (identity_of b)

-- the letter that announces a new tuple
unfoldable pub new_tuple_follows : Format ℕ
new_tuple_follows = one (Byte (one_of (codes "N") BadTupleKind))

-- null, an unchanged TOASTed value, or a text; binary values are refused by name
abbrev pub column_table : ℕ → Option MsgFault
column_table b =
    if is_in (codes "nut") b then None
    else (if is_in (codes "b") b then Some BinaryColumn else Some BadTupleKind)

-- The tags of messages that are read. Those of two-phase transactions are refused by name.
abbrev pub tag_table : ℕ → Option MsgFault
tag_table b =
    if is_in (codes "BCORYIUDTMSEcA") b then None
    else (if is_in (codes "bPKrp") b then Some TwoPhase else Some UnknownTag)

-- the kind of message that a tag's letter says; Stream Abort if it says none of the others
abbrev pub tag_of : ℕ → Tag
tag_of b =
    by_letter (codes "BCORYIUDTMSEc")
    (tags.Begin ∷ tags.Commit ∷ tags.Origin ∷ tags.Relation ∷ tags.TypeName ∷ tags.Insert ∷ tags.Update ∷ tags.Delete
    ∷ tags.Truncate ∷ tags.Message ∷ tags.StreamStart ∷ tags.StreamStop ∷ tags.StreamCommit ∷ [])
    tags.StreamAbort b

-- a message's tag: the byte that says of which kind it is
unfoldable pub tag : Format Tag
tag = do
  b ← one (Byte tag_table)
  done (tag_of b)
