-- The bytes that are written for each message. They are proved to be its one spelling.
use Rattle.std.specs.Prelude.{◌≡◌, ◌<◌, ◌^◌, IfSome, is_some, ℕ, ℤ, Bool, List, [], ◌∷◌, ◌++◌, length, Option, Some, None, codes, if◌then◌else◌}
use Rattle.std.specs.Int.{cast_unsigned}
use Rattle.std.specs.List.{flat_map}
use Rattle.messages.specs.declared.message.Message.{Message}
use Rattle.messages.specs.declared.message.Message.TheVariants as messages
use Rattle.messages.specs.declared.message.Begin.{Begin}
use Rattle.messages.specs.declared.message.Commit.{Commit}
use Rattle.messages.specs.declared.message.Origin.{Origin}
use Rattle.messages.specs.declared.message.LogicalMessage.{LogicalMessage}
use Rattle.messages.specs.declared.message.StreamStart.{StreamStart}
use Rattle.messages.specs.declared.message.StreamCommit.{StreamCommit}
use Rattle.messages.specs.declared.message.StreamAbort.{StreamAbort}
use Rattle.messages.specs.declared.relation.Relation.{Relation}
use Rattle.messages.specs.declared.relation.RelationColumn.{RelationColumn}
use Rattle.messages.specs.declared.relation.TypeName.{TypeName}
use Rattle.messages.specs.declared.relation.Truncate.{Truncate}
use Rattle.messages.specs.declared.row.Insert.{Insert}
use Rattle.messages.specs.declared.row.Update.{Update}
use Rattle.messages.specs.declared.row.Delete.{Delete}
use Rattle.messages.specs.declared.tuple.Column.{Column}
use Rattle.messages.specs.declared.tuple.OldTuple.{OldTuple}
use Rattle.messages.specs.declared.tuple.Column.TheVariants as columns
use Rattle.messages.specs.declared.tuple.OldTuple.TheVariants as olds
use Rattle.messages.specs.declared.relation.ReplicaIdentity.{ReplicaIdentity}
use Rattle.messages.specs.declared.relation.ReplicaIdentity.TheVariants as identities
use Rattle.messages.specs.declared.relation.TruncateOptions.{TruncateOptions}
use Rattle.messages.specs.Format.{Format, Spells}
use Rattle.messages.specs.Messages.{begin, commit, origin, relation, type_name, insert, update, delete, truncate, logical_message, stream_start, stream_commit, stream_abort}
use Rattle.messages.specs.Field.{Size, two, four, eight, width, number_bytes}

-- The bytes are a spelling of the value, whatever follows them.
pub record Says {A : Type 0} (p : Format A) (bytes : List ℕ) (value : A) : Type 0 where
  pub before : (rest : List ℕ) → Spells p (bytes ++ rest) value rest

-- the spelling of a number with a sign
unfoldable pub signed_bytes : Size → ℤ → List ℕ
signed_bytes size z = number_bytes size (cast_unsigned (width size) z)

-- the spelling of a flag: 1 or 0
abbrev pub flag_bytes : Bool → List ℕ
flag_bytes b = (if b then 1 else 0) ∷ []

-- the spelling of a string: its bytes and a zero byte
unfoldable pub string_bytes : List ℕ → List ℕ
string_bytes text = text ++ 0 ∷ []

-- the spelling of a replica identity: its letter
abbrev pub identity_bytes : ReplicaIdentity → List ℕ
identity_bytes identities.Default = codes "d"
identity_bytes identities.Nothing = codes "n"
identity_bytes identities.Full = codes "f"
identity_bytes identities.Index = codes "i"

-- the spelling of the xid that stands first in a block; nothing outside of one
abbrev pub xid_bytes : Option ℕ → List ℕ
xid_bytes None = []
xid_bytes (Some xid) = number_bytes four xid

-- the spelling of a column of a tuple
unfoldable pub column_bytes : Column → List ℕ
column_bytes columns.Null = codes "n"
column_bytes columns.Unchanged = codes "u"
column_bytes (columns.Text text) = codes "t" ++ (number_bytes four (length text) ++ text)

-- the spelling of a tuple
unfoldable pub tuple_bytes : List Column → List ℕ
tuple_bytes columns = number_bytes two (length columns) ++ flat_map column_bytes columns

-- the spelling of an old tuple, its letter first
unfoldable pub old_tuple_bytes : OldTuple → List ℕ
old_tuple_bytes (olds.Key values) = codes "K" ++ tuple_bytes values
old_tuple_bytes (olds.Full values) = codes "O" ++ tuple_bytes values

-- the spelling of the old tuple of an Update, if there is one, and of the new one's letter
abbrev pub optional_old_tuple_bytes : Option OldTuple → List ℕ
optional_old_tuple_bytes None = codes "N"
optional_old_tuple_bytes (Some old) = old_tuple_bytes old ++ codes "N"

-- the spelling of Truncate's options: 1 for CASCADE plus 2 for RESTART IDENTITY
abbrev pub options_bytes : TruncateOptions → List ℕ
options_bytes o = (if o.cascade then (if o.restart_identity then 3 else 1) else (if o.restart_identity then 2 else 0)) ∷ []

-- the spelling of a Begin, without its tag
unfoldable pub begin_bytes : Begin → List ℕ
begin_bytes m = number_bytes eight m.final_lsn ++ (signed_bytes eight m.commit_time ++ number_bytes four m.xid)

-- the spelling of a Commit, without its tag
unfoldable pub commit_bytes : Commit → List ℕ
commit_bytes m = (0 ∷ []) ++ (number_bytes eight m.commit_lsn ++ (number_bytes eight m.end_lsn ++ signed_bytes eight m.commit_time))

-- the spelling of a column of a Relation
unfoldable pub relation_column_bytes : RelationColumn → List ℕ
relation_column_bytes c = flag_bytes c.is_key ++ (string_bytes c.name ++ (number_bytes four c.type_oid ++ signed_bytes four c.type_modifier))

-- the spelling of the columns of a Relation
unfoldable pub relation_columns_bytes : List RelationColumn → List ℕ
relation_columns_bytes columns = number_bytes two (length columns) ++ flat_map relation_column_bytes columns

-- the spelling of a Relation, without its tag and xid
unfoldable pub relation_bytes : Relation → List ℕ
relation_bytes m = number_bytes four m.oid ++ (string_bytes m.namespace ++ (string_bytes m.name ++ (identity_bytes m.identity ++ relation_columns_bytes m.columns)))

-- the spelling of an Insert, without its tag
unfoldable pub insert_bytes : Insert → List ℕ
insert_bytes m = xid_bytes m.xid ++ (number_bytes four m.oid ++ (codes "N" ++ tuple_bytes m.new))

-- the spelling of an Origin, without its tag
unfoldable pub origin_bytes : Origin → List ℕ
origin_bytes m = number_bytes eight m.lsn ++ string_bytes m.name

-- the spelling of a Type, without its tag
unfoldable pub type_name_bytes : TypeName → List ℕ
type_name_bytes m = xid_bytes m.xid ++ (number_bytes four m.oid ++ (string_bytes m.namespace ++ string_bytes m.name))

-- the spelling of an Update, without its tag
unfoldable pub update_bytes : Update → List ℕ
update_bytes m = xid_bytes m.xid ++ (number_bytes four m.oid ++ (optional_old_tuple_bytes m.old ++ tuple_bytes m.new))

-- the spelling of a Delete, without its tag
unfoldable pub delete_bytes : Delete → List ℕ
delete_bytes m = xid_bytes m.xid ++ (number_bytes four m.oid ++ old_tuple_bytes m.old)

-- the spelling of the relations of a Truncate: their OIDs
unfoldable pub relations_bytes : List ℕ → List ℕ
relations_bytes oids = flat_map (number_bytes four) oids

-- the spelling of a Truncate, without its tag
unfoldable pub truncate_bytes : Truncate → List ℕ
truncate_bytes m = xid_bytes m.xid ++ (number_bytes four (length m.relations) ++ (options_bytes m.options ++ relations_bytes m.relations))

-- the spelling of the content of a Message, its length first
unfoldable pub content_bytes : List ℕ → List ℕ
content_bytes bytes = number_bytes four (length bytes) ++ bytes

-- the spelling of a Message, without its tag
unfoldable pub logical_message_bytes : LogicalMessage → List ℕ
logical_message_bytes m = xid_bytes m.xid ++ (flag_bytes m.transactional ++ (number_bytes eight m.lsn ++ (string_bytes m.prefix ++ content_bytes m.content)))

-- the spelling of a Stream Start, without its tag
unfoldable pub stream_start_bytes : StreamStart → List ℕ
stream_start_bytes m = number_bytes four m.xid ++ flag_bytes m.is_first

-- the spelling of a Stream Commit, without its tag
unfoldable pub stream_commit_bytes : StreamCommit → List ℕ
stream_commit_bytes m = number_bytes four m.xid ++ ((0 ∷ []) ++ (number_bytes eight m.commit_lsn ++ (number_bytes eight m.end_lsn ++ signed_bytes eight m.commit_time)))

-- the spelling of a Stream Abort, without its tag
unfoldable pub stream_abort_bytes : StreamAbort → List ℕ
stream_abort_bytes m = number_bytes four m.xid ++ (number_bytes four m.subtransaction ++ (number_bytes eight m.lsn ++ signed_bytes eight m.abort_time))

-- the tag, as the ASCII code of its letter: B, C, O, R, Y, I, U, D, T, M, S, E, c, A
abbrev pub tag_byte : Message → ℕ
tag_byte (messages.Begin m) = 66
tag_byte (messages.Commit m) = 67
tag_byte (messages.Origin m) = 79
tag_byte (messages.Relation xid m) = 82
tag_byte (messages.TypeName m) = 89
tag_byte (messages.Insert m) = 73
tag_byte (messages.Update m) = 85
tag_byte (messages.Delete m) = 68
tag_byte (messages.Truncate m) = 84
tag_byte (messages.Message m) = 77
tag_byte (messages.StreamStart m) = 83
tag_byte messages.StreamStop = 69
tag_byte (messages.StreamCommit m) = 99
tag_byte (messages.StreamAbort m) = 65

-- what follows the tag
abbrev pub body_bytes : Message → List ℕ
body_bytes (messages.Begin m) = begin_bytes m
body_bytes (messages.Commit m) = commit_bytes m
body_bytes (messages.Origin m) = origin_bytes m
body_bytes (messages.Relation xid m) = xid_bytes xid ++ relation_bytes m
body_bytes (messages.TypeName m) = type_name_bytes m
body_bytes (messages.Insert m) = insert_bytes m
body_bytes (messages.Update m) = update_bytes m
body_bytes (messages.Delete m) = delete_bytes m
body_bytes (messages.Truncate m) = truncate_bytes m
body_bytes (messages.Message m) = logical_message_bytes m
body_bytes (messages.StreamStart m) = stream_start_bytes m
body_bytes messages.StreamStop = []
body_bytes (messages.StreamCommit m) = stream_commit_bytes m
body_bytes (messages.StreamAbort m) = stream_abort_bytes m

-- the spelling of a message: its tag, and what follows it
abbrev pub message_bytes : Message → List ℕ
message_bytes m = tag_byte m ∷ body_bytes m

-- what is written behind the tag says the fields of the message
abbrev pub BodySays : Bool → Message → Type 0
BodySays in_block (messages.Begin m) = Says begin (begin_bytes m) m
BodySays in_block (messages.Commit m) = Says commit (commit_bytes m) m
BodySays in_block (messages.Origin m) = Says origin (origin_bytes m) m
BodySays in_block (messages.TypeName m) = Says (type_name in_block) (type_name_bytes m) m
BodySays in_block (messages.Insert m) = Says (insert in_block) (insert_bytes m) m
BodySays in_block (messages.Update m) = Says (update in_block) (update_bytes m) m
BodySays in_block (messages.Delete m) = Says (delete in_block) (delete_bytes m) m
BodySays in_block (messages.Truncate m) = Says (truncate in_block) (truncate_bytes m) m
BodySays in_block (messages.Message m) = Says (logical_message in_block) (logical_message_bytes m) m
BodySays in_block (messages.StreamStart m) = Says stream_start (stream_start_bytes m) m
BodySays in_block (messages.StreamCommit m) = Says stream_commit (stream_commit_bytes m) m
BodySays in_block (messages.StreamAbort m) = Says stream_abort (stream_abort_bytes m) m
BodySays in_block (messages.Relation xid m) = (is_some xid ≡ in_block) × IfSome xid (λ x. x < 2 ^ 32) × Says relation (relation_bytes m) m
BodySays in_block messages.StreamStop = Unit {0}
