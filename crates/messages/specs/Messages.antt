-- The messages of protocol version 4, each as the list of its fields, as they stand in the tables of
-- 'Logical Replication Message Formats' in the PostgreSQL manual.
use Rattle.std.specs.Prelude.{◌≡◌, ◌≢◌, ℕ, Bool, true, false, List, [], Option, Some, None, is_some, codes, ◌⊎◌}
use Rattle.messages.specs.declared.fault.MsgFault.{MsgFault}
use Rattle.messages.specs.declared.fault.MsgFault.TheVariants.{BadTupleKind, Trailing}
use Rattle.messages.specs.declared.message.Message.{Message}
use Rattle.messages.specs.declared.message.Message.TheVariants as messages
use Rattle.messages.specs.declared.message.Begin.{Begin}
use Rattle.messages.specs.declared.message.Commit.{Commit}
use Rattle.messages.specs.declared.message.Origin.{Origin}
use Rattle.messages.specs.declared.message.LogicalMessage.{LogicalMessage}
use Rattle.messages.specs.declared.message.StreamStart.{StreamStart}
use Rattle.messages.specs.declared.message.StreamCommit.{StreamCommit}
use Rattle.messages.specs.declared.message.StreamAbort.{StreamAbort}
use Rattle.messages.specs.declared.relation.Relation.{Relation}
use Rattle.messages.specs.declared.relation.RelationColumn.{RelationColumn}
use Rattle.messages.specs.declared.relation.TypeName.{TypeName}
use Rattle.messages.specs.declared.relation.Truncate.{Truncate}
use Rattle.messages.specs.declared.row.Insert.{Insert}
use Rattle.messages.specs.declared.row.Update.{Update}
use Rattle.messages.specs.declared.row.Delete.{Delete}
use Rattle.messages.specs.declared.tuple.Column.{Column}
use Rattle.messages.specs.declared.tuple.OldTuple.{OldTuple}
use Rattle.messages.specs.declared.tuple.Column.TheVariants as columns
use Rattle.messages.specs.declared.tuple.OldTuple.TheVariants as olds
use Rattle.messages.specs.declared.tag.Tag.{Tag}
use Rattle.messages.specs.declared.tag.Tag.TheVariants as tags
use Rattle.messages.specs.Field.{two, four, eight, Unsigned, Signed, Count, Byte, String, Text, Content}
use Rattle.messages.specs.Format.{Format, done, one, ◌>>=◌, choose, times, Spells, Fails}
use Rattle.messages.specs.Letters.{is_in, one_of, flag, no_flags, truncate_options, identity, new_tuple_follows, column_table, tag}

-- The transaction or subtransaction stands there exactly in a block of a streamed transaction.
unfoldable pub xid_in : Bool → Format (Option ℕ)
xid_in false = done None
xid_in true = do
  xid ← one (Unsigned four)
  done (Some xid)

-- ---- tuples

-- a column's value as text: a length, and so many bytes of UTF-8
unfoldable pub text : Format Column
text = do
  length ← one (Count four)
  t ← one (Text length)
  done (columns.Text t)

-- what follows a column's letter: nothing after 'n' and 'u', else a text
abbrev pub column_of : ℕ → Format Column
column_of b =
    choose (is_in (codes "n") b) (done columns.Null)
    (choose (is_in (codes "u") b) (done columns.Unchanged) text)

-- a column of TupleData: 'n' (null), 'u' (an unchanged TOASTed value), or 't' and a text
unfoldable pub column : Format Column
column = do
  kind ← one (Byte column_table)
  column_of kind

-- TupleData: a count of columns, and each of them
unfoldable pub tuple : Format (List Column)
tuple = do
  count ← one (Count two)
  times count column

-- 'K': the old key; 'O': the old row
abbrev pub old_tuple_of : ℕ → Format OldTuple
old_tuple_of b =
    choose (is_in (codes "K") b)
    (do
      key ← tuple
      done (olds.Key key))
    (do
      row ← tuple
      done (olds.Full row))

-- the old tuple of a Delete: 'K' or 'O', TupleData
unfoldable pub old_tuple : Format OldTuple
old_tuple = do
  kind ← one (Byte (one_of (codes "KO") BadTupleKind))
  old_tuple_of kind

-- what follows the first tuple letter of an Update: nothing after 'N', else an old tuple and 'N'
abbrev pub old_before_new : ℕ → Format (Option OldTuple)
old_before_new b =
    choose (is_in (codes "N") b) (done None)
    (do
      old ← old_tuple_of b
      announced ← new_tuple_follows
      done (Some old))

-- an old tuple, if there is one, and the letter of the new one
unfoldable pub optional_old_tuple : Format (Option OldTuple)
optional_old_tuple = do
  kind ← one (Byte (one_of (codes "NKO") BadTupleKind))
  old_before_new kind

-- ---- messages, without their tag

-- Begin: final LSN, commit time, xid
unfoldable pub begin : Format Begin
begin = do
  final_lsn ← one (Unsigned eight)
  commit_time ← one (Signed eight)
  xid ← one (Unsigned four)
  done (record { final_lsn = final_lsn; commit_time = commit_time; xid = xid })

-- Commit: flags, commit LSN, end LSN, commit time
unfoldable pub commit : Format Commit
commit = do
  flags ← no_flags
  commit_lsn ← one (Unsigned eight)
  end_lsn ← one (Unsigned eight)
  commit_time ← one (Signed eight)
  done (record { commit_lsn = commit_lsn; end_lsn = end_lsn; commit_time = commit_time })

-- never an xid, not in a block either
unfoldable pub origin : Format Origin
origin = do
  lsn ← one (Unsigned eight)
  name ← one String
  done (record { lsn = lsn; name = name })

-- a column of a Relation: flag of the key, name, type OID, type modifier
unfoldable pub relation_column : Format RelationColumn
relation_column = do
  is_key ← flag
  name ← one String
  type_oid ← one (Unsigned four)
  type_modifier ← one (Signed four)
  done (record { is_key = is_key; name = name; type_oid = type_oid; type_modifier = type_modifier })

-- the columns of a Relation: their count, and each of them
unfoldable pub relation_columns : Format (List RelationColumn)
relation_columns = do
  count ← one (Count two)
  times count relation_column

-- Relation, behind the xid: OID, namespace, name, replica identity, columns
unfoldable pub relation : Format Relation
relation = do
  oid ← one (Unsigned four)
  namespace ← one String
  name ← one String
  replica_identity ← identity
  published ← relation_columns
  done (record { oid = oid; namespace = namespace; name = name; identity = replica_identity; columns = published })

-- the xid in a block and an OID, and what follows them
abbrev pub with_oid : {A : Type 0} → Bool → (Option ℕ → ℕ → Format A) → Format A
with_oid in_block fields = do
  xid ← xid_in in_block
  oid ← one (Unsigned four)
  fields xid oid

-- Type: xid in a block, OID, namespace, name
unfoldable pub type_name : Bool → Format TypeName
type_name in_block = with_oid in_block (λ xid oid. do
  namespace ← one String
  name ← one String
  done (record { xid = xid; oid = oid; namespace = namespace; name = name }))

-- Insert: xid in a block, OID, 'N', new tuple
unfoldable pub insert : Bool → Format Insert
insert in_block = with_oid in_block (λ xid oid. do
  announced ← new_tuple_follows
  new ← tuple
  done (record { xid = xid; oid = oid; new = new }))

-- Update: xid in a block, OID, the old tuple if one was sent, 'N', new tuple
unfoldable pub update : Bool → Format Update
update in_block = with_oid in_block (λ xid oid. do
  old ← optional_old_tuple
  new ← tuple
  done (record { xid = xid; oid = oid; old = old; new = new }))

-- Delete: xid in a block, OID, old tuple
unfoldable pub delete : Bool → Format Delete
delete in_block = with_oid in_block (λ xid oid. do
  old ← old_tuple
  done (record { xid = xid; oid = oid; old = old }))

-- Truncate: xid in a block, count of relations, option bits, their OIDs
unfoldable pub truncate : Bool → Format Truncate
truncate in_block = do
  xid ← xid_in in_block
  count ← one (Count four)
  options ← truncate_options
  relations ← times count (one (Unsigned four))
  done (record { xid = xid; options = options; relations = relations })

-- the content of a Message: a length, and so many bytes
unfoldable pub content : Format (List ℕ)
content = do
  length ← one (Count four)
  one (Content length)

-- Message: xid in a block, flag (transactional), LSN, prefix, content
unfoldable pub logical_message : Bool → Format LogicalMessage
logical_message in_block = do
  xid ← xid_in in_block
  transactional ← flag
  lsn ← one (Unsigned eight)
  prefix ← one String
  written ← content
  done (record { xid = xid; transactional = transactional; lsn = lsn; prefix = prefix; content = written })

-- Stream Start: xid, flag (first block)
unfoldable pub stream_start : Format StreamStart
stream_start = do
  xid ← one (Unsigned four)
  is_first ← flag
  done (record { xid = xid; is_first = is_first })

-- Stream Commit: xid, flags, commit LSN, end LSN, commit time
unfoldable pub stream_commit : Format StreamCommit
stream_commit = do
  xid ← one (Unsigned four)
  flags ← no_flags
  commit_lsn ← one (Unsigned eight)
  end_lsn ← one (Unsigned eight)
  commit_time ← one (Signed eight)
  done (record { xid = xid; commit_lsn = commit_lsn; end_lsn = end_lsn; commit_time = commit_time })

-- Stream Abort: xid, xid of the subtransaction, LSN, abort time
unfoldable pub stream_abort : Format StreamAbort
stream_abort = do
  xid ← one (Unsigned four)
  subtransaction ← one (Unsigned four)
  lsn ← one (Unsigned eight)
  abort_time ← one (Signed eight)
  done (record { xid = xid; subtransaction = subtransaction; lsn = lsn; abort_time = abort_time })

-- ---- the table of tags

-- the fields of a format, as a message of this kind
abbrev pub fields_of : {A : Type 0} → (A → Message) → Format A → Format Message
fields_of kind p = do
  m ← p
  done (kind m)

-- the fields behind a tag, as the kind of message has them, in a block or outside of one
abbrev pub body : Bool → Tag → Format Message
body in_block tags.Begin = fields_of messages.Begin begin
body in_block tags.Commit = fields_of messages.Commit commit
body in_block tags.Origin = fields_of messages.Origin origin
body in_block tags.Relation = do
  xid ← xid_in in_block
  m ← relation
  done (messages.Relation xid m)
body in_block tags.TypeName = fields_of messages.TypeName (type_name in_block)
body in_block tags.Insert = fields_of messages.Insert (insert in_block)
body in_block tags.Update = fields_of messages.Update (update in_block)
body in_block tags.Delete = fields_of messages.Delete (delete in_block)
body in_block tags.Truncate = fields_of messages.Truncate (truncate in_block)
body in_block tags.Message = fields_of messages.Message (logical_message in_block)
body in_block tags.StreamStart = fields_of messages.StreamStart stream_start
body in_block tags.StreamStop = done messages.StreamStop
body in_block tags.StreamCommit = fields_of messages.StreamCommit stream_commit
body in_block tags.StreamAbort = fields_of messages.StreamAbort stream_abort

-- a message: its tag and its fields, in a block of a streamed transaction or outside of one
unfoldable pub message : Bool → Format Message
message in_block = do
  t ← tag
  body in_block t

-- ---- payloads

-- The payload is the message's spelling, in a block of a streamed transaction or outside of one.
unfoldable pub Spelled : List ℕ → Bool → Message → Type 0
Spelled payload in_block m = Spells (message in_block) payload m []

-- A fault stands in the payload: the payload is the spelling of some first fields, followed by a rest that
-- begins with no spelling of the next field, which names the fault; or by a rest after the last field.
unfoldable pub HasFault : List ℕ → Bool → MsgFault → Type 0
HasFault payload in_block fault =
    Fails (message in_block) payload fault
    ⊎ ((m : Message) × (rest : List ℕ) × Spells (message in_block) payload m rest × (rest ≢ []) × (fault ≡ Trailing))

-- The xid is there exactly in a block of a streamed transaction.
abbrev pub HasXid : Bool → Message → Type 0
HasXid in_block (messages.Relation xid m) = is_some xid ≡ in_block
HasXid in_block (messages.TypeName m) = is_some m.xid ≡ in_block
HasXid in_block (messages.Insert m) = is_some m.xid ≡ in_block
HasXid in_block (messages.Update m) = is_some m.xid ≡ in_block
HasXid in_block (messages.Delete m) = is_some m.xid ≡ in_block
HasXid in_block (messages.Truncate m) = is_some m.xid ≡ in_block
HasXid in_block (messages.Message m) = is_some m.xid ≡ in_block
HasXid in_block _ = Unit {0}
