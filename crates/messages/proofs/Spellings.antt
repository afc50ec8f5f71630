-- What is written for a message is a spelling of it.
use Rattle.std.proofs.Common.{◌≡◌, ℕ, ◌<◌, ◌^◌, Bool, true, false, List, [], ◌∷◌, length, Option, Some, None, refl, sym, subst, append_assoc}
use Rattle.std.specs.Prelude.{FitsSigned, IsUtf8, IfSome, is_some}
use Rattle.std.specs.Int.{w32, w64}
use Rattle.std.specs.List.{All}
use Rattle.messages.specs.declared.message.Message.{Message}
use Rattle.messages.specs.declared.message.Message.TheVariants as messages
use Rattle.messages.specs.declared.message.Begin.{Begin}
use Rattle.messages.specs.declared.message.Commit.{Commit}
use Rattle.messages.specs.declared.relation.Relation.{Relation}
use Rattle.messages.specs.declared.relation.RelationColumn.{RelationColumn}
use Rattle.messages.specs.declared.relation.ReplicaIdentity.{ReplicaIdentity}
use Rattle.messages.specs.declared.relation.ReplicaIdentity.TheVariants as identities
use Rattle.messages.specs.declared.row.Insert.{Insert}
use Rattle.messages.specs.declared.tag.Tag.TheVariants as tags
use Rattle.messages.specs.declared.tuple.Column.{Column}
use Rattle.messages.specs.declared.tuple.Column.TheVariants as columns
use Rattle.messages.specs.declared.message.Origin.{Origin}
use Rattle.messages.specs.declared.message.LogicalMessage.{LogicalMessage}
use Rattle.messages.specs.declared.message.StreamStart.{StreamStart}
use Rattle.messages.specs.declared.message.StreamCommit.{StreamCommit}
use Rattle.messages.specs.declared.message.StreamAbort.{StreamAbort}
use Rattle.messages.specs.declared.relation.TypeName.{TypeName}
use Rattle.messages.specs.declared.relation.Truncate.{Truncate}
use Rattle.messages.specs.declared.relation.TruncateOptions.{TruncateOptions}
use Rattle.messages.specs.declared.row.Update.{Update}
use Rattle.messages.specs.declared.row.Delete.{Delete}
use Rattle.messages.specs.declared.tuple.OldTuple.{OldTuple}
use Rattle.messages.specs.declared.tuple.OldTuple.TheVariants as olds
use Rattle.messages.specs.Field.{IsName, number_bytes, four, Unsigned}
use Rattle.messages.specs.Format.{Format, one, times}
use Rattle.messages.specs.Letters.{flag, no_flags, truncate_options, identity, new_tuple_follows, tag_table, tag_of, tag}
use Rattle.messages.specs.Messages.{text, column, tuple, xid_in, begin, commit, relation_column, relation_columns, relation, old_tuple, optional_old_tuple, origin, type_name, insert, update, delete, truncate, content, logical_message, stream_start, stream_commit, stream_abort, fields_of, body, message}
use Rattle.messages.specs.Writing.{Says, BodySays, flag_bytes, identity_bytes, xid_bytes, column_bytes, tuple_bytes, begin_bytes, commit_bytes, relation_column_bytes, relation_columns_bytes, relation_bytes, options_bytes, old_tuple_bytes, optional_old_tuple_bytes, origin_bytes, type_name_bytes, insert_bytes, update_bytes, delete_bytes, relations_bytes, truncate_bytes, content_bytes, logical_message_bytes, stream_start_bytes, stream_commit_bytes, stream_abort_bytes, message_bytes}
use Rattle.messages.proofs.Says.{say_unsigned, say_signed, say_count, say_byte, say_string, say_text, say_content, next_to, at_last, behind, nothing, each}

flag_says : (b : Bool) → Says flag (flag_bytes b) b
unfolding flag
flag_says true = at_last 1 (say_byte 1 refl) refl
flag_says false = at_last 0 (say_byte 0 refl) refl

identity_says : (i : ReplicaIdentity) → Says identity (identity_bytes i) i
unfolding identity
identity_says identities.Default = at_last 100 (say_byte 100 refl) refl
identity_says identities.Nothing = at_last 110 (say_byte 110 refl) refl
identity_says identities.Full = at_last 102 (say_byte 102 refl) refl
identity_says identities.Index = at_last 105 (say_byte 105 refl) refl

no_flags_says : Says no_flags (0 ∷ []) 0
unfolding no_flags
no_flags_says = say_byte 0 refl

new_tuple_says : Says new_tuple_follows (78 ∷ []) 78
unfolding new_tuple_follows
new_tuple_says = say_byte 78 refl

-- the xid stands there exactly in a block
pub xid_says : (in_block : Bool) (xid : Option ℕ) → is_some xid ≡ in_block → IfSome xid (λ x. x < 2 ^ 32) → Says (xid_in in_block) (xid_bytes xid) xid
unfolding xid_in
xid_says true None e fits = absurd cc
xid_says false None e fits = nothing
xid_says true (Some xid) e fits = at_last xid (say_unsigned fits) refl
xid_says false (Some xid) e fits = absurd cc

pub begin_says : (m : Begin) → m.final_lsn < 2 ^ 64 → FitsSigned w64 m.commit_time → m.xid < 2 ^ 32 → Says begin (begin_bytes m) m
unfolding begin begin_bytes
begin_says m lsn time xid = next_to m.final_lsn (say_unsigned lsn) (next_to m.commit_time (say_signed time) (at_last m.xid (say_unsigned xid) refl))

pub commit_says : (m : Commit) → m.commit_lsn < 2 ^ 64 → m.end_lsn < 2 ^ 64 → FitsSigned w64 m.commit_time → Says commit (commit_bytes m) m
unfolding commit commit_bytes
commit_says m lsn end time = next_to 0 no_flags_says (next_to m.commit_lsn (say_unsigned lsn) (next_to m.end_lsn (say_unsigned end) (at_last m.commit_time (say_signed time) refl)))

pub relation_column_says : (c : RelationColumn) → IsName c.name → c.type_oid < 2 ^ 32 → FitsSigned w32 c.type_modifier → Says relation_column (relation_column_bytes c) c
unfolding relation_column relation_column_bytes
relation_column_says c name oid modifier =
    next_to c.is_key (flag_says c.is_key) (next_to c.name (say_string name) (next_to c.type_oid (say_unsigned oid) (at_last c.type_modifier (say_signed modifier) refl)))

pub relation_columns_says : (columns : List RelationColumn) → length columns < 2 ^ 15 → All (λ c. Says relation_column (relation_column_bytes c) c) columns
    → Says relation_columns (relation_columns_bytes columns) columns
unfolding relation_columns relation_columns_bytes
relation_columns_says columns few said = next_to (length columns) (say_count few) (each relation_column relation_column_bytes columns said)

pub relation_says : (m : Relation) → m.oid < 2 ^ 32 → IsName m.namespace → IsName m.name → Says relation_columns (relation_columns_bytes m.columns) m.columns → Says relation (relation_bytes m) m
unfolding relation relation_bytes
relation_says m oid namespace name columns =
    next_to m.oid (say_unsigned oid) (next_to m.namespace (say_string namespace) (next_to m.name (say_string name)
    (next_to m.identity (identity_says m.identity) (at_last m.columns columns refl))))

-- ---- tuples

pub text_says : (t : List ℕ) → length t < 2 ^ 31 → IsUtf8 t → Says column (column_bytes (columns.Text t)) (columns.Text t)
unfolding column column_bytes text
text_says t short utf8 = next_to 116 (say_byte 116 refl) (next_to (length t) (say_count short) (at_last t (say_text utf8) refl))

pub null_says : Says column (column_bytes columns.Null) columns.Null
unfolding column column_bytes
null_says = next_to 110 (say_byte 110 refl) nothing

pub unchanged_says : Says column (column_bytes columns.Unchanged) columns.Unchanged
unfolding column column_bytes
unchanged_says = next_to 117 (say_byte 117 refl) nothing

pub tuple_says : (values : List Column) → length values < 2 ^ 15 → All (λ c. Says column (column_bytes c) c) values → Says tuple (tuple_bytes values) values
unfolding tuple tuple_bytes
tuple_says values few said = next_to (length values) (say_count few) (each column column_bytes values said)

pub insert_says : (in_block : Bool) (m : Insert) → is_some m.xid ≡ in_block → IfSome m.xid (λ x. x < 2 ^ 32) → m.oid < 2 ^ 32 → Says tuple (tuple_bytes m.new) m.new → Says (insert in_block) (insert_bytes m) m
unfolding insert insert_bytes
insert_says in_block m e xid oid new =
    next_to m.xid (xid_says in_block m.xid e xid) (next_to m.oid (say_unsigned oid) (next_to 78 new_tuple_says (at_last m.new new refl)))

made : (cascade restart : Bool) → TruncateOptions
made cascade restart = record { cascade = cascade; restart_identity = restart }

options_made_say : (cascade restart : Bool) → Says truncate_options (options_bytes (made cascade restart)) (made cascade restart)
unfolding truncate_options made
options_made_say true true = at_last 3 (say_byte 3 refl) refl
options_made_say true false = at_last 1 (say_byte 1 refl) refl
options_made_say false true = at_last 2 (say_byte 2 refl) refl
options_made_say false false = at_last 0 (say_byte 0 refl) refl

options_says : (o : TruncateOptions) → Says truncate_options (options_bytes o) o
unfolding made
options_says o = options_made_say o.cascade o.restart_identity

pub key_says : (values : List Column) → Says tuple (tuple_bytes values) values → Says old_tuple (old_tuple_bytes (olds.Key values)) (olds.Key values)
unfolding old_tuple old_tuple_bytes
key_says values said = next_to 75 (say_byte 75 refl) (at_last values said refl)

pub full_says : (values : List Column) → Says tuple (tuple_bytes values) values → Says old_tuple (old_tuple_bytes (olds.Full values)) (olds.Full values)
unfolding old_tuple old_tuple_bytes
full_says values said = next_to 79 (say_byte 79 refl) (at_last values said refl)

pub no_old_says : Says optional_old_tuple (optional_old_tuple_bytes None) None
unfolding optional_old_tuple
no_old_says = next_to 78 (say_byte 78 refl) nothing

pub some_old_says : (old : OldTuple) → Says old_tuple (old_tuple_bytes old) old → Says optional_old_tuple (optional_old_tuple_bytes (Some old)) (Some old)
unfolding optional_old_tuple old_tuple old_tuple_bytes
some_old_says (olds.Key values) said =
    subst (λ (x : List ℕ). Says optional_old_tuple x (Some (olds.Key values))) (sym (append_assoc (75 ∷ []) (tuple_bytes values) (78 ∷ [])))
    (next_to 75 (say_byte 75 refl) (next_to (olds.Key values) (behind 75 (tuple_bytes values) (olds.Key values) said) (at_last 78 new_tuple_says refl)))
some_old_says (olds.Full values) said =
    subst (λ (x : List ℕ). Says optional_old_tuple x (Some (olds.Full values))) (sym (append_assoc (79 ∷ []) (tuple_bytes values) (78 ∷ [])))
    (next_to 79 (say_byte 79 refl) (next_to (olds.Full values) (behind 79 (tuple_bytes values) (olds.Full values) said) (at_last 78 new_tuple_says refl)))

pub origin_says : (m : Origin) → m.lsn < 2 ^ 64 → IsName m.name → Says origin (origin_bytes m) m
unfolding origin origin_bytes
origin_says m lsn name = next_to m.lsn (say_unsigned lsn) (at_last m.name (say_string name) refl)

pub type_name_says : (in_block : Bool) (m : TypeName) → is_some m.xid ≡ in_block → IfSome m.xid (λ x. x < 2 ^ 32) → m.oid < 2 ^ 32 → IsName m.namespace → IsName m.name → Says (type_name in_block) (type_name_bytes m) m
unfolding type_name type_name_bytes
type_name_says in_block m e xid oid namespace name =
    next_to m.xid (xid_says in_block m.xid e xid) (next_to m.oid (say_unsigned oid) (next_to m.namespace (say_string namespace) (at_last m.name (say_string name) refl)))

pub update_says : (in_block : Bool) (m : Update) → is_some m.xid ≡ in_block → IfSome m.xid (λ x. x < 2 ^ 32) → m.oid < 2 ^ 32 → Says optional_old_tuple (optional_old_tuple_bytes m.old) m.old
    → Says tuple (tuple_bytes m.new) m.new → Says (update in_block) (update_bytes m) m
unfolding update update_bytes
update_says in_block m e xid oid old new =
    next_to m.xid (xid_says in_block m.xid e xid) (next_to m.oid (say_unsigned oid) (next_to m.old old (at_last m.new new refl)))

pub delete_says : (in_block : Bool) (m : Delete) → is_some m.xid ≡ in_block → IfSome m.xid (λ x. x < 2 ^ 32) → m.oid < 2 ^ 32 → Says old_tuple (old_tuple_bytes m.old) m.old → Says (delete in_block) (delete_bytes m) m
unfolding delete delete_bytes
delete_says in_block m e xid oid old = next_to m.xid (xid_says in_block m.xid e xid) (next_to m.oid (say_unsigned oid) (at_last m.old old refl))

relations_say : (oids : List ℕ) → All (λ n. n < 2 ^ 32) oids → Says (times (length oids) (one (Unsigned four))) (relations_bytes oids) oids
unfolding relations_bytes
relations_say oids fit = each (one (Unsigned four)) (number_bytes four) oids (λ k d lt. say_unsigned (fit k d lt))

pub truncate_says : (in_block : Bool) (m : Truncate) → is_some m.xid ≡ in_block → IfSome m.xid (λ x. x < 2 ^ 32) → length m.relations < 2 ^ 31 → All (λ n. n < 2 ^ 32) m.relations → Says (truncate in_block) (truncate_bytes m) m
unfolding truncate truncate_bytes
truncate_says in_block m e xid few fit =
    next_to m.xid (xid_says in_block m.xid e xid) (next_to (length m.relations) (say_count few) (next_to m.options (options_says m.options) (at_last m.relations (relations_say m.relations fit) refl)))

content_says : (bytes : List ℕ) → length bytes < 2 ^ 31 → Says content (content_bytes bytes) bytes
unfolding content content_bytes
content_says bytes short = next_to (length bytes) (say_count short) say_content

pub logical_message_says : (in_block : Bool) (m : LogicalMessage) → is_some m.xid ≡ in_block → IfSome m.xid (λ x. x < 2 ^ 32) → m.lsn < 2 ^ 64 → IsName m.prefix → length m.content < 2 ^ 31
    → Says (logical_message in_block) (logical_message_bytes m) m
unfolding logical_message logical_message_bytes
logical_message_says in_block m e xid lsn prefix short =
    next_to m.xid (xid_says in_block m.xid e xid) (next_to m.transactional (flag_says m.transactional) (next_to m.lsn (say_unsigned lsn)
    (next_to m.prefix (say_string prefix) (at_last m.content (content_says m.content short) refl))))

pub stream_start_says : (m : StreamStart) → m.xid < 2 ^ 32 → Says stream_start (stream_start_bytes m) m
unfolding stream_start stream_start_bytes
stream_start_says m xid = next_to m.xid (say_unsigned xid) (at_last m.is_first (flag_says m.is_first) refl)

pub stream_commit_says : (m : StreamCommit) → m.xid < 2 ^ 32 → m.commit_lsn < 2 ^ 64 → m.end_lsn < 2 ^ 64 → FitsSigned w64 m.commit_time → Says stream_commit (stream_commit_bytes m) m
unfolding stream_commit stream_commit_bytes
stream_commit_says m xid lsn end time =
    next_to m.xid (say_unsigned xid) (next_to 0 no_flags_says (next_to m.commit_lsn (say_unsigned lsn) (next_to m.end_lsn (say_unsigned end) (at_last m.commit_time (say_signed time) refl))))

pub stream_abort_says : (m : StreamAbort) → m.xid < 2 ^ 32 → m.subtransaction < 2 ^ 32 → m.lsn < 2 ^ 64 → FitsSigned w64 m.abort_time → Says stream_abort (stream_abort_bytes m) m
unfolding stream_abort stream_abort_bytes
stream_abort_says m xid subtransaction lsn time =
    next_to m.xid (say_unsigned xid) (next_to m.subtransaction (say_unsigned subtransaction) (next_to m.lsn (say_unsigned lsn) (at_last m.abort_time (say_signed time) refl)))

-- ---- behind the tag

-- a tag's letter, and the fields of its kind
of_kind : {A : Type 0} {p : Format A} {bytes : List ℕ} {m : A} (in_block : Bool) (kind : A → Message) (letter : ℕ) → tag_table letter ≡ None → body in_block (tag_of letter) ≡ fields_of kind p → Says p bytes m
    → Says (message in_block) (letter ∷ bytes) (kind m)
unfolding message tag
of_kind {bytes = bytes} {m = m} in_block kind letter known same said =
    next_to (tag_of letter) (at_last letter (say_byte letter known) refl) (rw same (at_last m said refl))

-- what is written for a message: but for two kinds, a letter and the fields of one format
pub message_says : (in_block : Bool) (m : Message) → BodySays in_block m → Says (message in_block) (message_bytes m) m
unfolding message tag
message_says in_block (messages.Relation xid m) (e, fits, said) = next_to tags.Relation (at_last 82 (say_byte 82 refl) refl) (next_to xid (xid_says in_block xid e fits) (at_last m said refl))
message_says in_block messages.StreamStop said = next_to tags.StreamStop (at_last 69 (say_byte 69 refl) refl) nothing
message_says in_block m said = of_kind in_block _ _ refl refl said
