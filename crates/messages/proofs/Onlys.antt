-- What spells a message is just the bytes that are written for it.
use Rattle.std.proofs.Common.{◌≡◌, ℕ, zero, suc, Bool, true, false, cond, List, [], ◌∷◌, ◌++◌, length, Option, Some, None, refl, sym, ap, subst, ◌∙◌, append_assoc, inl, inr, ◌⊎◌}
use Rattle.std.specs.Prelude.{◌==◌, ◌||◌}
use Rattle.std.specs.List.{flat_map, AllByRecursion}
use Rattle.std.proofs.lemmas.List.{append-nil}
use Rattle.std.proofs.lemmas.Bool.{eqb-true}
use Rattle.std.proofs.lemmas.List.Concat.{flat_map-cons}
use Rattle.messages.specs.declared.fault.MsgFault.{MsgFault}
use Rattle.messages.specs.declared.fault.MsgFault.TheVariants.{UnknownTag, TwoPhase, BadFlag, BadTupleKind, BinaryColumn}
use Rattle.messages.specs.declared.message.Message.{Message}
use Rattle.messages.specs.declared.tuple.Column.{Column}
use Rattle.messages.specs.declared.tuple.OldTuple.{OldTuple}
use Rattle.messages.specs.declared.tag.Tag.{Tag}
use Rattle.messages.specs.declared.tag.Tag.TheVariants as tags
use Rattle.messages.specs.Field.{number_bytes, two, four, Field, Value, Unsigned, Count, Byte, String, Begins, spelling}
use Rattle.messages.specs.Format.{Format, done, one, followed_by, times, Spells}
use Rattle.messages.specs.Letters.{none_or, one_of, is_in, flag, no_flags, truncate_options, options_of, new_tuple_follows, identity, identity_of, tag_of, tag}
use Rattle.messages.specs.Messages.{text, column_of, column, tuple, old_tuple_of, old_tuple, old_before_new, optional_old_tuple, xid_in, begin, commit, origin, relation_column, relation_columns, relation, type_name, insert, update, delete, truncate, content, logical_message, stream_start, stream_commit, stream_abort, body, message, Spelled}
use Rattle.messages.specs.Writing.{signed_bytes, flag_bytes, string_bytes, identity_bytes, xid_bytes, column_bytes, tuple_bytes, begin_bytes, commit_bytes, relation_column_bytes, relation_columns_bytes, relation_bytes, options_bytes, old_tuple_bytes, optional_old_tuple_bytes, origin_bytes, type_name_bytes, insert_bytes, update_bytes, delete_bytes, relations_bytes, truncate_bytes, content_bytes, logical_message_bytes, stream_start_bytes, stream_commit_bytes, stream_abort_bytes, message_bytes}

-- The bytes are the front and then the rest.
pub record Front (bytes front rest : List ℕ) : Type 0 where
  pub parts : bytes ≡ front ++ rest

-- Whatever spells a value of the format is what is written for it.
abbrev pub Means : {A : Type 0} → Format A → (A → List ℕ) → Type 0
Means {A} p write = (bytes : List ℕ) (value : A) (rest : List ℕ) → Spells p bytes value rest → Front bytes (write value) rest

begun : {bytes rest : List ℕ} {f : Field} {value : Value f} → Begins bytes f value rest → Front bytes (spelling f value) rest
begun b = record { parts = b.parts }

join : {bytes x middle y rest : List ℕ} → Front bytes x middle → Front middle y rest → Front bytes (x ++ y) rest
join {x = x} {y = y} {rest = rest} p q = record { parts = p.parts ∙ ap (λ (b : List ℕ). x ++ b) q.parts ∙ sym (append_assoc x y rest) }

ending : {bytes x middle rest : List ℕ} → Front bytes x middle → middle ≡ rest → Front bytes x rest
ending {x = x} p q = record { parts = p.parts ∙ ap (λ (b : List ℕ). x ++ b) q }

after_letter : {bytes front rest : List ℕ} (b : ℕ) → Front bytes front rest → Front (b ∷ bytes) (b ∷ front) rest
after_letter b f = record { parts = ap (λ (x : List ℕ). b ∷ x) f.parts }

-- a letter alone
letter_alone : {bytes rest : List ℕ} (b : ℕ) → bytes ≡ rest → Front (b ∷ bytes) (b ∷ []) rest
letter_alone b e = record { parts = ap (λ (x : List ℕ). b ∷ x) e }

-- a format behind a byte
behind_byte : {bytes : List ℕ} {front rest middle : List ℕ} {b : ℕ} → Front bytes (b ∷ []) middle → Front (b ∷ middle) front rest → Front bytes front rest
behind_byte {front = front} {rest = rest} p q = subst (λ (x : List ℕ). Front x front rest) (sym p.parts) q

-- ---- single bytes

is_in_either : (x : ℕ) (b : Bool) (e : Bool) → (e || b) ≡ true → (e ≡ true) ⊎ (b ≡ true)
is_in_either x b true h = inl refl
is_in_either x b false h = inr h

-- what holds of each byte of a list
each_in : (P : ℕ → Type 0) (xs : List ℕ) → AllByRecursion P xs → (b : ℕ) → is_in xs b ≡ true → P b
each_in P [] holds b e = absurd cc
each_in P (x ∷ xs) holds b e =
    elim (is_in_either x (is_in xs b) (x == b) e) [
      | inl here ↦ subst P (eqb-true x b here) holds.0
      | inr there ↦ each_in P xs holds.1 b there
    ]

table_ok : (b : Bool) (fault : MsgFault) → none_or b fault ≡ None → b ≡ true
table_ok true fault e = refl
table_ok false fault e = absurd cc

-- what holds of each byte that may stand here
each_of : (P : ℕ → Type 0) (xs : List ℕ) (fault : MsgFault) → AllByRecursion P xs → (b : ℕ) → one_of xs fault b ≡ None → P b
each_of P xs fault holds b e = each_in P xs holds b (table_ok (is_in xs b) fault e)

-- one byte alone may stand here
only_byte : (x : ℕ) (fault : MsgFault) → Means (one (Byte (one_of (x ∷ []) fault))) (λ _. x ∷ [])
only_byte x fault bytes value rest s =
    subst (λ (y : ℕ). Front bytes (y ∷ []) rest) (each_of (λ y. y ≡ x) (x ∷ []) fault (refl, tt) value s.fits) (begun s)

-- a byte that is read as a value, which is written as this byte
byte_means : {A : Type 0} {table : ℕ → Option MsgFault} (read : ℕ → A) (write : A → List ℕ) → ((b : ℕ) → table b ≡ None → b ∷ [] ≡ write (read b))
    → Means (followed_by (one (Byte table)) (λ b. done (read b))) write
byte_means read write back bytes value rest (b, middle, s, (is, end)) =
    rw is (ending (subst (λ (x : List ℕ). Front bytes x middle) (back b s.fits) (begun s)) end)

flag_means : Means flag flag_bytes
unfolding flag
flag_means = byte_means (λ b. b == 1) flag_bytes (each_of (λ b. b ∷ [] ≡ flag_bytes (b == 1)) (0 ∷ 1 ∷ []) BadFlag (refl, (refl, tt)))

identity_means : Means identity identity_bytes
unfolding identity
identity_means =
    byte_means identity_of identity_bytes
    (each_of (λ b. b ∷ [] ≡ identity_bytes (identity_of b)) (100 ∷ 110 ∷ 102 ∷ 105 ∷ []) BadFlag (refl, (refl, (refl, (refl, tt)))))

options_means : Means truncate_options options_bytes
unfolding truncate_options
options_means =
    byte_means options_of options_bytes
    (each_of (λ b. b ∷ [] ≡ options_bytes (options_of b)) (0 ∷ 1 ∷ 2 ∷ 3 ∷ []) BadFlag (refl, (refl, (refl, (refl, tt)))))

no_flags_means : Means no_flags (λ _. 0 ∷ [])
unfolding no_flags
no_flags_means = only_byte 0 BadFlag

new_tuple_means : Means new_tuple_follows (λ _. 78 ∷ [])
unfolding new_tuple_follows
new_tuple_means = only_byte 78 BadTupleKind

string_means : Means (one String) string_bytes
unfolding string_bytes
string_means bytes value rest s = begun s

xid_means : (in_block : Bool) → Means (xid_in in_block) xid_bytes
unfolding xid_in
xid_means false bytes value rest (is, end) = rw is (record { parts = end })
xid_means true bytes value rest (_, _, xid, (is, end)) = rw is (ending (begun xid) end)

-- ---- lists

times_mean : {A : Type 0} (p : Format A) (write : A → List ℕ) → Means p write → (n : ℕ) (bytes : List ℕ) (values : List A) (rest : List ℕ) → Spells (times n p) bytes values rest
    → Front bytes (flat_map write values) rest × (length values ≡ n)
times_mean p write m zero bytes values rest (is, end) = rw is (record { parts = end }, refl)
times_mean p write m (suc n) bytes values rest (_, _, first, (_, _, others, (is, end))) =
    let t = times_mean p write m n _ _ _ others in
    rw (is, flat_map-cons) (join (m _ _ _ first) (ending t.0 end), ap suc t.1)

-- a count, and so many of them
counted : {A : Type 0} (p : Format A) (write : A → List ℕ) → Means p write → Means (followed_by (one (Count two)) (λ n. times n p)) (λ values. number_bytes two (length values) ++ flat_map write values)
counted p write m bytes values rest (n, _, count, each) =
    let t = times_mean p write m n _ _ _ each in
    rw t.1 (join (begun count) t.0)

-- ---- messages, without their tag

begin_means : Means begin begin_bytes
unfolding begin begin_bytes signed_bytes
begin_means bytes value rest (_, _, lsn, (_, _, time, (_, _, xid, (is, end)))) = rw is (join (begun lsn) (join (begun time) (ending (begun xid) end)))

commit_means : Means commit commit_bytes
unfolding commit commit_bytes signed_bytes
commit_means bytes value rest (_, _, flags, (_, _, lsn, (_, _, stop, (_, _, time, (is, end))))) =
    rw is (join (no_flags_means _ _ _ flags) (join (begun lsn) (join (begun stop) (ending (begun time) end))))

relation_column_means : Means relation_column relation_column_bytes
unfolding relation_column relation_column_bytes signed_bytes
relation_column_means bytes value rest (_, _, flags, (_, _, name, (_, _, oid, (_, _, modifier, (is, end))))) =
    rw is (join (flag_means _ _ _ flags) (join (string_means _ _ _ name) (join (begun oid) (ending (begun modifier) end))))

relation_columns_means : Means relation_columns relation_columns_bytes
unfolding relation_columns relation_columns_bytes
relation_columns_means = counted relation_column relation_column_bytes relation_column_means

relation_means : Means relation relation_bytes
unfolding relation relation_bytes
relation_means bytes value rest (_, _, oid, (_, _, namespace, (_, _, name, (_, _, kind, (_, _, columns, (is, end)))))) =
    rw is (join (begun oid) (join (string_means _ _ _ namespace) (join (string_means _ _ _ name)
    (join (identity_means _ _ _ kind) (ending (relation_columns_means _ _ _ columns) end)))))

-- ---- tuples

kind_or : (kinds b_is : Bool) → cond kinds None (cond b_is (Some BinaryColumn) (Some BadTupleKind)) ≡ None → kinds ≡ true
kind_or true b_is e = refl
kind_or false true e = absurd cc
kind_or false false e = absurd cc

text_means : (bytes : List ℕ) (value : Column) (rest : List ℕ) → Spells text bytes value rest → Front (116 ∷ bytes) (column_bytes value) rest
unfolding text column_bytes
text_means bytes value rest (_, middle, count, (t, _, s, (is, end))) =
    let len : Front bytes (number_bytes four (length t)) middle = subst (λ (n : ℕ). Front bytes (number_bytes four n) middle) (sym s.fits.0) (begun count) in
    rw is (after_letter 116 (join len (ending (begun s) end)))

column_body : (bytes : List ℕ) (value : Column) (rest : List ℕ) (b : ℕ) → is_in (110 ∷ 117 ∷ 116 ∷ []) b ≡ true → Spells (column_of b) bytes value rest → Front (b ∷ bytes) (column_bytes value) rest
unfolding column_bytes
column_body bytes value rest =
    each_in (λ x. Spells (column_of x) bytes value rest → Front (x ∷ bytes) (column_bytes value) rest) (110 ∷ 117 ∷ 116 ∷ [])
    (λ s. rw s.0 (letter_alone 110 s.1), (λ s. rw s.0 (letter_alone 117 s.1), (text_means bytes value rest, tt)))

column_means : Means column column_bytes
unfolding column
column_means bytes value rest (b, middle, kind, s) =
    behind_byte (begun kind) (column_body middle value rest b (kind_or (is_in (110 ∷ 117 ∷ 116 ∷ []) b) (is_in (98 ∷ []) b) kind.fits) s)

tuple_means : Means tuple tuple_bytes
unfolding tuple tuple_bytes
tuple_means = counted column column_bytes column_means

insert_means : (in_block : Bool) → Means (insert in_block) insert_bytes
unfolding insert insert_bytes
insert_means in_block bytes value rest (_, _, xid, (_, _, oid, (_, _, letter, (_, _, new, (is, end))))) =
    rw is (join (xid_means in_block _ _ _ xid) (join (begun oid) (join (new_tuple_means _ _ _ letter) (ending (tuple_means _ _ _ new) end))))

old_tuple_body : (bytes : List ℕ) (value : OldTuple) (rest : List ℕ) (b : ℕ) → one_of (75 ∷ 79 ∷ []) BadTupleKind b ≡ None → Spells (old_tuple_of b) bytes value rest → Front (b ∷ bytes) (old_tuple_bytes value) rest
unfolding old_tuple_bytes
old_tuple_body bytes value rest =
    each_of (λ x. Spells (old_tuple_of x) bytes value rest → Front (x ∷ bytes) (old_tuple_bytes value) rest) (75 ∷ 79 ∷ []) BadTupleKind
    (λ s. rw s.3.0 (after_letter 75 (ending (tuple_means _ _ _ s.2) s.3.1)), (λ s. rw s.3.0 (after_letter 79 (ending (tuple_means _ _ _ s.2) s.3.1)), tt))

old_tuple_means : Means old_tuple old_tuple_bytes
unfolding old_tuple
old_tuple_means bytes value rest (b, middle, kind, s) = behind_byte (begun kind) (old_tuple_body middle value rest b kind.fits s)

-- an old tuple, and the letter of the new one
old_and_letter : (bytes : List ℕ) (value : Option OldTuple) (rest : List ℕ) (b : ℕ) → one_of (75 ∷ 79 ∷ []) BadTupleKind b ≡ None
    → (old : OldTuple) × (middle : List ℕ) × Spells (old_tuple_of b) bytes old middle × ((letter : ℕ) × (after : List ℕ) × Spells new_tuple_follows middle letter after × ((value ≡ Some old) × (after ≡ rest)))
    → Front (b ∷ bytes) (optional_old_tuple_bytes value) rest
old_and_letter bytes value rest b fits (_, _, old, (_, _, letter, (is, end))) =
    rw is (join (old_tuple_body bytes _ _ b fits old) (ending (new_tuple_means _ _ _ letter) end))

old_body : (bytes : List ℕ) (value : Option OldTuple) (rest : List ℕ) (b : ℕ) → one_of (78 ∷ 75 ∷ 79 ∷ []) BadTupleKind b ≡ None → Spells (old_before_new b) bytes value rest → Front (b ∷ bytes) (optional_old_tuple_bytes value) rest
old_body bytes value rest =
    each_of (λ x. Spells (old_before_new x) bytes value rest → Front (x ∷ bytes) (optional_old_tuple_bytes value) rest) (78 ∷ 75 ∷ 79 ∷ []) BadTupleKind
    (λ s. rw s.0 (letter_alone 78 s.1), (old_and_letter bytes value rest 75 refl, (old_and_letter bytes value rest 79 refl, tt)))

optional_old_means : Means optional_old_tuple optional_old_tuple_bytes
unfolding optional_old_tuple
optional_old_means bytes value rest (b, middle, kind, s) = behind_byte (begun kind) (old_body middle value rest b kind.fits s)

origin_means : Means origin origin_bytes
unfolding origin origin_bytes
origin_means bytes value rest (_, _, lsn, (_, _, name, (is, end))) = rw is (join (begun lsn) (ending (string_means _ _ _ name) end))

type_name_means : (in_block : Bool) → Means (type_name in_block) type_name_bytes
unfolding type_name type_name_bytes
type_name_means in_block bytes value rest (_, _, xid, (_, _, oid, (_, _, namespace, (_, _, name, (is, end))))) =
    rw is (join (xid_means in_block _ _ _ xid) (join (begun oid) (join (string_means _ _ _ namespace) (ending (string_means _ _ _ name) end))))

update_means : (in_block : Bool) → Means (update in_block) update_bytes
unfolding update update_bytes
update_means in_block bytes value rest (_, _, xid, (_, _, oid, (_, _, old, (_, _, new, (is, end))))) =
    rw is (join (xid_means in_block _ _ _ xid) (join (begun oid) (join (optional_old_means _ _ _ old) (ending (tuple_means _ _ _ new) end))))

delete_means : (in_block : Bool) → Means (delete in_block) delete_bytes
unfolding delete delete_bytes
delete_means in_block bytes value rest (_, _, xid, (_, _, oid, (_, _, old, (is, end)))) =
    rw is (join (xid_means in_block _ _ _ xid) (join (begun oid) (ending (old_tuple_means _ _ _ old) end)))

oid_means : Means (one (Unsigned four)) (number_bytes four)
oid_means bytes value rest s = begun s

truncate_means : (in_block : Bool) → Means (truncate in_block) truncate_bytes
unfolding truncate truncate_bytes relations_bytes
truncate_means in_block bytes value rest (_, before, xid, (n, middle, count, (_, _, options, (oids, _, relations, (is, end))))) =
    let t = times_mean (one (Unsigned four)) (number_bytes four) oid_means n _ _ _ relations in
    let counted : Front before (number_bytes four (length oids)) middle = subst (λ (n : ℕ). Front before (number_bytes four n) middle) (sym t.1) (begun count) in
    rw is (join (xid_means in_block _ _ _ xid) (join counted (join (options_means _ _ _ options) (ending t.0 end))))

content_means : Means content content_bytes
unfolding content content_bytes
content_means bytes value rest (_, middle, count, s) =
    let len : Front bytes (number_bytes four (length value)) middle = subst (λ (n : ℕ). Front bytes (number_bytes four n) middle) (sym s.fits) (begun count) in
    join len (begun s)

logical_message_means : (in_block : Bool) → Means (logical_message in_block) logical_message_bytes
unfolding logical_message logical_message_bytes
logical_message_means in_block bytes value rest (_, _, xid, (_, _, flags, (_, _, lsn, (_, _, prefix, (_, _, written, (is, end)))))) =
    rw is (join (xid_means in_block _ _ _ xid) (join (flag_means _ _ _ flags) (join (begun lsn) (join (string_means _ _ _ prefix) (ending (content_means _ _ _ written) end)))))

stream_start_means : Means stream_start stream_start_bytes
unfolding stream_start stream_start_bytes
stream_start_means bytes value rest (_, _, xid, (_, _, flags, (is, end))) = rw is (join (begun xid) (ending (flag_means _ _ _ flags) end))

stream_commit_means : Means stream_commit stream_commit_bytes
unfolding stream_commit stream_commit_bytes signed_bytes
stream_commit_means bytes value rest (_, _, xid, (_, _, flags, (_, _, lsn, (_, _, stop, (_, _, time, (is, end)))))) =
    rw is (join (begun xid) (join (no_flags_means _ _ _ flags) (join (begun lsn) (join (begun stop) (ending (begun time) end)))))

stream_abort_means : Means stream_abort stream_abort_bytes
unfolding stream_abort stream_abort_bytes signed_bytes
stream_abort_means bytes value rest (_, _, xid, (_, _, sub, (_, _, lsn, (_, _, time, (is, end))))) =
    rw is (join (begun xid) (join (begun sub) (join (begun lsn) (ending (begun time) end))))

-- ---- behind the tag

known_tag : (known two_phase : Bool) → cond known None (cond two_phase (Some TwoPhase) (Some UnknownTag)) ≡ None → known ≡ true
known_tag true two_phase e = refl
known_tag false true e = absurd cc
known_tag false false e = absurd cc

abbrev letter_of : Tag → ℕ
letter_of tags.Begin = 66
letter_of tags.Commit = 67
letter_of tags.Origin = 79
letter_of tags.Relation = 82
letter_of tags.TypeName = 89
letter_of tags.Insert = 73
letter_of tags.Update = 85
letter_of tags.Delete = 68
letter_of tags.Truncate = 84
letter_of tags.Message = 77
letter_of tags.StreamStart = 83
letter_of tags.StreamStop = 69
letter_of tags.StreamCommit = 99
letter_of tags.StreamAbort = 65

abbrev tag_letters : List ℕ
tag_letters = 66 ∷ 67 ∷ 79 ∷ 82 ∷ 89 ∷ 73 ∷ 85 ∷ 68 ∷ 84 ∷ 77 ∷ 83 ∷ 69 ∷ 99 ∷ 65 ∷ []

-- the tag that a letter names has this letter
letter_back : (b : ℕ) → is_in tag_letters b ≡ true → letter_of (tag_of b) ≡ b
letter_back b e = each_in (λ x. letter_of (tag_of x) ≡ x) tag_letters (refl, (refl, (refl, (refl, (refl, (refl, (refl, (refl, (refl, (refl, (refl, (refl, (refl, (refl, tt)))))))))))))) b e

tag_means : Means tag (λ t. letter_of t ∷ [])
unfolding tag
tag_means =
    byte_means tag_of (λ t. letter_of t ∷ [])
    (λ b fits. ap (λ (x : ℕ). x ∷ []) (sym (letter_back b (known_tag (is_in tag_letters b) (is_in (98 ∷ 80 ∷ 75 ∷ 114 ∷ 112 ∷ []) b) fits))))

body_means : (in_block : Bool) (t : Tag) (bytes : List ℕ) (m : Message) (rest : List ℕ) → Spells (body in_block t) bytes m rest → Front (letter_of t ∷ bytes) (message_bytes m) rest
body_means in_block tags.Begin bytes m rest (_, _, s, (is, end)) = rw is (after_letter 66 (ending (begin_means _ _ _ s) end))
body_means in_block tags.Commit bytes m rest (_, _, s, (is, end)) = rw is (after_letter 67 (ending (commit_means _ _ _ s) end))
body_means in_block tags.Origin bytes m rest (_, _, s, (is, end)) = rw is (after_letter 79 (ending (origin_means _ _ _ s) end))
body_means in_block tags.TypeName bytes m rest (_, _, s, (is, end)) = rw is (after_letter 89 (ending (type_name_means in_block _ _ _ s) end))
body_means in_block tags.Insert bytes m rest (_, _, s, (is, end)) = rw is (after_letter 73 (ending (insert_means in_block _ _ _ s) end))
body_means in_block tags.Update bytes m rest (_, _, s, (is, end)) = rw is (after_letter 85 (ending (update_means in_block _ _ _ s) end))
body_means in_block tags.Delete bytes m rest (_, _, s, (is, end)) = rw is (after_letter 68 (ending (delete_means in_block _ _ _ s) end))
body_means in_block tags.Truncate bytes m rest (_, _, s, (is, end)) = rw is (after_letter 84 (ending (truncate_means in_block _ _ _ s) end))
body_means in_block tags.Message bytes m rest (_, _, s, (is, end)) = rw is (after_letter 77 (ending (logical_message_means in_block _ _ _ s) end))
body_means in_block tags.StreamStart bytes m rest (_, _, s, (is, end)) = rw is (after_letter 83 (ending (stream_start_means _ _ _ s) end))
body_means in_block tags.StreamCommit bytes m rest (_, _, s, (is, end)) = rw is (after_letter 99 (ending (stream_commit_means _ _ _ s) end))
body_means in_block tags.StreamAbort bytes m rest (_, _, s, (is, end)) = rw is (after_letter 65 (ending (stream_abort_means _ _ _ s) end))
body_means in_block tags.Relation bytes m rest (_, _, xid, (_, _, s, (is, end))) = rw is (after_letter 82 (join (xid_means in_block _ _ _ xid) (ending (relation_means _ _ _ s) end)))
body_means in_block tags.StreamStop bytes m rest (is, end) = rw is (letter_alone 69 end)

-- what spells a message is just the bytes that are written for it
pub spelled_is_written : (payload : List ℕ) (in_block : Bool) (m : Message) → Spelled payload in_block m → payload ≡ message_bytes m
unfolding Spelled message
spelled_is_written payload in_block m s =
    let whole = behind_byte (tag_means payload s.0 s.1 s.2) (body_means in_block s.0 s.1 m [] s.3) in
    whole.parts ∙ append-nil (message_bytes m)

pub spelled_once : (a b : List ℕ) (in_block : Bool) (m : Message) → Spelled a in_block m → Spelled b in_block m → a ≡ b
spelled_once a b in_block m s t = spelled_is_written a in_block m s ∙ sym (spelled_is_written b in_block m t)
