-- The rules of relations, rows and values as sentences: what stands in which place of a list, and which names are
-- the same. `src/laws.rt` says that the definitions keep them.
use Rattle.std.specs.Prelude.{◌≡◌, ◌≢◌, ◌↔◌, ◌⊎◌, ◌<◌, ℕ, codes, true, List, [], ◌∷◌, length, Option, Some, None, slice_get}
use Rattle.messages.specs.declared.relation.Relation.{Relation}
use Rattle.messages.specs.declared.relation.RelationColumn.{RelationColumn}
use Rattle.messages.specs.declared.tuple.Column.{Column as SentColumn}
use Rattle.messages.specs.declared.tuple.Column.TheVariants.{Null, Unchanged, Text as SentText}
use Rattle.messages.specs.declared.tuple.OldTuple.{OldTuple}
use Rattle.messages.specs.declared.tuple.OldTuple.TheVariants.{Key as OldKey, Full as OldRow}
use Rattle.messages.specs.declared.row.RowMessage.{RowMessage}
use Rattle.messages.specs.declared.row.RowMessage.TheVariants.{Insert, Update, Delete}
use Rattle.model.specs.declared.table_def.Column.{Column}
use Rattle.model.specs.declared.value.Value.{Value}
use Rattle.model.specs.declared.change.Change.{Change}
use Rattle.model.specs.declared.change.Change.TheVariants.{Put, Set, Remove}
use Rattle.model.specs.declared.patch.ColumnPatch.{ColumnPatch}
use Rattle.model.specs.declared.patch.ColumnPatch.TheVariants.{Keep, Null as BecomesNull, Value as Becomes}
use Rattle.model.specs.Definition.{Definition}
use Rattle.model.specs.Types.{Spells}
use Rattle.relcache.specs.declared.fault.RelFault.{RelFault}
use Rattle.relcache.specs.declared.fault.RelFault.TheVariants.{UnknownRelation, TableMissing, ColumnMissing, KeyNotSent, ColumnCount, BadValue, NullKey, OutOfMemory}
use Rattle.relcache.specs.declared.published.PublishedColumn.{PublishedColumn}
use Rattle.relcache.specs.declared.mapping.Field.{Field}
use Rattle.relcache.specs.declared.mapping.ColumnSource.TheVariants.{Sent, Default}
use Rattle.relcache.specs.Published.{Published, Relations, relation_of}
use Rattle.relcache.specs.Mapping.{Mapped}

-- ---- which fault is answered

-- the faults in their order: the first that applies is answered
abbrev pub order : List RelFault
order = UnknownRelation ∷ TableMissing ∷ ColumnMissing ∷ KeyNotSent ∷ ColumnCount ∷ BadValue ∷ NullKey ∷ OutOfMemory ∷ []

-- ---- what is learnt

-- what counts of a relation: its names, and each column's name and flag, in the publisher's order
pub record Says (r : Relation) (said : Published) : Type 0 where
  pub namespace : said.namespace ≡ r.namespace
  pub name : said.name ≡ r.name
  pub count : length said.columns ≡ length r.columns
  pub columns : (place : ℕ) (c : RelationColumn) → slice_get r.columns place ≡ Some c
      → slice_get said.columns place ≡ Some (record { name = c.name; is_key = c.is_key })

-- ---- the table of a relation

-- the relation names this table; an empty namespace means pg_catalog
pub record IsNamedBy (t : Definition) (r : Published) : Type 0 where
  pub name : t.name ≡ r.name
  pub namespace : r.namespace ≢ [] → t.namespace ≡ r.namespace
  pub system : r.namespace ≡ [] → t.namespace ≡ codes "pg_catalog"

-- no table of the catalog has these names
abbrev pub HasNoTable : List Definition → Published → Type 0
HasNoTable tables r = (place : ℕ) (t : Definition) → slice_get tables place ≡ Some t → ¬ (IsNamedBy t r)

-- the table in this place is the one that the relation names, and none in front of it is
pub record IsTableOf (tables : List Definition) (r : Published) (place : ℕ) (t : Definition) : Type 0 where
  pub stands : slice_get tables place ≡ Some t
  pub named : IsNamedBy t r
  pub first : (before : ℕ) (other : Definition) → before < place → slice_get tables before ≡ Some other
      → ¬ (IsNamedBy other r)

-- ---- columns

-- the column in this place of a tuple is published under this name
abbrev pub Publishes : List PublishedColumn → ℕ → List ℕ → Type 0
Publishes sent place name = (c : PublishedColumn) × (slice_get sent place ≡ Some c) × (c.name ≡ name)

-- it is, and is flagged as key
abbrev pub Flags : List PublishedColumn → ℕ → List ℕ → Type 0
Flags sent place name = (c : PublishedColumn) × (slice_get sent place ≡ Some c) × (c.name ≡ name) × (c.is_key ≡ true)

-- a column of the table has this name
abbrev pub HasColumn : List Column → List ℕ → Type 0
HasColumn columns name = (number : ℕ) × (c : Column) × (slice_get columns number ≡ Some c) × (c.name ≡ name)

-- a published column is in no column of the table
abbrev pub PublishesOther : List PublishedColumn → List Column → Type 0
PublishesOther sent columns = (place : ℕ) × (name : List ℕ) × Publishes sent place name × (¬ (HasColumn columns name))

-- one name is published in two places
abbrev pub PublishesTwice : List PublishedColumn → Type 0
PublishesTwice sent =
    (place : ℕ) × (later : ℕ) × (name : List ℕ)
    × (place < later) × Publishes sent place name × Publishes sent later name

-- the column is the primary key's k-th
abbrev pub IsKeyColumn : Definition → ℕ → Column → Type 0
IsKeyColumn t k c = (number : ℕ) × (slice_get t.primary k ≡ Some number) × (slice_get t.columns number ≡ Some c)

-- one of the primary key's columns is not flagged as key by the relation
abbrev pub IsKeyUnsent : List PublishedColumn → Definition → Type 0
IsKeyUnsent sent t =
    (k : ℕ) × (number : ℕ) × (slice_get t.primary k ≡ Some number)
    × ((c : Column) (place : ℕ) → slice_get t.columns number ≡ Some c → ¬ (Flags sent place c.name))

-- ---- mappings

-- what applies to a relation that is used
abbrev pub IsRelationFault : List Definition → Published → RelFault → Type 0
IsRelationFault tables r TableMissing = HasNoTable tables r
IsRelationFault tables r ColumnMissing =
    (place : ℕ) × (t : Definition) × IsTableOf tables r place t × PublishesOther r.columns t.columns
IsRelationFault tables r ColumnCount = PublishesTwice r.columns
IsRelationFault tables r UnknownRelation = ⊥
IsRelationFault tables r KeyNotSent = ⊥
IsRelationFault tables r BadValue = ⊥
IsRelationFault tables r NullKey = ⊥
IsRelationFault tables r OutOfMemory = ⊥

-- what applies to an OID that is used: no relation was learnt for it, or what applies to that relation
abbrev pub IsUseFault : List Definition → Relations → ℕ → RelFault → Type 0
IsUseFault tables relations oid UnknownRelation = relation_of relations oid ≡ None
IsUseFault tables relations oid fault =
    (r : Published) × (relation_of relations oid ≡ Some r) × IsRelationFault tables r fault

-- Each column of the table takes its value from the published column of its name, wherever that stands, and
-- otherwise from its default. So does the k-th column of the primary key, where all of them are flagged as key.
pub record Maps (sent : List PublishedColumn) (t : Definition) (m : Mapped) : Type 0 where
  pub published : m.published ≡ length sent
  pub width : length m.columns ≡ length t.columns
  pub by_name : (number place : ℕ) (c : Column) → slice_get t.columns number ≡ Some c → Publishes sent place c.name
      → slice_get m.columns number ≡ Some (Sent (record { place = place; kind = c.kind }))
  pub by_default : (number : ℕ) (c : Column) (default : Option Value) → slice_get t.columns number ≡ Some c
      → ((place : ℕ) → ¬ (Publishes sent place c.name)) → slice_get t.defaults number ≡ Some default
      → slice_get m.columns number ≡ Some (Default default)
  pub by_null : (number : ℕ) (c : Column) → slice_get t.columns number ≡ Some c
      → ((place : ℕ) → ¬ (Publishes sent place c.name)) → slice_get t.defaults number ≡ None
      → slice_get m.columns number ≡ Some (Default None)
  pub unsent : (m.key ≡ None) ↔ IsKeyUnsent sent t
  pub key_width : (fields : List Field) → m.key ≡ Some fields → length fields ≡ length t.primary
  pub key : (fields : List Field) (k place : ℕ) (c : Column) → m.key ≡ Some fields
      → IsKeyColumn t k c → Flags sent place c.name → slice_get fields k ≡ Some (record { place = place; kind = c.kind })

-- ---- tuples

-- the field's column of the tuple tells this value: a null, or the one that its text spells
abbrev pub Tells : List SentColumn → Field → Option Value → Type 0
Tells tuple field None = slice_get tuple field.place ≡ Some Null
Tells tuple field (Some value) =
    (text : List ℕ) × (slice_get tuple field.place ≡ Some (SentText text)) × Spells field.kind text value

-- what the field's column asks of an update: to keep what is sent as unchanged, and else to set what it tells
abbrev pub Patches : List SentColumn → Field → ColumnPatch → Type 0
Patches tuple field Keep = slice_get tuple field.place ≡ Some Unchanged
Patches tuple field BecomesNull = Tells tuple field None
Patches tuple field (Becomes value) = Tells tuple field (Some value)

-- the row of an insert: a published column as the tuple tells it, and else the default
pub record IsRowOf (m : Mapped) (tuple : List SentColumn) (row : List (Option Value)) : Type 0 where
  pub width : length row ≡ length m.columns
  pub sent : (number : ℕ) (field : Field) → slice_get m.columns number ≡ Some (Sent field)
      → (value : Option Value) × Tells tuple field value × (slice_get row number ≡ Some value)
  pub default : (number : ℕ) (default : Option Value) → slice_get m.columns number ≡ Some (Default default)
      → slice_get row number ≡ Some default

-- the patch of an update: a published column as the tuple asks, and else kept
pub record IsPatchOf (m : Mapped) (tuple : List SentColumn) (patch : List ColumnPatch) : Type 0 where
  pub width : length patch ≡ length m.columns
  pub sent : (number : ℕ) (field : Field) → slice_get m.columns number ≡ Some (Sent field)
      → (column : ColumnPatch) × Patches tuple field column × (slice_get patch number ≡ Some column)
  pub kept : (number : ℕ) (default : Option Value) → slice_get m.columns number ≡ Some (Default default)
      → slice_get patch number ≡ Some Keep

-- the key that a tuple is looked up by: what it tells of each of the primary key's columns
pub record IsKeyOf (fields : List Field) (tuple : List SentColumn) (key : List Value) : Type 0 where
  pub width : length key ≡ length fields
  pub values : (k : ℕ) (field : Field) → slice_get fields k ≡ Some field
      → (value : Value) × Tells tuple field (Some value) × (slice_get key k ≡ Some value)

-- ---- row messages

-- the tuple is the old one, a key or a whole row
abbrev pub IsOld : OldTuple → List SentColumn → Type 0
IsOld (OldKey old) tuple = tuple ≡ old
IsOld (OldRow old) tuple = tuple ≡ old

-- a row is looked up by this tuple: the old one if it is sent, and else the new one; an insert looks up none
abbrev pub LooksUp : RowMessage → List SentColumn → Type 0
LooksUp (Insert new) tuple = ⊥
LooksUp (Update None new) tuple = tuple ≡ new
LooksUp (Update (Some old) new) tuple = IsOld old tuple
LooksUp (Delete old) tuple = IsOld old tuple

-- the tuple is the new one
abbrev pub IsNew : RowMessage → List SentColumn → Type 0
IsNew (Insert new) tuple = tuple ≡ new
IsNew (Update old new) tuple = tuple ≡ new
IsNew (Delete old) tuple = ⊥

-- a column of the new row can't be read, or is sent as unchanged in an insert
abbrev pub IsBadRow : Mapped → RowMessage → Type 0
IsBadRow m (Insert new) =
    (number : ℕ) × (field : Field) × (slice_get m.columns number ≡ Some (Sent field))
    × ((value : Option Value) → ¬ (Tells new field value))
IsBadRow m (Update old new) =
    (number : ℕ) × (field : Field) × (slice_get m.columns number ≡ Some (Sent field))
    × ((column : ColumnPatch) → ¬ (Patches new field column))
IsBadRow m (Delete old) = ⊥

-- this holds of a column of the primary key, in the tuple that a row is looked up by
abbrev pub AtKey : Mapped → RowMessage → (List SentColumn → Field → Type 0) → Type 0
AtKey m row P =
    (tuple : List SentColumn) × (fields : List Field) × (k : ℕ) × (field : Field)
    × LooksUp row tuple × (m.key ≡ Some fields) × (slice_get fields k ≡ Some field) × P tuple field

-- what applies to a row message
abbrev pub IsRowFault : Mapped → RowMessage → RelFault → Type 0
IsRowFault m row KeyNotSent = (tuple : List SentColumn) × LooksUp row tuple × (m.key ≡ None)
IsRowFault m row ColumnCount =
    (tuple : List SentColumn) × (LooksUp row tuple ⊎ IsNew row tuple) × (length tuple ≢ m.published)
IsRowFault m row BadValue =
    IsBadRow m row ⊎ AtKey m row (λ tuple field. (value : Option Value) → ¬ (Tells tuple field value))
IsRowFault m row NullKey = AtKey m row (λ tuple field. Tells tuple field None)
IsRowFault m row UnknownRelation = ⊥
IsRowFault m row TableMissing = ⊥
IsRowFault m row ColumnMissing = ⊥
IsRowFault m row OutOfMemory = ⊥

-- the change that a row message asks for: an insert puts a row, an update sets it, a delete removes it
abbrev pub Asks : Mapped → RowMessage → Change → Type 0
Asks m (Insert new) change = (row : List (Option Value)) × (change ≡ Put m.table row) × IsRowOf m new row
Asks m (Update old new) change =
    (lookup : List SentColumn) × (fields : List Field) × (key : List Value) × (patch : List ColumnPatch)
    × (change ≡ Set m.table key patch) × LooksUp (Update old new) lookup × (m.key ≡ Some fields) × IsKeyOf fields lookup key × IsPatchOf m new patch
Asks m (Delete old) change =
    (lookup : List SentColumn) × (fields : List Field) × (key : List Value) × (change ≡ Remove m.table key)
    × LooksUp (Delete old) lookup × (m.key ≡ Some fields) × IsKeyOf fields lookup key
