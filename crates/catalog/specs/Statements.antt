-- The rules of a catalog's document as sentences: which field is there and what stands in which place of an array.
-- `src/laws.rt` says that the definitions keep them.
use Rattle.std.specs.Prelude.{◌≡◌, ◌≢◌, ◌↔◌, ◌⊎◌, ◌<◌, ℕ, ℤ, Bool, codes, List, [], ◌∷◌, length, Option, Some, None, Ok, slice_get, Contains}
use Rattle.toml.specs.Data.{Data, string, integer, boolean, float, datetime, array, table, Items, get_item, Members, get_member}
use Rattle.toml.specs.Parse.{parse_document}
use Rattle.model.specs.declared.table_def.Column.{Column}
use Rattle.model.specs.declared.table_def.ColumnType.{ColumnType}
use Rattle.model.specs.declared.table_def.ColumnType.TheVariants.{Int, Text, Bool as Truth}
use Rattle.model.specs.declared.value.Value.{Value}
use Rattle.model.specs.declared.value.Value.TheVariants.{Int as IntValue, Text as TextValue, Bool as TruthValue}
use Rattle.model.specs.Definition.{Definition}
use Rattle.catalog.specs.declared.draft.DefaultDraft.{DefaultDraft}
use Rattle.catalog.specs.declared.draft.DefaultDraft.TheVariants.{Missing, Given, OtherKind}
use Rattle.catalog.specs.declared.draft.ColumnDraft.{ColumnDraft}
use Rattle.catalog.specs.declared.fault.CatalogFault.{CatalogFault}
use Rattle.catalog.specs.declared.fault.CatalogFault.TheVariants.{NotToml, UnknownField, DuplicateTable, DuplicateColumn, NoPrimaryKey, KeyColumnUnknown, BadDefault, OverLimit, OutOfMemory}
use Rattle.catalog.specs.declared.draft.TableDraft.{TableDraft}
use Rattle.catalog.specs.Document.{tables_of}
use Rattle.catalog.specs.Catalog.{catalog_of}
use Rattle.catalog.specs.Valid.{Definitions}
use Rattle.catalog.specs.First.{IsRefusedFirst}

-- ---- what a document says

-- no field of the table has another name than these
abbrev pub HasOnly : List (List ℕ) → Members → Type 0
HasOnly names fields = (name : List ℕ) (value : Data) → get_member name fields ≡ Some value → Contains names name

-- the value is a table with these fields, none of which has another name than these
pub record HasFields (names : List (List ℕ)) (value : Data) (fields : Members) : Type 0 where
  pub is_table : value ≡ table fields
  pub only : HasOnly names fields

-- the field of this name is there, and this holds of its value
abbrev pub HasField : Members → List ℕ → (Data → Type 0) → Type 0
HasField fields name P = (value : Data) × (get_member name fields ≡ Some value) × P value

-- the value is an array, and R holds of each of its items and the element in the same place
pub record IsArrayOf {A : Type 0} (R : Data → A → Type 0) (value : Data) (xs : List A) : Type 0 where
  pub items : Items
  pub is_array : value ≡ array items
  pub each : (place : ℕ) (d : Data) → get_item place items ≡ Some d → (x : A) × (slice_get xs place ≡ Some x) × R d x
  pub no_more : (place : ℕ) → get_item place items ≡ None → slice_get xs place ≡ None

-- a name is not empty and has no zero byte
pub record IsName (text : List ℕ) : Type 0 where
  pub some : text ≢ []
  pub no_zero : ¬ (Contains text 0)

-- the value is this string
abbrev pub IsString : Data → List ℕ → Type 0
IsString value text = value ≡ string text

-- the word for a column's type
abbrev pub word_of : ColumnType → List ℕ
word_of Int = codes "int"
word_of Text = codes "text"
word_of Truth = codes "bool"

-- what the field `default` gives: an integer, a string or a boolean as it is, and of other kinds just that
abbrev pub Defaults : Data → DefaultDraft → Type 0
Defaults (integer n) default = default ≡ Given (IntValue n)
Defaults (string text) default = default ≡ Given (TextValue text)
Defaults (boolean b) default = default ≡ Given (TruthValue b)
Defaults (float x) default = default ≡ OtherKind
Defaults (datetime x) default = default ≡ OtherKind
Defaults (array items) default = default ≡ OtherKind
Defaults (table fields) default = default ≡ OtherKind

-- the value is a table that describes this column
pub record IsColumn (value : Data) (c : ColumnDraft) : Type 0 where
  pub fields : Members
  pub has_fields : HasFields (codes "name" ∷ codes "type" ∷ codes "default" ∷ []) value fields
  pub name : HasField fields (codes "name") (λ d. IsString d c.name)
  pub is_name : IsName c.name
  pub kind : HasField fields (codes "type") (λ d. IsString d (word_of c.kind))
  pub no_default : get_member (codes "default") fields ≡ None → c.default ≡ Missing
  pub default : (d : Data) → get_member (codes "default") fields ≡ Some d → Defaults d c.default

-- the value is an array of these names, which a key's columns have
abbrev pub IsKey : Data → List (List ℕ) → Type 0
IsKey = IsArrayOf IsString

-- the value is a table that describes this table of the catalog
pub record IsTable (value : Data) (t : TableDraft) : Type 0 where
  pub fields : Members
  pub has_fields : HasFields (codes "namespace" ∷ codes "name" ∷ codes "primary" ∷ codes "unique" ∷ codes "column" ∷ []) value fields
  pub namespace : HasField fields (codes "namespace") (λ d. IsString d t.namespace)
  pub is_namespace : IsName t.namespace
  pub name : HasField fields (codes "name") (λ d. IsString d t.name)
  pub is_name : IsName t.name
  pub columns : HasField fields (codes "column") (λ d. IsArrayOf IsColumn d t.columns)
  pub no_primary : get_member (codes "primary") fields ≡ None → t.primary ≡ []
  pub primary : (d : Data) → get_member (codes "primary") fields ≡ Some d → IsKey d t.primary
  pub no_unique : get_member (codes "unique") fields ≡ None → t.uniques ≡ []
  pub unique : (d : Data) → get_member (codes "unique") fields ≡ Some d → IsArrayOf IsKey d t.uniques

-- the document describes these tables
pub record Describes (doc : Members) (ts : List TableDraft) : Type 0 where
  pub only : HasOnly (codes "table" ∷ []) doc
  pub no_tables : get_member (codes "table") doc ≡ None → ts ≡ []
  pub tables : (d : Data) → get_member (codes "table") doc ≡ Some d → IsArrayOf IsTable d ts

-- ---- what is wrong with tables

-- two elements in different places of the list are so
abbrev pub SomeTwo : {A : Type 0} → List A → (A → A → Type 0) → Type 0
SomeTwo {A} xs R =
    (place : ℕ) × (later : ℕ) × (x : A) × (y : A)
    × (place < later) × (slice_get xs place ≡ Some x) × (slice_get xs later ≡ Some y) × R x y

-- some element of the list is so
abbrev pub SomeOne : {A : Type 0} → List A → (A → Type 0) → Type 0
SomeOne {A} xs P = (place : ℕ) × (x : A) × (slice_get xs place ≡ Some x) × P x

-- a key's name is that of no column, or stands twice
abbrev pub IsUnknownKey : List ColumnDraft → List (List ℕ) → Type 0
IsUnknownKey columns names =
    SomeOne names (λ name. ¬ (SomeOne columns (λ c. c.name ≡ name))) ⊎ SomeTwo names (λ name other. name ≡ other)

-- the value is one of the type
abbrev pub IsOfType : ColumnType → Value → Type 0
IsOfType Int value = (n : ℤ) × (value ≡ IntValue n)
IsOfType Text value = (text : List ℕ) × (value ≡ TextValue text)
IsOfType Truth value = (b : Bool) × (value ≡ TruthValue b)

-- the default is of another kind, or a value that is none of the column's type
abbrev pub IsWrongDefault : ColumnType → DefaultDraft → Type 0
IsWrongDefault kind default =
    (default ≡ OtherKind) ⊎ ((value : Value) × (default ≡ Given value) × (¬ (IsOfType kind value)))

-- what is wrong with the tables that a document describes
abbrev pub IsTablesFault : List TableDraft → CatalogFault → Type 0
IsTablesFault ts DuplicateTable = SomeTwo ts (λ t u. (t.namespace ≡ u.namespace) × (t.name ≡ u.name))
IsTablesFault ts DuplicateColumn = SomeOne ts (λ t. SomeTwo t.columns (λ c d. c.name ≡ d.name))
IsTablesFault ts NoPrimaryKey = SomeOne ts (λ t. t.primary ≡ [])
IsTablesFault ts KeyColumnUnknown =
    SomeOne ts (λ t. IsUnknownKey t.columns t.primary
    ⊎ SomeOne t.uniques (λ key. (key ≡ []) ⊎ IsUnknownKey t.columns key))
IsTablesFault ts BadDefault = SomeOne ts (λ t. SomeOne t.columns (λ c. IsWrongDefault c.kind c.default))
IsTablesFault ts OverLimit = (1024 < length ts) ⊎ SomeOne ts (λ t. (1600 < length t.columns) ⊎ (16 < length t.uniques))
IsTablesFault ts NotToml = ⊥
IsTablesFault ts UnknownField = ⊥
IsTablesFault ts OutOfMemory = ⊥

-- What is wrong with a text: it is no document; or its document describes no tables, whatever they may be; or something
-- is wrong with the tables that it describes.
abbrev pub IsTextFault : List ℕ → CatalogFault → Type 0
IsTextFault text NotToml = parse_document text ≡ None
IsTextFault text UnknownField =
    (doc : Members) × (parse_document text ≡ Some doc) × ((ts : List TableDraft) → ¬ (Describes doc ts))
IsTextFault text fault =
    (doc : Members) × (ts : List TableDraft) × (parse_document text ≡ Some doc) × Describes doc ts × IsTablesFault ts fault

-- the faults in their order: the first that applies is answered
abbrev pub order : List CatalogFault
order = NotToml ∷ UnknownField ∷ DuplicateTable ∷ DuplicateColumn ∷ NoPrimaryKey ∷ KeyColumnUnknown ∷ BadDefault ∷ OverLimit ∷ OutOfMemory ∷ []

-- ---- what a catalog has

-- the second list has as many elements as the first, and R holds of the two in each place
pub record IsEach {A B : Type 0} (R : A → B → Type 0) (xs : List A) (ys : List B) : Type 0 where
  pub count : length ys ≡ length xs
  pub each : (place : ℕ) (x : A) → slice_get xs place ≡ Some x → (y : B) × (slice_get ys place ≡ Some y) × R x y

-- the k-th number of a key is that of a column of the k-th name
abbrev pub NamesKey : List Column → List (List ℕ) → List ℕ → Type 0
NamesKey columns = IsEach (λ name number. (c : Column) × (slice_get columns number ≡ Some c) × (c.name ≡ name))

-- the default that a column has: the one given, or null
abbrev pub HasDefault : DefaultDraft → Option Value → Type 0
HasDefault Missing default = default ≡ None
HasDefault (Given value) default = default ≡ Some value
HasDefault OtherKind default = ⊥

-- the definition has what the document says of the table
pub record Defines (t : TableDraft) (d : Definition) : Type 0 where
  pub namespace : d.namespace ≡ t.namespace
  pub name : d.name ≡ t.name
  pub columns : IsEach (λ c column. column ≡ record { name = c.name; kind = c.kind }) t.columns d.columns
  pub defaults : IsEach (λ c default. HasDefault c.default default) t.columns d.defaults
  pub primary : NamesKey d.columns t.primary d.primary
  pub uniques : IsEach (NamesKey d.columns) t.uniques d.uniques

-- the catalog has the tables that the document describes, one by one
abbrev pub DefinesAll : List TableDraft → Definitions → Type 0
DefinesAll = IsEach Defines

-- ---- the laws

-- a document is read as the tables that it describes, and as none if it describes none
abbrev pub DocumentsAreReadAsDescribed : Type 0
DocumentsAreReadAsDescribed = (doc : Members) (ts : List TableDraft) → (tables_of doc ≡ Some ts) ↔ Describes doc ts

-- a text is refused for the first fault that applies, wherever in it the faults stand, and no other is refused
abbrev pub TextsAreRefusedFirst : Type 0
TextsAreRefusedFirst = (text : List ℕ) → IsRefusedFirst order (catalog_of text) (IsTextFault text)

-- a catalog has, table by table, what the document describes
abbrev pub CatalogsHaveWhatIsDescribed : Type 0
CatalogsHaveWhatIsDescribed =
    (text : List ℕ) (catalog : Definitions) → catalog_of text ≡ Ok catalog
    → (doc : Members) × (ts : List TableDraft) × (parse_document text ≡ Some doc) × Describes doc ts × DefinesAll ts catalog
