-- What a store is made of before its names are chosen.
--     MadeTable      a table's part, and the list of its commits
--     MadeStore      those of each table, the journal's part, the book of the lists, and tables of the same keys
--     IsBegun      nothing has happened in the table
--     AreOver      the tables have these keys, and began with these rows
--     AreUnused      the tables have these keys, and nothing has happened in them
--     AreKnown, AreLeft, AreBack      all rows are of these tables; those of the later ones are as they were, or came back
--     AreBegun, IsMade      nothing has happened in the tables, one after another; what the type keeps
--     AreNames      these may be the names of the store
--     tickets_of, tickets_in      the name of the tickets of a table's part, and those of each table
--     state_with, made_code      what is laid under the table's lock; the code by which proofs tell two apart
use Rattle.std.specs.Prelude.{◌≡◌, ℕ, ◌<◌, ◌≤◌, List, [], Some, None, length, map, slice_get, slice_index_or, refl}
use Rattle.std.specs.FinMap.{get}
use Rattle.std.specs.Coded.{Coded, code_by, coded×, coded_list}
use Rattle.model.specs.declared.key.Key.{Key}
use Rattle.model.specs.declared.row.Row.{Row}
use Rattle.model.specs.Rows.{Rows, Schema, IsValid}
use Rattle.indexes.specs.Codes.{content_code}
use Rattle.indexes.specs.Content.{Content}
use Rattle.tokens.specs.Half.{Name, no_name}
use Rattle.tokens.specs.Lists.{OpenLists, OpenList, open_list}
use Rattle.world.specs.World.{starting}
use Rattle.world_parts.specs.ByTable.{rows_at}
use Rattle.world_parts.specs.Lines.{TableCommit}
use Rattle.table_parts.specs.Part.{Part, last_commit_end}
use Rattle.table_parts.specs.PartCode.{part_code}
use Rattle.table_locks.specs.Codes.{commits_code, journal_state_code}
use Rattle.table_locks.specs.Journals.{JournalState}
use Rattle.table_locks.specs.TableStates.{TableState}

-- a table's part, and the list of its commits
abbrev pub MadeTable : Type 0
MadeTable = Part × OpenList TableCommit

-- those of each table in the catalog's order, what is laid under the journal's lock, and tables of the same keys
pub record MadeStore : Type 0 where
  pub tables : List MadeTable
  pub journal : JournalState
  pub blank : Content

-- Nothing has happened in the table of this number. Its rows are valid, and none is another table's.
pub record IsBegun (name : Name) (number : ℕ) (t : MadeTable) : Type 0 where
  pub number_is : t.0.number ≡ number
  pub world : t.0.store.world ≡ starting t.0.store.world.start
  pub own : rows_at number t.0.store.world.start ≡ t.0.store.world.start
  pub valid : IsValid t.0.store.schema t.0.store.world.start
  pub end : last_commit_end t.0 ≡ 0
  pub commits : t.1 ≡ open_list name number []

-- the tables have these keys, and each began with these rows
abbrev pub AreOver : Schema → (ℕ → Rows) → List MadeTable → Type 0
AreOver schema starts tables =
    (number : ℕ) (t : MadeTable) → slice_get tables number ≡ Some t → (t.0.store.schema ≡ schema) × (t.0.store.world.start ≡ starts number)

-- the tables have these keys, and nothing has happened in them
abbrev pub AreUnused : Schema → List MadeTable → Type 0
AreUnused schema tables =
    (number : ℕ) (t : MadeTable) → slice_get tables number ≡ Some t
    → (t.0.store.schema ≡ schema) × (t.0.store.world ≡ starting t.0.store.world.start)

-- all rows are of these tables
abbrev pub AreKnown : Schema → Rows → Type 0
AreKnown schema rows = (number : ℕ) (key : Key) (row : Row) → get rows (number, key) ≡ Some row → number < length schema

-- the rows of the tables from this number on are as they were
abbrev pub AreLeft : Rows → ℕ → Rows → Type 0
AreLeft whole count rows = (number : ℕ) → count ≤ number → rows_at number rows ≡ rows_at number whole

-- Of these parts some are left, and the start rows of those behind them are the tables' again.
pub record AreBack (was : Rows) (parts left : List MadeTable) (rows : Rows) : Type 0 where
  pub few : length left ≤ length parts
  pub same : (number : ℕ) (t : MadeTable) → slice_get left number ≡ Some t → slice_get parts number ≡ Some t
  pub back : (number : ℕ) (t : MadeTable) → slice_get parts number ≡ Some t → length left ≤ number
      → rows_at number rows ≡ rows_at number t.0.store.world.start
  pub beyond : (number : ℕ) → length parts ≤ number → rows_at number rows ≡ rows_at number was

-- Nothing has happened in the tables, of which each has its list in the book, and the book has no other.
pub record AreBegun (book : OpenLists TableCommit) (tables : List MadeTable) : Type 0 where
  pub each : (number : ℕ) (t : MadeTable) → slice_get tables number ≡ Some t → IsBegun book.name number t
  pub none : (number : ℕ) (list : List TableCommit) → get book.lists number ≡ Some list → list ≡ []
  pub closed : (number : ℕ) → length tables ≤ number → get book.lists number ≡ None

-- what the type keeps
pub record IsMade (m : MadeStore) : Type 0 where
  pub begun : AreBegun m.journal.tables m.tables
  pub line : m.journal.part.line.list ≡ []
  pub few : length m.tables ≤ 1024

-- These may be the names of the store, its keys and its start rows.
pub record AreNames (shares : ℕ → Name) (its_line tables : Name) (schema : Schema) (start : Rows) (m : MadeStore) : Type 0 where
  pub tickets : (number : ℕ) (t : MadeTable) → slice_get m.tables number ≡ Some t → t.0.store.tickets ≡ shares number
  pub line : m.journal.part.line.name ≡ its_line
  pub book : m.journal.tables.name ≡ tables
  pub over : AreOver schema (λ number. rows_at number start) m.tables
  pub long : length m.tables ≡ length schema
  pub keys : m.blank.schema ≡ schema
  pub known : AreKnown schema start

-- the name of the tickets of a table's part
abbrev pub tickets_of : MadeTable → Name
tickets_of t = t.0.store.tickets

-- of each table, by its number
abbrev pub tickets_in : MadeStore → ℕ → Name
tickets_in m number = slice_index_or (map tickets_of m.tables) number no_name

-- what is laid under the table's lock
abbrev pub state_with : MadeTable → TableState
state_with t = record { number = t.1.number; part = Some t.0; commits = t.1; stopped = None; last = 0 }

-- the code by which proofs tell two of them apart
abbrev pub made_code : Coded MadeStore
made_code =
    code_by (List MadeTable × (JournalState × Content)) (coded× (coded_list (coded× part_code commits_code)) (coded× journal_state_code content_code))
    (λ m. (m.tables, (m.journal, m.blank))) (λ p. record { tables = p.0; journal = p.1.0; blank = p.1.1 }) (λ _. refl)
