-- How a command ends: its exit status, its line for standard error, and what it appended.
use Rattle.std.specs.Prelude.{◌≡◌, ℕ, Bool, true, false, List, [], ◌++◌, ◌⊎◌, Ok, Err, IsUtf8, codes}
use Rattle.std.specs.FinMap as finite
use Rattle.catalog.specs.Definition.{Definition}
use Rattle.catalog.specs.Catalog.{catalog_of}
use Rattle.catalog.specs.declared.fault.CatalogFault.{CatalogFault}
use Rattle.catalog.specs.declared.fault.CatalogFault.TheVariants.{NotToml, UnknownField, DuplicateTable, DuplicateColumn, NoPrimaryKey, KeyColumnUnknown, BadDefault, OverLimit, OutOfMemory}
use Rattle.run.specs.declared.end.End.{End}
use Rattle.run.specs.declared.end.End.TheVariants as ends
use Rattle.run.specs.declared.outcome.Config.{Config}
use Rattle.run.specs.declared.outcome.Outcome.{Outcome}
use Rattle.run.specs.Devices.{DeviceState}
use Rattle.run.specs.Report.{report_text}
use Rattle.leader.specs.WithWorkers.{RunsBy}
use Rattle.pgapply_command.specs.declared.execute.Ended.{Ended}

-- ---- what is said

-- The command ended with this status, and this line for standard error.
abbrev pub Says : Ended → ℕ → List ℕ → Type 0
Says ended status line = (ended.status ≡ status) × (ended.line.now ≡ line)

-- the status of a run's end
abbrev pub end_status : End → ℕ
end_status ends.Clean = 0
end_status (ends.Frame fault) = 2
end_status (ends.Msg fault) = 2
end_status (ends.Session fault) = 2
end_status (ends.Rel fault) = 2
end_status (ends.Unique table key) = 3
end_status (ends.NullKey table) = 3
end_status (ends.HeldKey xid holder) = 3
end_status ends.OutOfMemory = 4

-- the line where memory was refused
abbrev pub memory_line : List ℕ
memory_line = codes "pgapply: out of memory"

-- the status and the line of a catalog's fault
abbrev pub fault_status : CatalogFault → ℕ
fault_status OutOfMemory = 4
fault_status fault = 1

-- the line of a catalog's fault
abbrev pub fault_line : CatalogFault → List ℕ
fault_line NotToml = codes "pgapply: catalog NotToml"
fault_line UnknownField = codes "pgapply: catalog UnknownField"
fault_line DuplicateTable = codes "pgapply: catalog DuplicateTable"
fault_line DuplicateColumn = codes "pgapply: catalog DuplicateColumn"
fault_line NoPrimaryKey = codes "pgapply: catalog NoPrimaryKey"
fault_line KeyColumnUnknown = codes "pgapply: catalog KeyColumnUnknown"
fault_line BadDefault = codes "pgapply: catalog BadDefault"
fault_line OverLimit = codes "pgapply: catalog OverLimit"
fault_line OutOfMemory = memory_line

-- ---- what the catalog's bytes are

-- The bytes are a text that describes this catalog.
abbrev pub IsCatalog : List ℕ → List Definition → Type 0
IsCatalog bytes definitions = IsUtf8 bytes × (catalog_of bytes ≡ Ok definitions)

-- Bytes that are no text are no TOML.
abbrev pub IsFault : List ℕ → CatalogFault → Type 0
IsFault bytes fault = (¬ IsUtf8 bytes × (fault ≡ NotToml)) ⊎ (IsUtf8 bytes × (catalog_of bytes ≡ Err fault))

-- ---- how a command ends

-- how many workers a command has: none where each streamed transaction is spooled
abbrev pub workers_of : Bool → Config → ℕ
workers_of true config = 0
workers_of false config = config.workers

-- The catalog is refused, which whoever hears was told: no device was used, and nothing was appended.
pub record IsRefused (HeardFault : CatalogFault → Type 0) (bytes : List ℕ) (given left : DeviceState) (old new : List ℕ) (ended : Ended) : Type 0 where
  pub fault : CatalogFault
  pub faulty : IsFault bytes fault
  pub heard : HeardFault fault
  pub said : Says ended (fault_status fault) (fault_line fault)
  pub unused : left ≡ given
  pub nothing : new ≡ old

-- The bytes are those of a catalog, and the stream was run from its tables, all empty, by so many workers; nobody watched.
-- Whoever hears was told what the run left.
pub record HasRun (HeardEnd : List Definition → Outcome → Type 0) (workers : ℕ) (bytes : List ℕ) (config : Config) (given left : DeviceState) : Type 0 where
  pub definitions : List Definition
  pub catalog : IsCatalog bytes definitions
  pub outcome : Outcome
  pub run : RunsBy workers 0 definitions config finite.empty given left outcome
  pub heard : HeardEnd definitions outcome

-- The report of an outcome was appended.
pub record IsTold (definitions : List Definition) (outcome : Outcome) (old new : List ℕ) (ended : Ended) : Type 0 where
  pub report : new ≡ old ++ report_text definitions outcome.tables.rows outcome.position outcome.end
  pub said : Says ended (end_status outcome.end) []

-- The stream was run, and the report of what it left was appended.
pub record HasReported (HeardEnd : List Definition → Outcome → Type 0) (workers : ℕ) (bytes : List ℕ) (config : Config) (given left : DeviceState)
    (old new : List ℕ) (ended : Ended) : Type 0 where
  pub ran : HasRun HeardEnd workers bytes config given left
  pub told : IsTold ran.definitions ran.outcome old new ended

-- Memory was refused, and nothing was appended.
pub record HasNoMemory (old new : List ℕ) (ended : Ended) : Type 0 where
  pub said : Says ended 4 memory_line
  pub nothing : new ≡ old

-- The report of an outcome was appended; or memory was refused, and nothing was.
abbrev pub Tells : List Definition → Outcome → List ℕ → List ℕ → Ended → Type 0
Tells definitions outcome old new ended = IsTold definitions outcome old new ended ⊎ HasNoMemory old new ended

-- Memory was refused: before a device was used, or for the report of a run.
pub record LacksMemory (HeardEnd : List Definition → Outcome → Type 0) (workers : ℕ) (bytes : List ℕ) (config : Config) (given left : DeviceState)
    (old new : List ℕ) (ended : Ended) : Type 0 where
  pub when : (left ≡ given) ⊎ HasRun HeardEnd workers bytes config given left
  pub said : HasNoMemory old new ended

-- The catalog was refused, the stream was run and reported, or memory was refused. Whoever hears was told of the catalog's
-- fault, or of the run's end; of memory that was refused before a device was used nothing is said.
abbrev pub Executes : (CatalogFault → Type 0) → (List Definition → Outcome → Type 0) → ℕ → List ℕ → Config → DeviceState → DeviceState → List ℕ → List ℕ → Ended → Type 0
Executes HeardFault HeardEnd workers bytes config given left old new ended =
    IsRefused HeardFault bytes given left old new ended
    ⊎ HasReported HeardEnd workers bytes config given left old new ended
    ⊎ LacksMemory HeardEnd workers bytes config given left old new ended
