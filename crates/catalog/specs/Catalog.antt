-- The catalog that a text describes.
use Rattle.std.specs.Prelude.{ℕ, List, map, Option, Some, None, Result, Ok, Err}
use Rattle.toml.specs.Data.{Members}
use Rattle.toml.specs.Parse.{parse_document}
use Rattle.catalog.specs.declared.fault.CatalogFault.{CatalogFault}
use Rattle.catalog.specs.declared.fault.CatalogFault.TheVariants.{NotToml, UnknownField}
use Rattle.catalog.specs.declared.draft.TableDraft.{TableDraft}
use Rattle.catalog.specs.Document.{tables_of}
use Rattle.catalog.specs.Faults.{first_fault}
use Rattle.catalog.specs.Valid.{Definitions}
use Rattle.catalog.specs.Definitions.{definition_from}

-- what the tables of a document make, unless a fault applies to them
abbrev pub catalog_from : List TableDraft → Option CatalogFault → Result Definitions CatalogFault
catalog_from ts (Some fault) = Err fault
catalog_from ts None = Ok (map definition_from ts)

-- the same of the tables that were read, if they could be
abbrev pub catalog_of_tables : Option (List TableDraft) → Result Definitions CatalogFault
catalog_of_tables None = Err UnknownField
catalog_of_tables (Some ts) = catalog_from ts (first_fault ts)

-- the tables that a document describes, or the least fault that applies to it
abbrev pub catalog_of_document : Option Members → Result Definitions CatalogFault
catalog_of_document None = Err NotToml
catalog_of_document (Some doc) = catalog_of_tables (tables_of doc)

-- the tables that a text describes, or the least fault that applies to it
abbrev pub catalog_of : List ℕ → Result Definitions CatalogFault
catalog_of text = catalog_of_document (parse_document text)
