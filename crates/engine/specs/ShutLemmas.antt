-- A store that is given up: what is left once each open transaction was aborted.
--     shut_closes, shut_serial      the tables and the journal of a store whose open transactions were all aborted
--     closed_alone      the same of one in which none was open
use Rattle.std.proofs.Common.{◌≡◌, List, sym, ap, ◌∙◌}
use Rattle.std.specs.Prelude.{map}
use Rattle.std.specs.FinMap as finite
use Rattle.model.specs.Rows.{Rows, Schema}
use Rattle.world.specs.World.{Entry, World, entry_of}
use Rattle.world.specs.Steps.{Closes}
use Rattle.engine.specs.declared.store.Store.TheInside.{Inside}
use Rattle.engine.specs.Engine.{entry_in, start_in, world_in, Represents}
use Rattle.engine.specs.Events.{commits_in}
use Rattle.live_tables.specs.Journal.{rows_after}
use Rattle.live_tables.specs.JournalLemmas.{entries_are_serial}
use Rattle.live_tables.specs.Shut.{IsShut}

-- ---- the tables and the journal then

module _ (s : Inside) (is : Represents s) (v : World) (shut : IsShut s.live.tables.schema (world_in s) v) (rows : Rows) (are : rows ≡ v.committed) where
  pub shut_closes : Closes v rows (map entry_in s.journal.items)
  shut_closes = (shut.none, are, is.told ∙ ap (map entry_of) (sym shut.aborted.line))

  pub shut_serial : rows ≡ rows_after s.live.tables.schema (start_in s) (map entry_in s.journal.items)
  shut_serial =
      are ∙ shut.aborted.committed ∙ sym (entries_are_serial s.live.tables.schema (start_in s) (commits_in s.line.list))
      ∙ ap (rows_after s.live.tables.schema (start_in s)) (sym is.told)

-- with no transaction open none is aborted, and the world itself is closed
pub closed_alone : (schema : Schema) (w : World) → w.opened ≡ finite.empty → {rows : Rows} {entries : List Entry}
    → ((v : World) × IsShut schema w v × Closes v rows entries) → Closes w rows entries
closed_alone schema w none (v, shut, closed) = (none, closed.1 ∙ shut.aborted.committed, closed.2 ∙ ap (map entry_of) shut.aborted.line)
