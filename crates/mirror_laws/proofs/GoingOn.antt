-- What a run leaves are its start rows with the changes of its journal; so runs one behind another are one.
--     left_by      a run's rows, by its journal
--     goes_on      the law
use Rattle.std.specs.Prelude.{map}
use Rattle.std.proofs.Common.{◌≡◌, ℕ, zero, suc, List, sym, ap, ◌∙◌}
use Rattle.std.proofs.lemmas.List.Concat.{flat_map-append}
use Rattle.model.specs.Rows.{Rows, keys_of}
use Rattle.model.specs.Definition.{Definition}
use Rattle.model.specs.Effect.{serial}
use Rattle.model.specs.EffectLemmas.{serial_append}
use Rattle.world.specs.World.{Entry}
use Rattle.run.specs.declared.outcome.Config.{Config}
use Rattle.run.specs.declared.outcome.Outcome.{Outcome}
use Rattle.run.specs.Commits.{changes_of_entries}
use Rattle.run.specs.Devices.{DeviceState}
use Rattle.leader.specs.WithWorkers.{RunsBy}
use Rattle.mirror_laws.specs.Statements.{told, IsSomeRun, GoesOn}

module _ (catalog : List Definition) (rows : Rows) where
  -- the start rows with these entries' changes
  abbrev with_entries : List Entry → Rows
  with_entries entries = serial (map keys_of catalog) rows (changes_of_entries entries)

  by_workers : (n v : ℕ) (config : Config) (old new : DeviceState) (o : Outcome) → RunsBy n v catalog config rows old new o
      → o.tables.rows ≡ with_entries (told o)
  by_workers zero zero config old new o run = run.tables ∙ ap with_entries (sym run.journal)
  by_workers zero (suc v) config old new o run = run.tables ∙ ap with_entries (sym run.journal)
  by_workers (suc n) v config old new o run = run.tables ∙ ap with_entries (sym run.journal)

  -- a run's rows, by its journal
  pub left_by : (o : Outcome) → IsSomeRun catalog rows o → o.tables.rows ≡ with_entries (told o)
  left_by o run = by_workers run.workers run.watchers run.config run.old run.new o run.runs

pub goes_on : GoesOn
goes_on catalog rows first second whole is_first is_second is_whole commits =
    left_by catalog rows whole is_whole
    ∙ ap (with_entries catalog rows) commits
    ∙ ap (serial (map keys_of catalog) rows) (flat_map-append (λ (e : Entry). e.changes) (told first) (told second))
    ∙ serial_append (map keys_of catalog) rows (changes_of_entries (told first)) (changes_of_entries (told second))
    ∙ ap (λ (r : Rows). serial (map keys_of catalog) r (changes_of_entries (told second))) (sym (left_by catalog rows first is_first))
    ∙ sym (left_by catalog first.tables.rows second is_second)
