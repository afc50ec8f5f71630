-- The names of a store that is made of empty tables.
--     names_of      those of what it is made of
--     has_names      it has them
use Rattle.std.proofs.Common.{◌≡◌, ◌∙◌, ap, length, refl, subst, sym}
use Rattle.std.proofs.lemmas.Option.{none-some}
use Rattle.std.specs.FinMap as finite
use Rattle.std.specs.declared.marker.Brand.{Brand}
use Rattle.model.specs.Rows.{Rows, Schema, place_cmp}
use Rattle.table_locks.specs.declared.names.StoreNames.{Ghosts}
use Rattle.table_locks.specs.StartLemmas.{can_name}
use Rattle.table_locks.specs.Starts.{MadeStore, AreOver, tickets_in}
use Rattle.world_parts.specs.ByTable.{rows_at}
use Rattle.store_tests.specs.Names.{HasNames}

abbrev pub names_of : MadeStore → Ghosts Brand
names_of m = record {
  shares = tickets_in m;
  line = m.journal.part.line.name;
  tables = m.journal.tables.name;
  schema = m.blank.schema;
  start = finite.empty;
}

pub has_names : (schema : Schema) (rows : Rows) (m : MadeStore) → rows ≡ finite.empty → AreOver schema (λ number. rows_at number rows) m.tables
    → length m.tables ≡ length schema → m.blank.schema ≡ schema → HasNames m
has_names schema rows m empty over long keys =
    can_name m.blank.schema finite.empty m
    (subst (λ (s : Schema). AreOver s (λ number. rows_at number finite.empty) m.tables) (sym keys)
    (subst (λ (rs : Rows). AreOver schema (λ number. rows_at number rs) m.tables) empty over))
    (long ∙ ap (λ (s : Schema). length s) (sym keys)) refl
    (λ number key row at. absurd (none-some row (sym (finite.get-empty place_cmp (number, key)) ∙ at)))
