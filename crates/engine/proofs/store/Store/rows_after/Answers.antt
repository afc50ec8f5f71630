use Rattle.std.proofs.Common.{◌≡◌, List, sym, ap, subst, ◌∙◌}
use Rattle.std.specs.Prelude.{drop, take}
use Rattle.std.proofs.lemmas.List.{take_rest}
use Rattle.model.specs.Rows.{Rows}
use Rattle.model.specs.Effect.{all_back, serial}
use Rattle.model.specs.TableRows.{rows_of_table}
use Rattle.change.specs.Edits.{laid_together}
use Rattle.change.specs.Laid.{IsLaidUnder}
use Rattle.world.specs.World.{changes_in}
use Rattle.engine.specs.declared.entry.Entry.{Entry}
use Rattle.engine.specs.Engine.{Engine, world_in, edits_behind}
use Rattle.engine.specs.KnownLemmas.{known_after}
use Rattle.engine.specs.StoreLemmas.{store_rows_after}
use Rattle.engine.proofs.store.Store.rows_after.Goals as goal

pub committed_rows-requires-clause-tied : goal.committed_rows-requires-clause-tied
committed_rows-requires-clause-tied c = (world_in c.self.inside, c.self.invariant.tied)

pub returns-clause-reads : goal.returns-clause-reads
returns-clause-reads c =
    let s = c.self.inside in
    let w = world_in s in
    let later = drop c.args.entries s.journal.items in
    let laid : IsLaidUnder c.new-known.result c.args.table (laid_together (edits_behind later)) c.lay_entries.new.known =
    subst (λ (es : List Entry). IsLaidUnder c.new-known.result c.args.table (laid_together (edits_behind es)) c.lay_entries.new.known)
    (take_rest c.deref.result.now c.args.entries ∙ ap (drop c.args.entries) c.deref.ensures.value) c.in_ok-lay_entries.ensures in
    subst (λ (e : Engine). c.in_ok-committed_rows.field-0.items ≡ rows_of_table (serial e.schema e.world.start (changes_in (take c.args.entries e.world.line))) c.args.table) c.self.view_is
    (c.in_ok-committed_rows.ensures w c.self.invariant.tied (all_back w.committed (edits_behind later))
    (λ key. known_after c.new-known.result c.lay_entries.new.known c.new-known.ensures.empty c.args.table (edits_behind later) laid w.committed key)
    ∙ ap (λ (rows : Rows). rows_of_table rows c.args.table) (sym (store_rows_after s c.self.invariant c.args.entries)))
