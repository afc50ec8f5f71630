use Rattle.std.proofs.Common.{◌≡◌, ◌∙◌, List, Some, ap, sym, subst}
use Rattle.std.specs.Prelude.{slice_get}
use Rattle.model.specs.TableRows.{rows_of_table}
use Rattle.world.specs.World.{World}
use Rattle.engine.specs.declared.events.LineEvent.{LineEvent}
use Rattle.tokens.specs.Half.{Half}
use Rattle.world_parts.specs.Lines.{rows_until}
use Rattle.table_locks.specs.Journals.{JournalState}
use Rattle.table_locks.specs.Reading.{seen_world, told_world, HasState, positions_seen}
use Rattle.table_locks.specs.ReadingLemmas.{reads_at}
use Rattle.table_locks.specs.TableStates.{TableState}
use Rattle.table_locks.proofs.store.Store.rows_at.Goals as goal

pub returns-clause-rows : goal.returns-clause-rows
returns-clause-rows g c =
    let schema = g.N.StoreNames.schema in
    let start = g.N.StoreNames.start in
    let s = c.lock_table-part.result.value in
    let line = c.look_at.new.seen.list in
    let looked : c.deref-2.result.now.part.line.list ≡ line =
    ap (λ (j : JournalState). j.part.line.list) (c.deref-2.ensures ∙ sym c.deref_mut-2.ensures.value)
    ∙ ap (λ (h : Half LineEvent). h.list) (sym c.look_at.ensures.line) in
    let at = subst (λ (l : List LineEvent). slice_get (positions_seen l) c.in-Some._count ≡ Some c.args.position) looked c.in-Some.ensures in
    let reads =
    subst (λ (t : TableState).
    (w : World) → HasState w t → c.in-Ok.rows.items ≡ rows_of_table (rows_until schema w c.args.position) t.number) c.deref.ensures c.in-Ok.ensures.reads in
    let has = subst (λ (t : TableState). HasState (told_world schema start line t) t) c.deref_mut-3.ensures.value c.look_at.ensures.has in
    reads_at line c.look_at.ensures.seen.rising schema start c.args.table c.args.position c.in-Some._count at c.in-Ok.rows.items
    (reads (told_world schema start line s) has
    ∙ ap (rows_of_table (rows_until schema (seen_world schema start line) c.args.position)) c.lock_table-part.ensures)
