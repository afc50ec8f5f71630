use Rattle.std.proofs.Common.{rules, ◌≡◌, ◌∙◌, ℕ, sym, ap, subst}
use Rattle.model.specs.Effect.{serial}
use Rattle.model.specs.Rows.{Rows}
use Rattle.world.specs.World.{changes_in}
use Rattle.world_parts.specs.Lines.{line_at}
use Rattle.table_parts.specs.Part.{Part}
use Rattle.table_locks.specs.ClosingLemmas.{after_moved}
use Rattle.table_locks.specs.TableStates.{TableState, Fits}
use Rattle.table_locks.proofs.closing.move_rows.Goals as goal

-- the rows of a part, once all that is open was aborted
abbrev rows_behind : Part → Rows
rows_behind p = serial p.store.schema p.store.world.start (changes_in p.store.world.line)

pub returns-clause-rows : goal.returns-clause-rows
returns-clause-rows g c commits are =
    let n = g.N.StoreNames in
    let fits = subst (λ (t : TableState). Fits n.shares n.tables n.schema n.start t c.take.result) c.meet.ensures.same c.take.ensures.fits in
    let same : c.number.result ≡ c.args.number = search rules in
    let number = fits.number ∙ ap (λ (t : TableState). t.number) (sym c.meet.ensures.same) ∙ sym c.number.ensures ∙ same in
    let listed = are.lists c.args.table.number c.args.table.commits.list c.meet.ensures.listed in
    let told = sym fits.listed.list ∙ listed ∙ ap (λ (k : ℕ). line_at k commits) (sym fits.number) in
    let rows = c.into_tables.ensures.rows ∙ ap rows_behind c.into_part.ensures in
    c.put_in.ensures.here
    ∙ after_moved n.shares n.tables n.schema n.start c.args.table c.take.result fits commits told c.args.number number c.into_tables.result.rows rows
