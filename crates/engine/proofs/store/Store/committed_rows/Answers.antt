use Rattle.std.proofs.Common.{◌≡◌, subst}
use Rattle.std.specs.FinMap.{get}
use Rattle.model.specs.TableRows.{rows_of_table}
use Rattle.engine.specs.Engine.{Engine, world_in}
use Rattle.engine.specs.KnownLemmas.{none_known}
use Rattle.engine.proofs.store.Store.committed_rows.Goals as goal

pub committed_rows-requires-clause-tied : goal.committed_rows-requires-clause-tied
committed_rows-requires-clause-tied c = (world_in c.self.inside, c.self.invariant.tied)

pub returns-clause-reads : goal.returns-clause-reads
returns-clause-reads c =
    let w = world_in c.self.inside in
    subst (λ (e : Engine). c.in_ok-committed_rows.field-0.items ≡ rows_of_table e.world.committed c.args.table) c.self.view_is
    (c.in_ok-committed_rows.ensures w c.self.invariant.tied w.committed
    (λ key. none_known c.new-known.result c.new-known.ensures.empty key (get w.committed (c.args.table, key))))
