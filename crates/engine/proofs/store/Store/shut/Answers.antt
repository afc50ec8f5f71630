use Rattle.std.proofs.Common.{◌≡◌, List, map, sym, subst}
use Rattle.world.specs.World.{Entry, World}
use Rattle.world.specs.Steps.{Closes}
use Rattle.engine.specs.Engine.{Engine, entry_in, world_in}
use Rattle.live_tables.specs.Journal.{rows_after}
use Rattle.live_tables.specs.Shut.{IsShut}
use Rattle.engine.specs.ShutLemmas.{shut_closes, shut_serial}
use Rattle.engine.proofs.store.Store.shut.Goals as goal

pub abort_all-requires : goal.abort_all-requires
abort_all-requires c = (world_in c.self.inside, c.self.invariant.tied)

pub returns-clause-shut : goal.returns-clause-shut
returns-clause-shut c =
    let s = c.self.inside in
    let rows = c.into_tables.result.rows in
    let (v, shut, tied) = c.abort_all.ensures.shut (world_in s) c.self.invariant.tied in
    subst (λ (entries : List Entry). (w : World) × IsShut c.args.self.schema c.args.self.world w × Closes w rows entries) (sym c.forget_each.ensures)
    (subst (λ (e : Engine). (w : World) × IsShut e.schema e.world w × Closes w rows (map entry_in s.journal.items)) c.self.view_is
    (v, shut, shut_closes s c.self.invariant v shut rows (c.into_tables.ensures.rows v tied shut.none)))

pub returns-clause-serial : goal.returns-clause-serial
returns-clause-serial c =
    let s = c.self.inside in
    let rows = c.into_tables.result.rows in
    let (v, shut, tied) = c.abort_all.ensures.shut (world_in s) c.self.invariant.tied in
    subst (λ (entries : List Entry). rows ≡ rows_after c.args.self.schema c.args.self.world.start entries) (sym c.forget_each.ensures)
    (subst (λ (e : Engine). rows ≡ rows_after e.schema e.world.start (map entry_in s.journal.items)) c.self.view_is
    (shut_serial s c.self.invariant v shut rows (c.into_tables.ensures.rows v tied shut.none)))
