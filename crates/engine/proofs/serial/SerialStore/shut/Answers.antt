use Rattle.std.proofs.Common.{◌≡◌, List, sym, subst, ◌∙◌}
use Rattle.std.specs.Prelude.{map}
use Rattle.world.specs.Steps.{Closes}
use Rattle.world.specs.World.{Entry}
use Rattle.engine.specs.Engine.{entry_in, world_in}
use Rattle.live_tables.specs.Journal.{rows_after}
use Rattle.engine.specs.Serial.{Serial}
use Rattle.engine.specs.SerialInside.{idle_in}
use Rattle.engine.specs.SerialLemmas.{nobody_open}
use Rattle.engine.specs.StoreLemmas.{store_serial}
use Rattle.engine.proofs.SerialSteps.{rows_based}
use Rattle.engine.proofs.serial.SerialStore.shut.Goals as goal
use Rattle.engine.proofs.serial.SerialStore.shut.Goals.{After-take_back}

-- the rows that are left are the committed ones
left : (c : After-take_back) → c.take_back.result.rows ≡ (world_in (idle_in c.self.inside)).committed
left c = c.take_back.ensures.rows ∙ rows_based c.self.inside c.self.invariant

pub returns-clause-closes : goal.returns-clause-closes
returns-clause-closes c =
    subst (λ (entries : List Entry). Closes c.args.self.store.world c.take_back.result.rows entries) (sym c.forget_each.ensures)
    (subst (λ (s : Serial). Closes s.store.world c.take_back.result.rows (map entry_in c.self.inside.journal.items)) c.self.view_is
    (nobody_open (idle_in c.self.inside) c.self.invariant.idle c.self.invariant.none, left (goal.at.returns-clause-closes c).After-take_back, c.self.invariant.idle.told))

pub returns-clause-serial : goal.returns-clause-serial
returns-clause-serial c =
    subst (λ (entries : List Entry). c.take_back.result.rows ≡ rows_after c.args.self.store.schema c.args.self.store.world.start entries) (sym c.forget_each.ensures)
    (subst (λ (s : Serial). c.take_back.result.rows ≡ rows_after s.store.schema s.store.world.start (map entry_in c.self.inside.journal.items)) c.self.view_is
    (left (goal.at.returns-clause-serial c).After-take_back ∙ store_serial (idle_in c.self.inside) c.self.invariant.idle))
