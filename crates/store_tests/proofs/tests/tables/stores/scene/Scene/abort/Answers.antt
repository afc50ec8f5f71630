use Rattle.std.proofs.Common.{ap, sym, ◌∙◌, List, refl}
use Rattle.world.specs.World.{World}
use Rattle.engine.specs.declared.events.LineEvent.{LineEvent}
use Rattle.engine.specs.declared.events.LineEvent.TheVariants.{Aborted as WasAborted}
use Rattle.model.specs.Beginning.{last_end}
use Rattle.engine.specs.EventLemmas.{last_same}
use Rattle.store_tests.proofs.Scenes.{has_ended}
use Rattle.store_tests.proofs.tests.tables.stores.scene.Scene.abort.Goals as goal
use Rattle.engine.specs.Events.{ends_in}

pub invariant_of-self : goal.invariant_of-self
invariant_of-self g c =
    let old = c.args.self.now in
    let given = c.abort.ensures in
    let ends = ap (λ (events : List LineEvent). last_end (ends_in events)) given.appended ∙ last_same old.line.list (WasAborted _) refl ∙ old.keeps.ended in
    record {
      keeps = has_ended _ _ _ _ _ c.remove.new.self _ _ _ _ old.keeps given.same given.line_told ends (sym c.in-Some.ensures.value) c.in-Some.ensures.updates
          (ap (λ (w : World). w.opened) given.aborts);
    }
