use Rattle.std.proofs.Common.{ap, sym}
use Rattle.world.specs.World.{World}
use Rattle.store_tests.proofs.Scenes.{written, told_more, becomes_alike}
use Rattle.store_tests.proofs.tests.tables.stores.scene.Scene.back_to.Goals as goal

pub invariant_of-self : goal.invariant_of-self
invariant_of-self g c = record {
  keeps = written _ c.args.self.now.keeps c.back_to.ensures.same (sym c.in-Some.ensures.value) (c.get_mut.follows.holds c.back_to.new.t)
      (told_more c.in-Some.ticket.now c.back_to.new.t _ c.back_to.ensures.ticket)
      (becomes_alike c.args.self.now.store.world c.back_to.new.self.world c.in-Some.ticket.now.number _ (ap (λ (w : World). w.opened) c.back_to.ensures.goes_back));
}
