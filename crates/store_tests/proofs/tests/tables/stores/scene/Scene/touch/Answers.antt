use Rattle.std.proofs.Common.{sym}
use Rattle.live_tables.specs.Answers.{told_call}
use Rattle.engine.specs.Events.{opened_by}
use Rattle.store_tests.proofs.Scenes.{written, told_more, touches_alike}
use Rattle.store_tests.proofs.tests.tables.stores.scene.Scene.touch.Goals as goal

pub invariant_of-self : goal.invariant_of-self
invariant_of-self g c =
    let was = c.in-Some.ticket.now in
    record {
      keeps = written _ c.args.self.now.keeps c.touch.ensures.same (sym c.in-Some.ensures.value) (c.get_mut.follows.holds c.touch.new.t)
          (told_more was c.touch.new.t _ c.touch.ensures.ticket)
          (touches_alike c.args.self.now.store.world was.number (opened_by was.list) c.args.sub (told_call c.touch.result) c.touch.new.self.world c.touch.ensures.touches);
    }
