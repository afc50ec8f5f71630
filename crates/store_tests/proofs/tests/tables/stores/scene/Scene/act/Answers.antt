use Rattle.std.proofs.Common.{sym}
use Rattle.live_tables.specs.Answers.{told}
use Rattle.engine.specs.Events.{opened_by}
use Rattle.store_tests.proofs.Scenes.{written, told_more, acts_alike}
use Rattle.store_tests.proofs.tests.tables.stores.scene.Scene.act.Goals as goal

pub invariant_of-self : goal.invariant_of-self
invariant_of-self g c =
    let was = c.in-Some.ticket.now in
    record {
      keeps = written _ c.args.self.now.keeps c.act.ensures.same (sym c.in-Some.ensures.value) (c.get_mut.follows.holds c.act.new.t)
          (told_more was c.act.new.t _ c.act.ensures.ticket)
          (acts_alike c.args.self.now.store.schema c.args.self.now.store.world was.number (opened_by was.list) c.args.sub _ (told c.act.result) c.act.new.self.world c.act.ensures.acts);
    }
