use Rattle.std.proofs.Common.{ap, List, rules}
use Rattle.world.specs.World.{World}
use Rattle.tokens.specs.Half.{Half}
use Rattle.engine.specs.declared.events.LineEvent.{LineEvent}
use Rattle.model.specs.Beginning.{last_end}
use Rattle.engine.specs.Events.{ends_in}
use Rattle.store_tests.proofs.Scenes.{belong_none, know_none}
use Rattle.store_tests.proofs.tests.tables.stores.scene.Scene.new.Goals as goal

pub invariant_of-result : goal.invariant_of-result
invariant_of-result g c =
    let given = c.in_ok-store.ensures in
    record {
      keeps = record {
        counted = search rules;
        lined = ap (λ (l : Half LineEvent). l.name) given.line.0;
        ended = ap (λ (events : List LineEvent). last_end (ends_in events)) given.line.1;
        belong = belong_none c.new-2.result c.in_ok-store.store.tickets c.new-2.ensures.empty;
        known = know_none c.new-2.result c.in_ok-store.store.world.opened (ap (λ (w : World). w.opened) given.world);
      };
    }
