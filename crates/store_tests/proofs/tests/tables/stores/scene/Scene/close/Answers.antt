use Rattle.std.proofs.Common.{rules}
use Rattle.store_tests.proofs.Scenes.{none_open}
use Rattle.store_tests.proofs.tests.tables.stores.scene.Scene.close.Goals as goal

pub close-requires-clause-none : goal.close-requires-clause-none
close-requires-clause-none g c =
    none_open c.args.self.tickets c.args.self.store.world.opened c.args.self.keeps.known (c.is_empty.ensures.0 (search rules))
