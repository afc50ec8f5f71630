use Rattle.std.proofs.Common.{List, Err, sym, subst}
use Rattle.engine.specs.declared.events.Event.{Event}
use Rattle.live_tables.specs.Answers.{told}
use Rattle.store_tests.specs.Waits.{WaitsIn}
use Rattle.store_tests.specs.WaitsLemmas.{waits_tried}
use Rattle.store_tests.proofs.tests.locks.stage.Stage.fails.Goals as goal

pub returns : goal.returns
returns g c =
    subst (λ (events : List Event). WaitsIn c.args.table events) (sym c.act_in_table.ensures.events)
    (waits_tried c.args.table c.args.ticket.now.events c.xid-xid.result c.args.change.now c.requires.its (told c.act_in_table.result) c.requires.waits)
