use Rattle.dispatch.proofs.Turning.{in_place, same_shown}
use Rattle.dispatch.proofs.transactions.Transactions.try_collect.Goals as goal

pub returns : goal.returns
returns g c =
    let t = c.self.inside in
    let within = in_place _ t.line.list t.workers.items c.args.index t.begun c.args.self.now c.self.view_is c.args.xid c.requires in
    same_shown _ t.line.list t.workers.items c.args.index t.begun c.args.self.now c.self.view_is c.index_mut.result.now c.try_collect.new.self within c.index_mut.ensures.value c.try_collect.ensures.goes
