use Rattle.std.proofs.Common.{◌<◌, length, ap, subst, ◌∙◌}
use Rattle.std.specs.Prelude.{slice_index_or}
use Rattle.dispatch.proofs.Turning.{found_by}
use Rattle.dispatch.proofs.transactions.Transactions.find_worker.Goals as goal

pub returns-then-has-clause-found : goal.returns-then-has-clause-found
returns-then-has-clause-found g c =
    let t = c.self.inside in
    let items = c.deref-worker-items.ensures.value in
    let worker = c.worker-item.result in
    let within : c.loop-index.index < length t.workers.items = subst (λ ws. c.loop-index.index < length ws) items c.loop-index-test.true in
    found_by _ t.line.list t.workers.items c.loop-index.index t.begun c.args.self.now c.self.view_is c.args.xid worker within
    (c.worker-item.is ∙ ap (λ ws. slice_index_or ws c.loop-index.index worker) items) c.if-has.ensures
