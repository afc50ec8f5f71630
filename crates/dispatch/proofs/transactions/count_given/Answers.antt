use Rattle.dispatch.proofs.Among.{counted_one}
use Rattle.dispatch.proofs.transactions.count_given.Goals as goal

pub loop-worker-preserved : goal.loop-worker-preserved
loop-worker-preserved g c =
    let item = c.worker-item in
    counted_one c.args.workers.now c.loop-worker.worker-index item.result c.given.result c.loop-worker.given.items c.push.new.self.items _ c.loop-worker-test.true item.is c.push.ensures.items c.loop-worker.invariant c.given.ensures.counted
