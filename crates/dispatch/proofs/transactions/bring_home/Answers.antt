use Rattle.std.proofs.Common.{◌≡◌, ◌<◌, ◌≤◌, length, arith, sym, ap, ◌∙◌}
use Rattle.dispatch.specs.Standing.{goes_by}
use Rattle.dispatch.proofs.Turning.{home_more, home_all}
use Rattle.dispatch.proofs.transactions.bring_home.Goals as goal

pub loop-worker-2-preserved : goal.loop-worker-2-preserved
loop-worker-2-preserved g c =
    let l = c.loop-worker-2 in
    let item = c.worker-item-in-loop-worker-2 in
    let within : l.worker-index < length l.worker-items = omega (arith, c.loop-worker-2-test.true, l.auto.worker-items) in
    home_more c.deref_mut-worker-items.result.now l.worker-items l.worker-index item.result c.bring_back.new.self item.is within
    (c.bring_back.ensures.same ∙ ap goes_by (sym item.is)) c.bring_back.ensures.home l.invariant.0 l.invariant.1

pub returns-clause-home : goal.returns-clause-home
returns-clause-home g c =
    let l = c.loop-worker-2 in
    let same : length l.worker-items ≡ length c.args.workers.now.items = l.auto.worker-items ∙ ap length c.deref_mut-worker-items.ensures.value in
    let reached : length l.worker-items ≤ l.worker-index = omega (arith, c.loop-worker-2-test.false, l.auto.worker-items) in
    home_all c.args.workers.now.items l.worker-items c.args.workers.now.len l.worker-index c.args.workers.now.ok.0 same reached l.invariant.1
