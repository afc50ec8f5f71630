use Rattle.std.proofs.Common.{refl, ap, subst}
use Rattle.model.specs.declared.item.Item.{Item}
use Rattle.dispatch.specs.Handle.{AddsTo}
use Rattle.dispatch.specs.Standing.{goes_by}
use Rattle.dispatch.proofs.Trying.{on_err}
use Rattle.dispatch.proofs.Turning.{in_place, goes_here, same_shown, given_by}
use Rattle.dispatch.proofs.transactions.Transactions.send.Goals as goal

pub returns-clause-ok : goal.returns-clause-ok
returns-clause-ok g c =
    let t = c.self.inside in
    let worker = c.index_mut-worker.result.now in
    let within = in_place _ t.line.list t.workers.items c.args.index t.begun c.args.self.now c.self.view_is c.args.xid c.requires.goes in
    let goes = goes_here _ t.line.list t.workers.items c.args.index t.begun c.args.self.now c.self.view_is c.args.xid c.requires.goes worker c.index_mut-worker.ensures.value in
    given_by _ t.line.list t.workers.items c.args.index t.begun c.args.self.now c.self.view_is worker c.give.new.self within c.index_mut-worker.ensures.value
    _ c.args.xid c.args.item refl goes (subst (λ (i : Item). AddsTo worker i c.give.new.self) c.new.ensures c.in_ok-give.ensures.ok)

pub returns-in_err-give-clause-same : goal.returns-in_err-give-clause-same
returns-in_err-give-clause-same g c =
    let t = c.self.inside in
    let within = in_place _ t.line.list t.workers.items c.args.index t.begun c.args.self.now c.self.view_is c.args.xid c.requires.goes in
    on_err c.from_residual.result (same_shown _ t.line.list t.workers.items c.args.index t.begun c.args.self.now c.self.view_is c.index_mut-worker.result.now c.give.new.self within c.index_mut-worker.ensures.value (ap goes_by c.in_err-give.ensures.err))
