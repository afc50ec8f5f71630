use Rattle.std.proofs.Common.{ap, sym, ◌∙◌}
use Rattle.dispatch.specs.Standing.{goes_by}
use Rattle.dispatch.proofs.Trying.{on_err}
use Rattle.dispatch.proofs.Turning.{in_place, goes_here, same_shown, aborted_by}
use Rattle.dispatch.proofs.transactions.Transactions.drop_given.Goals as goal

pub returns-in_err-running-clause-same : goal.returns-in_err-running-clause-same
returns-in_err-running-clause-same g c =
    let t = c.self.inside in
    let within = in_place _ t.line.list t.workers.items c.args.index t.begun c.args.self.now c.self.view_is c.args.xid c.requires in
    on_err c.from_residual.result (same_shown _ t.line.list t.workers.items c.args.index t.begun c.args.self.now c.self.view_is c.index_mut-worker.result.now c.bring_back.new.self within c.index_mut-worker.ensures.value c.bring_back.ensures.same)

pub returns-clause-ok : goal.returns-clause-ok
returns-clause-ok g c =
    let t = c.self.inside in
    let worker = c.index_mut-worker.result.now in
    let out = c.in-Some.ensures in
    let within = in_place _ t.line.list t.workers.items c.args.index t.begun c.args.self.now c.self.view_is c.args.xid c.requires in
    let goes = goes_here _ t.line.list t.workers.items c.args.index t.begun c.args.self.now c.self.view_is c.args.xid c.requires worker c.index_mut-worker.ensures.value in
    aborted_by _ t.line.list t.workers.items c.args.index t.begun c.args.self.now c.self.view_is worker c.take_back.new.self within c.index_mut-worker.ensures.value
    c.note.new.self c.abort.new.line.list c.in-Some.ticket c.args.xid c.note.ensures c.abort.ensures.appended goes out.given (sym c.bring_back.ensures.same ∙ out.was) out.number (ap goes_by out.is)
