use Rattle.std.proofs.Common.{refl, ◌∙◌}
use Rattle.dispatch.proofs.Turning.{in_place, goes_here, committed_by}
use Rattle.dispatch.proofs.transactions.Transactions.settle.Goals as goal

pub returns-clause-ok : goal.returns-clause-ok
returns-clause-ok g c =
    let t = c.self.inside in
    let worker = c.index_mut.result.now in
    let within = in_place _ t.line.list t.workers.items c.args.index t.begun c.args.self.now c.self.view_is c.args.xid c.requires.goes in
    let goes = goes_here _ t.line.list t.workers.items c.args.index t.begun c.args.self.now c.self.view_is c.args.xid c.requires.goes worker c.index_mut.ensures.value in
    committed_by _ t.line.list t.workers.items c.args.index t.begun c.args.self.now c.self.view_is worker c.take_done.new.self within c.index_mut.ensures.value
    c.note.new.self _ c.in-Some.ticket c.args.xid c.args.info (c.note.ensures ∙ c.commit_ticket.ensures) refl goes c.in-Some.ensures.taken
