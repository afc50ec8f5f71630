use Rattle.std.proofs.Common.{◌<◌, length, get_or, sym, ap, subst, ◌∙◌}
use Rattle.std.specs.Prelude.{List}
use Rattle.dispatch.specs.Handle.{HandleModel, new_handle, IsIdle}
use Rattle.dispatch.specs.Standing.{goes_by}
use Rattle.dispatch.proofs.Turning.{fresh, same_item, handed_out_by}
use Rattle.dispatch.proofs.transactions.Transactions.hand_out.Goals as goal

pub returns-clause-ok : goal.returns-clause-ok
returns-clause-ok g c =
    let t = c.self.inside in
    let index = c.in-Some.index in
    let worker = c.index_mut.result.now in
    let free = subst (λ (ws : List HandleModel). (index < length ws) × IsIdle (get_or ws index (new_handle 0))) c.deref.ensures.value c.in-Some.ensures in
    let idle : IsIdle worker = subst IsIdle (sym (c.index_mut.ensures.value ∙ same_item t.workers.items index worker (new_handle 0) free.0)) free.1 in
    handed_out_by _ t.line.list t.workers.items index t.begun c.args.self.now c.self.view_is worker c.start.new.self free.0 c.index_mut.ensures.value
    c.note.new.self c.open_in.new.line.list c.args.xid c.note.ensures c.in_ok-ticket.ensures.ok idle
    (ap goes_by c.start.ensures ∙ ap fresh c.in_ok-ticket.ensures.ticket)
