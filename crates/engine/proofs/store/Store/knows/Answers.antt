use Rattle.std.proofs.Common.{◌≢◌, ◌∙◌, ap, subst, sym}
use Rattle.std.specs.List.{list_any}
use Rattle.model.specs.Survivors.{is_of, survivors}
use Rattle.engine.specs.Events.{opened_by}
use Rattle.engine.specs.Engine.{world_in}
use Rattle.engine.proofs.StoreTickets.{IsTicket, its_ticket, open_under}
use Rattle.engine.proofs.store.Store.knows.Goals as goal

pub returns-clause-knows : goal.returns-clause-knows
returns-clause-knows c = λ below.
    let its : IsTicket c.self.inside c.args.t.now c.number-xid.result = its_ticket c.t.view_is c.number-xid.ensures c.t.view_is c.meet.ensures.listed in
    c.knows.ensures (subst (λ n. c.args.sub ≢ n) (sym its.number) below) (world_in c.self.inside) (opened_by c.args.t.now.list) c.self.invariant.tied (open_under c.self.invariant its)
    ∙ ap (λ n. list_any (is_of c.args.sub) (survivors n (opened_by c.args.t.now.list).items)) its.number
