use Rattle.std.proofs.Common.{◌∙◌, Some, ap}
use Rattle.parted_store.specs.Shares.{Shares}
use Rattle.parted_store.specs.Ticket.{ticket_in}
use Rattle.parted_store.proofs.PutBack.{put_back, none_taken}
use Rattle.parted_store.proofs.meeting.meet_in.Goals as goal

pub returns-in-Some-clause-ticket : goal.returns-in-Some-clause-ticket
returns-in-Some-clause-ticket c =
    let t = c.take_share.ensures in
    let p = c.put_share.ensures in
    ap (λ (shares : Shares). record (ticket_in c.ticket.inside) { shares = shares })
    (put_back c.ticket.inside.shares.items c.take_share.new.shares.items c.number-table.result t.long t.others c.put_share.new.shares.items p.long p.others
    (p.share ∙ ap Some c.meet.ensures.ticket ∙ c.in-Some.ensures.share))
    ∙ c.ticket.view_is

pub returns-in_default-clause-ticket : goal.returns-in_default-clause-ticket
returns-in_default-clause-ticket c =
    let t = c.take_share.ensures in
    ap (λ (shares : Shares). record (ticket_in c.ticket.inside) { shares = shares })
    (none_taken c.ticket.inside.shares.items c.take_share.new.shares.items c.number-table.result t.long t.others (t.taken ∙ c.in_default.ensures.share))
    ∙ c.ticket.view_is
