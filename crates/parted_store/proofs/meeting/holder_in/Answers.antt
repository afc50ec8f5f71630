use Rattle.std.proofs.Common.{◌≡◌, Some, sym, ap, subst, ◌∙◌}
use Rattle.std.proofs.lemmas.Option.{IfSome_then, same_Some}
use Rattle.world.specs.Settled.{WaitsFor}
use Rattle.engine.specs.Events.{opened_by}
use Rattle.parted_store.specs.Lent.{OpenTicket}
use Rattle.parted_store.specs.Shares.{Share, Shares, share_of}
use Rattle.parted_store.specs.Ticket.{ticket_in}
use Rattle.parted_store.proofs.PutBack.{put_back, none_taken}
use Rattle.parted_store.proofs.meeting.holder_in.Goals as goal

-- the share that was taken out is the one that the ticket had
there : (c : goal.After-put_share) → share_of c.args.ticket.now.shares c.args.part.now.number ≡ Some c.in-Some.share
there c =
    ap (λ (t : OpenTicket). share_of t.shares c.args.part.now.number) (sym c.ticket.view_is)
    ∙ ap (share_of c.ticket.inside.shares.items) (sym c.number-table.ensures) ∙ sym c.in-Some.ensures.share

pub returns-clause-held : goal.returns-clause-held
returns-clause-held c =
    IfSome_then c.holder_of-holder.result c.holder_of-holder.ensures.held (λ holder waits.
    (c.in-Some.share, there c, waits))

pub returns-clause-free : goal.returns-clause-free
returns-clause-free c = λ none holder waits.
    let same = same_Some waits.0 c.in-Some.share (sym waits.1 ∙ there c) in
    c.holder_of-holder.ensures.free none holder
    (subst (λ (s : Share). WaitsFor c.args.part.now.store.schema c.args.part.now.store.world s.number (opened_by s.list) holder) same waits.2)

pub returns-in_default-clause-ticket : goal.returns-in_default-clause-ticket
returns-in_default-clause-ticket c =
    let t = c.take_share.ensures in
    ap (λ (shares : Shares). record (ticket_in c.ticket.inside) { shares = shares })
    (none_taken c.ticket.inside.shares.items c.take_share.new.shares.items c.number-table.result t.long t.others (t.taken ∙ c.in_default.ensures.share))
    ∙ c.ticket.view_is

pub returns-clause-ticket : goal.returns-clause-ticket
returns-clause-ticket c =
    let t = c.take_share.ensures in
    let p = c.put_share.ensures in
    ap (λ (shares : Shares). record (ticket_in c.ticket.inside) { shares = shares })
    (put_back c.ticket.inside.shares.items c.take_share.new.shares.items c.number-table.result t.long t.others c.put_share.new.shares.items p.long p.others
    (p.share ∙ ap Some c.holder_of-holder.ensures.ticket ∙ c.in-Some.ensures.share))
    ∙ c.ticket.view_is
