use Rattle.std.proofs.Common.{◌≡◌, ◌++◌, ◌∷◌, [], ◌∙◌, true, sym, ap, subst}
use Rattle.std.specs.Prelude.{IsSomeAnd, slice_get}
use Rattle.std.proofs.lemmas.Option.{slice_get_within}
use Rattle.tokens.specs.Half.{Half}
use Rattle.world.specs.Steps.{aborted_with}
use Rattle.engine.specs.declared.events.LineEvent.{LineEvent}
use Rattle.engine.specs.declared.events.LineEvent.TheVariants.{Aborted as WasAborted}
use Rattle.engine.specs.Events.{opened_by, is_open_in}
use Rattle.parted_store.specs.EachPart.{BelongEach}
use Rattle.parted_store.specs.Ends.{IsAborted}
use Rattle.parted_store.specs.EachPartLemmas.{some_then}
use Rattle.parted_store.specs.EndLemmas.{aborted_by, same_aborted, end_aborted, aborts_nothing, none_beside}
use Rattle.parted_store.specs.JournalLemmas.{journal_aborted}
use Rattle.parted_store.specs.KeepsSoundLemmas.{sound_aborted}
use Rattle.parted_store.specs.Lent.{OpenTicket, HasJournal, HasTicket, HasShares}
use Rattle.parted_store.specs.Shares.{share_of}
use Rattle.parted_store.specs.Ticket.{ticket_in}
use Rattle.parted_store.proofs.ends.abort_in.Goals as goal

pub abort_each-requires-clause-belong : goal.abort_each-requires-clause-belong
abort_each-requires-clause-belong c = subst (λ (t : OpenTicket). BelongEach c.args.parts.now t.shares) (sym c.ticket.view_is) c.requires.belong

pub abort-requires-clause-open : goal.abort-requires-clause-open
abort-requires-clause-open c = subst (λ (t : OpenTicket). is_open_in c.args.line.now.list t.number ≡ true) (sym c.ticket.view_is) c.requires.open

pub returns-clause-parts : goal.returns-clause-parts
returns-clause-parts c i p at =
    let t : OpenTicket = ticket_in c.ticket.inside in
    subst (λ (u : OpenTicket). IsSomeAnd (slice_get c.abort_each.new.parts i) (IsAborted u p)) c.ticket.view_is
    (some_then (slice_get c.abort_each.new.parts i) (c.abort_each.ensures.done i p (slice_get_within c.args.parts.now i p at) at)
    (λ q did w has its_ticket. aborted_by t p w has its_ticket (share_of t.shares p.number) (c.ticket.invariant.shares p.number) q did.0))

pub returns-clause-journal : goal.returns-clause-journal
returns-clause-journal c w has =
    let t : OpenTicket = ticket_in c.ticket.inside in
    subst (λ (u : OpenTicket). HasTicket w u → HasJournal (aborted_with w u.number) c.abort.new.self) c.ticket.view_is
    (λ at. journal_aborted w c.args.journal.now has c.abort.new.self t.number (opened_by t.events) at
    (sym (ap (λ (h : Half LineEvent). h.list) c.abort.ensures.line) ∙ ap (λ (h : Half LineEvent). h.list) c.abort.ensures.appended
    ∙ ap (λ (h : Half LineEvent). h.list ++ WasAborted t.number ∷ []) c.abort.ensures.met)
    c.abort.ensures.stopped c.abort.ensures.count)

pub returns-clause-beside : goal.returns-clause-beside
returns-clause-beside c w p its_ticket has beside =
    aborts_nothing c.args.ticket p w has its_ticket
    (none_beside c.args.parts.now c.args.ticket (subst HasShares c.ticket.view_is c.ticket.invariant.shares) c.requires.covers p.number beside)

pub returns-clause-appended : goal.returns-clause-appended
returns-clause-appended c =
    ap (λ (h : Half LineEvent). h.list) c.abort.ensures.appended
    ∙ ap (λ (t : OpenTicket). c.args.line.now.list ++ WasAborted t.number ∷ []) c.ticket.view_is

pub returns-clause-same : goal.returns-clause-same
returns-clause-same c i p at =
    some_then (slice_get c.abort_each.new.parts i) (c.abort_each.ensures.done i p (slice_get_within c.args.parts.now i p at) at)
    (λ q did. same_aborted p q (share_of (ticket_in c.ticket.inside).shares p.number) did.0)

pub returns-clause-ends : goal.returns-clause-ends
returns-clause-ends c i p at =
    some_then (slice_get c.abort_each.new.parts i) (c.abort_each.ensures.done i p (slice_get_within c.args.parts.now i p at) at)
    (λ q did. end_aborted p q (share_of (ticket_in c.ticket.inside).shares p.number) did.0)

pub returns-clause-long : goal.returns-clause-long
returns-clause-long c = c.abort_each.ensures.long

pub returns-clause-sound : goal.returns-clause-sound
returns-clause-sound c i p at =
    some_then (slice_get c.abort_each.new.parts i) (c.abort_each.ensures.done i p (slice_get_within c.args.parts.now i p at) at)
    (λ q did. sound_aborted p q (share_of (ticket_in c.ticket.inside).shares p.number) did.0)
