use Rattle.std.proofs.Common.{◌≡◌, ◌++◌, ◌∷◌, [], ◌∙◌, true, sym, ap, subst, refl}
use Rattle.std.specs.Prelude.{IsSomeAnd, slice_get}
use Rattle.std.proofs.lemmas.Option.{slice_get_within}
use Rattle.tokens.specs.Half.{Half}
use Rattle.world.specs.Steps.{committed_with}
use Rattle.engine.specs.declared.events.LineEvent.{LineEvent}
use Rattle.engine.specs.declared.events.LineEvent.TheVariants.{Committed as WasCommitted}
use Rattle.engine.specs.Events.{opened_by, is_open_in}
use Rattle.parted_store.specs.EachPart.{BelongEach}
use Rattle.parted_store.specs.Ends.{IsCommitted}
use Rattle.parted_store.specs.EachPartLemmas.{some_then}
use Rattle.parted_store.specs.EndLemmas.{committed_by, same_committed, end_committed, commits_nothing, none_beside}
use Rattle.parted_store.specs.JournalLemmas.{journal_committed}
use Rattle.parted_store.specs.KeepsSoundLemmas.{sound_committed}
use Rattle.parted_store.specs.Lent.{OpenTicket, HasJournal, HasTicket, HasShares}
use Rattle.parted_store.specs.Shares.{share_of}
use Rattle.parted_store.specs.Ticket.{ticket_in}
use Rattle.parted_store.proofs.ends.commit_in.Goals as goal

pub commit_each-requires-clause-belong : goal.commit_each-requires-clause-belong
commit_each-requires-clause-belong c = subst (λ (t : OpenTicket). BelongEach c.args.parts.now t.shares) (sym c.ticket.view_is) c.requires.belong

pub commit-requires-clause-open : goal.commit-requires-clause-open
commit-requires-clause-open c = subst (λ (t : OpenTicket). is_open_in c.args.line.now.list t.number ≡ true) (sym c.ticket.view_is) c.requires.open

pub commit-requires-clause-items : goal.commit-requires-clause-items
commit-requires-clause-items c = c.ticket.invariant.items

pub returns-clause-parts : goal.returns-clause-parts
returns-clause-parts c i p at =
    let t : OpenTicket = ticket_in c.ticket.inside in
    subst (λ (u : OpenTicket). IsSomeAnd (slice_get c.commit_each.new.parts i) (IsCommitted u c.args.info p)) c.ticket.view_is
    (some_then (slice_get c.commit_each.new.parts i) (c.commit_each.ensures.done i p (slice_get_within c.args.parts.now i p at) at)
    (λ q did w has its_ticket. committed_by t p w has its_ticket c.args.info (share_of t.shares p.number) (c.ticket.invariant.shares p.number) q did.0))

pub returns-clause-journal : goal.returns-clause-journal
returns-clause-journal c schema w has =
    let t : OpenTicket = ticket_in c.ticket.inside in
    subst (λ (u : OpenTicket). HasTicket w u → HasJournal (committed_with schema w u.number (opened_by u.events) c.args.info) c.commit.new.self) c.ticket.view_is
    (λ at. journal_committed w c.args.journal.now has c.commit.new.self t.number (opened_by t.events) at schema (opened_by t.events).items c.args.info refl
    (sym (ap (λ (h : Half LineEvent). h.list) c.commit.ensures.line) ∙ ap (λ (h : Half LineEvent). h.list) c.commit.ensures.appended
    ∙ ap (λ (h : Half LineEvent). h.list ++ WasCommitted t.number (opened_by t.events).items c.args.info ∷ []) c.commit.ensures.met)
    c.commit.ensures.stopped c.commit.ensures.count)

pub returns-clause-beside : goal.returns-clause-beside
returns-clause-beside c schema w p its_ticket has beside =
    commits_nothing c.args.ticket p w has its_ticket
    (none_beside c.args.parts.now c.args.ticket (subst HasShares c.ticket.view_is c.ticket.invariant.shares) c.requires.covers p.number beside) schema c.args.info

pub returns-clause-appended : goal.returns-clause-appended
returns-clause-appended c =
    ap (λ (h : Half LineEvent). h.list) c.commit.ensures.appended
    ∙ ap (λ (t : OpenTicket). c.args.line.now.list ++ WasCommitted t.number (opened_by t.events).items c.args.info ∷ []) c.ticket.view_is

pub returns-clause-same : goal.returns-clause-same
returns-clause-same c i p at =
    some_then (slice_get c.commit_each.new.parts i) (c.commit_each.ensures.done i p (slice_get_within c.args.parts.now i p at) at)
    (λ q did. same_committed p q c.args.info (share_of (ticket_in c.ticket.inside).shares p.number) did.0)

pub returns-clause-ends : goal.returns-clause-ends
returns-clause-ends c i p at =
    some_then (slice_get c.commit_each.new.parts i) (c.commit_each.ensures.done i p (slice_get_within c.args.parts.now i p at) at)
    (λ q did. end_committed p q c.args.info (c.requires.later i p at) (share_of (ticket_in c.ticket.inside).shares p.number) did.0)

pub returns-clause-long : goal.returns-clause-long
returns-clause-long c = c.commit_each.ensures.long

pub returns-clause-sound : goal.returns-clause-sound
returns-clause-sound c i p at =
    some_then (slice_get c.commit_each.new.parts i) (c.commit_each.ensures.done i p (slice_get_within c.args.parts.now i p at) at)
    (λ q did. sound_committed p q c.args.info (share_of (ticket_in c.ticket.inside).shares p.number) did.0)
