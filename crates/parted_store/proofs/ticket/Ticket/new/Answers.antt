use Rattle.std.proofs.Common.{[], ◌∙◌, List, sym, ap, subst}
use Rattle.model.specs.Survivors.{survivors}
use Rattle.engine.specs.declared.events.Event.{Event}
use Rattle.engine.specs.Events.{opened_by}
use Rattle.parted_store.specs.ComeLemmas.{no_shares}
use Rattle.parted_store.specs.Lent.{IsShare}
use Rattle.parted_store.specs.Shares.{Shares, share_of}
use Rattle.parted_store.specs.Ticket.{places_of}
use Rattle.parted_store.proofs.ticket.Ticket.new.Goals as goal

pub invariant_of-result : goal.invariant_of-result
invariant_of-result c = record {
  shares = λ table.
      subst (λ (shares : Shares). IsShare c.args.xid (opened_by c.in_ok-events.events) table (share_of shares table)) (sym c.new-4.ensures.items)
      (subst (λ (events : List Event). IsShare c.args.xid (opened_by events) table (share_of [] table)) (sym c.in_ok-events.ensures) (no_shares c.args.xid table));
  marks = c.new-3.ensures ∙ ap (places_of c.args.xid) (sym c.new-2.ensures.items);
  items = c.new-2.ensures.items ∙ ap (λ (events : List Event). survivors c.args.xid (opened_by events).items) (sym c.in_ok-events.ensures);
}
