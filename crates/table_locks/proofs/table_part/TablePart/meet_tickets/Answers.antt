use Rattle.std.proofs.Common.{◌≡◌, ◌∙◌, ℕ, List, Some, sym, subst}
use Rattle.std.specs.FinMap.{get}
use Rattle.world.specs.World.{Opened}
use Rattle.table_parts.specs.Part.{Part}
use Rattle.parted_store.specs.Lent.{OpenTicket, Stands}
use Rattle.table_locks.specs.Whole.{AreTickets, HasShareOf}
use Rattle.table_locks.proofs.table_part.TablePart.meet_tickets.Goals as goal

pub is_closed-requires-clause-tickets : goal.is_closed-requires-clause-tickets
is_closed-requires-clause-tickets g c =
    subst (AreTickets g.N.StoreNames.shares g.N.StoreNames.schema) (sym c.meet_each_in.ensures.tickets) c.requires.tickets

pub returns-clause-part : goal.returns-clause-part
returns-clause-part g c =
    let same : c.as_part.result.now ≡ c.take-part.result = c.as_part.ensures ∙ c.meet_each_in.ensures.part ∙ c.part.ensures.part in (
      c.take-part.result,
      c.take-part.ensures.was,
      c.take-part.ensures.fits,
      record {
        stand = λ i t at. subst (λ (p : Part). Stands p t.shares) c.part.ensures.part (c.meet_each_in.ensures.stand i t at);
        closed =
            subst (λ (p : Part). (xid : ℕ) (o : Opened) → get p.store.world.opened xid ≡ Some o → HasShareOf c.args.tickets.now p.number xid) same
            (subst (λ (ts : List OpenTicket). (xid : ℕ) (o : Opened) → get c.as_part.result.now.store.world.opened xid ≡ Some o
            → HasShareOf ts c.as_part.result.now.number xid) c.meet_each_in.ensures.tickets
            (c.is_closed.ensures c.if-not-is_closed.false));
      },
    )
