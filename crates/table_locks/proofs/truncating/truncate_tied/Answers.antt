use Rattle.std.proofs.Common.{◌<◌, [], length, sym, subst}
use Rattle.std.proofs.lemmas.Option.{none-some}
use Rattle.model.specs.Rows.{Schema}
use Rattle.parted_store.specs.Acting.{as_told}
use Rattle.parted_store.specs.Lent.{OpenTicket}
use Rattle.table_locks.specs.CallLemmas.{belong_each}
use Rattle.table_locks.specs.TicketLemmas.{waits_follow}
use Rattle.table_locks.specs.Tickets.{waits_acted}
use Rattle.table_locks.specs.TruncateLemmas as cut
use Rattle.table_locks.specs.declared.ticket.Waits.TheVariants.{Somewhere}
use Rattle.table_locks.proofs.truncating.truncate_tied.Given as given
use Rattle.table_locks.proofs.truncating.truncate_tied.Goals as goal

pub truncate_in-requires-clause-belong : goal.truncate_in-requires-clause-belong
truncate_in-requires-clause-belong g c =
    belong_each g.N.StoreNames.shares g.N.StoreNames.schema g.N.StoreNames.start Somewhere c.args.ticket.now c.requires.ticket c.args.lent.now c.requires.kept

pub truncate_in-requires-clause-known : goal.truncate_in-requires-clause-known
truncate_in-requires-clause-known g c i p at =
    subst (λ (s : Schema). p.number < length s) (sym (c.requires.kept i p at).schema_is) (c.requires.known i p at)

-- behind the call
module _ (g : given.Over) (c : goal.After-lent-1 g) where
  abbrev t : OpenTicket
  t = c.args.ticket.now

  abbrev u : OpenTicket
  u = c.truncate_in.new.ticket

  did :
      cut.ActedIn g.N.StoreNames.shares g.N.StoreNames.schema g.N.StoreNames.start t c.args.sub c.args.c.now (as_told c.truncate_in.result) u c.args.lent.now
      c.truncate_in.new.parts
  did = record {
    kept = c.requires.kept;
    alone = c.requires.alone;
    stood = c.requires.stand;
    same = c.truncate_in.ensures.same;
    acted =
        cut.acted_each c.args.lent.now c.truncate_in.new.parts t c.args.sub c.args.c.now (as_told c.truncate_in.result) c.truncate_in.ensures.same
        c.truncate_in.ensures.parts;
    stand = λ i p at. c.truncate_in.ensures.stand i p at (c.requires.stand i p at);
  }

  did_none :
      cut.ActedIn g.N.StoreNames.shares g.N.StoreNames.schema g.N.StoreNames.start t c.args.sub c.args.c.now (as_told c.truncate_in.result) u []
      c.truncate_in.new.others
  did_none = record {
    kept = λ i p at. absurd (none-some p at);
    alone = λ i p at. absurd (none-some p at);
    stood = λ i p at. absurd (none-some p at);
    same = λ i p at. absurd (none-some p at);
    acted = λ i p at. absurd (none-some p at);
    stand = λ i p at. absurd (none-some p at);
  }

pub returns-clause-still : goal.returns-clause-still
returns-clause-still g c = record {
  stay =
      cut.truncated_fits g.N.StoreNames.shares g.N.StoreNames.tables g.N.StoreNames.schema g.N.StoreNames.start Somewhere c.args.ticket.now c.requires.ticket
      c.args.sub c.args.c.now c.requires.cuts.0 c.args.lent.now c.requires.cuts.1 c.truncate_in.result c.truncate_in.new.ticket c.truncate_in.ensures.tells
      c.requires.apart c.truncate_in.ensures.free c.truncate_in.new.parts (did g c);
  sound = c.truncate_in.ensures.sound;
  long = c.truncate_in.ensures.long;
}

pub returns-clause-is : goal.returns-clause-is
returns-clause-is g c waits is =
    cut.truncated_is g.N.StoreNames.shares g.N.StoreNames.tables g.N.StoreNames.schema g.N.StoreNames.start waits c.args.ticket.now is c.args.sub c.args.c.now
    c.requires.cuts.0 c.args.lent.now c.requires.cuts.1 c.truncate_in.result c.truncate_in.new.ticket c.truncate_in.ensures.xid c.truncate_in.ensures.shares
    c.truncate_in.ensures.ticket c.truncate_in.ensures.its_ticket c.truncate_in.new.parts [] c.truncate_in.new.others (did g c) (did_none g c)
    c.truncate_in.ensures.left (λ table beside other. c.requires.waits table beside) (waits_acted waits (as_told c.truncate_in.result))
    (waits_follow c.args.ticket.now c.truncate_in.new.ticket c.args.sub c.args.c.now waits is.waits_so (as_told c.truncate_in.result) c.truncate_in.ensures.ticket)
