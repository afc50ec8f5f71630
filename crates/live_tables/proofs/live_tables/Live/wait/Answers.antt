use Rattle.std.proofs.Common.{◌≡◌, Some, refl, sym}
use Rattle.std.specs.FinMap.{get}
use Rattle.world.specs.World.{Opened, World}
use Rattle.world.specs.Steps.{Acts, Held as WasHeld, wanting}
use Rattle.std.specs.Prelude.{Ok}
use Rattle.live_tables.specs.ByHolds.{RepresentsByHolds}
use Rattle.live_tables.specs.declared.live_tables.Live.{Live}
use Rattle.live_tables.specs.declared.transaction.OpenTransaction.{OpenTransaction}
use Rattle.live_tables.specs.BasicLemmas.{writes_by_borrow}
use Rattle.live_tables.specs.ActLemmas.{tied_waiting}
use Rattle.live_tables.proofs.live_tables.Live.wait.Goals as goal

-- the transaction with the change that it waits with, and the store with that
abbrev kept : goal.Joined-transaction → OpenTransaction
kept c = record { «record» = c.in-Some.transaction.now.record; wants = Some (c.args.sub, c.args.change); done = c.in-Some.transaction.now.done }

abbrev store : goal.Joined-transaction → Live
store c = record {
  tables = c.args.self.now.tables;
  holds = c.args.self.now.holds;
  made = c.args.self.now.made;
  transactions = c.get_mut.follows.lender (kept c);
  stopped = c.args.self.now.stopped;
}

both : (c : goal.Joined-transaction) (w : World) (o : Opened) → RepresentsByHolds w c.args.self.now → get w.opened c.args.xid ≡ Some o
    → Acts c.args.self.now.tables.schema w c.args.xid o c.args.sub c.args.change (Ok (WasHeld c.args.holder)) (wanting w c.args.xid o c.args.sub c.args.change)
    × RepresentsByHolds (wanting w c.args.xid o c.args.sub c.args.change) (store c)
both c w o tied is =
    tied_waiting w c.args.self.now tied c.args.xid o is c.in-Some.transaction.now (kept c) (store c)
    (writes_by_borrow c.args.xid c.in-Some.transaction.now (kept c) c.args.self.now.transactions (c.get_mut.follows.lender (kept c)) (sym c.in-Some.ensures.value) (c.get_mut.follows.holds (kept c)))
    c.args.sub c.args.change c.requires.names c.requires.running (record { wants = refl; record_is = refl; done = refl }) refl refl c.args.holder c.requires.found refl

pub returns-clause-acts : goal.returns-clause-acts
returns-clause-acts c = λ w o tied is. (both c w o tied is).0

pub returns-clause-tied : goal.returns-clause-tied
returns-clause-tied c = λ w o tied is. (both c w o tied is).1
