use Rattle.std.proofs.Common.{Some, refl, sym, inl, inr}
use Rattle.std.proofs.lemmas.Bool.{cases_Bool}
use Rattle.world.specs.Steps.{wanting}
use Rattle.live_tables.specs.declared.live_tables.Live.{Live}
use Rattle.live_tables.specs.declared.transaction.OpenTransaction.{OpenTransaction}
use Rattle.live_tables.specs.ActLemmas.{tied_waits}
use Rattle.live_tables.specs.BasicLemmas.{writes_by_borrow}
use Rattle.live_tables.specs.ByHoldsLemmas.{by_holds, from_holds, never_absent}
use Rattle.live_tables.specs.LoneLemmas.{lone_waits}
use Rattle.live_tables.specs.Transactions.{WantsChange, WritesTransaction}
use Rattle.live_tables.proofs.live_tables.Live.wait_with.Goals as goal

pub unreachable-requires : goal.unreachable-requires
unreachable-requires c = never_absent c.args.self.now c.args.xid c.requires.tied c.in_default.ensures.value

-- the transaction with the change that it waits with, and the store with that
abbrev kept : goal.Joined-transaction → OpenTransaction
kept c = record { «record» = c.in-Some.transaction.now.record; wants = Some (c.args.sub, c.args.change); done = c.in-Some.transaction.now.done }

abbrev store : goal.Joined-transaction → Live
store c = record c.args.self.now { transactions = c.get_mut.follows.lender (kept c) }

pub returns-clause-tied : goal.returns-clause-tied
returns-clause-tied c =
    let old = c.args.self.now in
    let was = c.in-Some.transaction.now in
    let wants : WantsChange c.args.sub c.args.change was (kept c) = record { wants = refl; record_is = refl; done = refl } in
    let writes : WritesTransaction c.args.xid was (kept c) old.transactions (store c).transactions =
    writes_by_borrow c.args.xid was (kept c) old.transactions (c.get_mut.follows.lender (kept c)) (sym c.in-Some.ensures.value) (c.get_mut.follows.holds (kept c)) in
    λ w o tied is.
    elim (cases_Bool old.made) [
      | inl made ↦
          from_holds (wanting w c.args.xid o c.args.sub c.args.change) (store c)
          (tied_waits w old (by_holds w old tied made) c.args.xid o is was (kept c) (store c) writes c.args.sub c.args.change c.requires.names c.requires.running wants refl refl refl)
          made
      | inr alone ↦
          lone_waits w old tied alone c.args.xid o is was (kept c) (store c) writes refl refl refl c.args.sub c.args.change c.requires.names c.requires.running wants refl refl
    ]
