use Rattle.std.proofs.Common.{◌≡◌, Some, refl, sym, ap, subst, inl, inr}
use Rattle.std.specs.Prelude.{Option}
use Rattle.std.specs.FinMap.{get}
use Rattle.std.proofs.lemmas.Bool.{cases_Bool}
use Rattle.model.specs.declared.change.Change.{Change}
use Rattle.model.specs.Effect.{ClashCause}
use Rattle.world.specs.World.{Opened, ByClash, World}
use Rattle.world.specs.Steps.{Acts, IsClashing, wanting}
use Rattle.live_tables.specs.declared.live_tables.Live.{Live}
use Rattle.live_tables.specs.declared.live_tables.Stopped.TheVariants.{Clash as StoppedByClash}
use Rattle.live_tables.specs.declared.transaction.OpenTransaction.{OpenTransaction}
use Rattle.live_tables.specs.ActLemmas.{tied_stops}
use Rattle.live_tables.specs.Answers.{cause_of, told_clash, after_act}
use Rattle.live_tables.specs.BasicLemmas.{writes_by_borrow}
use Rattle.live_tables.specs.ByHoldsLemmas.{by_holds, from_holds, never_absent}
use Rattle.live_tables.specs.LoneLemmas.{lone_stops}
use Rattle.live_tables.specs.Represents.{Represents}
use Rattle.live_tables.specs.Transactions.{WantsChange, WritesTransaction}
use Rattle.live_tables.proofs.Refusals.{runs_there}
use Rattle.live_tables.proofs.live_tables.Live.stop_by_clash.Goals as goal

pub unreachable-requires : goal.unreachable-requires
unreachable-requires c = never_absent c.args.self.now c.args.xid c.requires.tied c.in_default.ensures.value

-- the transaction with the change that clashed, and the store that is stopped by it
abbrev kept : goal.Joined-self → OpenTransaction
kept c = record { «record» = c.in-Some.transaction.now.record; wants = Some (c.args.sub, c.in_ok-change.change); done = c.in-Some.transaction.now.done }

abbrev store : goal.Joined-self → Live
store c = record c.args.self.now { transactions = c.get_mut.follows.lender (kept c); stopped = Some (StoppedByClash c.args.xid c.in_ok-copy.field-0 c.args.clash) }

stands : (c : goal.Joined-self) (w : World) (o : Opened) → Represents w c.args.self.now → get w.opened c.args.xid ≡ Some o → (cause : ClashCause) → cause_of c.args.clash ≡ Some cause
    → IsClashing c.args.self.now.tables.schema w c.args.xid o c.args.c.now cause
    → Represents (record (wanting w c.args.xid o c.args.sub c.args.c.now) { stopped = Some (ByClash c.args.xid c.args.c.now cause) }) (store c)
stands c w o tied is cause caused clashing =
    let old = c.args.self.now in
    let was = c.in-Some.transaction.now in
    let wants : WantsChange c.args.sub c.args.c.now was (kept c) =
    record { wants = ap (λ (change : Change). Some (c.args.sub, change)) c.in_ok-change.ensures; record_is = refl; done = refl } in
    let writes : WritesTransaction c.args.xid was (kept c) old.transactions (store c).transactions =
    writes_by_borrow c.args.xid was (kept c) old.transactions (c.get_mut.follows.lender (kept c)) (sym c.in-Some.ensures.value) (c.get_mut.follows.holds (kept c)) in
    let stops = ap (λ (change : Change). Some (StoppedByClash c.args.xid change c.args.clash)) c.in_ok-copy.ensures in
    elim (cases_Bool old.made) [
      | inl made ↦
          from_holds (record (wanting w c.args.xid o c.args.sub c.args.c.now) { stopped = Some (ByClash c.args.xid c.args.c.now cause) }) (store c)
          (tied_stops w old (by_holds w old tied made) c.args.xid o is was (kept c) (store c) writes c.args.sub c.args.c.now c.requires.names c.requires.running wants refl refl
          c.args.clash cause caused clashing stops)
          made
      | inr alone ↦
          lone_stops w old tied alone c.args.xid o is was (kept c) (store c) writes refl refl refl c.args.sub c.args.c.now c.requires.names c.requires.running wants refl
          c.args.clash cause caused clashing stops
    ]

pub returns : goal.returns
returns c = record {
  acts = λ w o tied is (cause, caused, clashing).
      subst (λ (found : Option ClashCause).
      Acts c.args.self.now.tables.schema w c.args.xid o c.args.sub c.args.c.now (told_clash found) (after_act w c.args.xid o c.args.sub c.args.c.now (told_clash found))
      × Represents (after_act w c.args.xid o c.args.sub c.args.c.now (told_clash found)) (store c)) (sym caused)
      ((runs_there c.args.self.now c.requires.running w tied, clashing.0, clashing.1, refl), stands c w o tied is cause caused clashing);
  cause = c.requires.cause;
  schema = refl;
}
