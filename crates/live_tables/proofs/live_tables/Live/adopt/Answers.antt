use Rattle.std.proofs.Common.{◌≡◌, ◌≢◌, ap, refl, subst, sym, inl, inr, ◌∙◌}
use Rattle.std.proofs.lemmas.Bool.{cases_Bool}
use Rattle.std.specs.Prelude.{option_map}
use Rattle.model.specs.declared.item.Item.{Item}
use Rattle.savepoint.specs.Adopted.{EndsAlone}
use Rattle.savepoint.specs.AdoptedLemmas.{ends_alone}
use Rattle.savepoint.specs.Record.{Record}
use Rattle.world.specs.World.{Opened, World}
use Rattle.live_tables.specs.declared.live_tables.Live.{Live}
use Rattle.live_tables.specs.declared.transaction.OpenTransaction.{OpenTransaction}
use Rattle.live_tables.specs.Adopting.{adopted_with}
use Rattle.live_tables.specs.AdoptingLemmas.{adopter_noted, has_savepoint, tied_adopted}
use Rattle.live_tables.specs.BasicLemmas.{writes_by_borrow}
use Rattle.live_tables.specs.ByHoldsLemmas.{by_holds, from_holds, never_absent, open_tells}
use Rattle.live_tables.specs.KeptRecords.{IsRecordOf}
use Rattle.live_tables.proofs.live_tables.Live.adopt.Goals as goal

pub unreachable-requires : goal.unreachable-requires
unreachable-requires c =
    let (w, o, tied, is, can) = c.requires in
    never_absent c.args.self.now c.args.xid (w, o, tied, is) c.in_default.ensures.value

pub adopt-requires-clause-last : goal.adopt-requires-clause-last
adopt-requires-clause-last c =
    let (w, o, tied, is, can) = c.requires in
    let its = open_tells w c.args.self.now tied c.args.xid o is c.in-Some.transaction.now (sym c.in-Some.ensures.value) in
    subst (EndsAlone c.args.own) (sym its.survives) (ends_alone c.args.xid c.args.own c.args.sub o.items can)

pub adopt-requires-clause-below : goal.adopt-requires-clause-below
adopt-requires-clause-below c =
    let (w, o, tied, is, can) = c.requires in
    let its = open_tells w c.args.self.now tied c.args.xid o is c.in-Some.transaction.now (sym c.in-Some.ensures.value) in
    λ same. can.below (same ∙ its.top)

pub adopt-requires-clause-noted : goal.adopt-requires-clause-noted
adopt-requires-clause-noted c =
    let (w, o, tied, is, can) = c.requires in
    let its = open_tells w c.args.self.now tied c.args.xid o is c.in-Some.transaction.now (sym c.in-Some.ensures.value) in
    adopter_noted c.args.self.now.tables.schema w c.args.xid o c.in-Some.transaction.now.record its c.args.own c.args.sub can

pub adopt-requires-clause-named : goal.adopt-requires-clause-named
adopt-requires-clause-named c =
    let (w, o, tied, is, can) = c.requires in
    (open_tells w c.args.self.now tied c.args.xid o is c.in-Some.transaction.now (sym c.in-Some.ensures.value)).named

pub returns-clause-tied : goal.returns-clause-tied
returns-clause-tied c =
    let store = c.args.self.now in
    let old = c.in-Some.transaction.now in
    let left = c.adopt.new.self in
    let after = c.get_mut.follows.lender left in
    λ w o tied is can.
    let n : Live = record { tables = store.tables; holds = store.holds; made = store.made; transactions = after; stopped = store.stopped } in
    elim (cases_Bool store.made) [
      | inl made ↦
          from_holds (adopted_with w c.args.xid o c.args.sub) n
          (tied_adopted w store (by_holds w store tied made) c.args.xid o is old left n
          (writes_by_borrow c.args.xid old left store.transactions after (sym c.in-Some.ensures.value) (c.get_mut.follows.holds left))
          c.args.own c.args.sub can c.adopt.ensures refl refl refl)
          made
      -- one that is alone has no savepoint
      | inr alone ↦
          let its = open_tells w store tied c.args.xid o is old (sym c.in-Some.ensures.value) in
          absurd (has_savepoint store.tables.schema w c.args.xid o old.record its c.args.own c.args.sub can
          ((tied.lone alone).unmarked c.args.xid old.record (ap (option_map (λ (k : OpenTransaction). k.record)) (sym c.in-Some.ensures.value))))
    ]
