use Rattle.std.proofs.Common.{◌≡◌, ℕ, List, [], Some, refl, sym, ap, subst, inl, inr, ◌∙◌}
use Rattle.std.proofs.lemmas.Bool.{cases_Bool}
use Rattle.std.specs.Prelude.{map, option_map}
use Rattle.model.specs.Effect.{all_back, serial}
use Rattle.model.specs.Rows.{Rows}
use Rattle.change.specs.declared.inverse.Inverse.{Inverse}
use Rattle.change.specs.Inverse.{edits_of}
use Rattle.savepoint.specs.Record.{Record}
use Rattle.undo.specs.LogLemmas.{log_back}
use Rattle.undo.specs.Undo.{AreSettled}
use Rattle.keyholds.specs.Holds.{holds_of}
use Rattle.world.specs.World.{work}
use Rattle.world.specs.Steps.{committed_with}
use Rattle.world.specs.ListingLemmas.{xid_cases}
use Rattle.live_tables.specs.declared.live_tables.Live.{Live}
use Rattle.live_tables.specs.declared.transaction.OpenTransaction.{OpenTransaction}
use Rattle.live_tables.specs.BasicLemmas.{puts_by_update}
use Rattle.live_tables.specs.ByHoldsLemmas.{by_holds, from_holds, never_absent, open_can, open_tells}
use Rattle.live_tables.specs.LoneLemmas.{lone_committed}
use Rattle.live_tables.specs.EndedLemmas.{tied_committed}
use Rattle.live_tables.specs.CallLemmas.{known_all}
use Rattle.live_tables.specs.CallResults.{IsReleased}
use Rattle.live_tables.specs.KeptLemmas.{log_of_work}
use Rattle.live_tables.proofs.live_tables.Live.commit.Goals as goal

pub unreachable-requires : goal.unreachable-requires
unreachable-requires c = never_absent c.args.self.now c.args.xid c.requires c.in_default.ensures.value

pub settle-settled-requires : goal.settle-settled-requires
settle-settled-requires c =
    let (w, o, tied, is) = c.requires in
    let store = c.args.self.now in
    known_all store.tables c.in-Some.transaction.record.log.inverses (open_can w store tied c.args.xid o is c.in-Some.transaction (sym c.in-Some.ensures.value))

pub returns-clause-items : goal.returns-clause-items
returns-clause-items c = λ w o tied is.
    c.settle-settled.ensures.items ∙ (open_tells w c.args.self.now tied c.args.xid o is c.in-Some.transaction (sym c.in-Some.ensures.value)).survives

pub returns-clause-tied : goal.returns-clause-tied
returns-clause-tied c =
    let store = c.args.self.now in
    let given = c.settle-settled.ensures in
    let n : Live = record { tables = c.settle-settled.new.t; holds = c.release_all.new.self; made = store.made; transactions = c.remove.new.self; stopped = store.stopped } in
    let puts = puts_by_update c.args.xid _ store.transactions c.remove.new.self c.in-Some.ensures.updates in
    let settled : IsReleased store.tables.schema store.tables n.tables c.in-Some.transaction.record = record { schema_is = given.schema; rows = given.rows; has_room = c.recall_invariant.ensures.room; others = given.others } in
    λ w o info tied is.
    elim (cases_Bool store.made) [
      | inl made ↦
          from_holds (committed_with store.tables.schema w c.args.xid o info) n
          (tied_committed w store (by_holds w store tied made) c.args.xid o is c.in-Some.transaction (sym c.in-Some.ensures.value) n puts c.in-Some.ensures.len
          (record { here = c.release_all.ensures.own; beside = c.release_all.ensures.others }) refl info settled)
          made
      | inr alone ↦
          lone_committed w store tied alone c.args.xid o is c.in-Some.transaction (sym c.in-Some.ensures.value) n puts c.in-Some.ensures.len refl refl
          (λ other. none_left other (tied.lone alone).none) info settled
    ]
  where
    -- what is let go of nothing leaves nothing
    none_left : (other : ℕ) → ((x : ℕ) → holds_of c.args.self.now.holds x ≡ []) → holds_of c.release_all.new.self other ≡ []
    none_left other none =
        elim (xid_cases other c.args.xid) [
          | inl here ↦ ap (holds_of c.release_all.new.self) here ∙ c.release_all.ensures.own
          | inr differs ↦ c.release_all.ensures.others other differs ∙ none other
        ]

pub returns-clause-settled : goal.returns-clause-settled
returns-clause-settled c = λ r at.
    let store = c.args.self.now in
    let own : OpenTransaction = c.in-Some.transaction in
    let given = c.settle-settled.ensures in
    let after = c.settle-settled.new.t in
    let its : Some own.record ≡ Some r = ap (option_map (λ (kept : OpenTransaction). kept.record)) c.in-Some.ensures.value ∙ at in
    let same : own.record ≡ r = cc in
    subst (λ (s : Record). AreSettled store.tables.schema after.rows after.room s.log.inverses) same
    (subst (λ (rows : Rows). AreSettled store.tables.schema rows after.room own.record.log.inverses) (sym given.rows) given.gone)

pub returns-clause-before : goal.returns-clause-before
returns-clause-before c = λ w o tied is.
    let store = c.args.self.now in
    let record_is = open_tells w store tied c.args.xid o is c.in-Some.transaction (sym c.in-Some.ensures.value) in
    ap (λ (log : List Inverse). all_back (serial store.tables.schema w.committed (work c.args.xid o)) (map edits_of log)) c.settle-settled.ensures.inverses
    ∙ log_back store.tables.schema w.committed (work c.args.xid o) c.in-Some.transaction.record.log.inverses (log_of_work store.tables.schema w c.args.xid o c.in-Some.transaction.record record_is)
