use Rattle.std.proofs.Common.{◌≡◌, refl, sym, ap, subst, ◌∙◌}
use Rattle.std.specs.Prelude.{option_map}
use Rattle.savepoint.specs.Record.{Record}
use Rattle.undo.specs.Vacated.{AreVacated}
use Rattle.world.specs.FineLemmas.{same_some}
use Rattle.live_tables.specs.declared.transaction.OpenTransaction.{OpenTransaction}
use Rattle.live_tables.specs.BasicLemmas.{puts_by_update}
use Rattle.live_tables.specs.ByHoldsLemmas.{never_absent, open_can}
use Rattle.live_tables.specs.LoneLemmas.{lone_aborted}
use Rattle.live_tables.proofs.live_tables.Live.abort_alone.Goals as goal

pub unreachable-requires : goal.unreachable-requires
unreachable-requires c = never_absent c.args.self.now c.args.xid c.requires.tied c.in_default.ensures.value

pub undo_and_settle-requires : goal.undo_and_settle-requires
undo_and_settle-requires c =
    let (w, o, tied, is) = c.requires.tied in
    open_can w c.args.self.now tied c.args.xid o is c.in-Some.transaction (sym c.in-Some.ensures.value)

pub returns-clause-tied : goal.returns-clause-tied
returns-clause-tied c =
    let store = c.args.self.now in
    let undone = c.undo_and_settle.ensures in
    λ w o tied is.
    lone_aborted w store tied c.requires.alone c.args.xid o is c.in-Some.transaction (sym c.in-Some.ensures.value)
    (record { tables = c.undo_and_settle.new.t; holds = store.holds; made = store.made; transactions = c.remove.new.self; stopped = store.stopped })
    (puts_by_update c.args.xid _ store.transactions c.remove.new.self c.in-Some.ensures.updates) c.in-Some.ensures.len refl refl (tied.lone c.requires.alone).none
    undone.schema undone.rows

pub returns-clause-vacated : goal.returns-clause-vacated
returns-clause-vacated c = λ r at.
    let store = c.args.self.now in
    let its : c.in-Some.transaction.record ≡ r =
    same_some c.in-Some.transaction.record r (ap (option_map (λ (k : OpenTransaction). k.record)) c.in-Some.ensures.value ∙ at) in
    subst (λ (s : Record). AreVacated store.tables.schema store.tables.rows c.undo_and_settle.new.t.rows c.undo_and_settle.new.t.room s.log.inverses) its c.undo_and_settle.ensures.vacated
