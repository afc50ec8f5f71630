use Rattle.std.proofs.Common.{rules, ◌≡◌, ◌<◌, ℕ, if◌then◌else◌, true, false, Bool, Some, length, refl, sym, ap, subst, ◌∙◌}
use Rattle.std.specs.Prelude.{All, Ok}
use Rattle.std.specs.FinMap.{get}
use Rattle.model.specs.declared.cell.Cell.{Cell}
use Rattle.model.specs.Cells.{table_of}
use Rattle.model.specs.declared.change.Change as change_type
use Rattle.model.specs.declared.item.Item.TheVariants.{Change}
use Rattle.model.specs.Rows.{Schema}
use Rattle.keyholds.specs.Holds.{cells_held, IsFreeCell}
use Rattle.world.specs.World.{Opened, World}
use Rattle.world.specs.Steps.{Acts, IsDone, IsSkipped, done_with}
use Rattle.live_tables.specs.declared.live_tables.Live.{Live}
use Rattle.live_tables.specs.Answers.{verdict_of}
use Rattle.live_tables.specs.CellLemmas.{cells_are_known}
use Rattle.live_tables.specs.BeforeImages.{LiveHolds, AreToStand, cells_of_each}
use Rattle.live_tables.specs.Transactions.{HasApplied}
use Rattle.live_tables.specs.Cells.{IsFreeOf}
use Rattle.live_tables.specs.ByHolds.{RepresentsByHolds, RepresentsWith}
use Rattle.live_tables.specs.BasicLemmas.{its_names, writes_by_borrow, released_again}
use Rattle.live_tables.specs.ActLemmas.{runs, after_refusal, refusal_caused, refusal_told, tied_taken, tied_refused}
use Rattle.live_tables.specs.Tried.{HasTriedBy}
use Rattle.live_tables.proofs.Refusals.{memory_refused}
use Rattle.live_tables.proofs.live_tables.Live.try_on_free.Goals as goal
use Rattle.live_tables.proofs.live_tables.Live.try_on_free.Goals.{After-apply}

pub with_before_images-requires : goal.with_before_images-requires
with_before_images-requires c = record {
  known =
      subst (All (λ (cell : Cell). table_of cell < length c.args.self.now.tables.schema)) (sym c.requires.cells)
      (cells_are_known c.args.self.now.tables.schema c.args.self.now.tables.rows c.args.tried.change c.requires.names);
}

pub take-requires : goal.take-requires
take-requires c =
    subst (All (IsFreeCell (cells_held c.args.self.now.holds) c.args.xid)) (sym (c.in_ok-cells.ensures.cells ∙ c.requires.cells)) c.requires.free.all

pub returns-in_err-cells-clause-tried : goal.returns-in_err-cells-clause-tried
returns-in_err-cells-clause-tried c = memory_refused RepresentsByHolds c.args.self.now (λ w tied. runs w c.args.self.now tied c.requires.running) c.args.xid c.args.tried.sub c.args.tried.change c.from_residual.result c.from_residual.ensures.1

pub returns-in_err-take-clause-tried : goal.returns-in_err-take-clause-tried
returns-in_err-take-clause-tried c =
    subst (λ holds. HasTriedBy RepresentsByHolds c.args.self.now (record c.args.self.now { holds = holds }) c.args.xid c.args.tried.sub c.args.tried.change c.from_residual-in_err-take.result)
    (sym c.in_err-take.ensures.err)
    (memory_refused RepresentsByHolds c.args.self.now (λ w tied. runs w c.args.self.now tied c.requires.running) c.args.xid c.args.tried.sub c.args.tried.change c.from_residual-in_err-take.result c.from_residual-in_err-take.ensures.1)

pub apply-requires-clause-named : goal.apply-requires-clause-named
apply-requires-clause-named c =
    let there = c.requires.tied in
    its_names there.0 c.args.self.now there.2 c.args.xid there.1 there.3 c.in-Some.transaction.now (sym c.in-Some.ensures.value)

-- ---- it is an item

-- the change was done, or it was skipped: the world took it as an item, and the store is tied to what it became
taken : (c : After-apply) (done : Bool) → HasApplied done c.args.tried.sub c.args.tried.change c.mark-mark.result c.args.self.now.tables c.apply.new.tables c.in-Some.transaction.now c.apply.new.self
    → (w : World) (o : Opened) → RepresentsByHolds w c.args.self.now → get w.opened c.args.xid ≡ Some o
    → Acts c.args.self.now.tables.schema w c.args.xid o c.args.tried.sub c.args.tried.change (Ok (if done then IsDone else IsSkipped)) (done_with w c.args.xid o (Change c.args.tried.sub c.args.tried.change))
    × RepresentsByHolds (done_with w c.args.xid o (Change c.args.tried.sub c.args.tried.change))
    (record { tables = c.apply.new.tables; holds = c.take.new.self; made = c.args.self.now.made; transactions = c.get_mut.follows.lender c.apply.new.self; stopped = c.args.self.now.stopped })
taken c done applied w o tied is =
    tied_taken w c.args.self.now tied c.args.xid o is c.in-Some.transaction.now c.apply.new.self
    (record { tables = c.apply.new.tables; holds = c.take.new.self; made = c.args.self.now.made; transactions = c.get_mut.follows.lender c.apply.new.self; stopped = c.args.self.now.stopped })
    (writes_by_borrow c.args.xid c.in-Some.transaction.now c.apply.new.self c.args.self.now.transactions (c.get_mut.follows.lender c.apply.new.self) (sym c.in-Some.ensures.value)
    (c.get_mut.follows.holds c.apply.new.self))
    c.args.tried.sub c.args.tried.change c.requires.names c.requires.running c.requires.free c.mark-mark.result c.in_ok-cells.cells.items c.mark-mark.ensures.count (c.in_ok-cells.ensures.cells ∙ c.requires.cells)
    (subst (λ (count : ℕ). AreToStand (get c.args.self.now.tables.rows) count (cells_held c.args.self.now.holds c.args.xid) c.in_ok-cells.cells.items)
    (c.inverse_count-count.ensures c.in-Some.transaction.now (sym c.in-Some.ensures.value))
    (c.in_ok-cells.ensures.stand c.args.xid (subst (All (IsFreeCell (cells_held c.args.self.now.holds) c.args.xid)) (sym c.requires.cells) c.requires.free.all)))
    c.in_ok-take.ensures.ok c.in_ok-take.ensures.others done applied refl

pub returns-in-Ok-true-clause-tried : goal.returns-in-Ok-true-clause-tried
returns-in-Ok-true-clause-tried c =
    let done = taken (goal.at.returns-in-Ok-true-clause-tried c).After-apply true (rw c.in-Ok-true.field-0-test at c.in-Ok-true.ensures.ok) in
    record { tries = λ w o tied is. (done w o tied is).0; tied = λ w o tied is. (done w o tied is).1; cause = search rules; schema = search rules }

pub returns-in-Ok-false-clause-tried : goal.returns-in-Ok-false-clause-tried
returns-in-Ok-false-clause-tried c =
    let skipped = taken (goal.at.returns-in-Ok-false-clause-tried c).After-apply false (rw c.in-Ok-false.field-0-test at c.in-Ok-false.ensures.ok) in
    record { tries = λ w o tied is. (skipped w o tied is).0; tied = λ w o tied is. (skipped w o tied is).1; cause = search rules; schema = search rules }

-- ---- it was refused

-- the store then
abbrev after : goal.After-verdict → Live
after c = record {
  tables = c.apply.new.tables;
  holds = c.release_since.new.self;
  made = c.args.self.now.made;
  transactions = c.get_mut.follows.lender c.apply.new.self;
  stopped = c.args.self.now.stopped;
}

released : (c : goal.After-verdict) (w : World) (o : Opened) → RepresentsByHolds w c.args.self.now → get w.opened c.args.xid ≡ Some o → RepresentsByHolds w (after c)
released c w o tied is =
    tied_refused w c.args.self.now tied c.args.xid o is c.in-Some.transaction.now c.apply.new.self (after c)
    (writes_by_borrow c.args.xid c.in-Some.transaction.now c.apply.new.self c.args.self.now.transactions (c.get_mut.follows.lender c.apply.new.self) (sym c.in-Some.ensures.value)
    (c.get_mut.follows.holds c.apply.new.self))
    c.in-Err.ensures.err.tables c.in-Err.ensures.err.kept
    (released_again c.args.self.now.holds c.take.new.self c.release_since.new.self c.args.xid c.mark-mark.result c.in_ok-cells.cells.items c.mark-mark.ensures.count c.in_ok-take.ensures.ok
    c.in_ok-take.ensures.others c.release_since.ensures.own c.release_since.ensures.others)
    refl

refused : (c : goal.After-verdict) → HasTriedBy RepresentsByHolds c.args.self.now (after c) c.args.xid c.args.tried.sub c.args.tried.change (verdict_of c.in-Err.refused.clash)
refused c = record {
  tries = λ w o tied is.
      refusal_told w c.args.self.now tied c.args.xid o is c.args.tried.sub c.args.tried.change c.requires.running c.requires.free c.in-Err.refused.clash c.in-Err.ensures.err.clash;
  tied = λ w o tied is.
      subst (λ (v : World). RepresentsByHolds v (after c)) (sym (after_refusal w c.args.xid o c.args.tried.sub c.args.tried.change c.in-Err.refused.clash)) (released c w o tied is);
  cause = refusal_caused c.in-Err.refused.clash;
  schema = c.in-Err.ensures.err.tables.schema_is;
}

pub returns-in-Err-clause-tried : goal.returns-in-Err-clause-tried
returns-in-Err-clause-tried c =
    subst (HasTriedBy RepresentsByHolds c.args.self.now (after c) c.args.xid c.args.tried.sub c.args.tried.change) (sym c.verdict.ensures) (refused c)
