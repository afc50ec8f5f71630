use Rattle.std.proofs.Common.{rules, sym, subst}
use Rattle.std.specs.Prelude.{Ok}
use Rattle.model.specs.declared.change.Change as change_type
use Rattle.keyholds.specs.Holds.{cells_held}
use Rattle.world.specs.Steps.{Acts, Held as WasHeld, wanting}
use Rattle.live_tables.specs.declared.cells.Found as found_type
use Rattle.live_tables.specs.Cells.{IsHeldIn, IsFound}
use Rattle.live_tables.specs.ByHolds.{RepresentsByHolds}
use Rattle.live_tables.specs.BasicLemmas.{is_there}
use Rattle.live_tables.specs.ActLemmas.{runs}
use Rattle.live_tables.proofs.Refusals.{memory_refused}
use Rattle.live_tables.proofs.live_tables.Live.try_by_holds.Goals as goal

pub returns-in_err-holder-clause-tried : goal.returns-in_err-holder-clause-tried
returns-in_err-holder-clause-tried c = memory_refused RepresentsByHolds c.args.self.now (λ w tied. runs w c.args.self.now tied c.requires.running) c.args.xid c.args.sub c.args.c.now c.from_residual-in_err-holder.result c.from_residual-in_err-holder.ensures.1

pub wait-requires-clause-there : goal.wait-requires-clause-there
wait-requires-clause-there c = let tied = c.requires.tied in is_there tied.0 c.args.self.now tied.2 c.args.xid tied.1 tied.3

pub wait-requires-clause-found : goal.wait-requires-clause-found
wait-requires-clause-found c =
    subst (λ (change : change_type.Change). IsHeldIn c.args.self.now.tables.schema c.args.self.now.tables.rows (cells_held c.args.self.now.holds) c.args.xid change c.in-Held.holder)
    (sym c.in_ok-change.ensures)
    (subst (λ (found : found_type.Found). IsFound c.args.self.now.tables.schema c.args.self.now.tables.rows (cells_held c.args.self.now.holds) c.args.xid c.args.c.now found) c.in-Held.is
    c.in_ok-holder.ensures)

pub try_on_free-requires-clause-there : goal.try_on_free-requires-clause-there
try_on_free-requires-clause-there c = let tied = c.requires.tied in is_there tied.0 c.args.self.now tied.2 c.args.xid tied.1 tied.3

pub returns-in-Held-clause-tried : goal.returns-in-Held-clause-tried
returns-in-Held-clause-tried c = record {
  tries = λ w o tied is.
      subst (λ (change : change_type.Change). Acts c.args.self.now.tables.schema w c.args.xid o c.args.sub change (Ok (WasHeld c.in-Held.holder)) (wanting w c.args.xid o c.args.sub change))
      c.in_ok-change.ensures (c.wait.ensures.acts w o tied is);
  tied = search rules;
  cause = search rules;
  schema = search rules;
}
