use Rattle.std.proofs.Common.{◌≡◌, ℕ, ◌+◌, suc, List, map, take, Ok, sym, subst, ◌∙◌, arith}
use Rattle.sqlite.specs.Values.{bound}
use Rattle.sqlite.specs.State.{HasCleanDisk, Executes}
use Rattle.sqlite.specs.Held.{state}
use Rattle.sqlite.proofs.StateLemmas.{survives_then}
use Rattle.sql_batch.specs.Batches.{RunAll, bound_text}
use Rattle.sql_batch.proofs.Running.{run_next}
use Rattle.sql_batch.proofs.batch.run_all.Goals as goal

pub loop-bound-preserved : goal.loop-bound-preserved
loop-bound-preserved g c =
    let first = c.args.tx.now.conn.now in
    let was = c.loop-bound.tx.conn.now in
    let now = c.execute_prepared.new.self.conn.now in
    let item = c.bound-item.result in
    let index = c.loop-bound.bound-index in
    let statements = c.args.statements.now in
    let count = c.in_ok-execute_prepared.field-0 in
    let told = c.in_ok-execute_prepared.ensures in
    let before = c.loop-bound.invariant in
    let early = λ (clean : HasCleanDisk (state g.S.Store now)). let is : HasCleanDisk (state g.S.Store was) = omega (arith, told.survives.clean) in is in
    let ran = λ (clean : HasCleanDisk (state g.S.Store now)). told.runs clean (before.inside (early clean)) in
    let one : index + 1 ≡ suc index = omega arith in
    record {
      same = told.same_reference ∙ before.same;
      ran = λ clean.
          subst (λ (n : ℕ). RunAll g.S.Store (map bound_text (take n statements)) first now) (sym one)
          (run_next g.S.Store item statements index c.loop-bound-test.true c.bound-item.is first was now count (before.ran (early clean))
          (subst (λ (values : List _). Executes item.statement.now.text (bound values) (state g.S.Store was) (state g.S.Store now) (Ok count)) c.deref.ensures.value (ran clean).0));
      inside = λ clean. (ran clean).1.mode;
      kept = λ clean. record {
        was_open = λ is. (before.kept (early clean)).was_open (ran clean).1.was_open;
        committed = λ is. (ran clean).1.committed_is ∙ (before.kept (early clean)).committed (ran clean).1.was_open;
      };
      survives =
          survives_then (state g.S.Store first) (state g.S.Store was) (state g.S.Store now) (λ _. ⊥) (λ _. ⊥) (λ _. ⊥) (λ _ db none. none) (λ _ db none. none)
          before.survives told.survives;
    }
