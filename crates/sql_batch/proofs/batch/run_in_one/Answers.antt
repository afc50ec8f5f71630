use Rattle.std.proofs.Common.{◌≡◌, map, sym, subst, refl, arith, rules, Result, Ok, Err, OnOk}
use Rattle.sqlite.specs.State.{HasCleanDisk, Survives}
use Rattle.sqlite.specs.Held.{state}
use Rattle.sqlite.proofs.StateLemmas.{survives_then}
use Rattle.sqlite.proofs.Callers.{survives_begin}
use Rattle.sql_batch.specs.Batches.{RunInOne, IsBehind, bound_text}
use Rattle.sql_batch.proofs.batch.run_in_one.Goals as goal

on_ok : {T E P Q : Type 0} (result : Result T E) → (P → Q) → OnOk result P → OnOk result Q
on_ok (Ok value) then held = then held
on_ok (Err fault) then held = held

pub returns-clause-all : goal.returns-clause-all
returns-clause-all g c clean =
    let old = c.args.conn.now in
    let last = c.run_all.new.tx.conn.now in
    let begun = c.transaction-tx.ensures.begun in
    let ran = λ (clean : HasCleanDisk (state g.S.Store last)).
    let all : RunInOne g.S.Store (map bound_text c.args.statements.now) old (state g.S.Store last).now =
    record { last = last; ran = rw begun at c.in_ok-run_all.ensures.ran clean; is = refl } in all in
    let end = c.commit.new.self.0 in
    let same : end ≡ c.conn-2-1.given.0 = search rules in
    let late : HasCleanDisk (state g.S.Store end) = search rules in
    subst (λ h. OnOk c.commit.result (RunInOne g.S.Store (map bound_text c.args.statements.now) old (state g.S.Store h).committed)) same
    (on_ok c.commit.result
    (λ told. subst (RunInOne g.S.Store (map bound_text c.args.statements.now) old) (sym told.1.committed_is) (ran (omega (arith, c.commit.ensures.survives.clean))))
    (c.commit.ensures.ok late))

pub returns-clause-crash : goal.returns-clause-crash
returns-clause-crash g c =
    let old = c.args.conn.now in
    let last = c.run_all.new.tx.conn.now in
    let begun = c.transaction-tx.ensures.begun in
    let ran = λ (clean : HasCleanDisk (state g.S.Store last)).
    let all : RunInOne g.S.Store (map bound_text c.args.statements.now) old (state g.S.Store last).now =
    record { last = last; ran = rw begun at c.in_ok-run_all.ensures.ran clean; is = refl } in all in
    let P = IsBehind g.S.Store (map bound_text c.args.statements.now) old in
    let whole = survives_then (state g.S.Store old) (state g.S.Store last) (state g.S.Store c.commit.new.self.0) _ _ P (λ _ db none. absurd none)
    (λ clean db is. (_, ran (omega (arith, c.commit.ensures.survives.clean)), is)) (survives_begin g.S.Store old (state g.S.Store last) _ (rw begun at c.run_all.ensures.survives)) c.commit.ensures.survives in
    let same : c.commit.new.self.0 ≡ c.conn-2-1.given.0 = search rules in
    subst (λ h. Survives (state g.S.Store old) (state g.S.Store h) P) same whole
