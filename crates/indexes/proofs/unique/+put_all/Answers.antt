use Rattle.std.specs.Prelude.{List, ◌∷◌}
use Rattle.std.proofs.Common.{sym, subst}
use Rattle.std.proofs.lemmas.Result.{on_err_weaker}
use Rattle.indexes.specs.declared.unique.Unique.{Unique}
use Rattle.indexes.specs.Unique.{KeepsSlots, EachStep}
use Rattle.indexes.proofs.Steps.{step_before, taken_away, not_told}
use Rattle.indexes.proofs.unique.+put_all.Goals as goal

-- the first number is taken away again, as those behind it are
pub returns-then-is_err-clause-err : goal.returns-then-is_err-clause-err
returns-then-is_err-clause-err t c =
    let first = taken_away c.args.row.now c.args.number c.in-Some.unique.now c.put.new.self c.set.new.self (not_told _ c.args.key c.in_ok-put.ensures.told) c.in_ok-put.ensures.ok c.set.ensures in
    on_err_weaker c.put_all-put.result
    (λ rest. subst (λ (us : List Unique). EachStep KeepsSlots us (c.set.new.self ∷ c.put_all-put.new.uniques)) (sym c.in-Some.ensures.cases.0)
    (step_before KeepsSlots c.in-Some.unique.now c.set.new.self c.in-Some.rest.now c.put_all-put.new.uniques first rest))
    c.put_all-put.ensures.err
