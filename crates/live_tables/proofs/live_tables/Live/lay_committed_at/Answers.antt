use Rattle.std.proofs.Common.{◌≡◌, Some, sym, ap, subst, ◌∙◌}
use Rattle.std.specs.BTreeMap.{Updates}
use Rattle.std.specs.FinMap.{get}
use Rattle.model.specs.declared.key.Key.{Key}
use Rattle.model.specs.Key.{key_cmp}
use Rattle.live_tables.proofs.BeforeImageSteps.{skips_one, one_laid}
use Rattle.live_tables.proofs.live_tables.Live.lay_committed_at.Goals as goal
use Rattle.live_tables.proofs.live_tables.Live.lay_committed_at.Goals.{in-Some+in_ok-to_row-in-Some, in-None}

pub returns-then-contains_key : goal.returns-then-contains_key
returns-then-contains_key c = λ w tied.
    skips_one w.committed c.args.table c.args.key.now c.args.known.now (sym c.contains_key.ensures ∙ c.if-contains_key.true)

pub returns : goal.returns
returns c = λ w tied.
    let is : c.match-committed_by_holds.row ≡ get w.committed (c.args.table, c.args.key.now) =
    elim c.match-committed_by_holds.branch [
      | in-Some+in_ok-to_row-in-Some v ↦ v.row-is ∙ ap Some v.in_ok-to_row-in-Some.ensures ∙ sym v.in-Some.is ∙ c.committed_by_holds.ensures w tied
      | in-None v ↦ v.row-is ∙ sym v.in-None.is ∙ c.committed_by_holds.ensures w tied
    ] in
    one_laid w.committed c.args.table c.args.key.now c.args.known.now c.insert.new.self (sym c.contains_key.ensures ∙ c.if-contains_key.false) c.match-committed_by_holds.row is
    (subst (λ (k : Key). Updates key_cmp c.args.known.now c.insert.new.self k (Some c.match-committed_by_holds.row)) c.in_ok-copy.ensures c.in_ok-insert.ensures.updates)
