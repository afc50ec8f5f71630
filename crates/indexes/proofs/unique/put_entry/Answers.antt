use Rattle.std.specs.Prelude.{Some, not}
use Rattle.std.proofs.Common.{sym, ◌∙◌, ap}
use Rattle.std.specs.Option.{unwrap_or}
use Rattle.indexes.specs.Unique.{held}
use Rattle.indexes.proofs.Entries.{entry_kept, none_of_false, number_put, some_or}
use Rattle.indexes.proofs.unique.put_entry.Goals as goal

-- a number was there, and stays
pub returns-then-not-branch-clause-err : goal.returns-then-not-branch-clause-err
returns-then-not-branch-clause-err c =
    let was = held c.args.entries.now c.in-Some.values in
    entry_kept c.args.entries.now c.fill_entry.new.entries c.in-Some.values (Some (unwrap_or was c.args.number)) c.in_ok-fill_entry.ensures.here c.fill_entry.ensures.beside
    (some_or was c.args.number (c.in_ok-fill_entry.ensures.came ∙ ap not c.if-not-branch.true))

-- none was there
pub returns-else-not-branch-clause-ok : goal.returns-else-not-branch-clause-ok
returns-else-not-branch-clause-ok c =
    let free = none_of_false (held c.args.entries.now c.in-Some.values) (c.in_ok-fill_entry.ensures.came ∙ ap not c.if-not-branch.false) in
    number_put c.args.columns.now c.args.row.now c.args.number c.args.entries.now c.fill_entry.new.entries c.in-Some.values (sym c.in_ok-values.ensures ∙ c.in-Some.is)
    (c.in_ok-fill_entry.ensures.here ∙ ap (λ o. Some (Some (unwrap_or o c.args.number))) free) c.fill_entry.ensures.beside
