use Rattle.std.proofs.Common.{◌+◌, ap, ◌∙◌, is_some}
use Rattle.std.specs.Prelude.{if◌then◌else◌}
use Rattle.std.specs.BTreeMap.{btree_map_len}
use Rattle.live_tables.specs.BasicLemmas.{puts_by_update}
use Rattle.live_tables.specs.EndedLemmas.{tied_opened, tied_alike}
use Rattle.live_tables.proofs.Stands.{on_err}
use Rattle.live_tables.proofs.live_tables.Live.open_beside.Goals as goal

pub returns-in_err-insert-clause-err : goal.returns-in_err-insert-clause-err
returns-in_err-insert-clause-err c =
    let store = c.args.self.now in
    on_err c.from_residual.result _
    (λ w tied. tied_alike w store tied c.insert.new.self c.in_err-insert.ensures.err)

pub returns-clause-ok : goal.returns-clause-ok
returns-clause-ok c =
    let store = c.args.self.now in
    let fresh = c.new-opened.ensures in
    let was = c.in_ok-insert.ensures in
    λ w tied running.
    tied_opened w store tied c.args.xid c.requires c.new-opened.result c.insert.new.self fresh.fresh fresh.wants fresh.done
    (puts_by_update c.args.xid _ store.transactions c.insert.new.self was.updates)
    (was.len ∙ ap (λ o. btree_map_len store.transactions + (if is_some o then 0 else 1)) (was.old ∙ c.requires)) running
