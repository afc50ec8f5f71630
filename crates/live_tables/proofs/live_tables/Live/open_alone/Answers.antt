use Rattle.std.proofs.Common.{◌+◌, false, refl, ap, ◌∙◌, is_some}
use Rattle.std.specs.Prelude.{if◌then◌else◌}
use Rattle.std.specs.BTreeMap.{btree_map_len}
use Rattle.live_tables.specs.BasicLemmas.{puts_by_update}
use Rattle.live_tables.specs.LoneLemmas.{lone_opened, open_refused}
use Rattle.live_tables.proofs.Stands.{on_err}
use Rattle.live_tables.proofs.live_tables.Live.open_alone.Goals as goal

pub returns-clause-ok : goal.returns-clause-ok
returns-clause-ok c =
    let store = c.args.self.now in
    let fresh = c.new-opened.ensures in
    let was = c.in_ok-insert.ensures in
    λ w tied running.
    lone_opened w store tied (c.requires.none w tied) c.args.xid c.requires.absent c.new-opened.result
    (record { tables = store.tables; holds = store.holds; made = false; transactions = c.insert.new.self; stopped = store.stopped })
    (puts_by_update c.args.xid _ store.transactions c.insert.new.self was.updates) fresh.fresh fresh.wants fresh.done
    (was.len ∙ ap (λ o. btree_map_len store.transactions + (if is_some o then 0 else 1)) (was.old ∙ c.requires.absent)) running refl

pub returns-in_err-insert-clause-err : goal.returns-in_err-insert-clause-err
returns-in_err-insert-clause-err c =
    on_err c.from_residual.result _ (λ w tied. open_refused w c.args.self.now tied c.insert.new.self c.in_err-insert.ensures.err)
