use Rattle.live_tables.specs.CallLemmas.{alone_is_committed}
use Rattle.live_tables.specs.Represents.{records_in}
use Rattle.live_tables.proofs.live_tables.Live.into_tables.Goals as goal

pub returns-clause-rows : goal.returns-clause-rows
returns-clause-rows c = λ w tied none.
    let store = c.args.self in
    (alone_is_committed store.tables.schema store.tables w (records_in store.transactions) tied.kept none).0
