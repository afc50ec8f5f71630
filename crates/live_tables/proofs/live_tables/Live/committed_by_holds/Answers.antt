use Rattle.std.proofs.Common.{◌∙◌}
use Rattle.live_tables.specs.ReadingLemmas.{tied_fits, committed_live, committed_beside, committed_emptied}
use Rattle.live_tables.proofs.live_tables.Live.committed_by_holds.Goals as goal

pub find_committed-requires : goal.find_committed-requires
find_committed-requires c = let tied = c.requires.tied in tied_fits tied.0 c.args.self.now tied.1

pub returns-in-Beside : goal.returns-in-Beside
returns-in-Beside c = λ w tied.
    let its = c.in-Beside.ensures in
    c.view_of.ensures ∙ committed_beside w c.args.self.now tied c.args.table c.args.key.now its.0 c.in-Beside.row.now its.1

pub returns-in-Emptied : goal.returns-in-Emptied
returns-in-Emptied c = λ w tied.
    committed_emptied w c.args.self.now tied c.args.table c.args.key.now c.in-Emptied.xid c.in-Emptied.count c.in-Emptied.ensures.0 c.in-Emptied.ensures.1 c.emptied_row.result
    c.emptied_row.ensures

pub returns-in-Live : goal.returns-in-Live
returns-in-Live c = λ w tied.
    c.get.ensures ∙ committed_live w c.args.self.now tied c.args.table c.args.key.now c.in-Live.ensures.0 c.in-Live.ensures.1
