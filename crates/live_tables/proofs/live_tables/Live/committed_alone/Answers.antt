use Rattle.std.proofs.Common.{◌∙◌}
use Rattle.std.specs.BTreeMap.{btree_map_len}
use Rattle.live_tables.specs.LoneLemmas.{none_open}
use Rattle.live_tables.specs.ShutLemmas.{open_there, none_left}
use Rattle.live_tables.proofs.LogSteps.{none_row, lone_row}
use Rattle.live_tables.proofs.live_tables.Live.committed_alone.Goals as goal

pub returns-in-Some : goal.returns-in-Some
returns-in-Some c = λ w tied.
    let store = c.args.self.now in
    let (o, is) = open_there w store tied c.in-Some.field-0-0.now c.in-Some.transaction.now c.in-Some.ensures.value in
    c.row_before.ensures ∙ lone_row w store tied c.requires.alone c.in-Some.field-0-0.now o is c.in-Some.transaction.now c.in-Some.ensures.value c.args.table c.args.key.now

pub returns-in-None : goal.returns-in-None
returns-in-None c = λ w tied.
    let store = c.args.self.now in
    c.get.ensures
    ∙ none_row w store tied c.requires.alone (none_open w store tied (none_left (btree_map_len store.transactions) c.in-None.ensures.variant.1)) c.args.table c.args.key.now
