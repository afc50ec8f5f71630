use Rattle.std.proofs.Common.{ap, ◌∙◌}
use Rattle.std.specs.BTreeMap as tree
use Rattle.std.specs.BTreeMap.{btree_map_len}
use Rattle.std.specs.Ordering.{nat_cmp}
use Rattle.world.specs.Steps.{opened_with}
use Rattle.live_tables.specs.declared.live_tables.Live.{Live}
use Rattle.live_tables.specs.ByHoldsLemmas.{from_holds}
use Rattle.live_tables.specs.LoneLemmas.{none_open}
use Rattle.live_tables.specs.ShutLemmas.{open_there, none_left}
use Rattle.live_tables.proofs.Stands.{on_ok, map_err}
use Rattle.live_tables.proofs.live_tables.Live.open.Goals as goal

pub make-requires : goal.make-requires
make-requires c =
    let (w, tied) = c.requires.tied in
    let (o, is) = open_there w c.args.self.now tied c.in-Some.other.now c.in-Some.field-0-1.now c.in-Some.ensures.value in
    (w, c.in-Some.other.now, o, tied, is)

pub open_beside-requires : goal.open_beside-requires
open_beside-requires c = ap (λ (m : Live). tree.get nat_cmp m.transactions c.args.xid) c.in_ok-make-in-Some.ensures.same ∙ c.requires.absent

pub open_alone-requires-clause-none : goal.open_alone-requires-clause-none
open_alone-requires-clause-none c = λ w tied.
    none_open w c.args.self.now tied (none_left (btree_map_len c.args.self.now.transactions) c.in-None.ensures.variant.1)

pub returns-in_ok-make-in-Some-clause-ok : goal.returns-in_ok-make-in-Some-clause-ok
returns-in_ok-make-in-Some-clause-ok c =
    on_ok c.open_beside.result _ _ c.open_beside.ensures.ok (λ opened w tied running.
    from_holds (opened_with w c.args.xid) c.open_beside.new.self (opened w (c.in_ok-make-in-Some.ensures.ok w tied) running) (c.open_beside.ensures.made ∙ c.in_ok-make-in-Some.ensures.made))

pub returns-in_ok-make-in-Some-clause-err : goal.returns-in_ok-make-in-Some-clause-err
returns-in_ok-make-in-Some-clause-err c =
    map_err c.open_beside.result _ _ c.open_beside.ensures.err (λ left w tied.
    from_holds w c.open_beside.new.self (left w (c.in_ok-make-in-Some.ensures.ok w tied)) (c.open_beside.ensures.made ∙ c.in_ok-make-in-Some.ensures.made))
