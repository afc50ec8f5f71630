use Rattle.std.proofs.Common.{rules, arith, ◌≡◌, ◌<◌, ◌∙◌, None, length, ap, subst}
use Rattle.std.proofs.lemmas.List.{get_or_default}
use Rattle.table_locks.specs.Ending.{past_by, TellsState, AreTold}
use Rattle.table_locks.specs.EndingLemmas.{none_told, one_told}
use Rattle.table_locks.specs.Lending.{state_of}
use Rattle.table_locks.proofs.ends.tell_each.Goals as goal

pub loop-i-init : goal.loop-i-init
loop-i-init g c = none_told (past_by c.args.ticket.now c.args.info) c.args.guards.now c.args.tables.now

pub tell-requires-clause-name : goal.tell-requires-clause-name
tell-requires-clause-name g c = c.loop-i.invariant.name ∙ c.requires.name

pub tell-requires-clause-lent : goal.tell-requires-clause-lent
tell-requires-clause-lent g c =
    let l = c.loop-i in
    let below = c.loop-i-test.true in
    let within = c.requires.within in
    let long = l.auto.guards in
    let room : l.i < length l.guards = omega (arith, below, within, long) in
    let (s, at, none) = c.requires.lent l.i below in
    (s, ap state_of (get_or_default l.guards l.i c.index-guards-i.result None room) ∙ l.invariant.left l.i (omega arith) ∙ at, none)

pub loop-i-preserved : goal.loop-i-preserved
loop-i-preserved g c =
    let l = c.loop-i in
    let p = past_by c.args.ticket.now c.args.info in
    let below = c.loop-i-test.true in
    let within = c.requires.within in
    let long = l.auto.guards in
    let room : l.i < length l.guards = omega (arith, below, within, long) in
    let (s, at, none) = c.requires.lent l.i below in
    let tells =
    subst (λ found. TellsState p found l.tables (state_of c.tell.new.place) c.tell.new.tables)
    (ap state_of (get_or_default l.guards l.i c.index-guards-i.result None room) ∙ l.invariant.left l.i (omega arith) ∙ at) c.tell.ensures in
    one_told p l.i c.args.guards.now c.args.tables.now l.guards l.tables l.invariant c.args.count below c.requires.apart room s at c.tell.new.place c.tell.new.tables tells

pub returns : goal.returns
returns g c =
    let ends : c.loop-i.i ≡ c.args.count = search rules in
    subst (λ n. AreTold (past_by c.args.ticket.now c.args.info) n c.args.guards.now c.args.tables.now c.loop-i.guards c.loop-i.tables) ends c.loop-i.invariant
