use Rattle.std.proofs.Common.{sym, refl}
use Rattle.live_tables.specs.StopLemmas.{refused_unopened, refused_unsettled, stops_by, wants_named}
use Rattle.live_tables.proofs.live_tables.Live.find_stuck.Goals as goal

pub returns-in_default : goal.returns-in_default
returns-in_default c = λ w tied. refused_unopened w c.args.self.now tied c.args.sent.now c.args.waiter (sym c.in_default.ensures.value)

pub returns-then-not-is_settled : goal.returns-then-not-is_settled
returns-then-not-is_settled c = λ w tied.
    refused_unsettled w c.args.self.now tied c.args.sent.now c.args.waiter (c.if-not-is_settled.ensures.unsettled refl w tied)

pub find_holder-requires-clause-named : goal.find_holder-requires-clause-named
find_holder-requires-clause-named c =
    let (w, tied) = c.requires.tied in
    wants_named w c.args.self.now tied c.args.waiter c.in-Some.transaction.now (sym c.in-Some.ensures.value)

pub returns : goal.returns
returns c = λ w tied.
    stops_by w c.args.self.now tied c.args.sent.now c.args.waiter (c.if-not-is_settled.ensures.settled refl w tied) c.in-Some.transaction.now
    (sym c.in-Some.ensures.value) c.find_holder.result c.find_holder.ensures.held c.find_holder.ensures.free
