use Rattle.std.proofs.Common.{arith, ◌∙◌, slice_index_or, sym, ap}
use Rattle.std.proofs.lemmas.Option.{slice_get-get_or, slice_get_within}
use Rattle.parted_store.specs.Lent.{OpenTicket}
use Rattle.table_locks.specs.MeetingLemmas.{one_different}
use Rattle.table_locks.proofs.meeting.are_different.Goals as goal

pub loop-i-init : goal.loop-i-init
loop-i-init g c i j t u first below = absurd (omega (arith, below))

pub loop-i-preserved : goal.loop-i-preserved
loop-i-preserved g c =
    let tickets = c.args.tickets.now in
    let i = c.loop-i.i in
    let d : OpenTicket = c.index-tickets-i.result in
    one_different tickets i (slice_index_or tickets i d) (slice_get-get_or tickets i d c.loop-i-test.true) c.loop-i.invariant
    (λ k t taken same.
    c.is_among.ensures c.if-is_among.false k t taken
    (same ∙ ap (λ (u : OpenTicket). u.number) (sym c.index-tickets-i.is) ∙ sym c.xid.ensures))

pub returns : goal.returns
returns g c so i j t u first at_i at_j =
    let within = slice_get_within c.args.tickets.now j u at_j in
    let over = c.loop-i-test.false in
    c.loop-i.invariant i j t u first (omega (arith, within, over)) at_i at_j
