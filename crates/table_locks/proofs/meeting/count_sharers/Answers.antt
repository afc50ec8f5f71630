use Rattle.std.proofs.Common.{arith, ◌≡◌, ◌+◌, ◌∙◌, ◌∷◌, drop, length, slice_index_or, is_some, sym, ap}
use Rattle.std.proofs.lemmas.List.{drop_more, drop_all}
use Rattle.parted_store.specs.Lent.{OpenTicket}
use Rattle.parted_store.specs.Shares.{share_of}
use Rattle.table_locks.specs.MeetingLemmas.{shared_more, unshared_more}
use Rattle.table_locks.specs.Whole.{numbers_at}
use Rattle.table_locks.proofs.meeting.count_sharers.Goals as goal
use Rattle.table_locks.proofs.meeting.count_sharers.Goals.{then-has_share, else-has_share}

pub loop-ticket-init : goal.loop-ticket-init
loop-ticket-init g c = record { all = omega arith; few = omega arith }

pub loop-ticket-preserved : goal.loop-ticket-preserved
loop-ticket-preserved g c =
    let tickets = c.args.tickets.now in
    let table = c.args.table in
    let i = c.loop-ticket.ticket-index in
    let d : OpenTicket = c.ticket-item.result in
    let u : OpenTicket = slice_index_or tickets i d in
    let was = c.loop-ticket.invariant.all in
    let few = c.loop-ticket.invariant.few in
    let step : length (numbers_at table (drop i tickets)) ≡ length (numbers_at table (u ∷ drop (i + 1) tickets)) =
    ap (λ ts. length (numbers_at table ts)) (drop_more tickets i d c.loop-ticket-test.true) in
    let has = c.has_share.ensures ∙ ap (λ (t : OpenTicket). is_some (share_of t.shares table)) (c.ticket.view_is ∙ c.ticket-item.is) in
    elim c.if-has_share.branch [
      | then-has_share w ↦
          let more = shared_more table u (drop (i + 1) tickets) (sym has ∙ w.if-has_share.true) in
          let count = w.count-is in
          record { all = omega (arith, was, step, more, count); few = omega (arith, few, count) }
      | else-has_share w ↦
          let more = unshared_more table u (drop (i + 1) tickets) (sym has ∙ w.if-has_share.false) in
          let count = w.count-is in
          record { all = omega (arith, was, step, more, count); few = omega (arith, few, count) }
    ]

pub overflow_add-count : goal.overflow_add-count
overflow_add-count g c =
    let few = c.loop-ticket.invariant.few in
    let below = c.loop-ticket-test.true in
    omega (arith, few, below)

pub returns : goal.returns
returns g c =
    let tickets = c.args.tickets.now in
    let table = c.args.table in
    let over = c.loop-ticket-test.false in
    let was = c.loop-ticket.invariant.all in
    let none : length (numbers_at table (drop c.loop-ticket.ticket-index tickets)) ≡ 0 =
    ap (λ ts. length (numbers_at table ts)) (drop_all c.loop-ticket.ticket-index tickets (omega (arith, over))) in
    omega (arith, was, none)
