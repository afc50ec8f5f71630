use Rattle.std.proofs.Common.{◌∙◌, length, sym, ap}
use Rattle.std.proofs.lemmas.Bool.{eqb-true}
use Rattle.table_locks.specs.MeetingLemmas.{closed_by}
use Rattle.table_locks.specs.Whole.{numbers_at}
use Rattle.table_locks.proofs.meeting.is_closed.Goals as goal

pub returns : goal.returns
returns g c so =
    let tickets = c.args.tickets.now in
    closed_by g.N.StoreNames.shares g.N.StoreNames.schema tickets c.requires.tickets c.requires.apart c.args.part.now c.requires.stand
    (ap (λ n. length (numbers_at n tickets)) (sym c.number.ensures)
    ∙ sym c.count_sharers.ensures
    ∙ sym (eqb-true c.open_count.result c.count_sharers.result so)
    ∙ c.open_count.ensures)
