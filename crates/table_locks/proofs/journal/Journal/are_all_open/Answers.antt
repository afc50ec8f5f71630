use Rattle.std.proofs.Common.{◌≡◌, ◌∙◌, ℕ, true, List, length, arith, sym, subst}
use Rattle.std.specs.Prelude.{All}
use Rattle.std.specs.List.{Contains, IsDistinct}
use Rattle.std.proofs.lemmas.Bool.{eqb-true}
use Rattle.world.specs.World.{is_xid}
use Rattle.engine.specs.Events.{is_open_in}
use Rattle.table_locks.specs.Journals.{JournalState}
use Rattle.table_locks.specs.MeetingLemmas.{all_open_by}
use Rattle.table_locks.proofs.journal.Journal.are_all_open.Goals as goal
use Rattle.table_locks.proofs.journal.Journal.are_all_open.Goals.{then-tickets-open_count, else-tickets-open_count}

pub returns-then-are_different : goal.returns-then-are_different
returns-then-are_different g c so = elim c.if-tickets-open_count.branch [
  | then-tickets-open_count w ↦
      let tickets = c.args.tickets.now in
      let many : length tickets ≡ c.self.inside.part.open_count = w.if-tickets-open_count.true ∙ c.open_count.ensures in
      all_open_by c.args.self.now.part.line.list tickets (w.are_different.ensures (sym w.value-is ∙ c.if-are_different.true)) (c.are_open.ensures so)
      (subst
      (λ (j : JournalState). (xids : List ℕ) → IsDistinct is_xid xids → All (λ xid. is_open_in j.part.line.list xid ≡ true) xids → length xids ≡ length tickets
      → (xid : ℕ) → is_open_in j.part.line.list xid ≡ true → Contains xids xid)
      c.self.view_is
      (λ xids distinct there long. c.recall_open.ensures xids distinct there (long ∙ many)))
  | else-tickets-open_count w ↦
      let same = eqb-true (length c.args.tickets.now) c.open_count.result (sym w.value-is ∙ c.if-are_different.true) in
      let apart = w.if-tickets-open_count.false in
      absurd (omega (arith, same, apart))
]
