use Rattle.std.proofs.Common.{◌<◌, ◌≤◌, sym, ap, subst, ◌∙◌}
use Rattle.model.specs.Limits.{most_open}
use Rattle.engine.specs.Events.{is_open_in}
use Rattle.parted_store.specs.Journal.{JournalPart}
use Rattle.parted_store.specs.JournalLemmas.{none_there}
use Rattle.parted_store.proofs.journal.Journal.can_open.Goals as goal

pub returns-then-contains-clause-err : goal.returns-then-contains-clause-err
returns-then-contains-clause-err c = (
  none_there c.args.self.now.stopped (sym c.is_stopped.ensures ∙ c.if-is_stopped.false),
  ap (λ (j : JournalPart). is_open_in j.line.list c.args.xid) (sym c.self.view_is) ∙ sym (c.self.invariant.opened c.args.xid) ∙ sym c.contains.ensures ∙ c.if-contains.true,
)

pub returns-then-count-ge-MOST_OPEN-clause-err : goal.returns-then-count-ge-MOST_OPEN-clause-err
returns-then-count-ge-MOST_OPEN-clause-err c = (
  none_there c.args.self.now.stopped (sym c.is_stopped.ensures ∙ c.if-is_stopped.false),
  ap (λ (j : JournalPart). is_open_in j.line.list c.args.xid) (sym c.self.view_is) ∙ sym (c.self.invariant.opened c.args.xid) ∙ sym c.contains.ensures ∙ c.if-contains.false,
  subst (λ n. most_open ≤ n) (c.len-count.ensures.len ∙ ap (λ (j : JournalPart). j.open_count) c.self.view_is) c.if-count-ge-MOST_OPEN.true,
)

pub returns-clause-ok : goal.returns-clause-ok
returns-clause-ok c = record {
  runs = none_there c.args.self.now.stopped (sym c.is_stopped.ensures ∙ c.if-is_stopped.false);
  absent = ap (λ (j : JournalPart). is_open_in j.line.list c.args.xid) (sym c.self.view_is) ∙ sym (c.self.invariant.opened c.args.xid) ∙ sym c.contains.ensures ∙ c.if-contains.false;
  few = subst (λ n. n < most_open) (c.len-count.ensures.len ∙ ap (λ (j : JournalPart). j.open_count) c.self.view_is) c.if-count-ge-MOST_OPEN.false;
}
