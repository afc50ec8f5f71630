use Rattle.std.proofs.Common.{◌∷◌, ◌∙◌, ap, sym, subst}
use Rattle.std.specs.List.Sorted.{IsStrictlyIncreasing}
use Rattle.model.specs.Beginning.{Begins}
use Rattle.tokens.specs.Half.{Half}
use Rattle.engine.specs.declared.events.LineEvent.{LineEvent}
use Rattle.engine.specs.Events.{ends_in}
use Rattle.table_locks.proofs.journal.Journal.look.Goals as goal

pub returns-clause-seen : goal.returns-clause-seen
returns-clause-seen g c = record {
  name_is = ap (λ (h : Half LineEvent). h.name) c.look.ensures.seen ∙ c.self.invariant.line;
  begins = subst (λ (h : Half LineEvent). Begins c.args.seen.now.list h.list) (sym c.look.ensures.seen) c.look.ensures.begins;
  rising = subst (λ (h : Half LineEvent). IsStrictlyIncreasing (0 ∷ ends_in h.list)) (sym c.look.ensures.seen) c.recall_invariant.ensures;
}
