use Rattle.std.proofs.Common.{List, subst}
use Rattle.model.specs.declared.key.Key.{Key}
use Rattle.live_tables.specs.Merged.{AreLaid}
use Rattle.live_tables.proofs.BeforeImageSteps.{laid_beside}
use Rattle.live_tables.proofs.Stands.{on_ok}
use Rattle.live_tables.proofs.live_tables.Live.lay_held.Goals as goal

pub returns : goal.returns
returns c =
    on_ok c.lay_committed.result _ _ c.lay_committed.ensures (λ laid w tied.
    laid_beside w c.args.self.now tied c.args.table c.requires.free c.in_ok-keys.keys.items c.in_ok-keys.ensures.all c.args.known.now c.lay_committed.new.known
    (subst (λ (ks : List Key). AreLaid w.committed c.args.table ks c.args.known.now c.lay_committed.new.known) c.as_slice.ensures.value (laid w tied)))
