use Rattle.std.proofs.Common.{◌≡◌, ℕ, [], ◌∷◌, ◌++◌, Result, Ok, Err, List, ap, refl, ◌∙◌}
use Rattle.std.specs.Prelude.{OnOk, OnErr}
use Rattle.tokens.specs.Half.{Half}
use Rattle.engine.specs.declared.events.LineEvent.{LineEvent}
use Rattle.engine.specs.declared.events.LineEvent.TheVariants.{Opened as WasOpened}
use Rattle.model.specs.Beginning.{last_end}
use Rattle.engine.specs.EventLemmas.{last_same}
use Rattle.store_tests.proofs.tests.threads.workers.shared.Hand.open.Goals as goal
use Rattle.engine.specs.Events.{ends_in}

-- no commit comes with a transaction that opens, nor where none does
same_end : {T E : Type 0} (r : Result T E) (old new : Half LineEvent) (xid : ℕ) → OnOk r (new.list ≡ old.list ++ WasOpened xid ∷ []) → OnErr r (new ≡ old)
    → last_end (ends_in new.list) ≡ last_end (ends_in old.list)
same_end (Ok t) old new xid more same = ap (λ (events : List LineEvent). last_end (ends_in events)) more ∙ last_same old.list (WasOpened xid) refl
same_end (Err e) old new xid more same = ap (λ (line : Half LineEvent). last_end (ends_in line.list)) same

pub invariant_of-self-clause-ended : goal.invariant_of-self-clause-ended
invariant_of-self-clause-ended g c =
    same_end c.«open».result c.args.self.now.line _ c.args.xid c.«open».ensures.ok c.«open».ensures.err ∙ c.args.self.now.ended
