use Rattle.std.proofs.Common.{List, ◌∷◌, sym, subst}
use Rattle.std.specs.Prelude.{map}
use Rattle.std.specs.List.Sorted.{IsStrictlyIncreasing}
use Rattle.engine.specs.declared.entry.Entry.{Entry}
use Rattle.engine.specs.StoreLemmas.{store_rising}
use Rattle.engine.proofs.store.Store.journal.Goals as goal

pub returns-clause-rising : goal.returns-clause-rising
returns-clause-rising c =
    subst (λ (entries : List Entry). IsStrictlyIncreasing (0 ∷ map (λ (e : Entry). e.end) entries)) (sym c.as_slice.ensures.value) (store_rising c.self.inside c.self.invariant)
