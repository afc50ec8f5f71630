use Rattle.std.proofs.Common.{List, ap, subst}
use Rattle.std.specs.Prelude.{ℕ, All}
use Rattle.tokens.specs.Half.{Half}
use Rattle.engine.specs.declared.events.LineEvent.{LineEvent}
use Rattle.engine.specs.Events.{ends_in}
use Rattle.leader.specs.WithWorkers.{IsShutSo}
use Rattle.leader.specs.Watching.{KnowsAlong}
use Rattle.leader.proofs.Watched.{known_along}
use Rattle.leader.proofs.threads.shut_shared.Goals as goal

-- what each has seen is a beginning of the line, and what it has loaded of the ends that were published
pub returns-clause-knows : goal.returns-clause-knows
returns-clause-knows g c =
    let line = c.args.finished.line.list in
    let Along = KnowsAlong g.V.Watch.knows g.N.StoreNames.schema g.N.StoreNames.start g.L.RunNames.skip in
    let watches = c.gather-watches.result.items in
    let along : All (Along line (ends_in line)) watches =
    subst (λ (ends : List ℕ). All (Along line ends) watches) (ap (λ p. p.ends) c.requires.published) c.gather-watches.ensures.knows
    in known_along g.V.Watch.knows g.N.StoreNames.schema g.N.StoreNames.start g.L.RunNames.skip line c.shut.result watches
    (subst (λ (events : List LineEvent). IsShutSo g.N.StoreNames.schema g.N.StoreNames.start events c.shut.result) (ap (λ (h : Half LineEvent). h.list) c.gather-watches.ensures.line) c.shut.ensures.shut) along
