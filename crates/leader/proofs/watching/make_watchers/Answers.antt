use Rattle.std.proofs.Common.{◌≡◌, ◌++◌, ◌∷◌, refl, sym, ap, subst, ◌∙◌, arith}
use Rattle.std.specs.Prelude.{All}
use Rattle.std.proofs.lemmas.Grind.{common_steps}
use Rattle.std.specs.Vec.Iter.{into_iter_items}
use Rattle.tokens.specs.Half.{Half}
use Rattle.engine.specs.declared.events.LineEvent.{LineEvent}
use Rattle.origin.specs.Commits.{LoadedCommits}
use Rattle.leader.specs.Watching.{KnowsStart}
use Rattle.leader.proofs.Iterated.{taken_front, front_fits, one_left, all_left}
use Rattle.leader.proofs.watching.make_watchers.Goals as goal

pub new-watcher-requires-clause-known : goal.new-watcher-requires-clause-known
new-watcher-requires-clause-known g c =
    let Knows = KnowsStart g.V.Watch.knows g.N.StoreNames.schema g.N.StoreNames.start g.L.RunNames.skip in
    let split : c.args.watches.items ≡ c.loop-watch.yielded ++ c.in-Some.watch ∷ into_iter_items c.next.new.self =
    sym c.into_iter-watch-iterator.ensures.into_iter_gives.0
    ∙ taken_front c.into_iter-watch-iterator.result c.loop-watch.yielded c.loop-watch.watch-iterator c.loop-watch.yielded_by
    ∙ ap (λ ws. c.loop-watch.yielded ++ ws) c.in-Some.ensures.steps.0 in
    let known = all_left Knows c.loop-watch.yielded c.in-Some.watch _ (subst (All Knows) split c.requires.knows) in
    let own : c.split-own.result.0 ≡ c.args.loader = c.split-own.ensures.0 ∙ c.loop-watch.invariant.loader in
    ∣ known _ (record {
      schema = refl;
      start = refl;
      line = ap (λ (seen : Half LineEvent). seen.list) (c.watch_line.ensures.seen ∙ c.loop-watch.invariant.line) ∙ c.requires.unseen;
      skip = ap (λ (l : LoadedCommits). l.skip) own ∙ c.requires.loaded.1;
      published = ap (λ (l : LoadedCommits). l.ends) own ∙ c.requires.loaded.0;
    }) ∣₁

pub push_reserved-requires : goal.push_reserved-requires
push_reserved-requires g c =
    let split : c.args.watches.items ≡ c.loop-watch.yielded ++ c.in-Some.watch ∷ into_iter_items c.next.new.self =
    sym c.into_iter-watch-iterator.ensures.into_iter_gives.0
    ∙ taken_front c.into_iter-watch-iterator.result c.loop-watch.yielded c.loop-watch.watch-iterator c.loop-watch.yielded_by
    ∙ ap (λ ws. c.loop-watch.yielded ++ ws) c.in-Some.ensures.steps.0 in
    grind (arith, common_steps, one_left c.args.watches.items c.loop-watch.yielded c.in-Some.watch _ split, c.loop-watch.invariant.count, c.loop-watch.invariant.fits)

pub invariant_of-result-clause-fits : goal.invariant_of-result-clause-fits
invariant_of-result-clause-fits g c =
    let split : c.args.watches.items ≡ c.loop-watch.yielded ++ into_iter_items c.loop-watch.watch-iterator =
    sym c.into_iter-watch-iterator.ensures.into_iter_gives.0 ∙ taken_front c.into_iter-watch-iterator.result c.loop-watch.yielded c.loop-watch.watch-iterator c.loop-watch.yielded_by in
    grind (arith, common_steps, front_fits c.args.watches.items c.loop-watch.yielded _ split, c.loop-watch.invariant.count, c.in-Ok.ensures.capacity, c.len.ensures)
