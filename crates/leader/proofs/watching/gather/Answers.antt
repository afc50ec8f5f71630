use Rattle.std.proofs.Common.{sym, subst, ◌∙◌, arith}
use Rattle.std.specs.Prelude.{All}
use Rattle.std.proofs.lemmas.Grind.{common_steps}
use Rattle.std.proofs.lemmas.List.Elements.{All-push}
use Rattle.tokens.specs.Half.{Half}
use Rattle.engine.specs.declared.events.LineEvent.{LineEvent}
use Rattle.origin.specs.Commits.{PublishedCommits}
use Rattle.leader.specs.Watching.{KnowsAlong}
use Rattle.leader.proofs.watching.gather.Goals as goal

pub loop-onlooker-preserved : goal.loop-onlooker-preserved
loop-onlooker-preserved g c =
    let came = c.loop-onlooker.invariant in
    let home = c.loop-onlooker.home.items in
    let watch = c.into_watch.result in
    let Along = KnowsAlong g.V.Watch.knows g.N.StoreNames.schema g.N.StoreNames.start g.L.RunNames.skip in
    let knows =
    subst (λ (p : PublishedCommits). Along c.args.line.now.list p.ends watch) came.publisher
    (subst (λ (h : Half LineEvent). Along h.list c.loop-onlooker.publisher.ends watch) came.line c.into_watch.ensures.knows)
    in record {
      can_next = came.can_next;
      is_finite = came.is_finite;
      count = grind (arith, common_steps, came.count, c.in-Some.ensures.steps.1, c.push_reserved.ensures.items);
      fits = grind (arith, came.fits, c.push_reserved.ensures.capacity);
      knows = subst (All (Along c.args.line.now.list c.args.publisher.now.ends)) (sym c.push_reserved.ensures.items) (All-push (Along c.args.line.now.list c.args.publisher.now.ends) home watch came.knows knows);
      line = c.into_watch.ensures.same.0 ∙ came.line;
      publisher = c.into_watch.ensures.same.1 ∙ came.publisher;
    }
