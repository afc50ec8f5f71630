use Rattle.std.proofs.Common.{◌≡◌, ◌++◌, List, drop, sym, ap, subst, ◌∙◌, arith}
use Rattle.std.proofs.lemmas.List.{append_assoc, take-append-drop, length-append}
use Rattle.world.specs.World.{Entry as Told}
use Rattle.mirror_writer.proofs.commit_writer.CommitWriter.write_all.Goals as goal

pub loop-rest-preserved : goal.loop-rest-preserved
loop-rest-preserved g c =
    let came = c.loop-rest.invariant in
    let done = came.0 in
    let rest = c.loop-rest.rest.now in
    let size = c.min.result in
    let now = c.split_at.result.0.now in
    let later = c.split_at.result.1.now in
    let cut : rest ≡ now ++ later =
    sym (take-append-drop size rest) ∙ ap (λ (xs : List Told). xs ++ drop size rest) (sym c.split_at.ensures.front) ∙ ap (λ (xs : List Told). now ++ xs) (sym c.split_at.ensures.back) in (
      done ++ now,
      came.1 ∙ ap (λ (xs : List Told). done ++ xs) cut ∙ sym (append_assoc done now later),
      (λ before kept. subst (g.K.Keep.has_kept c.write.new.self.keep) (append_assoc before done now) (c.in_ok-write.ensures.kept (before ++ done) (came.2 before kept))),
      omega (arith, c.in_ok-write.ensures.count, came.3, length-append done now),
      c.write.ensures.stop ∙ came.4,
    )
