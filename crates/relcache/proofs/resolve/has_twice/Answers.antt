use Rattle.std.proofs.Common.{arith}
use Rattle.std.proofs.lemmas.List.{at_drop_more}
use Rattle.std.proofs.lemmas.Grind.{common_steps}
use Rattle.relcache.specs.Mapping.{has_twice}
use Rattle.relcache.proofs.resolve.has_twice.Goals as goal

pub loop-place-preserved : goal.loop-place-preserved
loop-place-preserved c =
    let step = at_drop_more has_twice c.args.sent.now c.loop-place.place c.index-sent-place.result (omega arith) in
    grind (arith, common_steps)
