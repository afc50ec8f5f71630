use Rattle.std.proofs.Common.{◌++◌, take, ◌∙◌}
use Rattle.std.proofs.KnownBytes.{Appends-trans}
use Rattle.frames.proofs.Sent.{sent_more}
use Rattle.frames.proofs.update.send_status.Goals as goal

pub loop-rest-preserved : goal.loop-rest-preserved
loop-rest-preserved g c =
    let i = c.loop-rest.invariant in
    (i.0 ++ take c.in-Ok.count c.loop-rest.rest.now, sent_more _ i.0 c.loop-rest.rest.now c.in-Ok.count i.1, Appends-trans _ _ _ i.0 _ i.2 c.in-Ok.ensures.bytes, c.in-Ok.ensures.works ∙ i.3)
