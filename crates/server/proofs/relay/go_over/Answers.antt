use Rattle.std.proofs.Common.{rules, arith, take, drop}
use Rattle.server.specs.Frames.{IsFrame, none}
use Rattle.server.proofs.FrameLemmas.{as_many, further}
use Rattle.server.proofs.relay.go_over.Goals as goal
use Rattle.server.proofs.relay.go_over.Goals.{then-taken, else-taken}

pub frames-init : goal.frames-init
frames-init c = (omega arith, none)

pub returns-in-Some-clause-whole : goal.returns-in-Some-clause-whole
returns-in-Some-clause-whole c =
    let frame : IsFrame (take c.in-Ok-Some.length (drop c.frames.scan.ready c.args.bytes.now)) = search rules in
    elim c.if-taken.branch [
      | then-taken w ↦ further _ c.in-Ok-Some.length _ _ (search rules) c.frames.invariant.1 frame
      | else-taken w ↦ as_many _ _ _ (search rules) c.frames.invariant.1
    ]

pub frames-preserved : goal.frames-preserved
frames-preserved c =
    let frame : IsFrame (take c.in-Ok-Some.length (drop c.frames.scan.ready c.args.bytes.now)) = search rules in
    elim c.if-taken.branch [
      | then-taken w ↦ (search rules, further _ c.in-Ok-Some.length _ _ (search rules) c.frames.invariant.1 frame)
      | else-taken w ↦ (search rules, as_many _ _ _ (search rules) c.frames.invariant.1)
    ]
