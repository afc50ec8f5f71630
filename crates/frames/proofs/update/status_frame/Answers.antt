use Rattle.std.proofs.Common.{append_assoc, rules, w64}
use Rattle.std.proofs.lemmas.Int.{to_z-of_z}
use mir.Val.{SFits}
use Rattle.frames.proofs.update.status_frame.Goals as goal

pub returns : goal.returns
returns c =
    let fits : SFits w64 c.args.s.now.clock = search rules in
    simp (c.in_ok-push-3.ensures.items, c.in_ok-put_int64-4.ensures, c.cast_unsigned.ensures, c.in_ok-put_int64-3.ensures, c.in_ok-put_int64-2.ensures, c.in_ok-put_int64.ensures, c.in_ok-push-2.ensures.items, c.in_ok-put_int32.ensures, c.in_ok-push.ensures.items, c.in_ok-frame.ensures.items, append_assoc, to_z-of_z)
