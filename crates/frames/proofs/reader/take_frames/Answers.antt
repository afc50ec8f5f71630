use Rattle.std.proofs.Common.{sym}
use Rattle.std.proofs.lemmas.Result.{err_from_is_err_and}
use Rattle.frames.proofs.Taking.{Progress-start, Progress-skipped, Progress-given, Finished-part, Finished-refused, Finished-closing, shorter_skipped, shorter_given}
use Rattle.frames.proofs.reader.take_frames.Goals as goal

pub loop-item-init : goal.loop-item-init
loop-item-init c = Progress-start _ _

pub loop-item-smaller-in-Skipped : goal.loop-item-smaller-in-Skipped
loop-item-smaller-in-Skipped c = let p = rw c.in-Skipped.is at (c.in_ok-take_frame.ensures.frame) in shorter_skipped _ _ p

pub loop-item-preserved-in-Skipped : goal.loop-item-preserved-in-Skipped
loop-item-preserved-in-Skipped c =
    let p = rw c.in-Skipped.is at (c.in_ok-take_frame.ensures.frame) in Progress-skipped _ _ _ _ _ c.loop-item.invariant p

pub loop-item-smaller : goal.loop-item-smaller
loop-item-smaller c = let p = rw c.in-Given.is at (c.in_ok-take_frame.ensures.frame) in shorter_given _ _ c.in-Given.item p

pub loop-item-preserved : goal.loop-item-preserved
loop-item-preserved c =
    let p = rw c.in-Given.is at (c.in_ok-take_frame.ensures.frame) in
    let items = rw (sym c.in_ok-map_err-in-Given.ensures.variant) at c.push_back.ensures.items in
    Progress-given _ _ _ _ _ _ c.in-Given.item c.loop-item.invariant p items

pub returns-in-Part-clause-read : goal.returns-in-Part-clause-read
returns-in-Part-clause-read c =
    let p = rw c.in-Part.is at (c.in_ok-take_frame.ensures.frame) in Finished-part _ _ _ _ _ c.loop-item.invariant p.0 p.1

pub returns-in_err-take_frame-clause-read : goal.returns-in_err-take_frame-clause-read
returns-in_err-take_frame-clause-read c =
    let p = err_from_is_err_and c.from_residual.result c.from_residual.ensures.1 in
    rw (p.1, p.2) (Finished-refused _ _ _ c.loop-item.unread.items _ c.loop-item.invariant (c.in_err-take_frame.ensures.frame))

pub returns-in-Closing-clause-read : goal.returns-in-Closing-clause-read
returns-in-Closing-clause-read c =
    let p = rw c.in-Closing.is at (c.in_ok-take_frame.ensures.frame) in
    let items = rw (sym c.in_ok-map_err-in-Closing.ensures.variant) at c.push_back-in-Closing.ensures.items in
    Finished-closing _ _ _ _ c.loop-item.unread.items c.loop-item.invariant p items
