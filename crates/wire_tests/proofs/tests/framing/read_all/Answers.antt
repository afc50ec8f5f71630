use Rattle.std.proofs.Common.{◌++◌}
use Rattle.std.proofs.KnownBytes.{Consumes-trans}
use Rattle.std.proofs.lemmas.Result.{on_ok_weaker}
use Rattle.wire_tests.proofs.tests.framing.read_all.Goals as goal

pub pulls-preserved : goal.pulls-preserved
pulls-preserved g c =
    let i = c.pulls.invariant in
    let p = c.pull-pulled.ensures.read in
    (i.0 ++ p.0, Consumes-trans _ _ _ i.0 p.0 i.1 p.1, c.in_ok-take_kept.ensures.read (i.0 ++ p.0) (p.2 i.0 _ i.2))

pub returns-in-Ok-false : goal.returns-in-Ok-false
returns-in-Ok-false g c =
    let i = c.pulls.invariant in
    let p = c.pull-pulled.ensures.read in
    let bytes = i.0 ++ p.0 in
    let read = c.in_ok-take_kept.ensures.read bytes (p.2 i.0 _ i.2) in
    let at_end = c.in-Ok-false.ensures.end c.in-Ok-false.field-0-test in (
      bytes,
      Consumes-trans _ _ _ i.0 p.0 i.1 p.1,
      c.finish.ensures.read c.in_ok-take_kept.ensures.none bytes _ read,
      on_ok_weaker c.finish.result (λ stands. let same = stands bytes c.take_kept.new.items.items read in rw (same, c.take_kept.ensures.ending) at_end) c.finish.ensures.stands,
    )

pub returns-in-Err : goal.returns-in-Err
returns-in-Err g c =
    let i = c.pulls.invariant in
    let p = c.pull-pulled.ensures.read in
    let bytes = i.0 ++ p.0 in
    let read = c.in_ok-take_kept.ensures.read bytes (p.2 i.0 _ i.2) in (
      bytes,
      Consumes-trans _ _ _ i.0 p.0 i.1 p.1,
      c.finish-in-Err.ensures.read c.in_ok-take_kept.ensures.none bytes _ read,
      on_ok_weaker c.finish-in-Err.result (λ stands. let same = stands bytes c.take_kept.new.items.items read in rw (same, c.take_kept.ensures.ending) c.in-Err.ensures.end) c.finish-in-Err.ensures.stands,
    )
