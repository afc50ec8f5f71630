use Rattle.std.proofs.Common.{◌∙◌}
use Rattle.run.proofs.Reading.{kept_on, kept_stopped}
use Rattle.run.proofs.stream.handle_kept.Goals as goal

pub loop-item-preserved : goal.loop-item-preserved
loop-item-preserved g c = record {
  under_way = c.in_ok-answer.ensures.under_way;
  ending = c.next.ensures.ending ∙ c.loop-item.invariant.ending;
  reader = c.in_ok-answer.ensures.reader ∙ c.loop-item.invariant.reader;
  unread = c.in_ok-answer.ensures.unread ∙ c.loop-item.invariant.unread;
  left = c.in_ok-answer.ensures.left ∙ c.loop-item.invariant.left;
  come = λ h rows old bytes handled come read.
      let was = c.loop-item.invariant.come h rows old bytes handled come read in
      let now = c.in_ok-answer.ensures.answer h rows old was.0 was.1 in
      (_, now, c.in-Some.ensures.read bytes was.0 was.2);
}

pub returns-in_err-answer-clause-kept : goal.returns-in_err-answer-clause-kept
returns-in_err-answer-clause-kept g c = λ h rows old bytes handled come read.
    let was = c.loop-item.invariant.come h rows old bytes handled come read in
    kept_stopped h (g.H.Handler.at h rows) (g.H.Handler.ended h rows) old _ c.answer.new.handler bytes was.0 c.in-Some.item c.next.new.self c.in_err-answer.field-0.0 c.from_residual.result (c.in-Some.ensures.read bytes was.0 was.2)
    (c.in_err-answer.ensures.answer h rows old was.0 was.1) c.from_residual.ensures.1

pub returns-clause-kept : goal.returns-clause-kept
returns-clause-kept g c = λ h rows old bytes handled come read.
    let was = c.loop-item.invariant.come h rows old bytes handled come read in
    (was.0, was.1, kept_on bytes was.0 c.loop-item.frames c.next.new.self (c.in_default.ensures.none).1 was.2)
