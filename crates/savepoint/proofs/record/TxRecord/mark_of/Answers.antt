use Rattle.std.proofs.Common.{sym, ap, ◌∙◌}
use Rattle.std.specs.Option.{option_map}
use Rattle.savepoint.specs.declared.record.CutPoint.{CutPoint}
use Rattle.savepoint.proofs.Marked.{mark_seen, top_seen}
use Rattle.savepoint.proofs.record.TxRecord.mark_of.Goals as goal

pub returns-in_err-point-clause-mark : goal.returns-in_err-point-clause-mark
returns-in_err-point-clause-mark c =
    c.from_residual.ensures ∙ ap (option_map (λ (p : CutPoint). p.mark)) c.in_err-point.ensures ∙ sym (mark_seen c.self.inside c.args.self.now c.self.view_is c.args.sub)

pub returns-in_err-point-clause-top : goal.returns-in_err-point-clause-top
returns-in_err-point-clause-top c = top_seen c.self.inside c.args.self.now c.self.view_is c.args.sub c.self.invariant.top_unmarked

pub returns-clause-mark : goal.returns-clause-mark
returns-clause-mark c =
    ap (option_map (λ (p : CutPoint). p.mark)) c.in_ok-point.ensures ∙ sym (mark_seen c.self.inside c.args.self.now c.self.view_is c.args.sub)

pub returns-clause-top : goal.returns-clause-top
returns-clause-top c = top_seen c.self.inside c.args.self.now c.self.view_is c.args.sub c.self.invariant.top_unmarked
