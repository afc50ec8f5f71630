use Rattle.std.proofs.Common.{◌≡◌, sym, ap, subst, ◌∙◌, refl}
use Rattle.std.specs.Prelude.{Ok}
use Rattle.session.specs.declared.phase.Phase.TheVariants.{Block}
use Rattle.session.specs.Table as table
use Rattle.session.proofs.Steps.{err_is}
use Rattle.session.proofs.Items.{IsAtRest, at_rest, learns-admitted, relation_refused, relation_full, relation_taken, relation_undone, is_touched}
use Rattle.session.proofs.session.Session.relation.Goals as goal

pub returns-in_err-learn-in-Outside : goal.returns-in_err-learn-in-Outside
returns-in_err-learn-in-Outside c = λ g h represents.
    let kept = c.in_err-learn-in-Outside.ensures g h.relations represents.relations in
    relation_refused g c.args.self.now _ h _ c.from_residual.result c.in_err-learn-in-Outside.field-0.0 represents kept.1 refl refl refl refl c.from_residual.ensures.1 (rw kept.0 tt)

pub returns-in_ok-learn-in-Outside : goal.returns-in_ok-learn-in-Outside
returns-in_ok-learn-in-Outside c = λ g h represents.
    learns-admitted g c.args.self.now _ h c.args.relation.now _ represents (at_rest h.phase _ _ (subst IsAtRest represents.phase c.in-Outside.is)) (c.in_ok-learn-in-Outside.ensures g h.relations represents.relations) refl refl refl refl

pub returns-in_err-step-in-Block : goal.returns-in_err-step-in-Block
returns-in_err-step-in-Block c = λ g h represents.
    let block : h.phase ≡ Block c.in-Block.xid = sym represents.phase ∙ c.in-Block.is in
    relation_full g _ h c.args.relation.now c.in-Block.xid c.unwrap_or.result c.args.size _ _ _ c.from_residual-in_err-step-in-Block.result c.in_err-step-in-Block.field-0.0 block
    (ap (λ sub. table.touches g (table.learns h c.args.relation.now) c.in-Block.xid sub c.args.size) (sym c.unwrap_or.ensures)) (c.in_err-step-in-Block.ensures g h represents block)
    (err_is c.from_residual-in_err-step-in-Block.result _ c.from_residual-in_err-step-in-Block.ensures.1)

pub returns-in-Err : goal.returns-in-Err
returns-in-Err c = λ g h represents.
    let block : h.phase ≡ Block c.in-Block.xid = sym represents.phase ∙ c.in-Block.is in
    let taken = c.in_ok-step-in-Block.ensures g h represents block in
    let kept = c.in-Err.ensures g taken.state.relations taken.represents.relations in
    record {
      represents = relation_undone g c.args.self.now c.touch.new.self _ h c.in-Block.xid c.unwrap_or.result c.args.size c.in_ok-step-in-Block.step represents taken (λ m o item bytes some survives keeps. c.drop_last.ensures g m o item bytes some survives keeps) kept.1 refl refl refl;
      cause = rw (c.into.ensures, kept.0) tt;
    }

pub returns-in_default : goal.returns-in_default
returns-in_default c = λ g h represents.
    let block : h.phase ≡ Block c.in-Block.xid = sym represents.phase ∙ c.in-Block.is in
    let taken = c.in_ok-step-in-Block.ensures g h represents block in
    let touched = is_touched g h c.in-Block.xid c.unwrap_or.result c.args.size taken.state taken.stepped in
    let known = c.in_default.ensures g taken.state.relations taken.represents.relations in
    relation_taken g c.touch.new.self _ h c.args.relation.now c.in-Block.xid c.unwrap_or.result c.args.size _ c.in_ok-step-in-Block.step
    (ap (λ p. table.at p (Ok (table.learns h c.args.relation.now)) (λ _ _. Ok (table.learns h c.args.relation.now)) (λ xid. table.touches g (table.learns h c.args.relation.now) xid (table.subtransaction_named c.args.sub xid) c.args.size)) block
    ∙ ap (λ sub. table.touches g (table.learns h c.args.relation.now) c.in-Block.xid sub c.args.size) (sym c.unwrap_or.ensures))
    taken (rw touched.is at known) refl refl refl refl
