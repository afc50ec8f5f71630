use Rattle.std.proofs.Common.{◌∙◌, false, true, ap}
use Rattle.std.specs.Prelude.{Ok}
use Rattle.parted_store.proofs.truncating.truncate_each.Goals as goal

pub wait_each-requires : goal.wait_each-requires
wait_each-requires c = record {
  waits = (
    c.args.parts.now,
    c.args.shares.now.items,
    c.requires.apart,
    c.requires.belong,
    c.requires.cuts,
    λ i p there. record { share = c.requires.shares i p there; known = c.requires.known i p there },
    c.take_back_each.ensures c.args.parts.now c.args.shares.now.items c.args.mark false c.requires.apart c.in-Ok-Some.ensures.ok,
  );
}

pub returns-in-Ok-None : goal.returns-in-Ok-None
returns-in-Ok-None c =
    c.keep_each.ensures c.args.parts.now c.args.shares.now.items c.requires.apart (c.try_each.ensures.all (c.in-Ok-None.is ∙ ap Ok c.in-Ok-None.field-0-is)) c.in-Ok-None.ensures.ok

pub returns-in-Ok-Some : goal.returns-in-Ok-Some
returns-in-Ok-Some c = (
  c.try_each.ensures.held c.in-Ok-Some.holder (c.in-Ok-Some.is ∙ ap Ok c.in-Ok-Some.field-0-is),
  c.wait_each.ensures c.args.parts.now c.args.shares.now.items c.requires.apart c.requires.cuts
      (λ i p there. record { share = c.requires.shares i p there; known = c.requires.known i p there })
      (c.take_back_each.ensures c.args.parts.now c.args.shares.now.items c.args.mark false c.requires.apart c.in-Ok-Some.ensures.ok),
)

pub returns-in-Err : goal.returns-in-Err
returns-in-Err c = (
  c.in-Err.ensures.fault,
  c.take_back_each-in-Err.ensures c.args.parts.now c.args.shares.now.items c.args.mark true c.requires.apart c.in-Err.ensures.err,
)
