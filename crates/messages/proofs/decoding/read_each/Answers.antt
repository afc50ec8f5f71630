use Rattle.std.proofs.Common.{[], ◌∷◌, arith, length-append}
use Rattle.std.proofs.lemmas.Result.{err_from_is_err_and}
use Rattle.messages.specs.Format.{times}
use Rattle.messages.specs.Reading.{read}
use Rattle.messages.proofs.Times.{goes_on, ends}
use Rattle.messages.proofs.decoding.read_each.Goals as goal

pub returns-in_err-item-clause-read : goal.returns-in_err-item-clause-read
returns-in_err-item-clause-read g c =
    let p = err_from_is_err_and c.from_residual-in_err-item.result c.from_residual-in_err-item.ensures.1 in
    rw (p.1, p.2) (ends g.T.Counted.format c.loop.items.items c.args.count c.loop.counter c.loop.cursor c.in_err-item.field-0.0 (read (times c.args.count g.T.Counted.format) c.args.cursor.now) c.loop-test.true c.in_err-item.ensures c.loop.invariant.so_far)

pub loop-preserved : goal.loop-preserved
loop-preserved g c = record {
  so_far = rw c.in_ok-push.ensures.items (goes_on g.T.Counted.format c.loop.items.items c.args.count c.loop.counter c.loop.cursor c.in_ok-item.item c.read.new.cursor (read (times c.args.count g.T.Counted.format) c.args.cursor.now) c.loop-test.true c.in_ok-item.ensures c.loop.invariant.so_far);
  len = rw c.in_ok-push.ensures.items (omega (arith, length-append c.loop.items.items (c.in_ok-item.item ∷ []), c.loop.invariant.len));
}
