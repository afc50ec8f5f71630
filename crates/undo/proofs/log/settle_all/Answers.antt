use Rattle.std.proofs.Common.{◌<◌, length, take, ◌∙◌, subst, arith}
use Rattle.std.proofs.Common.{Contains}
use Rattle.undo.specs.Undo.{cells_settled, IsSettled}
use Rattle.model.specs.Rows.{Rows, Schema}
use Rattle.change.specs.declared.inverse.Inverse.{Inverse}
use Rattle.undo.proofs.Steps.{known_at, more_settled, all_settled_in_less, one_more_settled}
use Rattle.undo.proofs.log.settle_all.Goals as goal

pub loop-inverse-preserved : goal.loop-inverse-preserved
loop-inverse-preserved c =
    let schema = c.args.t.now.schema in
    let rows = c.args.t.now.rows in
    let new = c.settle_one.new.t in
    let is = c.args.inverses.now in
    let i = c.loop-inverse.inverse-index in
    let far = c.loop-inverse.invariant in
    let below : i < length is = omega arith in
    record {
      rows = c.settle_one.ensures.rows ∙ far.rows;
      schema = c.settle_one.ensures.schema ∙ far.schema;
      known = (known_at schema is i c.inverse-item.result below far.known).1;
      gone = one_more_settled schema rows new.room is i c.inverse-item.result below
          (all_settled_in_less schema rows c.loop-inverse.t.room new.room c.settle_one.ensures.fewer (take i is) far.gone)
          (subst (λ (x : Inverse). IsSettled schema rows new.room x) c.inverse-item.is (subst (λ (r : Rows). IsSettled schema r new.room c.inverse-item.result) far.rows
          (subst (λ (s : Schema). IsSettled s c.loop-inverse.t.rows new.room c.inverse-item.result) far.schema c.settle_one.ensures.gone)));
      fewer = λ cell there. far.fewer cell (c.settle_one.ensures.fewer cell there);
      others = λ cell none here.
          let parts = more_settled schema is i c.inverse-item.result below cell none in
          c.settle_one.ensures.others cell
          (λ settled. parts.1 (subst (λ (x : Inverse). Contains (cells_settled schema x) cell) c.inverse-item.is (subst (λ (s : Schema). Contains (cells_settled s c.inverse-item.result) cell) far.schema settled)))
          (far.others cell parts.0 here);
    }
