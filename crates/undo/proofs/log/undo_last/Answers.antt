use Rattle.std.proofs.Common.{◌≡◌, ◌≤◌, length, drop, List, [], ◌∷◌, ◌++◌, ◌∙◌, ap, subst, arith, length-append, drop_of_length-le}
use Rattle.change.specs.declared.inverse.Inverse.{Inverse}
use Rattle.indexes.specs.Content.{KeepsCells}
use Rattle.undo.specs.Undo.{content_undone}
use Rattle.undo.proofs.Steps.{last_of, newest_can, left_can, left_rows, left_room, left_same}
use Rattle.undo.proofs.log.undo_last.Goals as goal

pub put_back-requires : goal.put_back-requires
put_back-requires c =
    let all = c.loop-inverses.inverses.items in
    let rest = c.pop.new.self.items in
    let i = c.unwrap-inverse.result in
    let split : all ≡ rest ++ i ∷ [] = last_of all rest i _ c.unwrap-inverse.ensures c.pop.ensures.items in
    let below : c.args.mark ≤ length rest = omega (arith, ap length split, length-append rest (i ∷ []), c.loop-inverses.inverses.ok.0) in
    newest_can c.loop-inverses.t c.loop-inverses.t all rest i c.args.mark split below c.loop-inverses.invariant.can

pub loop-inverses-preserved : goal.loop-inverses-preserved
loop-inverses-preserved c =
    let t = c.loop-inverses.t in
    let new = c.put_back.new.t in
    let all = c.loop-inverses.inverses.items in
    let rest = c.pop.new.self.items in
    let i = c.unwrap-inverse.result in
    let split : all ≡ rest ++ i ∷ [] = last_of all rest i _ c.unwrap-inverse.ensures c.pop.ensures.items in
    let below : c.args.mark ≤ length rest = omega (arith, ap length split, length-append rest (i ∷ []), c.loop-inverses.inverses.ok.0) in
    let can = c.loop-inverses.invariant.can in
    let e = c.put_back.ensures in
    record {
      above = omega (arith, c.pop.new.self.ok.0);
      left = left_same t new all rest i c.args.mark split below can ∙ c.loop-inverses.invariant.left;
      rows = left_rows t new all rest i c.args.mark split below can e.schema e.rows e.room ∙ c.loop-inverses.invariant.rows;
      can = left_can t new all rest i c.args.mark split below can e.schema e.rows e.room;
      room = λ cell is. left_room t new all rest i c.args.mark split below can e.schema e.rows e.room cell (c.loop-inverses.invariant.room cell is);
      schema = e.schema ∙ c.loop-inverses.invariant.schema;
      capacity = c.pop.ensures.capacity ∙ c.loop-inverses.invariant.capacity;
    }

pub returns-clause-room : goal.returns-clause-room
returns-clause-room c =
    let past : length c.loop-inverses.inverses.items ≤ c.args.mark = omega (arith, c.loop-inverses.inverses.ok.0) in
    subst (λ (is : List Inverse). KeepsCells (content_undone c.args.t.now (drop c.args.mark c.args.inverses.now.items)).room (content_undone c.loop-inverses.t is).room)
    (drop_of_length-le c.loop-inverses.inverses.items past) c.loop-inverses.invariant.room
