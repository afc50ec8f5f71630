use Rattle.std.proofs.Common.{◌≡◌, List, [], ◌∙◌, subst, arith}
use Rattle.std.proofs.lemmas.Grind.{common_steps}
use Rattle.indexes.specs.Content.{KeepsCells}
use Rattle.change.specs.declared.inverse.Wiped.{Wiped}
use Rattle.change.specs.Inverse.{room_unwiped, AreKnown, AreEmpty}
use Rattle.change.specs.InverseLemmas.{known_last, empty_last}
use Rattle.change.proofs.Restoring.{last_of, unwiped_rows, unwiped_room, unwiped_can}
use Rattle.change.proofs.inverse.unwipe_all.Goals as goal

pub unwipe-requires-clause-known : goal.unwipe-requires-clause-known
unwipe-requires-clause-known c =
    (known_last c.loop-last.t.schema c.pop.new.self.items c.in-Some.last
    (subst (AreKnown c.loop-last.t.schema) (last_of c.loop-last.wiped.items c.pop.new.self.items c.in-Some.last _ c.in-Some.is c.pop.ensures.items) c.loop-last.invariant.can.known)).1.0

pub unwipe-requires-clause-empty : goal.unwipe-requires-clause-empty
unwipe-requires-clause-empty c =
    (empty_last c.loop-last.t.rows c.pop.new.self.items c.in-Some.last
    (subst (AreEmpty c.loop-last.t.rows) (last_of c.loop-last.wiped.items c.pop.new.self.items c.in-Some.last _ c.in-Some.is c.pop.ensures.items) c.loop-last.invariant.can.empty)).1

pub unwipe-requires-clause-keys : goal.unwipe-requires-clause-keys
unwipe-requires-clause-keys c =
    (known_last c.loop-last.t.schema c.pop.new.self.items c.in-Some.last
    (subst (AreKnown c.loop-last.t.schema) (last_of c.loop-last.wiped.items c.pop.new.self.items c.in-Some.last _ c.in-Some.is c.pop.ensures.items) c.loop-last.invariant.can.known)).1.1

pub loop-last-preserved : goal.loop-last-preserved
loop-last-preserved c =
    let t = c.loop-last.t in
    let new = c.unwipe.new.self in
    let ws = c.pop.new.self.items in
    let w = c.in-Some.last in
    let split = last_of c.loop-last.wiped.items ws w _ c.in-Some.is c.pop.ensures.items in
    let can = c.loop-last.invariant.can in
    let e = c.unwipe.ensures in
    record {
      schema = e.schema ∙ c.loop-last.invariant.schema;
      rows = unwiped_rows t new c.loop-last.wiped.items ws w split can e.schema e.rows e.elsewhere e.room e.room_elsewhere ∙ c.loop-last.invariant.rows;
      room = λ cell is. unwiped_room t new c.loop-last.wiped.items ws w split can e.schema e.rows e.elsewhere e.room e.room_elsewhere cell (c.loop-last.invariant.room cell is);
      can = unwiped_can t new c.loop-last.wiped.items ws w split can e.schema e.rows e.elsewhere e.room e.room_elsewhere;
    }

pub returns-clause-room : goal.returns-clause-room
returns-clause-room c =
    let none : c.loop-last.wiped.items ≡ [] = grind (arith, common_steps) in
    subst (λ (ws : List Wiped). KeepsCells (room_unwiped c.args.t.now.room c.args.wiped.items) (room_unwiped c.loop-last.t.room ws)) none c.loop-last.invariant.room
