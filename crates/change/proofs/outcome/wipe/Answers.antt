use Rattle.std.proofs.Common.{rules, ◌+◌, ◌<◌, length, take, [], sym, subst, arith, get_or}
use Rattle.indexes.specs.Content.{Content, KeepsCells}
use Rattle.model.specs.Rows.{Schema}
use Rattle.change.specs.Inverse.{room_unwiped}
use Rattle.change.proofs.Wiping.{IsWiped, nothing_wiped, read_again, one_more_wiped, wipe_leaves}
use Rattle.model.specs.declared.change.Change.TheVariants.{Wipe}
use Rattle.change.proofs.Outcomes.{refused_leaves}
use Rattle.change.proofs.outcome.wipe.Goals as goal

pub loop-table-init : goal.loop-table-init
loop-table-init c = record {
  far = subst (IsWiped c.args.t.now c.args.t.now []) (sym c.in_ok-wiped.ensures.items) (nothing_wiped c.args.t.now);
  len = c.in_ok-wiped.ensures.len;
  room = c.in_ok-wiped.ensures.capacity;
}

pub returns-in-Err : goal.returns-in-Err
returns-in-Err c =
    refused_leaves c.args.t.now c.unwipe_all.new.t (Wipe c.args.tables.now) _ (search rules) (search rules)
    (λ cell is.
    c.unwipe_all.ensures.room cell
    (subst (λ (t : Content). KeepsCells c.args.t.now.room (room_unwiped t.room c.loop-table.wiped.items)) (sym c.in-Err.ensures.err) c.loop-table.invariant.far.room cell is))
    (search rules)

pub loop-table-preserved : goal.loop-table-preserved
loop-table-preserved c =
    let i = c.loop-table.table-index in
    let tables = c.args.tables.now in
    let below : i < length tables = omega arith in
    let e = c.in-Ok.ensures in
    record {
      far = subst (IsWiped c.args.t.now c.wipe.new.self (take (i + 1) tables)) (sym c.push_reserved.ensures.items)
          (one_more_wiped c.args.t.now c.loop-table.t c.wipe.new.self tables i c.loop-table.wiped.items (record { table = get_or tables i 0; contents = c.in-Ok.contents }) c.loop-table.invariant.far
          below (read_again tables i 0 _ below) (subst (λ (s : Schema). get_or tables i 0 < length s) (sym c.loop-table.invariant.far.schema) (c.requires.known i 0 below)) e.schema e.empty e.elsewhere e.room_elsewhere e.keys e.out e.room_out);
      len = omega (arith, c.push_reserved.ensures.len, c.loop-table.invariant.len);
      room = omega (arith, c.push_reserved.ensures.capacity, c.loop-table.invariant.room);
    }

pub returns : goal.returns
returns c =
    wipe_leaves c.args.t.now c.loop-table.t c.args.tables.now c.loop-table.table-index c.loop-table.wiped c.loop-table.invariant.far (omega arith) c.requires.sound
