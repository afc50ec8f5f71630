use Rattle.std.proofs.Common.{◌≡◌, ◌<◌, List, length, get_or, ap, subst, ◌∙◌, arith}
use Rattle.model.specs.declared.change.Change.{Change}
use Rattle.model.specs.Rows.{Schema}
use Rattle.model.specs.Effect.{effect, serial}
use Rattle.world.specs.World.{Entry}
use Rattle.mirror_json.proofs.Appending.{more_lines}
use Rattle.mirror_json.proofs.Following.{change_made}
use Rattle.mirror_json.proofs.json_lines.follow.Goals as goal

pub loop-change-preserved : goal.loop-change-preserved
loop-change-preserved c =
    let before = c.loop-change.invariant in
    let schema = c.args.tables.now.schema in
    let at = c.loop-change.tables.rows in
    let change = c.change-item.result in
    let done = c.in_ok-follow_change.ensures in
    let changes : c.deref-change-items.result.now ≡ c.args.commit.now.changes = c.deref-change-items.ensures.value ∙ ap (λ (e : Entry). e.changes) c.commit.view_is in
    let below : c.loop-change.change-index < length c.deref-change-items.result.now = omega (arith, c.loop-change-test.true, c.loop-change.auto) in
    record {
      schema = done.schema ∙ before.schema;
      rows = change_made schema at c.follow_change.new.tables.rows (serial schema c.args.tables.now.rows c.args.commit.now.changes) c.args.commit.now.changes c.loop-change.change-index change
          (subst (λ (cs : List Change). c.loop-change.change-index < length cs) changes below) (subst (λ (cs : List Change). change ≡ get_or cs c.loop-change.change-index change) changes c.change-item.is) (done.rows ∙ ap (λ (s : Schema). effect s at change) before.schema) before.rows;
      lines = more_lines c.args.lines.now.items c.loop-change.lines.items c.follow_change.new.lines.items before.lines done.lines;
      base = done.base ∙ before.base;
      can = done.can;
    }
