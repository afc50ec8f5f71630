use Rattle.std.proofs.Common.{[], ◌∙◌, ap, arith}
use Rattle.model.specs.Rows.{Schema}
use Rattle.model.specs.Effect.{serial}
use Rattle.mirror_json.proofs.Appending.{more_lines}
use Rattle.mirror_json.proofs.Following.{changes_of, commit_made}
use Rattle.mirror_json.proofs.json_lines.append_all.Goals as goal

pub loop-commit-preserved : goal.loop-commit-preserved
loop-commit-preserved c =
    let before = c.loop-commit.invariant in
    let schema = c.args.tables.now.schema in
    let at = c.loop-commit.tables.rows in
    let commit = c.commit-item.result in
    let done = c.in_ok-follow.ensures in
    record {
      schema = done.schema ∙ before.schema;
      rows = commit_made schema at c.follow.new.tables.rows (serial schema c.args.tables.now.rows (changes_of c.args.commits.now)) c.args.commits.now c.loop-commit.commit-index commit
          (omega (arith, c.loop-commit-test.true, c.loop-commit.auto)) c.commit-item.is (done.rows ∙ ap (λ (s : Schema). serial s at commit.changes) before.schema) before.rows;
      lines = more_lines [] c.loop-commit.lines.items c.follow.new.lines.items before.lines done.lines;
      base = done.base ∙ before.base;
      can = done.can;
    }
