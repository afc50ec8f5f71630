use Rattle.std.proofs.Common.{◌≡◌, ◌++◌, List, flat_map, sym, ap, ◌∙◌}
use Rattle.std.proofs.lemmas.Grind.{flat_map-append}
use Rattle.model.specs.declared.change.Change.{Change}
use Rattle.model.specs.Rows.{Rows, Schema}
use Rattle.model.specs.Effect.{serial}
use Rattle.model.specs.EffectLemmas.{serial_append}
use Rattle.world.specs.World.{Entry}
use Rattle.mirror_writer.proofs.line_keep.LineKeepKeep.keep.Goals as goal

pub returns : goal.returns
returns g c before made =
    let changes = λ (e : Entry). e.changes in
    let commits = c.args.commits.now in
    let schema = c.args.self.now.lines.schema in
    let first = made.0 in (
      first,
      c.in_ok-push_commits.ensures.rows
          ∙ ap (λ (rows : Rows). serial schema rows (flat_map changes commits)) made.1
          ∙ sym (serial_append schema first (flat_map changes before) (flat_map changes commits))
          ∙ ap (serial schema first) (sym (flat_map-append changes before commits))
          ∙ ap (λ (s : Schema). serial s first (flat_map changes (before ++ commits))) (sym c.push_commits.ensures.schema),
    )
