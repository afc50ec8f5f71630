use Rattle.std.proofs.Common.{map, sym, ◌∙◌}
use Rattle.std.proofs.Math.Logic.{∥∥₁_map}
use Rattle.std.proofs.lemmas.List.{length-map}
use Rattle.world.specs.World.{entry_of}
use Rattle.snapshot.specs.Reads.{commits_seen}
use Rattle.mirror_writer.proofs.commit_writer.CommitWriter.finish.Goals as goal

pub returns-in-Ok : goal.returns-in-Ok
returns-in-Ok g c goes =
    ∥∥₁_map c.requires (λ seen.
    let front = commits_seen seen.0 in
    let kept = seen.1 (sym c.write_rest.ensures.stop ∙ goes) in
    c.in-Ok.ensures.kept (map entry_of front) seen.2 (kept.1 ∙ sym (length-map front entry_of)) kept.0)
