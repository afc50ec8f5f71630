use Rattle.std.proofs.Common.{◌≡◌, ◌<◌, List, length, map, slice_index_or, sym, ap, subst, ◌∙◌, arith}
use Rattle.std.proofs.Math.Logic.{∥∥₁_map}
use Rattle.model.specs.Beginning.{Begins}
use Rattle.world.specs.World.{entry_of}
use Rattle.engine.specs.declared.entry.Entry.{Entry}
use Rattle.engine.specs.Engine.{entry_in}
use Rattle.snapshot.specs.Reads.{commits_seen}
use Rattle.mirror_run.proofs.Keys.{keys_behind}
use Rattle.mirror_run.proofs.OneItem.{first_of_one}
use Rattle.mirror_run.proofs.round.run_round.Goals as goal

-- the one that watched knows a reader that has seen a part of the run
pub finish-requires : goal.finish-requires
finish-requires g c =
    let writer = c.in-Some.writer in
    let watched = c.run_on-outcome.result.1.items in
    let one : length watched ≡ 1 = c.run_on-outcome.ensures.count ∙ ap length c.in_ok-watchers.ensures in
    let below : 0 < length watched = omega (arith, one) in
    let known = c.run_on-outcome.ensures.knows 0 writer below in
    let is : slice_index_or watched 0 writer ≡ writer = first_of_one watched c.pop.new.self.items writer c.in-Some.ensures.items one writer in
    ∥∥₁_map (rw is at known) (λ k. (
      k.0,
      k.1,
      subst (λ (entries : List Entry). Begins (map entry_of (commits_seen k.0)) (map entry_in entries)) (sym c.as_slice.ensures.value) k.2.commits,
    ))

pub returns-clause-run : goal.returns-clause-run
returns-clause-run g c =
    ∣ record { workers = _; watchers = _; config = _; old = _; new = _; runs = c.run_on-outcome.ensures.run } ∣₁

pub returns-clause-keys : goal.returns-clause-keys
returns-clause-keys g c = keys_behind _ _ _ _ _ _ _ _ c.run_on-outcome.ensures.run
