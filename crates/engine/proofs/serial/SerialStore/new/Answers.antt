use Rattle.std.proofs.Common.{◌≡◌, [], List, refl, sym, ap, subst, ◌∙◌}
use Rattle.std.specs.Prelude.{map}
use Rattle.model.specs.Effect.{all_back}
use Rattle.change.specs.declared.inverse.Inverse.{Inverse}
use Rattle.change.specs.Inverse.{edits_of}
use Rattle.indexes.specs.Content.{Content}
use Rattle.world.specs.World.{starting}
use Rattle.engine.specs.declared.store.Store.TheInside.{Inside}
use Rattle.engine.specs.Engine.{told_start, world_in, Represents}
use Rattle.engine.specs.OpenWork.{base_of}
use Rattle.engine.specs.SerialLemmas.{idle_with, with_tables}
use Rattle.engine.specs.StoreLemmas.{store_started}
use Rattle.live_tables.specs.declared.live_tables.Live.{Live}
use Rattle.live_tables.specs.Answers.{told_stop}
use Rattle.live_tables.specs.Represents.{Represents as LiveRepresents}
use Rattle.engine.proofs.SerialSteps.{serially_idle}
use Rattle.engine.proofs.serial.SerialStore.new.Goals as goal

module _ (c : goal.After-new-3) where
  -- the new store's parts, and without open work
  abbrev parts : Inside
  parts = record { live = c.new-2.result.live; start = c.in-Ok.told; journal = c.new-3.result; book = c.in-Ok-new_tokens.book; line = c.in-Ok-new_tokens.line }

  told : told_start c.in-Ok.told.list ≡ c.args.start
  told = ap told_start c.in-Ok.ensures

  started : (world_in parts ≡ starting c.args.start.rows) × Represents parts
  started =
      store_started parts c.args.start.rows (subst (LiveRepresents (starting c.args.start.rows)) (sym c.new-2.ensures.live) c.new.ensures.tied) (ap (λ (t : Content). t.rows) told)
      c.in-Ok-new_tokens.ensures.line.1 c.in-Ok-new_tokens.ensures.book c.new-3.ensures.items c.new-3.ensures.len

  abbrev tables : Content
  tables = record { schema = c.new-2.result.live.tables.schema; rows = base_of c.new-2.result; room = [] }

  idle : (world_in (with_tables parts tables) ≡ world_in parts) × Represents (with_tables parts tables)
  idle =
      idle_with parts started.1 c.in-Ok-new_tokens.ensures.book tables refl
      (ap (λ (is : List Inverse). all_back c.new-2.result.live.tables.rows (map edits_of is)) c.new-2.ensures.undone)

pub invariant_of-result : goal.invariant_of-result
invariant_of-result c =
    serially_idle _ (idle c).1 c.in-Ok-new_tokens.ensures.book (ap (λ (l : Live). told_stop l.stopped) c.new-2.ensures.live ∙ c.new.ensures.tied.stopped)
    (sym c.in-Ok-new_tokens.ensures.line.0) c.new-2.ensures.undone c.new-2.ensures.none

pub returns-clause-world : goal.returns-clause-world
returns-clause-world c = (idle c).0 ∙ (started c).0
