use Rattle.std.proofs.Common.{◌≡◌, List, ap}
use Rattle.indexes.specs.Content.{Content}
use Rattle.world.specs.World.{starting}
use Rattle.engine.specs.declared.store.Store.TheInside.{Inside}
use Rattle.engine.specs.Engine.{told_start, world_in, Represents}
use Rattle.engine.specs.StoreLemmas.{store_started}
use Rattle.engine.proofs.store.Store.new.Goals as goal

module _ (c : goal.After-new-2) where
  -- the new store's parts
  abbrev parts : Inside
  parts = record { live = c.new.result; start = c.in-Ok.told; journal = c.new-2.result; book = c.in-Ok-new_tokens.book; line = c.in-Ok-new_tokens.line }

  started : (world_in parts ≡ starting c.args.start.rows) × Represents parts
  started =
      store_started parts c.args.start.rows c.new.ensures.tied (ap (λ (ts : List Content). (told_start ts).rows) c.in-Ok.ensures)
      c.in-Ok-new_tokens.ensures.line.1 c.in-Ok-new_tokens.ensures.book c.new-2.ensures.items c.new-2.ensures.len

pub invariant_of-store : goal.invariant_of-store
invariant_of-store c = (started c).1

pub returns-clause-world : goal.returns-clause-world
returns-clause-world c = (started c).0
