-- The names that the parts of the workers have.
use Rattle.std.specs.Prelude.{map, slice_index_or}
use Rattle.tokens.specs.Half.{no_name}
use Rattle.dispatch.specs.Parts.{ring_of, outbox_of}
use Rattle.leader.proofs.threads.run_store.Given as goal

abbrev pub ghosts-run_workers-L-RingNames : goal.ghosts-run_workers-L-RingNames
ghosts-run_workers-L-RingNames g a = record { ring = λ i. slice_index_or (map ring_of a.parts.items) i no_name }

abbrev pub ghosts-run_workers-L-OutboxNames : goal.ghosts-run_workers-L-OutboxNames
ghosts-run_workers-L-OutboxNames g a = record { outbox = λ i. slice_index_or (map outbox_of a.parts.items) i no_name }

abbrev pub ghosts-run_workers-L-RunNames : goal.ghosts-run_workers-L-RunNames
ghosts-run_workers-L-RunNames g a = record { origin = a.audience.origin; skip = a.audience.loader.skip }
