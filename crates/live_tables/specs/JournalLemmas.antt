-- The laws of the rows after entries of a journal.
use Rattle.std.proofs.Common.{[], ◌∷◌, refl, sym, ◌∙◌}
use Rattle.model.specs.Effect.{serial}
use Rattle.model.specs.EffectLemmas.{serial_append}
use Rattle.world.specs.World.{work_behind, changes_in}
use Rattle.live_tables.specs.ReadStatements.{EntriesAreSerial}

pub entries_are_serial : EntriesAreSerial
entries_are_serial schema rows [] = refl
entries_are_serial schema rows (p ∷ line) =
    entries_are_serial schema (serial schema rows (work_behind p)) line ∙ sym (serial_append schema rows (work_behind p) (changes_in line))
