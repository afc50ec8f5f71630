use Rattle.live_tables.specs.JournalLemmas.{entries_are_serial}
use Rattle.live_tables.proofs.read_laws.entries_are_serial.Goals as goal

pub returns : goal.returns
returns c = entries_are_serial
