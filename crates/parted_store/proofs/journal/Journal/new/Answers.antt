use Rattle.parted_store.specs.KeptLemmas.{keeps_new}
use Rattle.std.proofs.Common.{refl}
use Rattle.parted_store.proofs.journal.Journal.new.Goals as goal

pub invariant_of-journal : goal.invariant_of-journal
invariant_of-journal c =
    keeps_new (record { line = c.in_ok-line.line; entries = c.new.result; open_ones = c.new-2.result; stopped = _ })
    c.new.ensures.items c.new.ensures.len c.new-2.ensures.empty c.in_ok-line.ensures.empty refl
