use Rattle.mirror_devices.proofs.Updates.{updates_are_found}
use Rattle.mirror_devices.proofs.laws.updates_are_found.Goals as goal

pub returns : goal.returns
returns c = updates_are_found
