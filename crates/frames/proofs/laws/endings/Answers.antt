use Rattle.frames.proofs.Endings.{reading-waiting, fault_of_frame}
use Rattle.frames.proofs.laws.endings.Goals as goal

pub returns-clause-waits : goal.returns-clause-waits
returns-clause-waits c = reading-waiting

pub returns-clause-refused : goal.returns-clause-refused
returns-clause-refused c = fault_of_frame
