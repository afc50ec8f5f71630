use Rattle.messages.proofs.Payloads.{one_fault-law, spelled-or-stands}
use Rattle.messages.proofs.laws.one_fault.Goals as goal

pub returns-clause-one : goal.returns-clause-one
returns-clause-one c = one_fault-law

pub returns-clause-none : goal.returns-clause-none
returns-clause-none c = spelled-or-stands
