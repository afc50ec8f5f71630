-- What a fault of a lower layer is as a refusal: memory that was refused has one name in all layers.
use Rattle.messages.specs.declared.fault.MsgFault.{MsgFault}
use Rattle.messages.specs.declared.fault.MsgFault.TheVariants.{OutOfMemory as NoMemoryToRead}
use Rattle.relcache.specs.declared.fault.RelFault.{RelFault}
use Rattle.relcache.specs.declared.fault.RelFault.TheVariants.{OutOfMemory as NoMemoryToPlan}
use Rattle.session.specs.declared.fault.Refused.{Refused}
use Rattle.session.specs.declared.fault.Refused.TheVariants.{Msg, Rel, OutOfMemory}

-- of a payload that is no message
abbrev pub of_message : MsgFault → Refused
of_message NoMemoryToRead = OutOfMemory
of_message fault = Msg fault

-- of a message that does not fit its relation, or of a relation that fits no table
abbrev pub of_relation : RelFault → Refused
of_relation NoMemoryToPlan = OutOfMemory
of_relation fault = Rel fault
