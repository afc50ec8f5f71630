-- The end that a fault of each layer makes.
use Rattle.frames.specs.declared.fault.FrameFault.{FrameFault}
use Rattle.frames.specs.declared.fault.FrameFault.TheVariants as frames
use Rattle.session.specs.declared.fault.Refused.{Refused}
use Rattle.session.specs.declared.fault.Refused.TheVariants as refusals
use Rattle.change.specs.declared.outcome.Clash.{Clash}
use Rattle.change.specs.declared.outcome.Clash.TheVariants as clashes
use Rattle.run.specs.declared.end.End.{End}
use Rattle.run.specs.declared.end.End.TheVariants.{Frame, Msg, Session, Rel, Unique, NullKey, OutOfMemory}

-- the end that a frame fault makes; memory that was refused has one end in all layers
abbrev pub end_of_frame : FrameFault → End
end_of_frame frames.OutOfMemory = OutOfMemory
end_of_frame fault = Frame fault

-- the end that a refused payload makes
abbrev pub end_of_refusal : Refused → End
end_of_refusal (refusals.Msg fault) = Msg fault
end_of_refusal (refusals.Session fault) = Session fault
end_of_refusal (refusals.Rel fault) = Rel fault
end_of_refusal refusals.OutOfMemory = OutOfMemory

-- the end that a change makes that clashes
abbrev pub end_of_clash : Clash → End
end_of_clash (clashes.Unique table key) = Unique table key
end_of_clash (clashes.NullKey table) = NullKey table
end_of_clash clashes.OutOfMemory = OutOfMemory
