use Rattle.std.proofs.Common.{refl, inl}
use Rattle.pgapply_command.proofs.execute.tell.Goals as goal

pub returns-in-Ok : goal.returns-in-Ok
returns-in-Ok c = inl (record { report = c.in-Ok.ensures.ok; said = (c.status_of.ensures, refl) })
