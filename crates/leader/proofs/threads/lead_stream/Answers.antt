use Rattle.std.proofs.Common.{[], refl, ap, subst}
use Rattle.run.specs.Progress.{start_progress}
use Rattle.run.specs.Handler.{IsRunOver, end_of_result}
use Rattle.leader.specs.declared.lead.Lead.{Lead}
use Rattle.leader.specs.Threads.{led, Represents, HasLedTo}
use Rattle.leader.proofs.Leaving.{over_led, nothing_read}
use Rattle.leader.proofs.threads.lead_stream.Goals as goal

pub returns-then-not-has_all-clause-over : goal.returns-then-not-has_all-clause-over
returns-then-not-has_all-clause-over g c = λ s rows at.
    nothing_read s rows c.args.devices.now (led c.args.lead.now.stream c.args.lead.now.transactions) at

pub read_all-requires : goal.read_all-requires
read_all-requires g c = (c.requires.0, c.requires.1, [], start_progress, refl, c.requires.2)

pub returns-in-Ok-clause-over : goal.returns-in-Ok-clause-over
returns-in-Ok-clause-over g c = λ s rows at.
    let of = λ (l : Lead g.row.N.Denot g.row.L.Denot g.row.R.Denot g.row.G.Denot). led l.stream l.transactions in
    subst (IsRunOver s (Represents s rows) (HasLedTo s rows) c.args.devices.now c.read_all.new.devices (of c.read_all.new.handler)) (ap end_of_result c.in-Ok.is)
    (over_led of s rows c.args.devices.now c.read_all.new.devices c.read_all.new.handler (end_of_result c.read_all.result) (c.read_all.ensures s rows at))

pub returns-in-Err-clause-over : goal.returns-in-Err-clause-over
returns-in-Err-clause-over g c = λ s rows at.
    let of = λ (l : Lead g.row.N.Denot g.row.L.Denot g.row.R.Denot g.row.G.Denot). led l.stream l.transactions in
    subst (IsRunOver s (Represents s rows) (HasLedTo s rows) c.args.devices.now c.read_all.new.devices (of c.read_all.new.handler)) (ap end_of_result c.in-Err.is)
    (over_led of s rows c.args.devices.now c.read_all.new.devices c.read_all.new.handler (end_of_result c.read_all.result) (c.read_all.ensures s rows at))
