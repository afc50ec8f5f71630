use Rattle.std.proofs.Common.{◌≡◌, refl, sym, ap, ◌∙◌, None, Some}
use Rattle.std.specs.Ordering.{nat_cmp}
use Rattle.std.specs.FinMap as finite
use Rattle.engine.specs.Events.{commits_in}
use Rattle.run.specs.Settings.{setting_of}
use Rattle.leader.specs.Threads.{numbers_in}
use Rattle.leader.proofs.Agreeing.{start_agreed}
use Rattle.leader.proofs.lead.Lead.new.Goals as goal

pub returns : goal.returns
returns g c = λ rows. record {
  catalog = refl;
  tables = c.requires.tables;
  session = c.new.ensures (setting_of c.args.workers c.args.config c.args.catalog.now) refl refl refl;
  named = λ xid o there. let none : None ≡ Some o = sym (finite.get-empty nat_cmp xid) ∙ there in absurd cc;
  agreed = start_agreed c.args.transactions c.requires.line c.requires.free c.requires.begun;
  committed = record { commits = ap numbers_in c.requires.line; done = ap commits_in c.requires.line; position = refl };
  reached = refl;
  seen = refl;
  places = c.requires.workers;
}
