use Rattle.std.proofs.Common.{◌≡◌, refl, sym, ap, ◌∙◌, None, Some}
use Rattle.std.specs.Ordering.{nat_cmp}
use Rattle.std.specs.FinMap as finite
use Rattle.world.specs.World.{World, journal}
use Rattle.run.specs.Settings.{setting_of}
use Rattle.run.proofs.applier.Applier.new.Goals as goal

pub returns-clause-at : goal.returns-clause-at
returns-clause-at c = record {
  workers = refl;
  catalog = refl;
  session = c.new.ensures (setting_of 0 c.args.config.now c.args.catalog.now) refl refl refl;
  served = λ xid o there. let none : None ≡ Some o = sym (finite.get-empty nat_cmp xid) ∙ there in absurd cc;
  commits = record {
    schema = c.in_ok-new.ensures.schema ∙ c.requires;
    base = ap (λ (w : World). w.committed) c.in_ok-new.ensures.world;
    journal = ap journal c.in_ok-new.ensures.world;
    position = refl;
  };
  reached = refl;
  begun = c.in_ok-new.ensures.none;
  clear = tt;
  seen = refl;
}
