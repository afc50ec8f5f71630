use Rattle.std.proofs.Common.{sym, ap, ◌∙◌}
use Rattle.std.specs.Prelude.{map}
use Rattle.session.specs.Sized.{item_of}
use Rattle.session.proofs.Spools.{map_items-zip}
use Rattle.session.proofs.spool.Spool.into_items.Goals as goal

pub returns : goal.returns
returns c = sym (map_items-zip c.self.inside.items.items c.self.inside.sizes.items c.self.invariant.paired) ∙ ap (map item_of) c.self.view_is
