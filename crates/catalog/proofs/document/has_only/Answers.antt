use Rattle.std.proofs.Common.{rules}
use Rattle.catalog.proofs.Members.{has_only-view}
use Rattle.catalog.proofs.document.has_only.Goals as goal

pub loop-key-init : goal.loop-key-init
loop-key-init c = search (rules, has_only-view)
