use Rattle.std.proofs.Common.{◌≡◌, ℕ, true, List, length, sym, subst}
use Rattle.std.specs.Prelude.{All}
use Rattle.std.specs.List.{Contains, IsDistinct}
use Rattle.world.specs.World.{is_xid}
use Rattle.engine.specs.Events.{is_open_in}
use Rattle.parted_store.specs.Journal.{JournalPart}
use Rattle.parted_store.specs.OpenLemmas.{counted_all}
use Rattle.parted_store.proofs.journal.Journal.recall_open.Goals as goal

pub returns : goal.returns
returns c =
    subst (λ (j : JournalPart). (xids : List ℕ) → IsDistinct is_xid xids → All (λ xid. is_open_in j.line.list xid ≡ true) xids → length xids ≡ j.open_count
    → (xid : ℕ) → is_open_in j.line.list xid ≡ true → Contains xids xid) c.self.view_is
    (counted_all (is_open_in c.self.inside.line.list) c.self.inside.open_ones.keys (λ xid. sym (c.self.invariant.opened xid)))
