-- A store that is given up: one abort after another.
--     open_there      a transaction that is kept is open in the world
--     none_aborted, one_aborted      no abort yet, and one more
--     fewer_kept      an abort leaves fewer
--     none_left, all_aborted      what has no first entry is empty; with no transaction kept, all were aborted
use Rattle.std.proofs.Common.{◌≡◌, ℕ, zero, suc, ◌-◌, ◌<◌, Option, Some, None, true, false, refl, sym, ap, ◌∙◌, arith}
use Rattle.std.specs.Prelude.{cond, is_some, option_map}
use Rattle.std.specs.Ordering.{nat_cmp}
use Rattle.std.specs.Cmp.{nat_cmp_total}
use Rattle.std.specs.BTreeMap as tree
use Rattle.std.specs.BTreeMap.{btree_map_len}
use Rattle.std.specs.FinMap as finite
use Rattle.std.specs.FinMap.{get}
use Rattle.std.proofs.lemmas.Bool.{false≢true}
use Rattle.model.specs.Rows.{Schema}
use Rattle.model.specs.ValidLemmas.{not_none}
use Rattle.world.specs.World.{Opened, World}
use Rattle.world.specs.Steps.{aborted_with, aborts, at_start, by_step}
use Rattle.live_tables.specs.declared.live_tables.Live.{Live}
use Rattle.live_tables.specs.declared.transaction.OpenTransaction.{OpenTransaction}
use Rattle.live_tables.specs.Shut.{IsAborted, IsShut}
use Rattle.live_tables.specs.Represents.{Represents}

-- a transaction that is kept is open in the world
pub open_there : (w : World) (l : Live) → Represents w l → (xid : ℕ) (kept : OpenTransaction) → tree.get nat_cmp l.transactions xid ≡ Some kept
    → (o : Opened) × (get w.opened xid ≡ Some o)
open_there w l tied xid kept is = by (get w.opened xid) refl
  where
    by : (found : Option Opened) → get w.opened xid ≡ found → (o : Opened) × (get w.opened xid ≡ Some o)
    by None closed = absurd (not_none kept.record (sym (tied.kept.closed xid closed) ∙ ap (option_map (λ (k : OpenTransaction). k.record)) is))
    by (Some o) at = (o, at)

-- no transaction was aborted yet
pub none_aborted : (schema : Schema) (w : World) → IsAborted schema w w
none_aborted schema w = record { reached = at_start; start = refl; committed = refl; line = refl; stopped = refl }

-- one more was
pub one_aborted : (schema : Schema) (w v : World) → IsAborted schema w v → (xid : ℕ) (o : Opened) → get v.opened xid ≡ Some o
    → IsAborted schema w (aborted_with v xid)
one_aborted schema w v were xid o is = record {
  reached = by_step v (aborted_with v xid) were.reached (aborts xid o (aborted_with v xid) is refl);
  start = were.start;
  committed = were.committed;
  line = were.line;
  stopped = were.stopped;
}

one_fewer : (all fewer were kept : ℕ) → all ≡ were → fewer ≡ all - 1 → fewer ≡ kept → 0 < were → kept < were
one_fewer all fewer were kept same less now some = omega (arith, same, less, now, some)

-- fewer are kept then
pub fewer_kept : (w : World) (l n : Live) → Represents w l → (xid : ℕ) (o : Opened) → get w.opened xid ≡ Some o → Represents (aborted_with w xid) n
    → 0 < btree_map_len l.transactions → btree_map_len n.transactions < btree_map_len l.transactions
fewer_kept w l n tied xid o is later some =
    one_fewer (finite.len w.opened) (finite.len (finite.remove w.opened xid)) (btree_map_len l.transactions) (btree_map_len n.transactions) tied.count
    (finite.len-remove nat_cmp_total w.opened xid ∙ ap (λ b. cond b (finite.len w.opened - 1) (finite.len w.opened)) (ap is_some is))
    later.count some

-- what has no first entry is empty
pub none_left : (n : ℕ) → (0 < n → false ≡ true) → n ≡ 0
none_left zero never = refl
none_left (suc n) never = absurd (false≢true (never (omega arith)))

-- with no transaction kept, all were aborted
pub all_aborted : (schema : Schema) (w v : World) → IsAborted schema w v → (l : Live) → Represents v l → btree_map_len l.transactions ≡ 0 → IsShut schema w v
all_aborted schema w v were l tied none = record { aborted = were; none = finite.empty_of_len v.opened (tied.count ∙ none) }
