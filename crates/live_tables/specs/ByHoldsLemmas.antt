-- A store that represents its world, and one that does so by some holds.
--     by_holds, from_holds      by its own, once they are made
--     by_would, from_would      by those that there would be, where a transaction is alone
--     by_some      by some holds, whichever of the two it is
--     never_absent, open_can, open_tells      what is kept of an open transaction, whichever it is
--     holds_none      nothing is held where no transaction is open
use Rattle.std.proofs.Common.{◌≡◌, ℕ, true, false, [], Some, None, sym, subst, inl, inr, ◌∙◌, true≢false}
use Rattle.std.specs.Prelude.{All, length}
use Rattle.std.specs.Ordering.{nat_cmp}
use Rattle.std.specs.BTreeMap as tree
use Rattle.std.specs.FinMap.{get}
use Rattle.std.proofs.lemmas.Bool.{cases_Bool}
use Rattle.model.specs.Named.{NamesTables}
use Rattle.model.specs.Survivors.{changes_of}
use Rattle.keyholds.specs.Holds.{holds_of}
use Rattle.undo.specs.Undo.{CanUndo}
use Rattle.savepoint.specs.Record.{Record}
use Rattle.world.specs.World.{Opened, World}
use Rattle.live_tables.specs.declared.live_tables.Live.{Live}
use Rattle.live_tables.specs.declared.transaction.OpenTransaction.{OpenTransaction}
use Rattle.live_tables.specs.KeptRecords.{IsRecordOf}
use Rattle.live_tables.specs.BeforeImages.{LiveHolds}
use Rattle.live_tables.specs.BeforeImageCallLemmas.{no_holds}
use Rattle.live_tables.specs.Represents.{records_in, AreHeld, Represents}
use Rattle.live_tables.specs.ByHolds.{RepresentsByHolds}
use Rattle.live_tables.specs.BasicLemmas.{never_missing, its_tells, its_can}

-- with holds that are those of the world
with_holds_of : (w : World) (l : Live) → Represents w l → (held : LiveHolds) → AreHeld w l held → RepresentsByHolds w (record l { holds = held })
with_holds_of w l tied held are = record {
  kept = tied.kept;
  holds = are.holds;
  marks = are.marks;
  beside = tied.beside;
  count = tied.count;
  stopped = tied.stopped;
  caused = tied.caused;
  before_image = are.before_image;
}

pub by_holds : (w : World) (l : Live) → Represents w l → l.made ≡ true → RepresentsByHolds w l
by_holds w l tied made = record {
  kept = tied.kept;
  holds = (tied.made made).holds;
  marks = (tied.made made).marks;
  beside = tied.beside;
  count = tied.count;
  stopped = tied.stopped;
  caused = tied.caused;
  before_image = (tied.made made).before_image;
}

pub from_holds : (w : World) (l : Live) → RepresentsByHolds w l → l.made ≡ true → Represents w l
from_holds w l tied made = record {
  kept = tied.kept;
  beside = tied.beside;
  count = tied.count;
  stopped = tied.stopped;
  caused = tied.caused;
  made = λ is. record { holds = tied.holds; marks = tied.marks; before_image = tied.before_image };
  lone = λ is. absurd (true≢false (sym made ∙ is));
}

pub by_would : (w : World) (l : Live) (tied : Represents w l) (alone : l.made ≡ false) → RepresentsByHolds w (record l { holds = (tied.lone alone).would })
by_would w l tied alone = with_holds_of w l tied (tied.lone alone).would (tied.lone alone).held

pub from_would : (w : World) (l : Live) (would : LiveHolds) → RepresentsByHolds w (record l { holds = would }) → l.made ≡ false
    → ((xid other : ℕ) (o p : Opened) → get w.opened xid ≡ Some o → get w.opened other ≡ Some p → other ≡ xid)
    → ((xid : ℕ) (r : Record) → records_in l.transactions xid ≡ Some r → r.marks ≡ [])
    → ((xid : ℕ) (r : Record) → records_in l.transactions xid ≡ Some r → All (NamesTables (length l.tables.schema)) (changes_of r.survivors))
    → ((xid : ℕ) → holds_of l.holds xid ≡ []) → Represents w l
from_would w l would tied alone only unmarked named none = record {
  kept = tied.kept;
  beside = tied.beside;
  count = tied.count;
  stopped = tied.stopped;
  caused = tied.caused;
  made = λ is. absurd (true≢false (sym is ∙ alone));
  lone = λ is. record {
    would = would;
    held = record { holds = tied.holds; marks = tied.marks; before_image = tied.before_image };
    only = only;
    unmarked = unmarked;
    named = named;
    none = none;
  };
}

pub by_some : (w : World) (l : Live) → Represents w l → (held : LiveHolds) × RepresentsByHolds w (record l { holds = held })
by_some w l tied =
    elim (cases_Bool l.made) [
      | inl made ↦ (l.holds, with_holds_of w l tied l.holds (tied.made made))
      | inr alone ↦ ((tied.lone alone).would, by_would w l tied alone)
    ]

-- whether holds are made is nothing to a store that represents its world by them
pub as_made : (w : World) (l n : Live) → RepresentsByHolds w l → n ≡ record l { made = n.made } → RepresentsByHolds w n
as_made w l n tied same =
    subst (RepresentsByHolds w) (sym same)
    (record {
      kept = tied.kept;
      holds = tied.holds;
      marks = tied.marks;
      beside = tied.beside;
      count = tied.count;
      stopped = tied.stopped;
      caused = tied.caused;
      before_image = tied.before_image;
    })

-- where no transaction is open
pub holds_none : (w : World) (l : Live) → Represents w l → ((xid : ℕ) → get w.opened xid ≡ None) → (xid : ℕ) → holds_of l.holds xid ≡ []
holds_none w l tied closed xid =
    elim (cases_Bool l.made) [
      | inl made ↦ no_holds (holds_of l.holds xid) ((tied.made made).holds.none xid (closed xid))
      | inr alone ↦ (tied.lone alone).none xid
    ]

-- ---- what is kept of an open transaction

pub never_absent : (l : Live) (xid : ℕ) → ((w : World) × (o : Opened) × Represents w l × (get w.opened xid ≡ Some o)) → None ≡ tree.get nat_cmp l.transactions xid → ⊥
never_absent l xid (w, o, tied, is) none = let some = by_some w l tied in never_missing (record l { holds = some.0 }) xid (w, o, some.1, is) none

module _ (w : World) (l : Live) (tied : Represents w l) (xid : ℕ) (o : Opened) (is : get w.opened xid ≡ Some o) (old : OpenTransaction)
    (was : tree.get nat_cmp l.transactions xid ≡ Some old) where
  some : (held : LiveHolds) × RepresentsByHolds w (record l { holds = held })
  some = by_some w l tied

  -- its record tells what it has done
  pub open_tells : IsRecordOf l.tables.schema w xid o old.record
  open_tells = its_tells w (record l { holds = some.0 }) some.1 xid o is old was

  -- and it can be undone
  pub open_can : CanUndo l.tables old.record.log.inverses
  open_can = its_can w (record l { holds = some.0 }) some.1 xid o is old was
