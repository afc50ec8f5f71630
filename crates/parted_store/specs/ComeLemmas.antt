-- What follows as an open transaction comes to a table.
--     comes_to      its open in the part leaves every world that has the part
--     opened_there      its share tells what it has done there
--     shares_with      its ticket has a share more
--     no_shares      the ticket of one that opens has none, and needs none
use Rattle.std.specs.Prelude.{◌≡◌, ◌≢◌, ℕ, List, [], Some, None, Result, Ok, Err, refl}
use Rattle.std.proofs.Common.{sym, ◌∙◌, ap, subst, inl, inr}
use Rattle.std.proofs.lemmas.Option.{same_Some}
use Rattle.std.specs.FinMap.{get}
use Rattle.world.specs.World.{Opened, World}
use Rattle.world.specs.Steps.{Fault, AlreadyOpen, TooManyOpen, Stopped, OutOfMemory, Opens, opened_with}
use Rattle.world.specs.ListingLemmas.{xid_cases, got_same}
use Rattle.engine.specs.declared.events.Event.{Event}
use Rattle.engine.specs.Events.{opened_by}
use Rattle.world_parts.specs.Lines.{HasLine, KeepsLine}
use Rattle.world_parts.specs.LineLemmas.{line_stays, opens_keeps}
use Rattle.world_parts.specs.Marks.{HasPart}
use Rattle.world_parts.specs.ToldLemmas.{opens_here}
use Rattle.table_parts.specs.Part.{Part}
use Rattle.parted_store.specs.Lent.{HasTable, IsShare}
use Rattle.parted_store.specs.Shares.{Share, Shares, share_of}

module _ (w : World) (p q : Part) (has : HasTable w p) (number : q.number ≡ p.number) where
  -- where the part's world is this one, which is one of the table's, with the same line
  still_there : (v : World) → HasPart p.number w v → q.store.world ≡ v → KeepsLine p.store.world q.store.world → HasTable w q
  still_there v is same keeps = record {
    is = subst (λ (n : ℕ). HasPart n w q.store.world) (sym number) (subst (HasPart p.number w) (sym same) is);
    line =
        subst (λ (n : ℕ). HasLine n w q.store.world) (sym number)
        (line_stays p.number w w p.store.world q.store.world (record { start = refl; line = refl }) keeps has.line);
  }

  pub comes_to : (xid : ℕ) (answer : Result (Unit {0}) Fault) → Opens p.store.world xid answer q.store.world → HasTable w q
  comes_to xid answer came = by answer came (opens_keeps p.store.world q.store.world xid answer came)
    where
      by : (told : Result (Unit {0}) Fault) → Opens p.store.world xid told q.store.world → KeepsLine p.store.world q.store.world → HasTable w q
      by (Ok u) opens = still_there (opened_with p.store.world xid) (opens_here p.number w p.store.world has.is xid opens.1) opens.3
      by (Err AlreadyOpen) opens = still_there p.store.world has.is opens.2
      by (Err TooManyOpen) opens = still_there p.store.world has.is opens.3
      by (Err Stopped) opens = still_there p.store.world has.is opens.1
      by (Err OutOfMemory) opens = still_there p.store.world has.is opens.3

-- its share tells what it has done there: nothing
pub opened_there : (w new : World) (xid : ℕ) → Opens w xid (Ok tt) new → (mine : Share) → mine.number ≡ xid → mine.list ≡ []
    → (share : Share) → Some mine ≡ Some share → get new.opened share.number ≡ Some (opened_by share.list)
opened_there w new xid opens mine number list share same =
    subst (λ (s : Share). get new.opened s.number ≡ Some (opened_by s.list)) (same_Some mine share same)
    (subst (λ (n : ℕ). get new.opened n ≡ Some (opened_by mine.list)) (sym number)
    (subst (λ (v : World). get v.opened xid ≡ Some (opened_by mine.list)) (sym opens.3)
    (got_same w.opened xid (record { items = []; wants = None }) ∙ ap (λ (events : List Event). Some (opened_by events)) (sym list))))

-- its ticket has a share more
pub shares_with : (xid : ℕ) (o : Opened) (table : ℕ) (shares new : Shares) → ((other : ℕ) → IsShare xid o other (share_of shares other))
    → (share : Share) → share_of new table ≡ Some share → share.number ≡ xid
    → ((other : ℕ) → other ≢ table → share_of new other ≡ share_of shares other)
    → (other : ℕ) → IsShare xid o other (share_of new other)
shares_with xid o table shares new each share there number others other =
    elim (xid_cases other table) [
      | inl here ↦ subst (IsShare xid o other) (sym (ap (share_of new) here ∙ there)) number
      | inr apart ↦ subst (IsShare xid o other) (sym (others other apart)) (each other)
    ]

-- the ticket of a transaction that opens has none, and needs none
pub no_shares : (xid table : ℕ) → IsShare xid (record { items = []; wants = None }) table (share_of [] table)
no_shares xid table = (refl, refl)
