-- A truncate of several tables, which is tried in the part of each.
--     CutsHere, HasEach      lent are the parts of its tables; the world has each of them
--     Both      both shares are there, and this holds of them
--     EachIs      each of the parts that are lent is in such a state, and no share of another table changed
--     Zones      the first parts are in one state, the others in another
--     Untouched, Attempts, Stands, Keeps, Waits      the states: nothing was tried; it was attempted, with what tells that; the
--         transaction has done there what it had, and waits with what it waited with; it is done; the transaction waits with it
--     cut_of      what the truncate is in a part
--     CanWait, CanWaitEach      the truncate can wait in a part; in each
--     IsHeldInOne      another is in the way in one of the parts
--     HasTruncated      what came of it in all parts
--     IsHeldInPart, TellsTruncate      another holds the table of one of the parts; how a truncate may be answered
use Rattle.std.specs.Prelude.{◌≡◌, ◌≢◌, ◌⊎◌, ℕ, ◌<◌, ◌≤◌, Bool, true, false, List, [], ◌∷◌, Option, Some, None, IsSome, IsSomeAnd, Result, Ok, Err, length, slice_get}
use Rattle.std.specs.FinMap.{get, insert}
use Rattle.model.specs.declared.change.Change.{Change}
use Rattle.model.specs.declared.change.Change.TheVariants.{Wipe}
use Rattle.model.specs.declared.cell.Cell.TheVariants.{Whole}
use Rattle.model.specs.Footprint.{footprint}
use Rattle.model.specs.Rows.{Schema}
use Rattle.model.specs.Survivors.{survivors}
use Rattle.world.specs.World.{World, own_rows, IsHeldBy}
use Rattle.live_tables.specs.declared.answers.Acted.TheVariants.{Done, Skipped, Held}
use Rattle.live_tables.specs.declared.answers.EngineFault.{EngineFault}
use Rattle.live_tables.specs.declared.answers.EngineFault.TheVariants.{OutOfMemory as NoMemory}
use Rattle.live_tables.specs.declared.answers.Verdict.{Verdict}
use Rattle.live_tables.specs.declared.answers.Verdict.TheVariants.{Acted as ActedVerdict, Clashes}
use Rattle.world_parts.specs.ByTable.{names_table}
use Rattle.world_parts.specs.Parts.{wanted_by}
use Rattle.engine.specs.Events.{opened_by}
use Rattle.table_parts.specs.Part.{Part}
use Rattle.table_parts.specs.declared.several.Attempt.{Attempt}
use Rattle.table_parts.specs.Several.{IsSameAs, IsAttempted, IsKept}
use Rattle.parted_store.specs.Lent.{HasTable}
use Rattle.parted_store.specs.Shares.{Share, Shares, share_of}

-- both shares are there, and this holds of them
abbrev pub Both : (Share → Share → Type 0) → Option Share → Option Share → Type 0
Both R None new = ⊥
Both R (Some share) None = ⊥
Both R (Some share) (Some new) = R share new

-- Each of the parts is in this state, by its place, what it was with its share, and what it is. Each is of its table still, and
-- the shares of other tables are what they were.
pub record EachIs (Is : ℕ → Part → Option Share → Part → Option Share → Type 0) (start : List Part) (all : Shares) (parts : List Part) (shares : Shares) : Type 0 where
  pub each : (j : ℕ) (p : Part) → slice_get start j ≡ Some p → IsSomeAnd (slice_get parts j) (λ q. Is j p (share_of all p.number) q (share_of shares p.number))
  pub same : (j : ℕ) (p : Part) → slice_get start j ≡ Some p → IsSomeAnd (slice_get parts j) (λ q. IsSameAs p q)
  pub long : length parts ≡ length start
  pub kept : (table : ℕ) → ((j : ℕ) (p : Part) → slice_get start j ≡ Some p → p.number ≢ table) → share_of shares table ≡ share_of all table

-- the parts before a place are in one state, the others in another
abbrev pub Zones : ℕ → (ℕ → Part → Option Share → Part → Option Share → Type 0) → (ℕ → Part → Option Share → Part → Option Share → Type 0)
    → ℕ → Part → Option Share → Part → Option Share → Type 0
Zones place Is Others j p share q new = ((j < place) × Is j p share q new) ⊎ ((place ≤ j) × Others j p share q new)

-- What a truncate is, lent the parts of its tables.
pub record CutsHere (c : Change) (tables : List ℕ) (parts : List Part) : Type 0 where
  pub is : c ≡ Wipe tables
  pub each : (i : ℕ) (p : Part) → slice_get parts i ≡ Some p → names_table tables p.number ≡ true
  pub all : (table : ℕ) → names_table tables table ≡ true → (i : ℕ) × (p : Part) × (slice_get parts i ≡ Some p) × (p.number ≡ table)

-- the world has each of the parts, which have its keys
abbrev pub HasEach : World → Schema → List Part → Type 0
HasEach w schema parts = (i : ℕ) (p : Part) → slice_get parts i ≡ Some p → HasTable w p × (p.store.schema ≡ schema)

-- ---- the states

-- what the truncate is in the part
abbrev pub cut_of : Part → Change
cut_of p = Wipe (p.number ∷ [])

-- nothing was tried
abbrev pub Untouched : ℕ → Part → Option Share → Part → Option Share → Type 0
Untouched j p share q new = (q ≡ p) × (new ≡ share)

-- it was attempted, as is told at its place
abbrev pub Attempts : ℕ → List Attempt → ℕ → Part → Option Share → Part → Option Share → Type 0
Attempts mark tried j p share q new =
    (a : Attempt) × (slice_get tried j ≡ Some a) × Both (λ s t. IsAttempted p s mark (cut_of p) a q t) share new

-- The transaction has done what it had, and perhaps waits with what it waited with.
pub record IsStill (waits : Bool) (p : Part) (share : Share) (q : Part) (new : Share) : Type 0 where
  pub stood : get p.store.world.opened share.number ≡ Some (opened_by share.list)
  pub world : q.store.world ≡ record p.store.world { opened = insert p.store.world.opened share.number (opened_by new.list) }
  pub items : survivors share.number (opened_by new.list).items ≡ survivors share.number (opened_by share.list).items
  pub wants : waits ≡ true → (opened_by new.list).wants ≡ (opened_by share.list).wants
  pub name : new.name ≡ share.name
  pub number : new.number ≡ share.number
  pub same : IsSameAs p q

-- it has, or nothing was tried
abbrev pub Stands : Bool → ℕ → Part → Option Share → Part → Option Share → Type 0
Stands waits j p share q new = Untouched j p share q new ⊎ Both (λ s t. IsStill waits p s q t) share new

-- it is done
abbrev pub Keeps : ℕ → ℕ → Part → Option Share → Part → Option Share → Type 0
Keeps mark j p share q new = Both (λ s t. IsKept p s mark (cut_of p) q t) share new

-- the transaction has done what it had, and waits with the truncate
abbrev pub Waits : ℕ → Part → Option Share → Part → Option Share → Type 0
Waits j p share q new =
    Both (λ s t. IsStill false p s q t × (wanted_by (opened_by t.list).wants ≡ cut_of p ∷ [])) share new

-- ---- what came of it

-- another transaction is in the way of the truncate in one of the parts
abbrev pub IsHeldInOne : List Part → Shares → ℕ → Type 0
IsHeldInOne parts all holder =
    (i : ℕ) × (p : Part) × (share : Share) × (slice_get parts i ≡ Some p) × (share_of all p.number ≡ Some share)
    × (p.store.world.stopped ≡ None)
    × IsHeldBy p.store.schema p.store.world share.number (footprint p.store.schema (own_rows p.store.schema p.store.world share.number (opened_by share.list)) (cut_of p)) holder

-- A part in which the truncate can wait: the transaction has a share there, and its table is there.
pub record CanWait (all : Shares) (p : Part) : Type 0 where
  pub share : IsSome (share_of all p.number)
  pub known : p.number < length p.store.schema

-- so it is of each
abbrev pub CanWaitEach : List Part → Shares → Type 0
CanWaitEach parts all = (i : ℕ) (p : Part) → slice_get parts i ≡ Some p → CanWait all p

-- What came of it in all parts: it is done in each; another is in the way in one, and in each the transaction waits with it;
-- memory is refused, and each part is left.
abbrev pub HasTruncated : ℕ → List Part → Shares → Result Verdict EngineFault → List Part → Shares → Type 0
HasTruncated mark start all (Ok (ActedVerdict Done)) parts shares = EachIs (Keeps mark) start all parts shares
HasTruncated mark start all (Ok (ActedVerdict (Held holder))) parts shares = IsHeldInOne start all holder × EachIs Waits start all parts shares
HasTruncated mark start all (Ok (ActedVerdict Skipped)) parts shares = ⊥
HasTruncated mark start all (Ok (Clashes clash)) parts shares = ⊥
HasTruncated mark start all (Err fault) parts shares = (fault ≡ NoMemory) × EachIs (Stands true) start all parts shares

-- ---- how it may be answered

-- another transaction holds the table of one of the parts
abbrev pub IsHeldInPart : List Part → ℕ → ℕ → Type 0
IsHeldInPart parts xid holder =
    (i : ℕ) × (p : Part) × (slice_get parts i ≡ Some p) × IsHeldBy p.store.schema p.store.world xid (Whole p.number ∷ []) holder

-- It is done; another holds the table of one of the parts; or memory is refused.
abbrev pub TellsTruncate : List Part → ℕ → Result Verdict EngineFault → Type 0
TellsTruncate parts xid (Ok (ActedVerdict Done)) = Unit {0}
TellsTruncate parts xid (Ok (ActedVerdict (Held holder))) = IsHeldInPart parts xid holder
TellsTruncate parts xid (Ok (ActedVerdict Skipped)) = ⊥
TellsTruncate parts xid (Ok (Clashes clash)) = ⊥
TellsTruncate parts xid (Err fault) = fault ≡ NoMemory
