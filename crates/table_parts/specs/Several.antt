-- A change that is one of several tables, tried in the part of one of them.
--     Share, is_known      a ticket of the part; whether a change of its transaction came under a mark
--     FitsOwn      a mark under which a change can be tried so that a rollback to it takes just that back
--     IsAttempted      the change was done under such a mark, and what the transaction waited with before
--     IsKept      it is done under the mark of the ticket
--     IsLeft      the transaction has done what it had, and waits with what it waited with
--     IsRefused, IsWaiting, ComesTo      what comes of an attempt
use Rattle.std.specs.Prelude.{◌≡◌, ◌≢◌, ◌⊎◌, ℕ, Bool, true, false, [], ◌∷◌, ◌++◌, length, Some, None, Ok, IfSome}
use Rattle.std.specs.FinMap.{get, insert}
use Rattle.std.specs.List.{list_any}
use Rattle.model.specs.declared.change.Change as change_type
use Rattle.model.specs.declared.change.Change.TheVariants.{Wipe}
use Rattle.model.specs.declared.item.Item.TheVariants.{Change}
use Rattle.model.specs.Named.{NamesTables}
use Rattle.model.specs.Survivors.{is_of, survivors}
use Rattle.tokens.specs.Lists.{OpenList}
use Rattle.world.specs.Steps.{Acts, IsDone, Held}
use Rattle.engine.specs.declared.events.Event.{Event}
use Rattle.engine.specs.declared.events.Event.TheVariants.{Done, Wants}
use Rattle.engine.specs.Engine.{IsOtherwiseSame}
use Rattle.engine.specs.Events.{opened_by}
use Rattle.table_parts.specs.Part.{Part, last_commit_end}
use Rattle.table_parts.specs.declared.several.Attempt.{Attempt}
use Rattle.table_parts.specs.declared.several.Attempted.{Attempted}
use Rattle.table_parts.specs.declared.several.Attempted.TheVariants.{Done as WasDone, Held as WasHeld}

-- a ticket of the part
abbrev pub Share : Type 0
Share = OpenList Event

-- whether a change of the ticket's transaction that no rollback has dropped came under the mark
abbrev pub is_known : Share → ℕ → Bool
is_known share mark = list_any (is_of mark) (survivors share.number (opened_by share.list).items)

-- Nothing came under this mark, which isn't the top transaction. Where it isn't the mark of the ticket, that is known.
pub record FitsOwn (share : Share) (mark own : ℕ) : Type 0 where
  pub below : own ≢ share.number
  pub alone : is_known share own ≡ false
  pub adopts : (own ≡ mark) ⊎ ((own ≢ mark) × (mark ≢ share.number → is_known share mark ≡ true))

-- the part is still of its table, with the same keys and tickets, and its log goes on where it did
pub record IsSameAs (p q : Part) : Type 0 where
  pub number : q.number ≡ p.number
  pub store : IsOtherwiseSame p.store q.store
  pub ends : last_commit_end q ≡ last_commit_end p

-- The change was done under a mark of its own. It is known what the transaction waited with.
pub record IsAttempted (p : Part) (share : Share) (mark : ℕ) (c : change_type.Change) (a : Attempt) (q : Part) (new : Share) : Type 0 where
  pub stood : get p.store.world.opened share.number ≡ Some (opened_by share.list)
  pub acts : Acts p.store.schema p.store.world share.number (opened_by share.list) a.own c (Ok IsDone) q.store.world
  pub share_is : new ≡ record share { list = share.list ++ Done (Change a.own c) ∷ [] }
  pub own : FitsOwn share mark a.own
  pub waited : a.waited ≡ (opened_by share.list).wants
  pub named : IfSome a.waited (λ (w : ℕ × change_type.Change). NamesTables (length p.store.schema) w.1)
  pub same : IsSameAs p q

-- It is done under the mark of the ticket.
pub record IsKept (p : Part) (share : Share) (mark : ℕ) (c : change_type.Change) (q : Part) (new : Share) : Type 0 where
  pub stood : get p.store.world.opened share.number ≡ Some (opened_by share.list)
  pub acts : Acts p.store.schema p.store.world share.number (opened_by share.list) mark c (Ok IsDone) q.store.world
  pub tells : opened_by new.list ≡ record { items = (opened_by share.list).items ++ Change mark c ∷ []; wants = None }
  pub name : new.name ≡ share.name
  pub number : new.number ≡ share.number
  pub same : IsSameAs p q

-- The transaction has done what it had, and waits with what it waited with.
pub record IsLeft (p : Part) (share : Share) (q : Part) (new : Share) : Type 0 where
  pub stood : get p.store.world.opened share.number ≡ Some (opened_by share.list)
  pub world : q.store.world ≡ record p.store.world { opened = insert p.store.world.opened share.number (opened_by new.list) }
  pub items : survivors share.number (opened_by new.list).items ≡ survivors share.number (opened_by share.list).items
  pub wants : (opened_by new.list).wants ≡ (opened_by share.list).wants
  pub name : new.name ≡ share.name
  pub number : new.number ≡ share.number
  pub same : IsSameAs p q

-- The call was refused: so it is, and the part's world is the same.
pub record IsRefused (p : Part) (share : Share) (q : Part) (new : Share) : Type 0 where
  pub left : IsLeft p share q new
  pub world : q.store.world ≡ p.store.world

-- Another transaction is in the way of the truncate, with which its transaction waits.
pub record IsWaiting (p : Part) (share : Share) (holder : ℕ) (q : Part) (new : Share) : Type 0 where
  pub own : ℕ
  pub stood : get p.store.world.opened share.number ≡ Some (opened_by share.list)
  pub acts : Acts p.store.schema p.store.world share.number (opened_by share.list) own (Wipe (p.number ∷ [])) (Ok (Held holder)) q.store.world
  pub share_is : new ≡ record share { list = share.list ++ Wants own (Wipe (p.number ∷ [])) ∷ [] }
  pub same : IsSameAs p q

-- what came of it, where it wasn't refused
abbrev pub ComesTo : Part → Share → ℕ → Attempted → Part → Share → Type 0
ComesTo p share mark (WasDone a) q new = IsAttempted p share mark (Wipe (p.number ∷ [])) a q new
ComesTo p share mark (WasHeld holder) q new = IsWaiting p share holder q new
