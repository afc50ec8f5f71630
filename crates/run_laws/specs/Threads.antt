-- The world of a run in which workers apply streamed transactions while they come.
--     IsWork      what an open transaction has to do there
--     work_of, done_by_commit      what one that committed had done, and its commit
--     Does, DoesWork      what an open transaction has done is a beginning of items, or of its work
--     IsWorldOf      the world is one of a state, with these items still to be handled
--     AreBytes      the payloads of items are bytes
use Rattle.std.specs.Prelude.{◌≡◌, ◌<◌, ℕ, List, [], ◌∷◌, ◌++◌, map, slice_index, Some}
use Rattle.std.specs.FinMap.{get}
use Rattle.model.specs.declared.item.Item.{Item}
use Rattle.model.specs.Rows.{Rows}
use Rattle.model.specs.Survivors.{survivors}
use Rattle.frames.specs.declared.item.CopyItem.{CopyItem}
use Rattle.frames.specs.declared.item.CopyItem.TheVariants.{Wal, Keepalive, Done}
use Rattle.session.specs.Sized.{SizedItems, item_of}
use Rattle.session.specs.State.{Way, Direct, Worker, Spooled, Open, Committed, State, Setting}
use Rattle.run.specs.Cause.{schema_of, IsNext}
use Rattle.world.specs.World.{Opened, Past, World}
use Rattle.world_parts.specs.Led.{IsLed}
use Rattle.run_laws.specs.Runs.{DoesAtCommit}

-- What an open transaction has to do: its items, rollbacks among them. One that is spooled has nothing
-- to do before the next message commits it, and then what survives of the items that are final.
abbrev pub IsWork : Setting → State → List CopyItem → ℕ → Way → SizedItems → List Item → Type 0
IsWork g s rest xid Direct items work = work ≡ map item_of items
IsWork g s rest xid Worker items work = work ≡ map item_of items
IsWork g s rest xid Spooled items work = IsNext rest (λ payload. DoesAtCommit g s payload xid work)

-- what a transaction had done that commits with these items: all, rollbacks among them; if it was
-- spooled, those that survive
abbrev pub work_of : ℕ → Way → SizedItems → List Item
work_of xid Direct items = map item_of items
work_of xid Worker items = map item_of items
work_of xid Spooled items = survivors xid (map item_of items)

-- a commit, for which its transaction had done all of its work and no other item
abbrev pub done_by_commit : Committed → Past
done_by_commit c = record { xid = c.xid; items = work_of c.xid c.way c.items; info = c.info }

-- What an open transaction has done is a beginning of these items.
pub record Does (done : Opened) (items : List Item) : Type 0 where
  pub left : List Item
  pub begins : done.items ++ left ≡ items

-- It is a beginning of its work.
pub record DoesWork (g : Setting) (s : State) (rest : List CopyItem) (xid : ℕ) (o : Open) (done : Opened)
    : Type 0 where
  pub work : List Item
  pub is_work : IsWork g s rest xid o.way o.items work
  pub does : Does done work

-- Each part of the world is reached by parts of calls from these rows; its commits are those of the
-- state, in order; each of its open transactions is open in the state, and does its work. That there
-- are such calls is all that locks keep of them, and not which.
pub record IsWorldOf (g : Setting) (rows : Rows) (s : State) (rest : List CopyItem) (w : World)
    : Type 0 where
  pub led : IsLed (schema_of g) rows w
  pub line : w.line ≡ map done_by_commit s.past
  pub opened : (xid : ℕ) (done : Opened) → get w.opened xid ≡ Some done
      → (o : Open) × (get s.transactions xid ≡ Some o) × DoesWork g s rest xid o done

-- The payloads of these items are bytes.
abbrev pub AreBytes : List CopyItem → Type 0
AreBytes [] = Unit {0}
AreBytes (Wal first last payload ∷ items) = ((i : ℕ) → slice_index payload i < 256) × AreBytes items
AreBytes (Keepalive last reply ∷ items) = AreBytes items
AreBytes (Done ∷ items) = AreBytes items
