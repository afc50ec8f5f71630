-- What a store's call that is given a ticket shows of its transaction.
--     IsTicket, its_ticket      a number is that of a ticket, under which a store's book has the ticket's list
--     may_call      so the live part may be called with it
--     seen_open      callers see the transaction open
--     met_open, met_call      the same of a book that met the ticket's slip
--     tied_after, seen_step      the world that the live part's call leads to, and what callers see of that call
--     HasDone, item_done      a ticket's transaction has one item more
use Rattle.std.proofs.Common.{◌≡◌, ℕ, [], ◌∷◌, ◌++◌, Some, refl, sym, ap, subst, ◌∙◌}
use Rattle.std.specs.FinMap.{get}
use Rattle.model.specs.declared.item.Item.{Item}
use Rattle.model.specs.Rows.{Schema}
use Rattle.tokens.specs.Lists.{OpenList, OpenLists, with_list}
use Rattle.world.specs.World.{Opened, World}
use Rattle.world.specs.Steps.{done_with}
use Rattle.engine.specs.declared.events.Event.{Event}
use Rattle.engine.specs.declared.events.Event.TheVariants.{Done}
use Rattle.engine.specs.declared.store.Store.TheInside.{Inside}
use Rattle.engine.specs.Events.{opened_by}
use Rattle.engine.specs.Engine.{Engine, world_in, engine_in, Represents}
use Rattle.engine.specs.StoreLemmas.{stands, with_parts, store_done}
use Rattle.live_tables.specs.declared.live_tables.Live.{Live}
use Rattle.live_tables.specs.Represents.{Represents as LiveRepresents}

-- The number is the ticket's, and the store's book has the ticket's list under it.
pub record IsTicket (s : Inside) (t : OpenList Event) (n : ℕ) : Type 0 where
  pub number : n ≡ t.number
  pub listed : get s.book.lists t.number ≡ Some t.list

-- a number that was read of the ticket, whose slip the book knows
pub its_ticket : {s : Inside} {read slip t : OpenList Event} {n : ℕ} → read ≡ t → n ≡ read.number → slip ≡ t → get s.book.lists slip.number ≡ Some slip.list → IsTicket s t n
its_ticket {s} shown number same listed = record {
  number = number ∙ ap (λ (u : OpenList Event). u.number) shown;
  listed = subst (λ (u : OpenList Event). get s.book.lists u.number ≡ Some u.list) same listed;
}

module _ {s : Inside} {t : OpenList Event} {n : ℕ} (is : Represents s) (its : IsTicket s t n) where
  -- the ticket's transaction is open in the world
  pub is_open : get (world_in s).opened t.number ≡ Some (opened_by t.list)
  is_open = stands s is t.number t.list its.listed

  -- so it is under the number that was read
  pub open_under : get (world_in s).opened n ≡ Some (opened_by t.list)
  open_under = subst (λ (k : ℕ). get (world_in s).opened k ≡ Some (opened_by t.list)) (sym its.number) is_open

  -- the live part may be called with that number
  pub may_call : (w : World) × (o : Opened) × LiveRepresents w s.live × (get w.opened n ≡ Some o)
  may_call = (world_in s, opened_by t.list, is.tied, open_under)

  -- callers see it open
  pub seen_open : (e : Engine) → engine_in s ≡ e → get e.world.opened t.number ≡ Some (opened_by t.list)
  seen_open e seen = subst (λ (f : Engine). get f.world.opened t.number ≡ Some (opened_by t.list)) seen is_open

  -- the live part is tied to the world that its call leads to
  pub tied_after : (later : World → ℕ → Opened → World) (m : Live) → ((w : World) (o : Opened) → LiveRepresents w s.live → get w.opened n ≡ Some o → LiveRepresents (later w n o) m)
      → LiveRepresents (later (world_in s) t.number (opened_by t.list)) m
  tied_after later m tied =
      subst (λ (k : ℕ). LiveRepresents (later (world_in s) k (opened_by t.list)) m) its.number (tied (world_in s) (opened_by t.list) is.tied open_under)

  -- what the live part's call is to its world, the store's call is to the world that callers see
  pub seen_step : (e : Engine) → engine_in s ≡ e → (Steps : Schema → World → ℕ → Opened → World → Type 0) (later : World → ℕ → Opened → World) (next : World)
      → next ≡ later (world_in s) t.number (opened_by t.list)
      → ((w : World) (o : Opened) → LiveRepresents w s.live → get w.opened n ≡ Some o → Steps s.live.tables.schema w n o (later w n o))
      → Steps e.schema e.world t.number (opened_by t.list) next
  seen_step e seen Steps later next leads steps =
      subst (λ (f : Engine). Steps f.schema f.world t.number (opened_by t.list) next) seen
      (subst (Steps s.live.tables.schema (world_in s) t.number (opened_by t.list)) (sym leads)
      (subst (λ (k : ℕ). Steps s.live.tables.schema (world_in s) k (opened_by t.list) (later (world_in s) k (opened_by t.list))) its.number
      (steps (world_in s) (opened_by t.list) is.tied open_under)))

-- the store's world has an item more of the ticket's transaction, and nothing else
abbrev pub HasDone : Inside → OpenList Event → Item → Inside → Type 0
HasDone s t item next = (world_in next ≡ done_with (world_in s) t.number (opened_by t.list) item) × Represents next

-- the live part did an item, and a book that has met the ticket's slip lists it
pub item_done : {s : Inside} {t slip : OpenList Event} {n : ℕ} {met grown : OpenLists Event} (m : Live) (item : Item) → Represents s → IsTicket s t n
    → slip ≡ t → met ≡ s.book → grown ≡ with_list met slip.number (slip.list ++ Done item ∷ []) → m.tables.schema ≡ s.live.tables.schema
    → ((w : World) (o : Opened) → LiveRepresents w s.live → get w.opened n ≡ Some o → LiveRepresents (done_with w n o item) m)
    → HasDone s t item (with_parts s m grown)
item_done {s} {t} {grown = grown} m item is its same met listed schema tied =
    store_done s is t.number t.list its.listed m grown item schema
    (listed ∙ (λ i. with_list (met i) (same i).number ((same i).list ++ Done item ∷ [])))
    (tied_after is its (λ w k o. done_with w k o item) m tied)

-- a book that has met a ticket's slip shows callers that the ticket's transaction is open
pub met_open : {s : Inside} {slip t : OpenList Event} → Represents s → slip ≡ t → get s.book.lists slip.number ≡ Some slip.list
    → (e : Engine) → engine_in s ≡ e → get e.world.opened t.number ≡ Some (opened_by t.list)
met_open {s} {t = t} is same listed e seen = seen_open {t = t} is record {
  number = refl;
  listed = subst (λ (u : OpenList Event). get s.book.lists u.number ≡ Some u.list) same listed;
} e seen

-- and the live part may be called with its number
pub met_call : {s : Inside} {n : ℕ} (slip : OpenList Event) → Represents s → n ≡ slip.number → get s.book.lists slip.number ≡ Some slip.list
    → (w : World) × (o : Opened) × LiveRepresents w s.live × (get w.opened n ≡ Some o)
met_call slip is number listed = may_call {t = slip} is record { number = number; listed = listed }
