-- What the workers of a run are made of.
--     Parted      both ends of a ring, and both halves of the list of what is given to it
--     ring_of, outbox_of      which ring and which list they are
--     IsFresh      nothing was given yet
--     HasSlots      the ring has so many slots
--     AreEnds, AreNumbered      the leader's ends of a worker's ring and list; the numbers of workers go up
use Rattle.std.specs.Prelude.{◌≡◌, ℕ, ◌+◌, List, [], ◌∷◌}
use Rattle.atomic_table.specs.Seated.{TableId}
use Rattle.model.specs.declared.item.Item.{Item}
use Rattle.tokens.specs.Half.{Name, Half}
use Rattle.ring.specs.Ends.{Sending, Taking}
use Rattle.worker.specs.declared.outbox.OutboxEvent.{OutboxEvent}

-- both ends of a worker's ring, and both halves of the list of what is given to it
pub record Parted : Type 0 where
  pub sending : Sending Item
  pub taking : Taking Item
  pub kept : Half OutboxEvent
  pub token : Half OutboxEvent

-- which ring it is
abbrev pub ring_of : Parted → TableId
ring_of p = p.sending.ring

-- which list it is
abbrev pub outbox_of : Parted → Name
outbox_of p = p.kept.name

-- The ends are those of one ring, and the halves of one list; nothing was given yet.
pub record IsFresh (p : Parted) : Type 0 where
  pub ring : p.taking.ring ≡ p.sending.ring
  pub sent : p.sending.sent ≡ []
  pub acked : p.taking.acked ≡ []
  pub given : p.kept.list ≡ []
  pub told : p.token.list ≡ []
  pub name : p.token.name ≡ p.kept.name

-- The ring has so many slots.
abbrev pub HasSlots : ℕ → Parted → Type 0
HasSlots slots p = p.sending.ring.slots ≡ slots

-- They are the leader's ends of this ring and of this list, and nothing was given yet.
pub record AreEnds (its_ring : TableId) (its_name : Name) (its_token : Half OutboxEvent) (its_taker : Taking Item) : Type 0 where
  pub ring : its_taker.ring ≡ its_ring
  pub acked : its_taker.acked ≡ []
  pub name : its_token.name ≡ its_name
  pub given : its_token.list ≡ []

-- The numbers of workers, one after another, go up from this one.
abbrev pub AreNumbered : ℕ → List ℕ → Type 0
AreNumbered first [] = Unit {0}
AreNumbered first (n ∷ more) = (n ≡ first) × AreNumbered (first + 1) more
