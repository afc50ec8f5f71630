use Rattle.std.proofs.Common.{◌≡◌, ◌<◌, List, sym, ap, subst, ◌∙◌, ℕ, Some}
use Rattle.std.specs.FinMap.{get}
use Rattle.std.specs.Prelude.{map}
use Rattle.model.specs.declared.item.Item.{Item}
use Rattle.model.specs.Survivors.{survivors, changes_of}
use Rattle.model.specs.Beginning.{last_end}
use Rattle.model.specs.Effect.{all_back, serial}
use Rattle.change.specs.Inverse.{edits_of}
use Rattle.tokens.specs.Half.{Half}
use Rattle.tokens.specs.Lists.{OpenList, without_list}
use Rattle.world.specs.World.{Past, entry_of, work}
use Rattle.world.specs.Steps.{Commits, committed_with}
use Rattle.engine.specs.declared.entry.Entry.{Entry}
use Rattle.engine.specs.declared.events.Event.{Event}
use Rattle.engine.specs.declared.store.Store.TheInside.{Inside}
use Rattle.engine.specs.declared.events.LineEvent.{LineEvent}
use Rattle.engine.specs.Events.{opened_by, ends_in}
use Rattle.engine.specs.Engine.{Engine, entry_in, world_in, Represents}
use Rattle.engine.specs.StoreLemmas.{has_room, store_committed}
use Rattle.engine.proofs.StoreTickets.{IsTicket, its_ticket, open_under, may_call, tied_after}
use Rattle.engine.proofs.store.Store.commit.Goals as goal

pub commit-items-requires : goal.commit-items-requires
commit-items-requires c = may_call c.self.invariant (its_ticket c.t.view_is c.number-xid.ensures c.t.view_is c.close.ensures.listed)

pub push_reserved-requires : goal.push_reserved-requires
push_reserved-requires c =
    has_room c.self.inside c.self.invariant c.args.t.number c.args.t.list
    (subst (λ (t : OpenList Event). get c.self.inside.book.lists t.number ≡ Some t.list) c.t.view_is c.close.ensures.listed)

module _ (c : goal.After-push_reserved) where
  -- its ticket, whose number was read
  its : IsTicket c.self.inside c.args.t c.number-xid.result
  its = its_ticket c.t.view_is c.number-xid.ensures c.t.view_is c.close.ensures.listed

  -- the entry of the journal, which tells the commit
  abbrev entry : Entry
  entry = record { xid = c.number-xid.result; changes = c.of_items.result; commit = c.args.info.commit; end = c.args.info.end; inverses = c.commit-items.result.1 }

  abbrev past : Past
  past = record { xid = c.args.t.number; items = (opened_by c.args.t.list).items; info = c.args.info }

  survived : c.commit-items.result.0.items ≡ survivors c.args.t.number (opened_by c.args.t.list).items
  survived =
      c.commit-items.ensures.items (world_in c.self.inside) (opened_by c.args.t.list) c.self.invariant.tied (open_under c.self.invariant its)
      ∙ ap (λ (n : ℕ). survivors n (opened_by c.args.t.list).items) its.number

  entry_tells : entry_in entry ≡ entry_of past
  entry_tells = λ i. record {
    xid = its.number i;
    changes = (c.of_items.ensures ∙ ap (λ (items : List Item). changes_of items) survived) i;
    commit = c.args.info.commit;
    end = c.args.info.end;
  }

  -- the store's parts after the call
  abbrev parts : Inside
  parts = record c.self.inside { live = c.commit-items.new.self; journal = c.push_reserved.new.self; book = c.close.new.self; line = c.record_commit.new.kept }

  moved : (world_in parts ≡ committed_with c.self.inside.live.tables.schema (world_in c.self.inside) c.args.t.number (opened_by c.args.t.list) c.args.info) × Represents parts
  moved =
      store_committed c.self.inside c.self.invariant c.args.t.number c.args.t.list its.listed c.commit-items.new.self c.push_reserved.new.self c.close.new.self c.record_commit.new.kept
      c.args.info entry c.commit-items.ensures.schema
      (c.close.ensures.book ∙ (λ i. without_list c.self.inside.book (c.t.view_is i).number))
      c.record_commit.ensures.kept
      (tied_after c.self.invariant its (λ w n o. committed_with c.self.inside.live.tables.schema w n o c.args.info) c.commit-items.new.self (λ w o. c.commit-items.ensures.tied w o c.args.info))
      c.push_reserved.ensures.items c.push_reserved.ensures.len c.push_reserved.ensures.capacity entry_tells
      (subst (λ (l : Half LineEvent). last_end (ends_in l.list) < c.args.info.end) (sym c.line.view_is ∙ c.record_commit.ensures.met) c.requires.rising)
      (ap (λ (n : ℕ). all_back (serial c.self.inside.live.tables.schema (world_in c.self.inside).committed (work n (opened_by c.args.t.list))) (map edits_of c.commit-items.result.1.inverses)) (sym its.number)
      ∙ c.commit-items.ensures.before (world_in c.self.inside) (opened_by c.args.t.list) c.self.invariant.tied (open_under c.self.invariant its))

pub invariant_of-self : goal.invariant_of-self
invariant_of-self c = (moved c).1

pub returns-clause-commits : goal.returns-clause-commits
returns-clause-commits c =
    subst (λ (e : Engine). Commits e.schema e.world c.args.t.number (opened_by c.args.t.list) c.args.info (world_in (parts c))) c.self.view_is (moved c).0
