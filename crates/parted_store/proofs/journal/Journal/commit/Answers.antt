use Rattle.std.proofs.Common.{◌≡◌, ◌+◌, ◌<◌, List, refl, sym, ap, subst, ◌∙◌}
use Rattle.std.specs.BTreeSet.{btree_set_len}
use Rattle.model.specs.declared.item.Item.{Item}
use Rattle.model.specs.Beginning.{last_end}
use Rattle.model.specs.Survivors.{changes_of}
use Rattle.tokens.specs.Half.{Half}
use Rattle.world.specs.World.{Past, entry_of}
use Rattle.engine.specs.declared.entry.Entry.{Entry}
use Rattle.engine.specs.declared.events.LineEvent.{LineEvent}
use Rattle.engine.specs.Engine.{entry_in}
use Rattle.engine.specs.Events.{opened_by, ends_in}
use Rattle.parted_store.specs.Journal.{JournalPart}
use Rattle.parted_store.specs.KeptLemmas.{keeps_committed, one_left, has_room}
use Rattle.parted_store.proofs.journal.Journal.commit.Goals as goal

pub push_reserved-requires : goal.push_reserved-requires
push_reserved-requires c =
    has_room c.self.inside c.self.invariant (btree_set_len c.remove.new.self)
    (one_left c.self.inside c.self.invariant c.args.xid c.args.line.now c.requires.open (sym c.line.view_is ∙ c.tell_commit.ensures.met) c.remove.result
    c.remove.ensures.test (btree_set_len c.remove.new.self) c.remove.ensures.len)

pub invariant_of-self : goal.invariant_of-self
invariant_of-self c =
    let entry : Entry = c.new-entry.result in
    let made = c.new-entry.ensures in
    let past : Past = record { xid = c.args.xid; items = (opened_by c.args.events.now).items; info = c.args.info } in
    let entry_tells : entry_in entry ≡ entry_of past = λ i. record {
      xid = made.xid i;
      changes = (made.changes ∙ c.of_items-changes.ensures ∙ ap (λ (items : List Item). changes_of items) c.requires.items) i;
      commit = made.place.0 i;
      end = made.place.1 i;
    } in
    let fewer : btree_set_len c.remove.new.self + 1 ≡ btree_set_len c.self.inside.open_ones =
    one_left c.self.inside c.self.invariant c.args.xid c.args.line.now c.requires.open (sym c.line.view_is ∙ c.tell_commit.ensures.met) c.remove.result
    c.remove.ensures.test (btree_set_len c.remove.new.self) c.remove.ensures.len in
    keeps_committed c.self.inside _ c.self.invariant c.args.xid (opened_by c.args.events.now).items c.args.info entry
    c.push_reserved.ensures.items c.push_reserved.ensures.len c.push_reserved.ensures.capacity c.remove.ensures.updates fewer
    (ap (λ (h : Half LineEvent). h.list) c.tell_commit.ensures.kept) refl entry_tells
    (subst (λ (h : Half LineEvent). last_end (ends_in h.list) < c.args.info.end) (sym c.line.view_is ∙ c.tell_commit.ensures.met) c.requires.rising)

pub returns-clause-count : goal.returns-clause-count
returns-clause-count c =
    one_left c.self.inside c.self.invariant c.args.xid c.args.line.now c.requires.open (sym c.line.view_is ∙ c.tell_commit.ensures.met) c.remove.result
    c.remove.ensures.test (btree_set_len c.remove.new.self) c.remove.ensures.len
    ∙ ap (λ (j : JournalPart). j.open_count) c.self.view_is
