use Rattle.std.proofs.Common.{◌≡◌, ℕ, ◌+◌, ◌≤◌, ◌<◌, ◌++◌, ◌∷◌, [], List, sym, ap, subst, ◌∙◌, arith}
use Rattle.std.specs.Prelude.{map, vec_len, vec_capacity}
use Rattle.model.specs.declared.change.Change.{Change}
use Rattle.model.specs.declared.item.Item.TheVariants.{Change as ChangeItem}
use Rattle.model.specs.Rows.{Rows}
use Rattle.model.specs.Effect.{all_back, serial}
use Rattle.model.specs.Survivors.{changes_of}
use Rattle.model.specs.Accepted.{AreAccepted}
use Rattle.model.specs.Beginning.{last_end}
use Rattle.change.specs.declared.inverse.Inverse.{Inverse}
use Rattle.change.specs.Inverse.{edits_of}
use Rattle.indexes.specs.Content.{Content}
use Rattle.tokens.specs.Half.{Half}
use Rattle.world.specs.Steps.{Reaches}
use Rattle.world.specs.World.{ends_of}
use Rattle.engine.specs.declared.entry.Entry.{Entry}
use Rattle.engine.specs.declared.events.LineEvent.{LineEvent}
use Rattle.engine.specs.declared.events.LineEvent.TheVariants.{Opened as WasOpened, Committed as WasCommitted}
use Rattle.engine.specs.declared.store.Store.TheInside.{Inside}
use Rattle.engine.specs.Engine.{entry_in, world_in, Represents}
use Rattle.engine.specs.Serial.{Serial, committed_by}
use Rattle.engine.specs.OpenWork.{base_of}
use Rattle.engine.specs.SerialInside.{idle_in}
use Rattle.engine.specs.SerialLemmas.{with_commit, idle_committed, reaches_commit}
use Rattle.live_tables.specs.declared.live_tables.Live.{Live}
use Rattle.live_tables.specs.Answers.{told_stop}
use Rattle.engine.proofs.SerialSteps.{serially_idle, rows_based}
use Rattle.engine.proofs.serial.SerialStore.commit.Goals as goal
use Rattle.engine.proofs.serial.SerialStore.commit.Goals.{After-push_reserved}

one_fits : (old new was is : ℕ) → new ≡ old + 1 → is ≡ was → old + 1 ≤ was → new ≤ is
one_fits old new was is more same fits = omega (arith, more, same, fits)

module _ (c : After-push_reserved) where
  -- the changes that were open, the tables without an open one, and the entry that tells the commit
  abbrev changes : List Change
  changes = c.self.inside.work.changes

  abbrev tables : Content
  tables = record { schema = c.commit-items.new.self.live.tables.schema; rows = base_of c.commit-items.new.self; room = [] }

  abbrev entry : Entry
  entry = record { xid = c.args.xid; changes = c.of_items.result; commit = c.args.info.commit; end = c.args.info.end; inverses = c.commit-items.result.1 }

  abbrev before : Inside
  before = idle_in c.self.inside

  clear : AreAccepted before.live.tables.schema (world_in before).committed changes
  clear = subst (λ (r : Rows). AreAccepted before.live.tables.schema r changes) (rows_based c.self.inside c.self.invariant) c.self.invariant.clear

  rows : tables.rows ≡ serial before.live.tables.schema (world_in before).committed changes
  rows = ap (λ (is : List Inverse). all_back c.commit-items.new.self.live.tables.rows (map edits_of is)) c.commit-items.ensures.undone ∙ c.commit-items.ensures.rows ∙ c.self.invariant.done

  -- what the entry keeps is what the open work could be taken back with
  back : all_back (serial before.live.tables.schema (world_in before).committed changes) (map edits_of entry.inverses.inverses) ≡ (world_in before).committed
  back =
      (λ i. all_back ((sym c.self.invariant.done) i) (map edits_of (c.commit-items.ensures.log i).inverses)) ∙ rows_based c.self.inside c.self.invariant

  -- the items that go out tell them
  made : changes_of c.deref.result.now ≡ changes
  made = ap changes_of c.deref.ensures.value ∙ c.commit-items.ensures.items

  line : c.record_changes.new.kept ≡ record before.line { list = (before.line.list ++ WasOpened c.args.xid ∷ []) ++ WasCommitted c.args.xid (map (ChangeItem c.args.xid) changes) c.args.info ∷ [] }
  line = c.record_changes.ensures.kept ∙ (λ i. let half : Half LineEvent = c.grow.ensures.kept i in
      record half { list = half.list ++ WasCommitted c.args.xid (map (ChangeItem c.args.xid) (made i)) c.args.info ∷ [] })

  items : c.push_reserved.new.self.items ≡ before.journal.items ++ entry ∷ []
  items = c.push_reserved.ensures.items ∙ ap (λ (es : List Entry). es ++ entry ∷ []) c.in_ok-reserve.ensures.items

  fits : vec_len c.push_reserved.new.self ≤ vec_capacity c.push_reserved.new.self
  fits = one_fits _ _ _ _ c.push_reserved.ensures.len c.push_reserved.ensures.capacity c.in_ok-reserve.ensures.ok

  tells : entry_in entry ≡ record { xid = c.args.xid; changes = changes; commit = c.args.info.commit; end = c.args.info.end }
  tells = λ i. record { xid = c.args.xid; changes = (c.of_items.ensures ∙ c.commit-items.ensures.items) i; commit = c.args.info.commit; end = c.args.info.end }

  above : last_end (ends_of (world_in before)) < c.args.info.end
  above = subst (λ (s : Serial). last_end (ends_of s.store.world) < c.args.info.end) (sym c.self.view_is) c.requires

  -- the store's parts then: but for the tables the live part is what it was
  abbrev after : Inside
  after = with_commit (record before { live = c.commit-items.new.self.live }) tables c.push_reserved.new.self c.record_changes.new.kept

  same : after ≡ with_commit before tables c.push_reserved.new.self c.record_changes.new.kept
  same = λ i. with_commit (record before { live = c.commit-items.ensures.live i }) tables c.push_reserved.new.self c.record_changes.new.kept

  committed : (world_in after ≡ committed_by before.live.tables.schema (world_in before) c.args.xid changes c.args.info) × Represents after
  committed =
      subst (λ (s : Inside). (world_in s ≡ committed_by before.live.tables.schema (world_in before) c.args.xid changes c.args.info) × Represents s) (sym same)
      (idle_committed before c.self.invariant.idle c.self.invariant.none tables c.commit-items.ensures.schema c.self.invariant.runs c.args.xid changes c.args.info c.push_reserved.new.self c.record_changes.new.kept
      entry clear rows line items fits tells back above)

  reached : Reaches before.live.tables.schema (world_in before) (world_in after)
  reached =
      subst (Reaches before.live.tables.schema (world_in before)) (sym committed.0)
      (reaches_commit before c.self.invariant.idle c.self.invariant.none tables c.commit-items.ensures.schema c.self.invariant.runs c.args.xid changes c.args.info c.push_reserved.new.self c.record_changes.new.kept
      entry clear rows line items fits tells back above)

  -- both halves of the line are told the same
  opened_alike : c.grow.new.token ≡ c.grow.new.kept
  opened_alike =
      c.grow.ensures.token ∙ (λ i. let half : Half LineEvent = c.self.invariant.line i in record half { list = half.list ++ WasOpened c.args.xid ∷ [] }) ∙ sym c.grow.ensures.kept

  told_alike : c.record_changes.new.token ≡ c.record_changes.new.kept
  told_alike =
      c.record_changes.ensures.token ∙ (λ i. let half : Half LineEvent = opened_alike i in
      record half { list = half.list ++ WasCommitted c.args.xid (map (ChangeItem c.args.xid) (changes_of c.deref.result.now)) c.args.info ∷ [] }) ∙ sym c.record_changes.ensures.kept

pub invariant_of-self-2 : goal.invariant_of-self-2
invariant_of-self-2 c =
    let at = (goal.at.invariant_of-self-2 c).After-push_reserved in
    serially_idle _ (committed at).1 c.self.invariant.none (ap (λ (l : Live). told_stop l.stopped) c.commit-items.ensures.live ∙ c.self.invariant.runs) (told_alike at) c.commit-items.ensures.undone c.commit-items.ensures.none

pub returns-clause-commits : goal.returns-clause-commits
returns-clause-commits c =
    let at = (goal.at.returns-clause-commits c).After-push_reserved in
    (committed at).0 ∙ ap (λ (s : Serial). committed_by s.store.schema s.store.world c.args.xid s.changes c.args.info) c.self.view_is

pub returns-clause-reached : goal.returns-clause-reached
returns-clause-reached c =
    let at = (goal.at.returns-clause-reached c).After-push_reserved in
    subst (λ (s : Serial). Reaches s.store.schema s.store.world (world_in (after at))) c.self.view_is (reached at)
