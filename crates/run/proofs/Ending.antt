-- How a message or an item ends a run.
use Rattle.std.proofs.Common.{◌≡◌, ℕ, List, ◌++◌, refl, sym, ap, subst, inl, inr}
use Rattle.std.specs.Prelude.{Result, Ok, Err, IsErrAnd, map}
use Rattle.model.specs.Rows.{Rows, Schema}
use Rattle.model.specs.declared.change.Change.{Change}
use Rattle.change.specs.declared.outcome.Clash.{Clash}
use Rattle.change.specs.declared.outcome.Clash.TheVariants as clashes
use Rattle.model.specs.declared.item.Item.{Item}
use Rattle.model.specs.Survivors.{changes_of}
use Rattle.messages.specs.declared.message.Message.{Message}
use Rattle.session.specs.declared.fault.Refused.{Refused}
use Rattle.session.specs.declared.fault.Refused.TheVariants as refusals
use Rattle.session.specs.State.{State, Setting}
use Rattle.session.specs.Lawful.{Admits, Refuses}
use Rattle.run.specs.declared.applier.Applier.{Applier}
use Rattle.run.specs.declared.end.End.{End}
use Rattle.run.specs.declared.end.End.TheVariants as ends
use Rattle.engine.specs.FirstClash.{ClashesIn}
use Rattle.model.specs.Accepted.{AreAccepted}
use Rattle.model.specs.SerialLemmas.{accepted_first}
use Rattle.engine.specs.FirstClashLemmas.{ClashesIn-behind}
use Rattle.engine.specs.Serial.{rows_now}
use Rattle.run.specs.Commits.{entry_of_commit, changes_of_entries, committed_changes, begun_changes, all_changes}
use Rattle.run.specs.Progress.{Progress}
use Rattle.run.specs.Ends.{end_of_refusal, end_of_clash}
use Rattle.run.specs.Cause.{schema_of}
use Rattle.run.specs.Applier.{HasCommits, Represents, EndsByMessage, TakesMessage}
use Rattle.run.proofs.Admitted.{not_committed}
use Rattle.run.proofs.Taking.{rows_at, GoesOn, done_more, commits_one, HasCommits-kept, IsCommitted, done_is}

-- what is kept of the commits stays
pub record StaysKept (a b : Applier) : Type 0 where
  pub store : b.work.store ≡ a.work.store
  pub position : b.position ≡ a.position

stays : (g : Setting) (rows : Rows) (a b : Applier) (s t : State) → HasCommits g rows a s → t.past ≡ s.past → StaysKept a b → HasCommits g rows b t
stays g rows a b s t has past same = HasCommits-kept g rows a b s t has past same.store same.position

-- ---- an error that is passed on

pub ends_with : (g : Setting) (rows : Rows) (b : Applier) (p : Progress) (payload : List ℕ) (result : Result _ End) (end : End) → IsErrAnd result (λ e. e ≡ end) → EndsByMessage g rows b p payload end → TakesMessage g rows b p payload result
ends_with g rows b p payload (Ok x) end is ends = absurd is
ends_with g rows b p payload (Err e) end is ends = subst (EndsByMessage g rows b p payload) (sym is) ends

-- ---- the session refuses a message

pub turned_away : (g : Setting) (rows : Rows) (a b : Applier) (p : Progress) (payload : List ℕ) (r : Refused) → Represents g rows a p → StaysKept a b → Refuses g p.state payload r → EndsByMessage g rows b p payload (end_of_refusal r)
turned_away g rows a b p payload (refusals.Msg f) at same why = inl (stays g rows a b p.state p.state at.commits refl same, λ first last more. why)
turned_away g rows a b p payload (refusals.Session f) at same why = inl (stays g rows a b p.state p.state at.commits refl same, λ first last more. why)
turned_away g rows a b p payload (refusals.Rel f) at same why = inl (stays g rows a b p.state p.state at.commits refl same, λ first last more. why)
turned_away g rows a b p payload refusals.OutOfMemory at same why = inl (stays g rows a b p.state p.state at.commits refl same, λ first last more. tt)

pub out_of_memory : (g : Setting) (rows : Rows) (a b : Applier) (p : Progress) (payload : List ℕ) → Represents g rows a p → StaysKept a b → EndsByMessage g rows b p payload ends.OutOfMemory
out_of_memory g rows a b p payload at same = inl (stays g rows a b p.state p.state at.commits refl same, λ first last more. tt)

-- ---- a change clashes

-- none of the changes of the commits clashed, nor do they once a message was taken that commits nothing
committed_clear : (g : Setting) (rows : Rows) (a : Applier) (p : Progress) (t : State) → Represents g rows a p → t.past ≡ p.state.past → AreAccepted (schema_of g) rows (committed_changes t)
committed_clear g rows a p t at same =
    subst (AreAccepted (schema_of g) rows) (ap (λ past. changes_of_entries (map entry_of_commit past)) (sym same))
    (accepted_first (schema_of g) rows (committed_changes p.state) (begun_changes p.state) at.clear)

-- changes that were refused on the rows now are refused behind all that was done
refused_behind : (g : Setting) (rows : Rows) (a : Applier) (p : Progress) (cs : List Change) (clash : Clash) → Represents g rows a p → ClashesIn a.work.store.schema (rows_now a.work) cs clash → ClashesIn (schema_of g) rows (all_changes p.state ++ cs) clash
refused_behind g rows a p cs clash at refused =
    let here = subst (λ (sch : Schema). ClashesIn sch (rows_now a.work) cs clash) at.commits.schema refused in
    ClashesIn-behind (schema_of g) rows (all_changes p.state) cs clash at.clear (subst (λ (r : Rows). ClashesIn (schema_of g) r cs clash) (rows_at g rows a p at) here)

-- one that came directly: its message was taken
pub clashed_on : (g : Setting) (rows : Rows) (a b : Applier) (p : Progress) (payload : List ℕ) (m : Message) (t : State) (cs : List Change) (clash : Clash) → Represents g rows a p → Admits g p.state payload m t → GoesOn g p.state t cs → StaysKept a b
    → ClashesIn a.work.store.schema (rows_now a.work) cs clash → EndsByMessage g rows b p payload (end_of_clash clash)
clashed_on g rows a b p payload m t cs clashes.OutOfMemory at admits on same refused = out_of_memory g rows a b p payload at same
clashed_on g rows a b p payload m t cs (clashes.Unique table key) at admits on same refused =
    inr (
      m,
      t,
      admits,
      not_committed p.state t on.past,
      stays g rows a b p.state t at.commits on.past same,
      committed_clear g rows a p t at on.past,
      subst (λ cs'. ClashesIn (schema_of g) rows cs' (clashes.Unique table key)) (sym (done_more g p.state t cs on)) (refused_behind g rows a p cs (clashes.Unique table key) at refused),
    )
clashed_on g rows a b p payload m t cs (clashes.NullKey table) at admits on same refused =
    inr (
      m,
      t,
      admits,
      not_committed p.state t on.past,
      stays g rows a b p.state t at.commits on.past same,
      committed_clear g rows a p t at on.past,
      subst (λ cs'. ClashesIn (schema_of g) rows cs' (clashes.NullKey table)) (sym (done_more g p.state t cs on)) (refused_behind g rows a p cs (clashes.NullKey table) at refused),
    )

-- one of a transaction that the message commits: the message is left
pub clashed_at_commit : (g : Setting) (rows : Rows) (a b : Applier) (p : Progress) (payload : List ℕ) (m : Message) (t : State) (xid commit end : ℕ) (items : List Item) (clash : Clash) → Represents g rows a p → Admits g p.state payload m t → IsCommitted g p.state t xid commit end items → StaysKept a b
    → ClashesIn a.work.store.schema (rows_now a.work) (changes_of items) clash → EndsByMessage g rows b p payload (end_of_clash clash)
clashed_at_commit g rows a b p payload m t xid commit end items clashes.OutOfMemory at admits is same refused = out_of_memory g rows a b p payload at same
clashed_at_commit g rows a b p payload m t xid commit end items (clashes.Unique table key) at admits is same refused =
    inl (
      stays g rows a b p.state p.state at.commits refl same,
      λ first last more.
          (m, t, admits, commits_one g p.state t xid commit end items is, subst (λ cs'. ClashesIn (schema_of g) rows cs' (clashes.Unique table key)) (sym (done_is g p.state t xid commit end items is)) (refused_behind g rows a p (changes_of items) (clashes.Unique table key) at refused)),
    )
clashed_at_commit g rows a b p payload m t xid commit end items (clashes.NullKey table) at admits is same refused =
    inl (
      stays g rows a b p.state p.state at.commits refl same,
      λ first last more.
          (m, t, admits, commits_one g p.state t xid commit end items is, subst (λ cs'. ClashesIn (schema_of g) rows cs' (clashes.NullKey table)) (sym (done_is g p.state t xid commit end items is)) (refused_behind g rows a p (changes_of items) (clashes.NullKey table) at refused)),
    )
