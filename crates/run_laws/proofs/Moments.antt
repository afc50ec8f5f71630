-- Whatever a leader and its workers do, one after another, all transactions stay in step with the world.
use Rattle.std.proofs.Common.{◌≡◌, ◌≢◌, ℕ, List, ◌∷◌, refl, sym, subst, ◌∙◌}
use Rattle.std.specs.Prelude.{Ok}
use Rattle.model.specs.Rows.{Rows}
use Rattle.messages.specs.declared.message.Message.{Message}
use Rattle.frames.specs.declared.item.CopyItem.{CopyItem}
use Rattle.frames.specs.declared.item.CopyItem.TheVariants.{Wal, Keepalive, Done}
use Rattle.session.specs.Lawful.{Admits}
use Rattle.session.specs.State.{Way, Direct, Worker, Spooled, Committed, Setting}
use Rattle.session.specs.StreamEvents.{StreamEvent, NoEvent, TransactionOpens, ItemComes, TransactionCommits, TransactionAborts, Tells, IsCommitting}
use Rattle.run.specs.Cause.{schema_of}
use Rattle.world.specs.World.{World, starting}
use Rattle.world.specs.Steps.{opens, commits, aborts, Reaches, at_start, by_step, done_with, wanting, committed_with, aborted_with}
use Rattle.run_laws.specs.Leading.{AreInStep}
use Rattle.run_laws.specs.Runs.{CommitsNext}
use Rattle.run_laws.specs.Threads.{IsWorldOf}
use Rattle.run_laws.specs.Turns.{Moment, start_moment, IsInStep, IsUnmoved, Follows, Turn, handles, hears, passes, sends as sends_one, does as does_one, wants as wants_one, unspools as unspools_one, stops as stops_world, Turns, at_first, by_turn}
use Rattle.run_laws.proofs.Books.{is_world}
use Rattle.run_laws.proofs.Steps.{CommitsNone, nothing_told, opens_told, spools_told, gives_told, keeps_told, drops_told, forgets_told, commits_told, in_step_at, sends, does, wants, unspools, stops, start_in_step, none_commits, only_commits}

direct_streams : (way : Way) → way ≡ Direct → way ≢ Spooled
direct_streams way e = λ spooled. let no : Direct ≡ Spooled = sym e ∙ spooled in cc

worker_streams : (way : Way) → way ≡ Worker → way ≢ Spooled
worker_streams way e = λ spooled. let no : Worker ≡ Spooled = sym e ∙ spooled in cc

direct_not : Direct ≢ Spooled
direct_not = λ e. cc

worker_not : Worker ≢ Spooled
worker_not = λ e. cc

module _ (g : Setting) (rows : Rows) (a b : Moment) (are : IsInStep g rows a) where
  -- where outboxes and world are as they were
  left_in_step : IsUnmoved a b → AreInStep g rows b.state b.rest a.outboxes a.world → IsInStep g rows b
  left_in_step same is =
      subst (λ l. AreInStep g rows b.state b.rest l b.world) (sym same.outboxes)
      (subst (λ w. AreInStep g rows b.state b.rest a.outboxes w) (sym same.world) is)

  in_world : (w : World) → b.world ≡ w → AreInStep g rows b.state b.rest b.outboxes w → IsInStep g rows b
  in_world w e is = subst (λ v. AreInStep g rows b.state b.rest b.outboxes v) (sym e) is

  module _ (first last : ℕ) (payload : List ℕ) (m : Message) (rest_is : a.rest ≡ Wal first last payload ∷ b.rest) (admits : Admits g a.state payload m b.state) where
    none_of : b.state.past ≡ a.state.past → CommitsNone g a.state a.rest
    none_of past =
        subst (CommitsNone g a.state) (sym rest_is) (none_commits g a.state b.state first last payload b.rest m admits past)

    only_one : (c : Committed) → IsCommitting a.state b.state c → (xid : ℕ) → CommitsNext g a.state a.rest xid → xid ≡ c.xid
    only_one c told xid next =
        only_commits g a.state b.state first last payload b.rest m admits c told xid
        (subst (λ rest. CommitsNext g a.state rest xid) rest_is next)

    -- a message
    follows : (told : StreamEvent) → Tells a.state b.state told → Follows g a b told → IsInStep g rows b
    follows NoEvent tells same =
        left_in_step same (nothing_told g rows a.state b.state a.rest b.rest a.outboxes a.world are (none_of tells.past) tells)
    follows (TransactionOpens xid Direct) tells both =
        opens_told g rows a.state b.state a.rest b.rest a.outboxes a.world are (none_of tells.past) xid Direct b.outboxes b.world tells direct_not both.call both.outbox
    follows (TransactionOpens xid Worker) tells both =
        opens_told g rows a.state b.state a.rest b.rest a.outboxes a.world are (none_of tells.past) xid Worker b.outboxes b.world tells worker_not both.call both.outbox
    follows (TransactionOpens xid Spooled) tells same =
        left_in_step same (spools_told g rows a.state b.state a.rest b.rest a.outboxes a.world are (none_of tells.past) xid tells)
    follows (ItemComes xid Direct item size) tells queued =
        in_world a.world queued.world
        (gives_told g rows a.state b.state a.rest b.rest a.outboxes a.world are (none_of tells.2.past) xid item size tells.0 queued.outbox b.outboxes tells.2 (direct_streams tells.0.way tells.1) queued.was queued.now)
    follows (ItemComes xid Worker item size) tells queued =
        in_world a.world queued.world
        (gives_told g rows a.state b.state a.rest b.rest a.outboxes a.world are (none_of tells.2.past) xid item size tells.0 queued.outbox b.outboxes tells.2 (worker_streams tells.0.way tells.1) queued.was queued.now)
    follows (ItemComes xid Spooled item size) tells same =
        left_in_step same (keeps_told g rows a.state b.state a.rest b.rest a.outboxes a.world are (none_of tells.2.past) xid item size tells.0 tells.2 tells.1)
    follows (TransactionCommits c) tells done =
        in_world (committed_with (schema_of g) a.world c.xid done.0 c.info) done.4
        (commits_told g rows a.state b.state a.rest b.rest a.outboxes b.outboxes a.world c done.0 are tells (only_one c tells) done.1 done.2 done.3)
    follows (TransactionAborts xid Direct) tells both =
        in_world (aborted_with a.world xid) both.world
        (drops_told g rows a.state b.state a.rest b.rest a.outboxes a.world are (none_of tells.2.past) xid tells.0 both.done b.outboxes tells.2 both.present both.outbox)
    follows (TransactionAborts xid Worker) tells both =
        in_world (aborted_with a.world xid) both.world
        (drops_told g rows a.state b.state a.rest b.rest a.outboxes a.world are (none_of tells.2.past) xid tells.0 both.done b.outboxes tells.2 both.present both.outbox)
    follows (TransactionAborts xid Spooled) tells same =
        left_in_step same (forgets_told g rows a.state b.state a.rest b.rest a.outboxes a.world are (none_of tells.2.past) xid tells.0 tells.2 tells.1)

-- an item without a message
without_message : (g : Setting) (rows : Rows) (a : Moment) (item : CopyItem) (rest : List CopyItem) → CommitsNone g a.state (item ∷ rest)
    → a.rest ≡ item ∷ rest → IsInStep g rows a → IsInStep g rows (record a { rest = rest })
without_message g rows a item rest none is are =
    nothing_told g rows a.state a.state a.rest rest a.outboxes a.world are (subst (CommitsNone g a.state) (sym is) none)
    (record { transactions = refl; position = refl; past = refl })

pub turn_in_step : (g : Setting) (rows : Rows) (a b : Moment) → IsInStep g rows a → Turn g a b → IsInStep g rows b
turn_in_step g rows a _ are (handles b first last payload m told rest_is admits tells followed) =
    follows g rows a b are first last payload m rest_is admits told tells followed
turn_in_step g rows a _ are (hears last reply rest is) =
    without_message g rows a (Keepalive last reply) rest (λ xid next. next) is are
turn_in_step g rows a _ are (passes rest is) = without_message g rows a Done rest (λ xid next. next) is are
turn_in_step g rows a _ are (sends_one xid o outbox done i queued after at first now) =
    sends g rows a.state a.rest a.outboxes a.world are xid o at.present outbox done i queued after
    (in_step_at g rows a.state a.rest a.outboxes a.world are xid o outbox done at.present at.served at.opened) at.opened first now
turn_in_step g rows a _ are (does_one xid o outbox done i left at next call) =
    does g rows a.state a.rest a.outboxes a.world are xid o at.present outbox done i left
    (in_step_at g rows a.state a.rest a.outboxes a.world are xid o outbox done at.present at.served at.opened) at.served next call
turn_in_step g rows a _ are (wants_one xid o outbox done sub c left stopped at next call) =
    wants g rows a.state a.rest a.outboxes a.world are xid o at.present outbox done sub c left stopped
    (in_step_at g rows a.state a.rest a.outboxes a.world are xid o outbox done at.present at.served at.opened) at.served next call
turn_in_step g rows a _ are (unspools_one xid o work after new at spooled is call outbox) =
    unspools g rows a.state a.rest a.outboxes a.world are xid o at work after new is call outbox
turn_in_step g rows a _ are (stops_world stopped call) =
    stops g rows a.state a.rest a.outboxes a.world stopped are call

-- ---- each of these is a call in the world, or alters nothing there

module _ (g : Setting) (rows : Rows) where
  abbrev AreCalls : World → Type 0
  AreCalls w = Reaches (schema_of g) (starting rows) w

  follows_calls : (a b : Moment) (told : StreamEvent) → AreCalls a.world → Follows g a b told → AreCalls b.world
  follows_calls a b NoEvent before same = subst AreCalls (sym same.world) before
  follows_calls a b (TransactionOpens xid Direct) before both =
      by_step a.world b.world before (opens xid (Ok tt) b.world both.call)
  follows_calls a b (TransactionOpens xid Worker) before both =
      by_step a.world b.world before (opens xid (Ok tt) b.world both.call)
  follows_calls a b (TransactionOpens xid Spooled) before same = subst AreCalls (sym same.world) before
  follows_calls a b (ItemComes xid Direct item size) before queued = subst AreCalls (sym queued.world) before
  follows_calls a b (ItemComes xid Worker item size) before queued = subst AreCalls (sym queued.world) before
  follows_calls a b (ItemComes xid Spooled item size) before same = subst AreCalls (sym same.world) before
  follows_calls a b (TransactionCommits c) before done =
      let new = committed_with (schema_of g) a.world c.xid done.0 c.info in
      subst AreCalls (sym done.4) (by_step a.world new before (commits c.xid done.0 c.info new done.1 refl))
  follows_calls a b (TransactionAborts xid Direct) before both =
      let new = aborted_with a.world xid in
      subst AreCalls (sym both.world) (by_step a.world new before (aborts xid both.done new both.present refl))
  follows_calls a b (TransactionAborts xid Worker) before both =
      let new = aborted_with a.world xid in
      subst AreCalls (sym both.world) (by_step a.world new before (aborts xid both.done new both.present refl))
  follows_calls a b (TransactionAborts xid Spooled) before same = subst AreCalls (sym same.world) before

  turn_calls : (a b : Moment) → AreCalls a.world → Turn g a b → AreCalls b.world
  turn_calls a _ before (handles b first last payload m told rest_is admits tells followed) =
      follows_calls a b told before followed
  turn_calls a _ before (hears last reply rest is) = before
  turn_calls a _ before (passes rest is) = before
  turn_calls a _ before (sends_one xid o outbox done i queued after at first now) = before
  turn_calls a _ before (does_one xid o outbox done i left at next call) =
      by_step a.world (done_with a.world xid done i) before call
  turn_calls a _ before (wants_one xid o outbox done sub c left stopped at next call) =
      by_step a.world (record (wanting a.world xid done sub c) { stopped = stopped }) before call
  turn_calls a _ before (unspools_one xid o work after new at spooled is call outbox) =
      by_step a.world new before (opens xid (Ok tt) new call)
  turn_calls a _ before (stops_world stopped call) = by_step a.world (record a.world { stopped = stopped }) before call

  turns_calls : (items : List CopyItem) (b : Moment) → Turns g (start_moment rows items) b → AreCalls b.world
  turns_calls items _ at_first = at_start
  turns_calls items _ (by_turn a b before turn) = turn_calls a b (turns_calls items a before) turn

-- ---- such things one after another

pub turns_in_step : (g : Setting) (rows : Rows) (items : List CopyItem) (b : Moment) → Turns g (start_moment rows items) b
    → IsInStep g rows b
turns_in_step g rows items _ at_first = start_in_step g rows items
turns_in_step g rows items _ (by_turn a b before turn) = turn_in_step g rows a b (turns_in_step g rows items a before) turn

pub each_moment : (g : Setting) (rows : Rows) (items : List CopyItem) (a : Moment) → Turns g (start_moment rows items) a
    → IsInStep g rows a × IsWorldOf g rows a.state a.rest a.world
    × ∥ Reaches (schema_of g) (starting rows) a.world ∥₁
each_moment g rows items a turns =
    let are = turns_in_step g rows items a turns in
    (are, is_world g rows a.state a.rest a.outboxes a.world are, ∣ turns_calls g rows items a turns ∣₁)
