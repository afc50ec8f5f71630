use Rattle.std.proofs.Common.{◌≡◌, ◌+◌, ◌++◌, ◌∷◌, [], ℕ, rules, refl, sym, ap, subst, ◌∙◌}
use Rattle.std.specs.Prelude.{Result, Ok, Err}
use Rattle.std.specs.Result.{IsErrAnd}
use Rattle.tokens.specs.Half.{Half}
use Rattle.world.specs.World.{World}
use Rattle.world.specs.Steps.{Opens}
use Rattle.live_tables.specs.declared.answers.EngineFault.{EngineFault}
use Rattle.live_tables.specs.declared.answers.EngineFault.TheVariants.{OutOfMemory as NoMemory}
use Rattle.live_tables.specs.Answers.{told_call, after_open}
use Rattle.engine.specs.declared.events.LineEvent.{LineEvent}
use Rattle.engine.specs.declared.events.LineEvent.TheVariants.{Opened as WasOpened}
use Rattle.engine.specs.Events.{is_open_in}
use Rattle.parted_store.specs.Journal.{JournalPart}
use Rattle.parted_store.specs.JournalLemmas.{journal_opens, journal_refuses, journal_opened}
use Rattle.parted_store.specs.KeptLemmas.{keeps_opened, keeps_room}
use Rattle.parted_store.specs.Lent.{OpenTicket, HasJournal}
use Rattle.parted_store.specs.Opening.{CanOpen}
use Rattle.parted_store.proofs.journal.Journal.open.Goals as goal

-- by what the type keeps, it isn't among those that are open
pub admit-requires : goal.admit-requires
admit-requires c =
    c.self.invariant.opened c.args.xid ∙ ap (λ (j : JournalPart). is_open_in j.line.list c.args.xid) c.self.view_is ∙ c.in_ok-can_open.ensures.ok.absent

-- a call that memory was refused leaves the world
no_memory : {X : Type 0} (w : World) (j : JournalPart) → HasJournal w j → (xid : ℕ) → CanOpen j xid → (r : Result X EngineFault)
    → IsErrAnd r (λ fault. fault ≡ NoMemory) → Opens w xid (told_call r) (after_open w xid (told_call r))
no_memory w j has xid can (Ok x) is = absurd is
no_memory {X = X} w j has xid can (Err fault) is =
    let ready = journal_opens w j has xid can in
    subst (λ (f : EngineFault). Opens w xid (told_call {X = X} (Err f)) (after_open w xid (told_call {X = X} (Err f)))) (sym is) (ready.0, ready.1, ready.2, refl)

-- ---- it may not open

pub returns-in_err-can_open-clause-opens : goal.returns-in_err-can_open-clause-opens
returns-in_err-can_open-clause-opens c = λ w has.
    let same : c.from_residual.result ≡ Err c.in_err-can_open.field-0.0 = search rules in
    subst (λ (r : Result OpenTicket EngineFault). Opens w c.args.xid (told_call r) (after_open w c.args.xid (told_call r))) (sym same)
    (journal_refuses w c.args.self.now has c.args.xid c.in_err-can_open.field-0.0 c.in_err-can_open.ensures.err)

-- ---- memory was refused

pub returns-in_err-ticket-clause-opens : goal.returns-in_err-ticket-clause-opens
returns-in_err-ticket-clause-opens c = λ w has.
    no_memory w c.args.self.now has c.args.xid c.in_ok-can_open.ensures.ok c.from_residual-in_err-ticket.result c.from_residual-in_err-ticket.ensures.1

pub returns-in_err-admit-clause-opens : goal.returns-in_err-admit-clause-opens
returns-in_err-admit-clause-opens c = λ w has.
    no_memory w c.args.self.now has c.args.xid c.in_ok-can_open.ensures.ok c.from_residual-in_err-admit.result c.from_residual-in_err-admit.ensures.1

pub invariant_of-self : goal.invariant_of-self
invariant_of-self c =
    keeps_room c.self.inside _ c.self.invariant c.admit.ensures.items c.admit.ensures.len c.admit.ensures.capacity c.in_err-admit.ensures.err refl refl

-- ---- it opens

pub invariant_of-self-2 : goal.invariant_of-self-2
invariant_of-self-2 c =
    keeps_opened c.self.inside _ c.self.invariant c.args.xid c.admit.ensures.items c.in_ok-admit.ensures.room c.in_ok-admit.ensures.updates c.in_ok-admit.ensures.count
    (ap (λ (h : Half LineEvent). h.list) c.grow.ensures.kept) c.self.invariant.caused

pub returns-clause-opens : goal.returns-clause-opens
returns-clause-opens c = λ w has.
    let ready = journal_opens w c.args.self.now has c.args.xid c.in_ok-can_open.ensures.ok in
    (ready.0, ready.1, ready.2, refl)

pub returns-clause-journal : goal.returns-clause-journal
returns-clause-journal c = λ w has.
    journal_opened w c.args.self.now has _ c.args.xid (journal_opens w c.args.self.now has c.args.xid c.in_ok-can_open.ensures.ok).1
    (ap (λ (h : Half LineEvent). h.list) c.grow.ensures.kept ∙ ap (λ (j : JournalPart). j.line.list ++ WasOpened c.args.xid ∷ []) c.self.view_is)
    (ap (λ (j : JournalPart). j.stopped) c.self.view_is)
    (c.in_ok-admit.ensures.count ∙ ap (λ (j : JournalPart). j.open_count + 1) c.self.view_is)
