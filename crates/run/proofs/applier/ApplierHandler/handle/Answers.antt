use Rattle.std.proofs.Common.{ℕ, refl, sym, subst, false}
use Rattle.frames.specs.declared.item.CopyItem.TheVariants.{Wal, Keepalive, Done}
use Rattle.run.specs.declared.applier.Applier.{Applier}
use Rattle.run.specs.Handler.{HandlesItem, HasHandled}
use Rattle.run.specs.Applier.{Represents, HasEnded}
use Rattle.run.specs.Progress.{seen_with}
use Rattle.run.proofs.Admitted.{with_seen, done_handled}
use Rattle.run.proofs.Handling.{IsSameBut, Represents-item, handled_wal, handled_keepalive}
use Rattle.run.proofs.applier.ApplierHandler.handle.Goals as goal

-- with another greatest position
abbrev seen_to : Applier → ℕ → Applier
seen_to a written = record a { written = written }

same : (a : Applier) (written : ℕ) → IsSameBut a (seen_to a written)
same a written = record { catalog = refl; session = refl; work = refl; position = refl }

pub take_message-requires : goal.take_message-requires
take_message-requires c =
    let p = c.requires.3 in (
      c.requires.0,
      c.requires.1,
      with_seen p (seen_with p.seen c.args.item),
      Represents-item c.requires.0 c.requires.1 c.args.self.now _ p c.args.item c.args.item refl c.requires.5 (same c.args.self.now _) c.written_with-self.ensures,
    )

pub returns-in-Wal : goal.returns-in-Wal
returns-in-Wal c = λ g rows handled p lawful at.
    let item = Wal c.in-Wal.start c.in-Wal.end c.in-Wal.payload in
    subst (λ i. HandlesItem g (Represents g rows) (HasEnded g rows) c.take_message.new.self handled p i c.take_message.result) (sym c.in-Wal.is)
    (handled_wal g rows c.take_message.new.self handled p c.in-Wal.start c.in-Wal.end c.in-Wal.payload c.take_message.result lawful at.clear
    (c.take_message.ensures g rows (with_seen p (seen_with p.seen item))
    (Represents-item g rows c.args.self.now _ p c.args.item item c.in-Wal.is at (same c.args.self.now _) c.written_with-self.ensures)))

pub returns-in-Keepalive : goal.returns-in-Keepalive
returns-in-Keepalive c = λ g rows handled p lawful at.
    let b = seen_to c.args.self.now c.written_with-self.result in
    let item = Keepalive c.in-Keepalive.end c.in-Keepalive.reply in
    subst (λ i. HasHandled g (Represents g rows) (HasEnded g rows) b p i c.in-Keepalive.reply) (sym c.in-Keepalive.is)
    (handled_keepalive g rows b p c.in-Keepalive.end c.in-Keepalive.reply
    (Represents-item g rows c.args.self.now b p c.args.item item c.in-Keepalive.is at (same c.args.self.now c.written_with-self.result) c.written_with-self.ensures))

pub returns-in-Done : goal.returns-in-Done
returns-in-Done c = λ g rows handled p lawful at.
    let b = seen_to c.args.self.now c.written_with-self.result in
    subst (λ i. HasHandled g (Represents g rows) (HasEnded g rows) b p i false) (sym c.in-Done.is)
    (done_handled g (Represents g rows) b p (HasEnded g rows)
    (Represents-item g rows c.args.self.now b p c.args.item Done c.in-Done.is at (same c.args.self.now c.written_with-self.result) c.written_with-self.ensures))
