use Rattle.std.proofs.Common.{List, refl, sym, subst, false}
use Rattle.frames.specs.declared.item.CopyItem.{CopyItem}
use Rattle.frames.specs.declared.item.CopyItem.TheVariants.{Wal, Keepalive, Done}
use Rattle.run.specs.declared.end.End.{End}
use Rattle.run.specs.Handler.{HandlesItem, HasHandled}
use Rattle.run.specs.Progress.{Progress, seen_with}
use Rattle.leader.specs.declared.lead.Lead.{Lead}
use Rattle.leader.specs.Threads.{led, Represents, HasLedTo}
use Rattle.run.proofs.Admitted.{with_seen, done_handled}
use Rattle.leader.proofs.Leading.{seen_stream, handled_led_wal, handled_led_keepalive}
use Rattle.leader.proofs.lead.LeadHandler.handle.Goals as goal

pub take_message-requires : goal.take_message-requires
take_message-requires g c =
    let p = c.requires.3 in (
      c.requires.0,
      c.requires.1,
      with_seen p (seen_with p.seen c.args.item),
      seen_stream c.requires.0 c.requires.1 c.args.self.now.stream c.see.new.self c.args.self.now.transactions p c.args.item c.args.item refl c.requires.5 c.see.ensures,
    )

pub returns-in-Wal : goal.returns-in-Wal
returns-in-Wal g c = λ s rows handled p lawful at.
    let item = Wal c.in-Wal.start c.in-Wal.end c.in-Wal.payload in
    subst
    (λ i. HandlesItem s (λ (l : Lead g.row.N.Denot g.row.L.Denot g.row.R.Denot g.row.G.Denot) q. Represents s rows (led l.stream l.transactions) q) (λ l done q rest end. HasLedTo s rows (led l.stream l.transactions) done q rest end)
    c.take_message.new.self handled p i c.take_message.result) (sym c.in-Wal.is)
    (handled_led_wal (λ (l : Lead g.row.N.Denot g.row.L.Denot g.row.R.Denot g.row.G.Denot). led l.stream l.transactions) s rows c.take_message.new.self handled p c.in-Wal.start c.in-Wal.end c.in-Wal.payload c.take_message.result
    (c.take_message.ensures s rows (with_seen p (seen_with p.seen item))
    (seen_stream s rows c.args.self.now.stream c.see.new.self c.args.self.now.transactions p c.args.item item c.in-Wal.is at c.see.ensures)))

pub returns-in-Keepalive : goal.returns-in-Keepalive
returns-in-Keepalive g c = λ s rows handled p lawful at.
    let item = Keepalive c.in-Keepalive.end c.in-Keepalive.reply in
    let h : Lead g.row.N.Denot g.row.L.Denot g.row.R.Denot g.row.G.Denot = record { stream = c.see.new.self; transactions = c.args.self.now.transactions } in
    subst
    (λ i. HasHandled s (λ (l : Lead g.row.N.Denot g.row.L.Denot g.row.R.Denot g.row.G.Denot) q. Represents s rows (led l.stream l.transactions) q) (λ l done q rest end. HasLedTo s rows (led l.stream l.transactions) done q rest end) h p i c.in-Keepalive.reply)
    (sym c.in-Keepalive.is)
    (handled_led_keepalive (λ (l : Lead g.row.N.Denot g.row.L.Denot g.row.R.Denot g.row.G.Denot). led l.stream l.transactions) s rows h p c.in-Keepalive.end c.in-Keepalive.reply
    (seen_stream s rows c.args.self.now.stream c.see.new.self c.args.self.now.transactions p c.args.item item c.in-Keepalive.is at c.see.ensures))

pub returns-in-Done : goal.returns-in-Done
returns-in-Done g c = λ s rows handled p lawful at.
    let h : Lead g.row.N.Denot g.row.L.Denot g.row.R.Denot g.row.G.Denot = record { stream = c.see.new.self; transactions = c.args.self.now.transactions } in
    let At : Lead g.row.N.Denot g.row.L.Denot g.row.R.Denot g.row.G.Denot → Progress → Type 0 = λ l q. Represents s rows (led l.stream l.transactions) q in
    let Ended : Lead g.row.N.Denot g.row.L.Denot g.row.R.Denot g.row.G.Denot → List CopyItem → Progress → List CopyItem → End → Type 0 = λ l done q rest end. HasLedTo s rows (led l.stream l.transactions) done q rest end in
    subst (λ i. HasHandled s At Ended h p i false) (sym c.in-Done.is)
    (done_handled s At h p Ended (seen_stream s rows c.args.self.now.stream c.see.new.self c.args.self.now.transactions p c.args.item Done c.in-Done.is at c.see.ensures))
