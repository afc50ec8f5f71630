use Rattle.std.proofs.Common.{ap, length, sym, ◌∙◌, refl, List}
use Rattle.model.specs.Rows.{Schema}
use Rattle.std.specs.FinMap as finite
use Rattle.tokens.specs.Half.{Half}
use Rattle.tokens.specs.Lists.{OpenList}
use Rattle.world.specs.World.{World}
use Rattle.live_tables.specs.Answers.{told_call}
use Rattle.engine.specs.declared.events.Event.{Event}
use Rattle.engine.specs.declared.events.LineEvent.{LineEvent}
use Rattle.engine.specs.declared.events.LineEvent.TheVariants.{Opened as WasOpened, Aborted as WasAborted}
use Rattle.model.specs.Beginning.{last_end}
use Rattle.engine.specs.Events.{ends_in}
use Rattle.engine.specs.EventLemmas.{last_same}
use Rattle.store_tests.proofs.Scenes.{belong_put, know_put, belong_again, know_again, opens_alike}
use Rattle.store_tests.proofs.tests.tables.stores.scene.Scene.open.Goals as goal

pub invariant_of-self-in-Ok-keep : goal.invariant_of-self-in-Ok-keep
invariant_of-self-in-Ok-keep c =
    let old = c.args.self.now in
    let given = c.in-Ok.ensures in
    let ticket = c.in-Ok.ticket in
    record {
      keeps = record {
        counted = ap (λ (s : Schema). length s) given.same.schema ∙ old.keeps.counted;
        lined = ap (λ (l : Half LineEvent). l.name) given.line;
        ended = ap (λ (events : List LineEvent). last_end (ends_in events)) given.ok ∙ last_same old.line.list (WasOpened c.args.xid) refl ∙ old.keeps.ended;
        belong = belong_put old.tickets c.keep.new.tickets old.store.tickets c.open.new.self.tickets c.args.xid ticket old.keeps.belong given.same.tickets c.in-Ok-keep.ensures.ok
            (ap (λ (t : OpenList Event). t.name) given.ticket ∙ sym given.same.tickets) (ap (λ (t : OpenList Event). t.number) given.ticket);
        known = know_put old.tickets c.keep.new.tickets old.store.world.opened c.open.new.self.world.opened c.args.xid ticket old.keeps.known c.in-Ok-keep.ensures.ok
            (opens_alike old.store.world c.args.xid (told_call c.open.result) c.open.new.self.world c.open.ensures.opens);
      };
    }

pub invariant_of-self-in-Err-keep : goal.invariant_of-self-in-Err-keep
invariant_of-self-in-Err-keep c =
    let old = c.args.self.now in
    let given = c.in-Ok.ensures in
    let gone = c.abort.ensures in
    let number = ap (λ (t : OpenList Event). t.number) (c.in-Err-keep.ensures.err ∙ given.ticket) in
    record {
      keeps = record {
        counted = ap (λ (s : Schema). length s) (gone.same.schema ∙ given.same.schema) ∙ old.keeps.counted;
        lined = ap (λ (l : Half LineEvent). l.name) gone.line_told;
        ended = ap (λ (events : List LineEvent). last_end (ends_in events)) gone.appended ∙ last_same c.open.new.line.list (WasAborted c.in-Err-keep.ticket.number) refl
            ∙ ap (λ (events : List LineEvent). last_end (ends_in events)) given.ok ∙ last_same old.line.list (WasOpened c.args.xid) refl ∙ old.keeps.ended;
        belong = belong_again old.tickets c.keep.new.tickets old.store.tickets c.abort.new.self.tickets old.keeps.belong (gone.same.tickets ∙ given.same.tickets)
            c.in-Err-keep.ensures.unchanged;
        known = know_again old.tickets c.keep.new.tickets old.store.world.opened c.open.new.self.world.opened c.abort.new.self.world.opened c.args.xid old.keeps.known
            c.in-Err-keep.ensures.unchanged
            (opens_alike old.store.world c.args.xid (told_call c.open.result) c.open.new.self.world c.open.ensures.opens)
            (ap (λ (w : World). w.opened) gone.aborts ∙ ap (finite.remove c.open.new.self.world.opened) number);
      };
    }
