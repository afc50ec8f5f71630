use Rattle.std.proofs.Common.{◌≡◌, false, List, [], ◌∷◌, sym, ap, subst, ◌∙◌}
use Rattle.std.specs.Prelude.{All, map}
use Rattle.std.proofs.lemmas.List.{map-append}
use Rattle.std.proofs.lemmas.List.Elements.{All-push}
use Rattle.engine.specs.declared.events.LineEvent.{LineEvent}
use Rattle.engine.specs.Events.{commits_in, is_open_in}
use Rattle.dispatch.specs.Standing.{Own, own_by}
use Rattle.leader.proofs.Deciding.{aborted_line, closed_here, gone_still}
use Rattle.leader.proofs.ending.undo_all.Goals as goal

-- one more is closed by the line, and the others stay so
pub loop-ticket-preserved : goal.loop-ticket-preserved
loop-ticket-preserved g c =
    let came = c.loop-ticket.invariant in
    let line = c.loop-ticket.line.list in
    let ticket = c.in-Some.ticket in
    let others = map own_by c.loop-ticket.yielded in
    let Gone : List LineEvent → Own → Type 0 = λ events h. is_open_in events h.xid ≡ false in
    let gone = subst (λ events. All (Gone events) others) (sym c.abort.ensures.appended) (gone_still line ticket.number others came.gone) in
    let here = ap (λ events. is_open_in events ticket.number) c.abort.ensures.appended ∙ closed_here line ticket.number in record {
      can_next = came.can_next;
      is_finite = came.is_finite;
      name = c.abort.ensures.name;
      commits = ap commits_in c.abort.ensures.appended ∙ aborted_line line ticket.number ∙ came.commits;
      gone = subst (All (Gone c.abort.new.line.list)) (sym (map-append own_by c.loop-ticket.yielded (ticket ∷ []))) (All-push (Gone c.abort.new.line.list) others (own_by ticket) gone here);
    }
