use Rattle.std.proofs.Common.{◌≡◌, ◌∷◌, ◌++◌, Option, [], sym, ap, ◌∙◌, arith}
use Rattle.std.specs.Prelude.{map, option_map}
use Rattle.std.proofs.lemmas.Grind.{common_steps}
use Rattle.std.proofs.lemmas.List.{map-append}
use Rattle.std.proofs.lemmas.List.Elements.{All-push}
use Rattle.dispatch.specs.Standing.{Own, own_by}
use Rattle.leader.specs.Ending.{Hand, held_in}
use Rattle.leader.proofs.Deciding.{held_more}
use Rattle.leader.proofs.ending.take_tickets.Goals as goal

-- with one slot more the hand is longer by it
pub loop-slot-preserved : goal.loop-slot-preserved
loop-slot-preserved g c =
    let came = c.loop-slot.invariant in
    let slots = map g.S.Slot.holds c.loop-slot.yielded in
    let hand = option_map own_by c.args.own ∷ slots in
    let slot = option_map own_by c.into_ticket.result in
    let more : option_map own_by c.args.own ∷ map g.S.Slot.holds (c.loop-slot.yielded ++ c.in-Some.slot ∷ []) ≡ hand ++ slot ∷ [] =
    ap (λ (h : Hand). option_map own_by c.args.own ∷ h)
    (map-append g.S.Slot.holds c.loop-slot.yielded (c.in-Some.slot ∷ []) ∙ ap (λ (h : Option Own). slots ++ h ∷ []) c.into_ticket.ensures.holds) in record {
      can_next = came.can_next;
      is_finite = came.is_finite;
      tickets = c.put-in-loop-slot.ensures.tickets ∙ ap (λ hs. hs ++ held_in (slot ∷ [])) came.tickets ∙ sym (held_more hand slot) ∙ sym (ap held_in more);
      count = grind (arith, common_steps, came.count, c.in-Some.ensures.steps.1, c.put-in-loop-slot.ensures.length);
      room = grind (arith, came.room, c.put-in-loop-slot.ensures.capacity);
      keeps = All-push g.S.Slot.keeps c.loop-slot.yielded c.in-Some.slot came.keeps c.into_ticket.ensures.keeps;
    }
