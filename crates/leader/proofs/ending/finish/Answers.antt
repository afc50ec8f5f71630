use Rattle.std.proofs.Common.{◌≡◌, ◌∷◌, ◌++◌, ℕ, false, drop, length, take, List, Option, Some, refl, ap, subst, ◌∙◌}
use Rattle.std.specs.Prelude.{All, map, option_map}
use Rattle.std.proofs.lemmas.List.{take_at}
use Rattle.std.proofs.lemmas.List.Elements.{All-map}
use Rattle.std.specs.FinMap.{get}
use Rattle.engine.specs.Events.{is_open_in}
use Rattle.parted_store.specs.Lent.{OpenTicket}
use Rattle.table_locks.specs.Noted.{TellsHeld}
use Rattle.table_locks.specs.Whole.{whole, opened_in}
use Rattle.dispatch.specs.Standing.{Own, own_by}
use Rattle.leader.specs.Ending.{held_in}
use Rattle.leader.proofs.Deciding.{each_all, from_held}
use Rattle.leader.proofs.ending.finish.Goals as goal

-- the store as one world, where each ticket in hand is of a transaction that is open
pub returns-clause-finished : goal.returns-clause-finished
returns-clause-finished g c =
    let N = g.N.StoreNames in
    let line = c.args.line.now.list in
    let hand = option_map own_by c.args.own ∷ map g.S.Slot.holds c.args.workers.items in
    let tickets = c.as_mut_slice.result.now in
    let met = c.meet_all-found.ensures.whole in
    let found = met.2 in
    let world = whole N.schema N.start line tickets met.0 in
    let P : Own → Type 0 = λ h. get (opened_in tickets) h.xid ≡ Some h.done in
    let stood : All (λ (t : OpenTicket). P (own_by t)) tickets = each_all (λ (t : OpenTicket). P (own_by t)) tickets found.is_whole.stood in
    let in_hand : map own_by tickets ≡ held_in hand = ap (map own_by) c.as_mut_slice.ensures.value ∙ c.take_tickets-tickets.ensures.tickets in
    record {
      world = world;
      led = found.is_whole.led;
      commits = refl;
      committed = refl;
      opened = found.is_whole.opened;
      stood = from_held P hand (subst (All P) in_hand (All-map P own_by tickets stood));
      decided = c.decide.ensures N.schema world c.args.given.now met.1 (subst (λ (waiter : Option ℕ). TellsHeld N.schema world c.args.given.now waiter c.meet_all-found.result.holder) c.waiter_of-waiter.ensures found.held) found.noted;
    }

pub returns-clause-gone : goal.returns-clause-gone
returns-clause-gone g c =
    let hand = option_map own_by c.args.own ∷ map g.S.Slot.holds c.args.workers.items in
    let P : Own → Type 0 = λ h. is_open_in c.undo_all.new.line.list h.xid ≡ false in
    let v = c.take_tickets-tickets.result in
    let news = c.meet_all-found.new.tickets in
    let same = c.meet_all-found.ensures.tickets in
    let back : take v.len (news ++ drop (length news) v.items) ≡ v.items =
    take_at news (drop (length news) v.items) v.len (ap (λ (ts : List OpenTicket). length ts) same ∙ c.as_mut_slice.ensures.len) ∙ same ∙ c.as_mut_slice.ensures.value in
    from_held P hand (subst (All P) c.take_tickets-tickets.ensures.tickets (subst (λ (ts : List OpenTicket). All P (map own_by ts)) back c.undo_all.ensures.gone))
