use Rattle.std.proofs.Common.{rules, ap, sym, ◌∙◌, ◌≡◌, [], length, drop}
use Rattle.ring.proofs.MetSteps.{undooms, parts}
use Rattle.ring.proofs.Left.{all_acked, none_taken}
use Rattle.ring.proofs.ends.Ends.reopen.Goals as goal

pub store-requires : goal.store-requires
store-requires g c = (search rules, search rules, undooms _ _ _ c.self.invariant.sends c.self.invariant.takes)

pub split_seat-other-requires : goal.split_seat-other-requires
split_seat-other-requires g c = let inv = c.self.invariant in let v = c.self.inside.seat.me.0 in
    let now = ap (λ m. m.0) c.store.ensures.2 in
    let none' : drop (length v.acked) v.sent ≡ [] = ap (λ m. m.left) c.self.view_is ∙ c.requires in (
      search rules,
      search rules,
      parts _ _ (ap (λ w. w.sends) now ∙ inv.sends) (ap (λ w. w.takes) now ∙ inv.takes) (ap (λ w. w.sent) now ∙ all_acked v.sent v.acked inv.parts none' ∙ sym (ap (λ w. w.acked) now))
          (ap (λ w. w.taken) now ∙ sym inv.item ∙ none_taken v.sent v.acked c.self.inside.item inv.next none') (ap (λ w. w.writing) now ∙ inv.idle) (ap (λ w. w.dooms) now),
    )
