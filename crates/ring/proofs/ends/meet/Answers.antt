use Rattle.std.proofs.Common.{rules, arith, ◌≡◌, ◌+◌, ◌≤◌, ◌^◌, List, ◌∷◌, ◌++◌, length, ap, sym, subst, ◌∙◌, MatchOption}
use mathlib.Core.Option.{none}
use Rattle.atomic_table.specs.Table.{step}
use Rattle.ring.specs.declared.protocol.TheConstants.{TAIL}
use Rattle.ring.specs.Steps.{Agrees}
use Rattle.ring.proofs.Seated.{seated_again}
use Rattle.ring.proofs.Left.{behind_acked, first_sent}
use Rattle.ring.proofs.MetSteps.{joins, compares}
use Rattle.ring.proofs.ends.meet.Goals as goal

pub join_seat-requires : goal.join_seat-requires
join_seat-requires g c = let a = c.taker.invariant in let b = c.sender.invariant in
    let same = ap (λ s. s.ring) c.sender.view_is ∙ c.requires ∙ sym (ap (λ t. t.ring) c.taker.view_is) in
    let here = a.seated.here ∙ ap (λ t. t.shared.table_id) (sym c.deref.ensures) in
    (here, same ∙ here, b.empty, search rules, joins _ _ _ _ a.takes b.sends)

pub load-requires : goal.load-requires
load-requires g c = (search rules, search rules, compares _ _ _ (ap (λ m. m.0.sends) c.join_seat.ensures.2 ∙ c.sender.invariant.sends) (ap (λ m. m.0.takes) c.join_seat.ensures.2))

pub invariant_of-result : goal.invariant_of-result
invariant_of-result g c = let tk = c.taker.invariant in let sd = c.sender.invariant in
    let t = c.taker.inside in let s = c.sender.inside in let v = t.seat.me.0 in let w = s.seat.me.0 in
    let same = c.load.ensures.2.1 in let joined = c.join_seat.ensures.2 in let now = same ∙ joined in
    let u = c.load.new.seat.me.0 in let id = c.load.ensures.0 ∙ c.join_seat.ensures.0 in
    let told = subst (λ m. Agrees (step c.deref-2.result.now.shared.table_id.slots TAIL 0 0 none) m.0) (sym same) c.load.ensures.2.0 in let begun : u.acked_before ≡ u.sent_before = told.begun in
    let from_s : u.sent_before ≡ w.sent_before = ap (λ m. m.0.sent_before) now in
    let from_t : u.acked_before ≡ v.acked_before = ap (λ m. m.0.acked_before) now in
    let base : s.base ≡ w.sent_before = sd.base in
    let head : t.head ≡ v.acked_before + length v.acked = tk.head in
    let long : length u.acked ≡ length v.acked = ap (λ m. length m.0.acked) now in
    let far : u.sent_before + length u.sent ≤ 2 ^ 63 = told.far in record {
      seated = seated_again id tk.seated;
      spare = id ∙ sym (ap (λ z. z.ring) c.sender.view_is ∙ c.requires ∙ sym (ap (λ z. z.ring) c.taker.view_is)) ∙ sd.seated.here;
      sends = ap (λ m. m.0.sends) now ∙ sd.sends;
      takes = ap (λ m. m.0.takes) now;
      idle = ap (λ m. m.0.writing) now ∙ sd.idle;
      item = tk.item ∙ sym (ap (λ m. m.0.taken) now);
      base = sd.base ∙ sym from_s;
      begun = begun;
      head = omega arith;
      far = omega arith;
      counted = omega arith;
      parts = behind_acked u.sent u.acked told.left told.parts;
      next = subst (λ i. MatchOption i (Unit {0}) (λ x. (others : List _) × (u.sent ≡ u.acked ++ x ∷ others))) (sym (tk.item ∙ sym (ap (λ m. m.0.taken) now))) (first_sent u.sent u.acked told.left u.taken told.parts told.next);
      out = ap (λ m. m.1) now ∙ tk.out;
    }
