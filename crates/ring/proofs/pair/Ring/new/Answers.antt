use Rattle.std.proofs.Common.{rules, arith, ◌∙◌, ap, sym}
use Rattle.ring.proofs.MetSteps.{opens, parts}
use Rattle.ring.proofs.pair.Ring.new.Goals as goal

pub vacant-requires : goal.vacant-requires
vacant-requires g c = opens c.args.capacity (omega arith)

pub split_seat-other-requires : goal.split_seat-other-requires
split_seat-other-requires g c = let me = c.in_ok-table.ensures.4 in let v = ap (λ m. m.0) me in
    (search rules, search rules, parts _ _ (ap (λ z. z.sends) v) (ap (λ z. z.takes) v) (ap (λ z. z.sent) v ∙ sym (ap (λ z. z.acked) v)) (ap (λ z. z.taken) v) (ap (λ z. z.writing) v) (ap (λ z. z.dooms) v))
