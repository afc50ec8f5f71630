use Rattle.std.proofs.Common.{ap, sym, subst, ◌∙◌, nat_eq, ℕ}
use Rattle.std.specs.Prelude.{MatchBool, option_map}
use Rattle.dispatch.specs.Standing.{Standing, own_by, IsOwn}
use Rattle.dispatch.proofs.Giving.{is_it}
use Rattle.dispatch.proofs.transactions.Transactions.is_own.Goals as goal

pub returns-in-Some : goal.returns-in-Some
returns-in-Some g c =
    let now = c.args.self.now in
    subst (λ (n : ℕ). MatchBool (nat_eq n c.args.xid) (IsOwn now c.args.xid) (¬ IsOwn now c.args.xid)) (sym c.xid.ensures)
    (is_it now c.in-Some.ticket c.args.xid (sym (ap (λ (t : Standing). t.begun) c.self.view_is) ∙ ap (option_map own_by) c.in-Some.is))
