use denote.Exit.{unseen}
use denote.Param.Send.{Quiet-if}
use mir.Syntax.{of_param}
use Rattle.std.proofs.Common.{rules}
use Rattle.leader.proofs.chief.beside.Goals as goal

-- the leader can lead, and what goes to another thread may
pub scoped-requires : goal.scoped-requires
scoped-requires g c = record {
  at = λ a. (
    c.requires,
    (
      record { owned = c.type_bounds.send-J.owned; leaving = λ k. Quiet-if (k (of_param 0)) unseen unseen (λ x w. tt) (λ x w. tt) },
      record { owned = c.type_bounds.send-V.owned; leaving = λ k. Quiet-if (k (of_param 4)) unseen unseen (λ x w. tt) (λ x w. tt) },
      search rules,
      search rules,
      search rules,
    ),
  );
}
