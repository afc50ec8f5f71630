use Rattle.std.proofs.Common.{◌∙◌}
use Rattle.live_tables.proofs.Stands.{if_ok}
use Rattle.live_tables.proofs.live_tables.Live.committed_rows.Goals as goal

pub returns : goal.returns
returns c =
    if_ok c.merge_rows.result _ _ c.merge_rows.ensures (λ rows merged w tied all tells.
    merged all (λ key. c.in_ok-lay_open.ensures w tied key ∙ tells key))
