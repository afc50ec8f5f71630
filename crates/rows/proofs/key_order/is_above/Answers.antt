use Rattle.std.proofs.Common.{◌∙◌, sym, ap}
use Rattle.std.specs.Ordering.{is_lt}
use Rattle.rows.proofs.Runs.{is_less}
use Rattle.rows.proofs.Searching.{ascends_pushed, ascends_alone_behind}
use Rattle.rows.proofs.key_order.is_above.Goals as goal

pub returns-in-Some : goal.returns-in-Some
returns-in-Some c = λ above.
    let less = is_less _ (sym (c.is_lt.ensures ∙ ap is_lt c.cmp.ensures) ∙ above) in
    ascends_pushed c.args.key.now c.in-Some.field-0.now less c.args.run.now c.requires (sym c.in-Some.ensures.value)

pub returns-in-None : goal.returns-in-None
returns-in-None c = λ _. ascends_alone_behind c.args.key.now c.args.run.now (sym c.in-None.ensures.value)
