use Rattle.std.proofs.Common.{◌∷◌, ◌++◌, Option, [], sym, ap, ◌∙◌, append-nil}
use Rattle.std.specs.Prelude.{map, option_map}
use Rattle.std.proofs.lemmas.List.{map-append}
use Rattle.parted_store.specs.Lent.{OpenTicket}
use Rattle.dispatch.specs.Standing.{own_by}
use Rattle.leader.specs.Ending.{held_in}
use Rattle.leader.proofs.ending.put.Goals as goal

pub returns-in-Some-clause-tickets : goal.returns-in-Some-clause-tickets
returns-in-Some-clause-tickets g c =
    let before = c.args.tickets.now.items in
    ap (map own_by) c.push_reserved.ensures.items ∙ map-append own_by before (c.in-Some.ticket ∷ [])
    ∙ ap (λ (t : Option OpenTicket). map own_by before ++ held_in (option_map own_by t ∷ [])) (sym c.in-Some.is)

pub returns-in_default-clause-tickets : goal.returns-in_default-clause-tickets
returns-in_default-clause-tickets g c =
    let before = map own_by c.args.tickets.now.items in
    sym (append-nil before) ∙ ap (λ (t : Option OpenTicket). before ++ held_in (option_map own_by t ∷ [])) (sym c.in_default.is)
