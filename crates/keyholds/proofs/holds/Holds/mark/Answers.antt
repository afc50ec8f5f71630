use Rattle.std.proofs.Common.{sym, ◌∙◌, ap, length}
use Rattle.keyholds.specs.Lists.{items_in}
use Rattle.keyholds.proofs.Seen.{holds_listed, seen_filled}
use Rattle.keyholds.proofs.holds.Holds.mark.Goals as goal

pub returns-in-Some-clause-count : goal.returns-in-Some-clause-count
returns-in-Some-clause-count g c =
    c.len.ensures ∙ c.in-Some.list.now.ok.0 ∙ ap (λ o. length (items_in o)) c.in-Some.ensures.value ∙ ap length (sym (holds_listed c.self.inside.lists c.args.self.now c.self.view_is c.args.xid))

pub returns-in-Some-clause-filled : goal.returns-in-Some-clause-filled
returns-in-Some-clause-filled g c = seen_filled c.self.inside.lists c.args.self.now c.self.view_is

pub returns-in-None-clause-count : goal.returns-in-None-clause-count
returns-in-None-clause-count g c =
    ap (λ o. length (items_in o)) c.in-None.ensures.value ∙ ap length (sym (holds_listed c.self.inside.lists c.args.self.now c.self.view_is c.args.xid))

pub returns-in-None-clause-filled : goal.returns-in-None-clause-filled
returns-in-None-clause-filled g c = seen_filled c.self.inside.lists c.args.self.now c.self.view_is
