use Rattle.std.proofs.Common.{rules, ◌≡◌, ◌∙◌, ◌==◌, Bool, false, sym, ap, if◌then◌else◌}
use Rattle.model.specs.Survivors.{before_savepoint}
use Rattle.savepoint.specs.Savepoints.{mark_at, before_mark}
use Rattle.parted_store.specs.PlaceLemmas.{placed_cut, count_cut, none_cut}
use Rattle.parted_store.specs.Ticket.{places_of}
use Rattle.parted_store.proofs.marks.cut_back.Goals as goal

pub returns-in-Some-clause-items : goal.returns-in-Some-clause-items
returns-in-Some-clause-items c =
    let items = c.args.items.now.items in
    let not_top : (c.args.sub == c.args.top) ≡ false = search rules in
    c.truncate.ensures.items
    ∙ count_cut c.args.top c.args.sub items not_top c.in-Some.count (ap (mark_at c.args.sub) (sym c.requires) ∙ sym c.cut.ensures.mark ∙ c.in-Some.is)
    ∙ sym (ap (λ (b : Bool). if b then items else before_savepoint c.args.sub items) not_top)

pub returns-in-Some-clause-marks : goal.returns-in-Some-clause-marks
returns-in-Some-clause-marks c =
    let items = c.args.items.now.items in
    let not_top : (c.args.sub == c.args.top) ≡ false = search rules in
    c.cut.ensures.rest ∙ ap (before_mark c.args.sub) c.requires ∙ placed_cut c.args.top c.args.sub items not_top
    ∙ sym (ap (places_of c.args.top) (c.truncate.ensures.items
    ∙ count_cut c.args.top c.args.sub items not_top c.in-Some.count (ap (mark_at c.args.sub) (sym c.requires) ∙ sym c.cut.ensures.mark ∙ c.in-Some.is)))

pub returns-in_default-clause-items : goal.returns-in_default-clause-items
returns-in_default-clause-items c =
    let items = c.args.items.now.items in
    let not_top : (c.args.sub == c.args.top) ≡ false = search rules in
    sym (ap (λ (b : Bool). if b then items else before_savepoint c.args.sub items) not_top
    ∙ none_cut c.args.top c.args.sub items not_top (ap (mark_at c.args.sub) (sym c.requires) ∙ sym c.cut.ensures.mark ∙ c.in_default.is))

pub returns-in_default-clause-marks : goal.returns-in_default-clause-marks
returns-in_default-clause-marks c =
    let items = c.args.items.now.items in
    let not_top : (c.args.sub == c.args.top) ≡ false = search rules in
    c.cut.ensures.rest ∙ ap (before_mark c.args.sub) c.requires ∙ placed_cut c.args.top c.args.sub items not_top
    ∙ ap (places_of c.args.top) (none_cut c.args.top c.args.sub items not_top (ap (mark_at c.args.sub) (sym c.requires) ∙ sym c.cut.ensures.mark ∙ c.in_default.is))
