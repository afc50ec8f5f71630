use Rattle.std.proofs.Common.{subst, inl, inr}
use Rattle.std.specs.List.{Contains}
use Rattle.model.specs.declared.cell.Cell.TheVariants.{Row}
use Rattle.keyholds.specs.Holds.{holds_of}
use Rattle.live_tables.specs.declared.before_image.BeforeImage.{BeforeImage}
use Rattle.live_tables.proofs.before_image.row_beside.Goals as goal

pub returns-in-Some-default-Wiped-clause-none : goal.returns-in-Some-default-Wiped-clause-none
returns-in-Some-default-Wiped-clause-none c =
    let w = c.in-Some-default-Wiped in
    absurd (c.requires.place w.field-0-0 c.args.table c.args.key.now w.field-0-1-0
    (subst (λ (s : BeforeImage). Contains (holds_of c.args.holds.now w.field-0-0) (Row c.args.table c.args.key.now, s)) w.field-0-1-is w.ensures.held))

pub returns-in-Some-default-Other-clause-none : goal.returns-in-Some-default-Other-clause-none
returns-in-Some-default-Other-clause-none c =
    let w = c.in-Some-default-Other in
    inr (w.field-0-0, subst (λ (s : BeforeImage). Contains (holds_of c.args.holds.now w.field-0-0) (Row c.args.table c.args.key.now, s)) w.field-0-1-is w.ensures.held)

pub returns-in-None-clause-none : goal.returns-in-None-clause-none
returns-in-None-clause-none c = inl c.in-None.ensures.free
