use Rattle.std.proofs.Common.{subst}
use Rattle.std.specs.List.{Contains}
use Rattle.model.specs.declared.cell.Cell.TheVariants.{Whole}
use Rattle.keyholds.specs.Holds.{holds_of}
use Rattle.live_tables.specs.declared.before_image.BeforeImage.{BeforeImage}
use Rattle.live_tables.proofs.Stands.{nobody_holds}
use Rattle.live_tables.proofs.before_image.find_committed.Goals as goal

pub returns-in-Some-default-Row : goal.returns-in-Some-default-Row
returns-in-Some-default-Row c =
    let w = c.in-Some-default-Row in
    absurd (c.requires.table w.field-0-0 c.args.table w.field-0-1-0
    (subst (λ (s : BeforeImage). Contains (holds_of c.args.holds.now w.field-0-0) (Whole c.args.table, s)) w.field-0-1-is w.ensures.held))

pub returns-in-Some-default-Other : goal.returns-in-Some-default-Other
returns-in-Some-default-Other c =
    let w = c.in-Some-default-Other in
    absurd (c.requires.numbered w.field-0-0 c.args.table
    (subst (λ (s : BeforeImage). Contains (holds_of c.args.holds.now w.field-0-0) (Whole c.args.table, s)) w.field-0-1-is w.ensures.held))

pub returns : goal.returns
returns c = (
  nobody_holds (holds_of c.args.holds.now) c.args.table c.args.key.now c.requires c.in_default.ensures.none c.in-None.ensures.free,
  c.in-None.ensures.free,
)
