use Rattle.std.proofs.Common.{◌≤◌, ◌<◌, ◌^◌, List, [], ◌∷◌, length, arith}
use Rattle.model.specs.declared.item.Item.{Item}
use Rattle.model.specs.declared.item.Item.TheVariants.{Change, Touch, BackTo, Last}
use Rattle.model.specs.Survivors.{changes_of}
use Rattle.engine.proofs.entry.Changes.iter.Goals as goal

no_more : (items : List Item) → length (changes_of items) ≤ length items
no_more [] = omega arith
no_more (Change sub c ∷ items) = let rest = no_more items in omega (arith, rest)
no_more (Touch sub ∷ items) = let rest = no_more items in omega (arith, rest)
no_more (BackTo sub ∷ items) = let rest = no_more items in omega (arith, rest)
no_more (Last ∷ items) = let rest = no_more items in omega (arith, rest)

pub returns-clause-fits : goal.returns-clause-fits
returns-clause-fits c =
    let fewer = no_more c.as_slice.result.now in
    let len = c.as_slice.ensures.len in
    let fits : length (changes_of c.as_slice.result.now) < 2 ^ 63 = omega arith in
    fits
