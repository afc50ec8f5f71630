use Rattle.std.specs.Prelude.{◌≡◌, Some, refl}
use Rattle.std.proofs.Common.{sym, ◌∙◌, ap, subst}
use Rattle.std.specs.FinMap.{get, insert}
use Rattle.model.specs.Rows.{values_in}
use Rattle.rows.specs.Kept.{Kept}
use Rattle.rows.specs.KeyLemmas.{get_inserted}
use Rattle.indexes.specs.Table.{TableContent, KeepsValues}
use Rattle.indexes.specs.Indexed.{IsIndexed, columns_of}
use Rattle.indexes.proofs.Room.{columns_at}
use Rattle.indexes.proofs.Tabling.{indexed_swapped, kept_is, sound}
use Rattle.indexes.proofs.table.Table.swap.Goals as goal

pub invariant_of-self : goal.invariant_of-self
invariant_of-self c =
    let us = c.self.inside.uniques.items in
    let kept = c.self.inside.rows in
    let there = sym c.in-Some.ensures.stood in
    let keeps = subst (λ (t : TableContent). KeepsValues t c.args.key.now c.args.row) (sym c.self.view_is) c.requires.values in
    subst (λ (k : Kept). IsIndexed c.self.inside.primary.items k us)
    (sym (kept_is c.replace.new.self (insert kept.rows c.args.key.now c.args.row) kept.slots c.replace.ensures.rows c.replace.ensures.slots))
    (indexed_swapped c.self.inside.primary.items kept us c.args.key.now c.args.row c.in-Some.stood c.self.invariant
    (subst (λ (t : TableContent). values_in t.keys.primary c.args.row ≡ Some c.args.key.now) (sym c.self.view_is) c.requires.own_key) there
    (λ k d l. keeps c.in-Some.stood there k _ (columns_at us k d l)))

pub returns-clause-sound : goal.returns-clause-sound
returns-clause-sound c =
    sound (record { primary = c.self.inside.primary.items; uniques = columns_of c.self.inside.uniques.items }) c.replace.new.self c.self.inside.uniques.items refl (invariant_of-self c)

pub returns-clause-room : goal.returns-clause-room
returns-clause-room c =
    (returns-clause-sound c).room c.args.key.now c.args.row
    (ap (λ m. get m c.args.key.now) c.replace.ensures.rows ∙ get_inserted c.self.inside.rows.rows c.args.key.now c.args.row)
