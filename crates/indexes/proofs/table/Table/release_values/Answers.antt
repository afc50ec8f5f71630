use Rattle.std.specs.Prelude.{◌≡◌, ◌<◌, ◌≤◌, ◌-◌, ℕ, suc, length, refl, slice_set}
use Rattle.std.proofs.Common.{subst, arith, rules}
use Rattle.indexes.specs.declared.unique.Unique.{Unique}
use Rattle.indexes.specs.Unique.{ReleasesValues}
use Rattle.indexes.specs.Table.{TableContent, IsSound, ReleasesSpot}
use Rattle.indexes.specs.Indexed.{columns_of}
use Rattle.indexes.proofs.Copying.{seen_as}
use Rattle.indexes.proofs.Released.{indexed_without_entry, entry_released, no_key_released}
use Rattle.indexes.proofs.Tabling.{sound}
use Rattle.indexes.proofs.table.Table.release_values.Goals as goal
use Rattle.indexes.proofs.table.Table.release_values.Goals.{else-number-ge1-via-then-number-ge1+else-number-len, else-number-ge1-via-else-number-ge1}

pub invariant_of-self : goal.invariant_of-self
invariant_of-self c =
    let us = c.self.inside.uniques.items in
    let within : c.args.number - 1 < length us = let low = c.if-number-ge1.true in let high : c.args.number ≤ length us = search rules in omega arith in
    indexed_without_entry c.self.inside.primary.items c.self.inside.rows us (c.args.number - 1) within c.index_mut.result.now c.release.new.self c.args.values.now c.self.invariant
    (subst (λ (u : Unique). ReleasesValues c.args.values.now u c.release.new.self) c.index_mut.ensures.value c.release.ensures)

pub returns-then-number-len-clause-released : goal.returns-then-number-len-clause-released
returns-then-number-len-clause-released c = λ low.
    let us = c.self.inside.uniques.items in
    let vs = slice_set us (c.args.number - 1) c.release.new.self in
    let within : c.args.number - 1 < length us = let high : c.args.number ≤ length us = search rules in omega arith in
    let number_is : suc (c.args.number - 1) ≡ c.args.number = omega arith in
    subst (λ (t : TableContent). ReleasesSpot t (seen_as c.self.inside.primary.items c.self.inside.rows vs) (c.args.number, c.args.values.now)) c.self.view_is
    (subst (λ (n : ℕ). ReleasesSpot (seen_as c.self.inside.primary.items c.self.inside.rows us) (seen_as c.self.inside.primary.items c.self.inside.rows vs) (n, c.args.values.now)) number_is
    (entry_released c.self.inside.primary.items c.self.inside.rows us (c.args.number - 1) within c.index_mut.result.now c.release.new.self c.args.values.now c.self.invariant
    (subst (λ (u : Unique). ReleasesValues c.args.values.now u c.release.new.self) c.index_mut.ensures.value c.release.ensures)))

pub returns-then-number-len-clause-sound : goal.returns-then-number-len-clause-sound
returns-then-number-len-clause-sound c =
    let vs = slice_set c.self.inside.uniques.items (c.args.number - 1) c.release.new.self in
    sound (record { primary = c.self.inside.primary.items; uniques = columns_of vs }) c.self.inside.rows vs refl (invariant_of-self c)

pub returns-else-number-ge1-clause-released : goal.returns-else-number-ge1-clause-released
returns-else-number-ge1-clause-released c = λ low.
    let high : length c.self.inside.uniques.items < c.args.number = elim c.else-number-ge1.branch [
      | else-number-ge1-via-then-number-ge1+else-number-len w ↦
          let is : w.len.result ≡ length c.self.inside.uniques.items = search rules in
          let above = w.if-number-len.false in
          omega arith
      | else-number-ge1-via-else-number-ge1 w ↦ let none = w.if-number-ge1.false in absurd (omega arith)
    ] in
    subst (λ (t : TableContent). ReleasesSpot t t (c.args.number, c.args.values.now)) c.self.view_is
    (no_key_released c.self.inside.primary.items c.self.inside.rows c.self.inside.uniques.items c.args.number c.args.values.now low high)

pub returns-else-number-ge1-clause-sound : goal.returns-else-number-ge1-clause-sound
returns-else-number-ge1-clause-sound c =
    subst IsSound c.self.view_is
    (sound (record { primary = c.self.inside.primary.items; uniques = columns_of c.self.inside.uniques.items }) c.self.inside.rows c.self.inside.uniques.items refl c.self.invariant)
