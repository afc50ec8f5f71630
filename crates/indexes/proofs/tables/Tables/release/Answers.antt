use Rattle.std.specs.Prelude.{◌<◌, ◌≤◌, length}
use Rattle.std.proofs.Common.{ap, rules}
use Rattle.model.specs.Cells.{table_of}
use Rattle.indexes.proofs.Released as given
use Rattle.indexes.proofs.tables.Tables.release.Goals as goal

pub invariant_of-self : goal.invariant_of-self
invariant_of-self c =
    let within : c.in-Row.table < length c.self.inside.tables.items = search rules in
    given.sound_released c.self.inside.tables.items _ c.self.view_is c.args.cell.now c.in-Row.table _ c.release_key.new.self within c.in-Some.ensures.value c.self.invariant c.release_key.ensures.sound

pub invariant_of-self-in-Some-get_mut : goal.invariant_of-self-in-Some-get_mut
invariant_of-self-in-Some-get_mut c =
    let within : c.in-Uniq.table < length c.self.inside.tables.items = search rules in
    given.sound_released c.self.inside.tables.items _ c.self.view_is c.args.cell.now c.in-Uniq.table _ c.release_values.new.self within c.in-Some-get_mut.ensures.value c.self.invariant c.release_values.ensures.sound

pub returns-in-Some : goal.returns-in-Some
returns-in-Some c =
    let within : c.in-Row.table < length c.self.inside.tables.items = search rules in
    given.key_released c.self.inside.tables.items _ c.self.view_is c.args.cell.now c.in-Row.table c.in-Row.key c.in-Row.is _ c.release_key.new.self within c.in-Some.ensures.value c.release_key.ensures.released

pub returns-in_default : goal.returns-in_default
returns-in_default c =
    let beyond : length c.self.inside.tables.items ≤ c.in-Row.table = search rules in
    given.no_table_released c.self.inside.tables.items _ c.self.view_is c.args.cell.now c.in-Row.table (ap table_of c.in-Row.is) beyond

pub returns-in-Some-get_mut : goal.returns-in-Some-get_mut
returns-in-Some-get_mut c =
    let within : c.in-Uniq.table < length c.self.inside.tables.items = search rules in
    given.values_released c.self.inside.tables.items _ c.self.view_is c.args.cell.now c.in-Uniq.table c.in-Uniq.number c.in-Uniq.values c.in-Uniq.is
    _ c.release_values.new.self within c.in-Some-get_mut.ensures.value c.release_values.ensures.released c.release_values.ensures.no_key

pub returns-in_default-get_mut : goal.returns-in_default-get_mut
returns-in_default-get_mut c =
    let beyond : length c.self.inside.tables.items ≤ c.in-Uniq.table = search rules in
    given.no_table_released c.self.inside.tables.items _ c.self.view_is c.args.cell.now c.in-Uniq.table (ap table_of c.in-Uniq.is) beyond

pub returns-in-Whole : goal.returns-in-Whole
returns-in-Whole c = given.whole_released c.self.inside.tables.items _ c.self.view_is c.args.cell.now c.in-Whole.field-0 c.in-Whole.is
