use Rattle.std.proofs.Common.{◌≡◌, ◌<◌, ◌≤◌, length, sym, ap, ◌∙◌, arith}
use Rattle.model.specs.declared.patch.ColumnPatch.TheVariants.{Keep, Null, Value}
use Rattle.model.specs.Patch.{read_column, column_at}
use Rattle.model.specs.ValueRef.{read_value}
use Rattle.change.specs.Reading.{patch_read}
use Rattle.change.proofs.PatchedColumns.{patched_column, no_column}
use Rattle.change.proofs.reading.PatchedRow.column.Goals as goal

pub returns-then-number-len : goal.returns-then-number-len
returns-then-number-len c =
    let past : length c.args.self.row.now ≤ c.args.number = omega arith in
    no_column (patch_read c.args.self.patch) c.args.self.row.now c.args.number past

pub returns-in-Keep : goal.returns-in-Keep
returns-in-Keep c =
    let within : c.args.number < length c.args.self.row.now = omega arith in
    let kept : Keep ≡ column_at (patch_read c.args.self.patch) c.args.number = sym (ap read_column c.in-Keep.is) ∙ c.patched.ensures in
    c.column.ensures ∙ patched_column (patch_read c.args.self.patch) c.args.self.row.now c.args.number Keep within kept

pub returns-in-Null : goal.returns-in-Null
returns-in-Null c =
    let within : c.args.number < length c.args.self.row.now = omega arith in
    let null : Null ≡ column_at (patch_read c.args.self.patch) c.args.number = sym (ap read_column c.in-Null.is) ∙ c.patched.ensures in
    patched_column (patch_read c.args.self.patch) c.args.self.row.now c.args.number Null within null

pub returns-in-Value : goal.returns-in-Value
returns-in-Value c =
    let within : c.args.number < length c.args.self.row.now = omega arith in
    let given : Value (read_value c.in-Value.value) ≡ column_at (patch_read c.args.self.patch) c.args.number = sym (ap read_column c.in-Value.is) ∙ c.patched.ensures in
    patched_column (patch_read c.args.self.patch) c.args.self.row.now c.args.number (Value (read_value c.in-Value.value)) within given
