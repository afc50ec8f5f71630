use Rattle.std.proofs.Common.{◌≡◌, Ok, rules}
use Rattle.catalog.specs.Catalog.{catalog_of}
use Rattle.catalog.proofs.Validity.{catalog_of_is_valid}
use Rattle.catalog.proofs.catalog.Catalog.read.Goals as goal

pub invariant_of-result : goal.invariant_of-result
invariant_of-result c =
    let described : catalog_of c.args.text.now ≡ Ok c.in_ok-tables.tables.items = search rules in
    catalog_of_is_valid c.args.text.now c.in_ok-tables.tables.items described

pub returns-clause-valid : goal.returns-clause-valid
returns-clause-valid c =
    let described : catalog_of c.args.text.now ≡ Ok c.in_ok-tables.tables.items = search rules in
    catalog_of_is_valid c.args.text.now c.in_ok-tables.tables.items described
