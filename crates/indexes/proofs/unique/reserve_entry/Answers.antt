use Rattle.std.specs.Prelude.{◌≡◌, ℕ, List, IsSome, None}
use Rattle.std.proofs.Common.{sym, ◌∙◌, ap, subst}
use Rattle.model.specs.declared.key.Key.{Key}
use Rattle.indexes.specs.Columns.{present}
use Rattle.indexes.specs.Unique.{entry_at}
use Rattle.indexes.proofs.Entries.{present_is, none_of_false}
use Rattle.indexes.proofs.unique.reserve_entry.Goals as goal

pub returns-then-contains_key-clause-ok : goal.returns-then-contains_key-clause-ok
returns-then-contains_key-clause-ok c = λ values e.
    subst (λ (v : Key). IsSome (entry_at c.args.entries.now v)) (c.of.ensures ∙ ap (λ (columns : List ℕ). present columns c.args.row.now) c.as_slice.ensures ∙ present_is c.args.columns.now c.args.row.now values e) (sym c.contains_key.ensures ∙ c.if-contains_key.true)

pub add_entry-requires : goal.add_entry-requires
add_entry-requires c =
    subst (λ (v : Key). entry_at c.args.entries.now v ≡ None) (c.of.ensures ∙ ap (λ (columns : List ℕ). present columns c.args.row.now) c.as_slice.ensures ∙ present_is c.args.columns.now c.args.row.now c.in-Some.values (sym c.in_ok-values.ensures ∙ c.in-Some.is))
    (none_of_false (entry_at c.args.entries.now (present c.of.result.columns.now c.of.result.row.now)) (sym c.contains_key.ensures ∙ c.if-contains_key.false))
