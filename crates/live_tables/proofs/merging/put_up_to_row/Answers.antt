use Rattle.std.proofs.Common.{◌≡◌, Some, None, sym, subst, ◌∙◌}
use Rattle.std.specs.Prelude.{refl}
use Rattle.std.proofs.lemmas.List.{nil_from_length}
use Rattle.model.specs.declared.key.Key.{Key}
use Rattle.live_tables.specs.Merged.{PutsUpTo}
use Rattle.live_tables.proofs.MergeSteps.{none_put}
use Rattle.live_tables.proofs.Stands.{if_ok}
use Rattle.live_tables.proofs.merging.put_up_to_row.Goals as goal

pub returns-then-is_empty : goal.returns-then-is_empty
returns-then-is_empty c = λ key is. none_put key c.args.rows.now.items c.args.stands.now.entries (nil_from_length c.args.stands.now.entries (c.if-is_empty.ensures.0 refl))

pub returns-in-Some : goal.returns-in-Some
returns-in-Some c =
    if_ok c.put_up_to.result _ _ c.put_up_to.ensures (λ found puts key is.
    let keys : Some c.in-Some.key ≡ Some key = sym c.in-Some.is ∙ c.in_ok-key.ensures ∙ is in
    let key_is : c.in-Some.key ≡ key = cc in
    subst (λ (k : Key). PutsUpTo k c.args.rows.now.items c.args.stands.now.entries found c.put_up_to.new.rows.items c.put_up_to.new.stands.entries) key_is puts)

pub returns-in-None : goal.returns-in-None
returns-in-None c = λ key is. absurd (let clash : None ≡ Some key = sym c.in-None.is ∙ c.in_ok-key.ensures ∙ is in cc)
