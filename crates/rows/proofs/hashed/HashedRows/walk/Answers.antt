use Rattle.std.specs.Prelude.{List, map}
use Rattle.std.proofs.Common.{sym, ◌∙◌, ap, subst, arith}
use Rattle.std.proofs.lemmas.List.{length-map}
use Rattle.std.specs.FinMap.{values}
use Rattle.std.specs.List.Sorted.{IsStrictlySortedBy}
use Rattle.model.specs.declared.key.Key.{Key}
use Rattle.model.specs.Key.{key_cmp}
use Rattle.rows.specs.Hashed.{seen, slot_by}
use Rattle.rows.specs.Kept.{Kept}
use Rattle.rows.specs.Slots.{rows_among}
use Rattle.rows.proofs.HashedSlots.{values-seen, keys-seen}
use Rattle.rows.proofs.Walking.{rows_among-values, length-rows_among}
use Rattle.rows.proofs.hashed.HashedRows.walk.Goals as goal

pub returns-clause-rows : goal.returns-clause-rows
returns-clause-rows g c =
    let s = c.self.inside.slots in
    let es = c.self.inside.order in
    c.over_numbers.ensures ∙ ap (λ numbers. rows_among (map (slot_by s) numbers)) c.numbers.ensures.rest ∙ ap rows_among (sym (values-seen s es))
    ∙ rows_among-values (seen s es) (subst (λ (keys : List Key). IsStrictlySortedBy key_cmp keys) (sym (keys-seen s es)) c.numbers.ensures.ordered)
    ∙ ap (λ (k : Kept). values k.rows) c.self.view_is

pub returns-clause-fits : goal.returns-clause-fits
returns-clause-fits g c =
    let slots = map (slot_by c.self.inside.slots) c.numbers.result in
    rw c.over_numbers.ensures (omega (arith, length-rows_among slots, length-map c.numbers.result (slot_by c.self.inside.slots), c.numbers.ensures.fits))
