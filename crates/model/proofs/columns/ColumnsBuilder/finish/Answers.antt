use Rattle.std.proofs.Common.{◌≡◌, ◌∙◌, sym, ap, subst, ◌++◌, List, ℕ}
use Rattle.std.specs.Arc.{arc_slice_items}
use Rattle.std.specs.Prelude.{string_bytes}
use Rattle.std.proofs.lemmas.Str.{IsUtf8-string_bytes}
use Rattle.model.specs.Packed.{patch_in, IsPacked}
use Rattle.model.proofs.Blocks.{whole, is_packed, packed_columns}
use Rattle.model.proofs.columns.ColumnsBuilder.finish.Goals as goal

-- the block is the texts, the cuts and their number
built : (c : goal.In_ok-from_vec) → arc_slice_items c.in_ok-from_vec.field-0 ≡ whole (string_bytes c.self.inside.texts) c.self.inside.cuts.items c.self.inside.columns c.self.invariant
built c =
    let texts = string_bytes c.self.inside.texts in
    let front = c.in_ok-extend_from_slice.ensures.items ∙ ap (λ v. v.items ++ c.as_slice.result.now) c.into_bytes-block.ensures.value ∙ ap (λ (cuts : List ℕ). texts ++ cuts) c.as_slice.ensures.value in
    c.in_ok-from_vec.ensures ∙ c.in_ok-extend_from_slice-2.ensures.items ∙ ap (λ (bytes : List ℕ). bytes ++ c.to_le_bytes.result) front
    ∙ ap (λ (count : List ℕ). (texts ++ c.self.inside.cuts.items) ++ count) c.to_le_bytes.ensures

pub invariant_of-result : goal.invariant_of-result
invariant_of-result c = subst (λ (block : List ℕ). IsPacked block) (sym (built c)) (is_packed _ _ _ c.self.invariant (IsUtf8-string_bytes c.self.inside.texts))

pub returns : goal.returns
returns c = ap patch_in (built c.before) ∙ packed_columns _ _ _ c.self.invariant ∙ c.self.view_is
