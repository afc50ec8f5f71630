use Rattle.std.proofs.Common.{◌≡◌, ◌∙◌, sym, ap, subst, arith, suc, ◌+◌, ◌++◌, ◌∷◌, [], map, length, length-append, List, ℕ}
use Rattle.std.specs.Prelude.{string_bytes}
use Rattle.model.specs.declared.packed.Cut.{Cut}
use Rattle.model.specs.Packed.{column_in, AreCuts, cuts_of}
use Rattle.model.proofs.Blocks.{cut_more}
use Rattle.model.proofs.Cuts.{all_kept, columns_kept, one_more, column_more}
use Rattle.model.proofs.columns.ColumnsBuilder.push.Goals as goal

-- the bytes have one cut more
more : (c : goal.After-self-1) → cuts_of c.in-Some.columns c.extend_from_slice.new.self.items ≡ cuts_of c.self.inside.columns c.self.inside.cuts.items ++ c.in_ok-cut.cut ∷ []
more c =
    let columns = c.self.inside.columns in
    let cuts = c.self.inside.cuts.items in
    let count : c.in-Some.columns ≡ suc columns = omega arith in
    ap (λ (n : ℕ). cuts_of n c.extend_from_slice.new.self.items) count ∙ ap (cuts_of (suc columns)) c.in_ok-extend_from_slice.ensures.items
    ∙ cut_more columns cuts c.to_bytes.result c.self.invariant.1 ∙ ap (λ cut. cuts_of columns cuts ++ cut ∷ []) c.to_bytes.ensures.cut

pub invariant_of-self-2 : goal.invariant_of-self-2
invariant_of-self-2 c =
    let len : length c.extend_from_slice.new.self.items ≡ length c.self.inside.cuts.items + 9 =
    ap length c.in_ok-extend_from_slice.ensures.items ∙ length-append c.self.inside.cuts.items c.to_bytes.result ∙ ap (λ (n : ℕ). length c.self.inside.cuts.items + n) c.to_bytes.ensures.len in
    let all = one_more _ _ _ (all_kept _ _ _ c.add_cut.ensures.kept c.self.invariant.2) c.in_ok-cut.ensures.ok.0 in
    (omega arith, omega (arith, len), subst (λ (cuts : List Cut). AreCuts (string_bytes c.add_cut.new.texts) cuts) (sym (more c)) all)

pub returns : goal.returns
returns c =
    let texts = string_bytes c.add_cut.new.texts in
    let cuts = cuts_of c.self.inside.columns c.self.inside.cuts.items in
    ap (map (column_in texts)) (more c) ∙ column_more texts cuts c.in_ok-cut.cut
    ∙ ap (λ vs. vs ++ column_in texts c.in_ok-cut.cut ∷ []) (columns_kept _ texts cuts c.add_cut.ensures.kept c.self.invariant.2 ∙ c.self.view_is)
    ∙ ap (λ v. c.args.self.now ++ v ∷ []) c.in_ok-cut.ensures.ok.1
