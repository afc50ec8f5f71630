use Rattle.std.proofs.Common.{◌≡◌, ◌+◌, ◌++◌, ◌∷◌, [], get_or, take, map, sym, ap, ◌∙◌}
use Rattle.std.proofs.lemmas.List.{take_more, map-append}
use Rattle.change.specs.declared.inverse.Inverse.{Inverse}
use Rattle.change.specs.Inverse.{edits_of}
use Rattle.change.specs.LaidLemmas.{under_nothing, under_more}
use Rattle.undo.proofs.log.lay_all.Goals as goal

pub loop-inverse-init : goal.loop-inverse-init
loop-inverse-init c = under_nothing c.args.known.now c.args.table

pub loop-inverse-preserved : goal.loop-inverse-preserved
loop-inverse-preserved c =
    let is = c.args.inverses.now in
    let index = c.loop-inverse.inverse-index in
    let more : map edits_of (take (index + 1) is) ≡ map edits_of (take index is) ++ edits_of c.inverse-item.result ∷ [] =
    ap (map edits_of) (take_more is index c.inverse-item.result c.loop-inverse-test.true)
    ∙ map-append edits_of (take index is) (get_or is index c.inverse-item.result ∷ [])
    ∙ ap (λ (i : Inverse). map edits_of (take index is) ++ edits_of i ∷ []) (sym c.inverse-item.is) in
    under_more c.args.known.now c.loop-inverse.known c.lay_under.new.known c.args.table (map edits_of (take index is)) (edits_of c.inverse-item.result) _ more
    c.loop-inverse.invariant c.in_ok-lay_under.ensures
