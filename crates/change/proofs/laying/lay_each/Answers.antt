use Rattle.std.proofs.Common.{◌≡◌, ◌+◌, ◌++◌, ◌∷◌, [], get_or, take, map, sym, ap, ◌∙◌}
use Rattle.std.proofs.lemmas.List.{take_more, map-append}
use Rattle.change.specs.declared.inverse.Wiped.{Wiped}
use Rattle.change.specs.Inverse.{rows_held}
use Rattle.change.specs.LaidLemmas.{under_nothing, under_more}
use Rattle.change.proofs.laying.lay_each.Goals as goal

pub loop-emptied-init : goal.loop-emptied-init
loop-emptied-init c = under_nothing c.args.known.now c.args.table

pub loop-emptied-preserved : goal.loop-emptied-preserved
loop-emptied-preserved c =
    let ws = c.args.wiped.now in
    let more : map rows_held (take (c.loop-emptied.emptied-index + 1) ws) ≡ map rows_held (take c.loop-emptied.emptied-index ws) ++ rows_held c.emptied-item.result ∷ [] =
    ap (map rows_held) (take_more ws c.loop-emptied.emptied-index c.emptied-item.result c.loop-emptied-test.true)
    ∙ map-append rows_held (take c.loop-emptied.emptied-index ws) (get_or ws c.loop-emptied.emptied-index c.emptied-item.result ∷ [])
    ∙ ap (λ (w : Wiped). map rows_held (take c.loop-emptied.emptied-index ws) ++ rows_held w ∷ []) (sym c.emptied-item.is) in
    under_more c.args.known.now c.loop-emptied.known c.lay_rows.new.known c.args.table (map rows_held (take c.loop-emptied.emptied-index ws)) (rows_held c.emptied-item.result) _ more
    c.loop-emptied.invariant c.in_ok-lay_rows.ensures
