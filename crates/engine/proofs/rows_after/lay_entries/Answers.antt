use Rattle.std.proofs.Common.{◌≡◌, ◌+◌, ◌++◌, get_or, take, map, sym, ap, ◌∙◌}
use Rattle.std.proofs.lemmas.List.{take_more}
use Rattle.change.specs.Inverse.{edits_of}
use Rattle.change.specs.LaidLemmas.{under_nothing, under_lists}
use Rattle.engine.specs.declared.entry.Entry.{Entry}
use Rattle.engine.specs.Engine.{edits_behind}
use Rattle.engine.specs.EntryLemmas.{edits_more}
use Rattle.engine.proofs.rows_after.lay_entries.Goals as goal

pub loop-entry-init : goal.loop-entry-init
loop-entry-init c = under_nothing c.args.known.now c.args.table

pub loop-entry-preserved : goal.loop-entry-preserved
loop-entry-preserved c =
    let es = c.args.entries.now in
    let index = c.loop-entry.entry-index in
    let more : edits_behind (take (index + 1) es) ≡ edits_behind (take index es) ++ map edits_of c.entry-item.result.inverses.inverses =
    ap edits_behind (take_more es index c.entry-item.result c.loop-entry-test.true)
    ∙ edits_more (take index es) (get_or es index c.entry-item.result)
    ∙ ap (λ (e : Entry). edits_behind (take index es) ++ map edits_of e.inverses.inverses) (sym c.entry-item.is) in
    under_lists c.args.known.now c.loop-entry.known c.lay_under.new.known c.args.table (edits_behind (take index es)) (map edits_of c.entry-item.result.inverses.inverses) _ more
    c.loop-entry.invariant c.in_ok-lay_under.ensures
