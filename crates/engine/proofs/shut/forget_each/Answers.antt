use Rattle.std.proofs.Common.{List, drop, length, map, sym, ap, ◌∙◌}
use Rattle.std.proofs.lemmas.List.{take_at}
use Rattle.engine.specs.declared.entry.Entry.{Entry}
use Rattle.engine.specs.Engine.{entry_in}
use Rattle.engine.proofs.shut.forget_each.Goals as goal

pub returns : goal.returns
returns c =
    let v = c.args.entries.now in
    let news = c.forget_all.new.entries in
    ap (map entry_in) (take_at news (drop (length news) v.items) v.len (c.forget_all.ensures.long ∙ ap (λ (es : List Entry). length es) c.as_mut_slice.ensures.value ∙ sym v.ok.0))
    ∙ c.forget_all.ensures.told ∙ ap (map entry_in) c.as_mut_slice.ensures.value
