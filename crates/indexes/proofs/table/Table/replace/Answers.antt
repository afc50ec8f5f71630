use Rattle.std.specs.Prelude.{Some}
use Rattle.std.proofs.Common.{sym, ◌∙◌, ap}
use Rattle.std.proofs.lemmas.Map.Views.{tells_apart}
use Rattle.model.specs.ExactLemmas.{key_cmp_exact}
use Rattle.indexes.proofs.Tabling.{put_in_place}
use Rattle.indexes.proofs.table.Table.replace.Goals as goal

pub swap-requires-clause-own_key : goal.swap-requires-clause-own_key
swap-requires-clause-own_key c =
    c.requires.own_key ∙ ap Some (sym (tells_apart key_cmp_exact c.args.key.now c.args.new_key.now (sym c.eq.ensures ∙ c.if-eq.true)))

pub returns-then-branch-clause-ok : goal.returns-then-branch-clause-ok
returns-then-branch-clause-ok c =
    c.swap.ensures.rows ∙ put_in_place c.args.self.now.rows c.args.key.now c.args.new_key.now c.args.row (tells_apart key_cmp_exact c.args.key.now c.args.new_key.now (sym c.eq.ensures ∙ c.if-eq.true))
