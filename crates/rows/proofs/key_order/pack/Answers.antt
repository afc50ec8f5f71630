use Rattle.std.specs.Prelude.{◌≡◌, is_some}
use Rattle.std.proofs.Common.{◌∙◌, ap, sym, subst, rules}
use Rattle.std.proofs.lemmas.Fn.{filter_same}
use Rattle.std.specs.List.{filter}
use Rattle.rows.specs.Run.{live}
use Rattle.rows.proofs.Runs.{live-packed, ascends_packed, Ascends}
use Rattle.std.specs.Map.{keys_of}
use Rattle.rows.proofs.key_order.pack.Goals as goal
use Rattle.rows.proofs.key_order.pack.Goals.{After-retain}

kept : (c : After-retain) → c.retain.new.self.items ≡ filter (λ e. is_some e.1) c.args.run.now.items
kept c = filter_same _ (λ e. is_some e.1) _ (λ x b f k. search rules) _ _ c.retain.ensures.filtered

pub returns-clause-same : goal.returns-clause-same
returns-clause-same c = ap live (kept c) ∙ live-packed c.args.run.now.items

pub returns-clause-ascends : goal.returns-clause-ascends
returns-clause-ascends c = λ ascends. subst (λ run. Ascends (keys_of run)) (sym (kept c)) (ascends_packed c.args.run.now.items ascends)
