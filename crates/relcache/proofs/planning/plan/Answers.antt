use Rattle.std.proofs.lemmas.Result.{MatchResult-weaker}
use Rattle.relcache.proofs.Fitting.{planned-fits}
use Rattle.relcache.proofs.planning.plan.Goals as goal

pub returns-clause-fits : goal.returns-clause-fits
returns-clause-fits c = MatchResult-weaker c.plan_row.result c.plan_row.ensures (λ change planned. planned-fits c.args.m.now c.args.row.now change planned) (λ fault _. tt)
