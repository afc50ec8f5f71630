use Rattle.std.proofs.Common.{◌∙◌}
use Rattle.session.proofs.Kept.{kept_if_open}
use Rattle.session.proofs.transactions.Transactions.contains.Goals as goal

pub returns : goal.returns
returns c = λ g m kept. c.contains_key.ensures ∙ kept_if_open c.args.self.now.ways m c.args.xid kept.ways
