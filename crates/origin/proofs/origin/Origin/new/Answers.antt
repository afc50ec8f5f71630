use Rattle.std.proofs.Common.{rules}
use Rattle.origin.proofs.Moves.{starts, tells}
use Rattle.origin.proofs.origin.Origin.new.Goals as goal

pub ruled-requires : goal.ruled-requires
ruled-requires c = (search rules, (search rules, starts))

pub split_pass-other-requires : goal.split_pass-other-requires
split_pass-other-requires c = (search rules, (search rules, (search rules, tells _ _)))
