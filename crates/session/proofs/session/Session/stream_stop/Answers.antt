use Rattle.std.proofs.Common.{refl}
use Rattle.session.proofs.Steps.{stops-admitted}
use Rattle.session.proofs.session.Session.stream_stop.Goals as goal

pub returns-in-Block : goal.returns-in-Block
returns-in-Block c = λ g h represents. stops-admitted g c.args.self.now _ h c.in-Block.field-0 _ _ represents c.in-Block.is refl refl refl refl refl
