use Rattle.std.specs.Prelude.{Ok}
use Rattle.session.proofs.Steps.{stays, at_same}
use Rattle.session.proofs.session.Session.message.Goals as goal

pub returns-in-Commit : goal.returns-in-Commit
returns-in-Commit c = λ g h same represents. rw c.in-Commit.is (c.commit.ensures g h represents)

pub returns-in-Message : goal.returns-in-Message
returns-in-Message c = λ g h same represents. rw c.in-Message.is (stays g c.args.self.now h _ represents (at_same h.phase (Ok h)))

pub returns-in-TypeName : goal.returns-in-TypeName
returns-in-TypeName c = λ g h same represents. rw c.in-TypeName.is (c.type_name.ensures g h represents)

pub returns-in-StreamStart : goal.returns-in-StreamStart
returns-in-StreamStart c = λ g h same represents. rw c.in-StreamStart.is (c.stream_start.ensures g h represents)
