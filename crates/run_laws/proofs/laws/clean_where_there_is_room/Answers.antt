use Rattle.run_laws.proofs.Unthreaded.{clean_with_room}
use Rattle.run_laws.proofs.laws.clean_where_there_is_room.Goals as goal

pub returns : goal.returns
returns c = clean_with_room
