use Rattle.mirror_json.proofs.Following.{known_all}
use Rattle.mirror_json.proofs.json_lines.JsonLines.push_commits.Goals as goal

pub settle-requires : goal.settle-requires
settle-requires c = known_all c.append_all.new.tables c.append_all.new.log.inverses c.append_all.ensures.can
