use Rattle.mirror_json.proofs.Appending.{more_lines}
use Rattle.mirror_json.proofs.done.push_truncates.Goals as goal

pub loop-emptied-preserved : goal.loop-emptied-preserved
loop-emptied-preserved c =
    more_lines c.args.lines.now.items c.loop-emptied.lines.items c.push_deed.new.lines.items c.loop-emptied.invariant c.in_ok-push_deed.ensures
