use Rattle.std.proofs.Common.{ap}
use Rattle.session.specs.State.{begun_at}
use Rattle.session.proofs.Steps.{refused, follows_same, err_is}
use Rattle.session.proofs.Items.{block_open, touches-full, touches-taken, has_room-none, none_direct}
use Rattle.session.proofs.session.Session.touch.Goals as goal

pub returns-in_err-check_spool : goal.returns-in_err-check_spool
returns-in_err-check_spool c = λ g h represents block.
    let o = block_open h c.args.xid block represents.here in
    refused g c.args.self.now h _ c.from_residual.result c.in_err-check_spool.field-0.0 represents
    (touches-full g h c.args.xid c.args.sub c.args.size o.0 c.in_err-check_spool.field-0.0 o.1 (c.in_err-check_spool.ensures g h.transactions represents.transactions)) (err_is c.from_residual.result _ c.from_residual.ensures.1)

pub returns : goal.returns
returns c = λ g h represents block.
    let o = block_open h c.args.xid block represents.here in
    let room = has_room-none g h.transactions c.args.size _ o.0 o.1 (c.in_ok-check_spool.ensures g h.transactions represents.transactions) in
    follows_same g _ h _ _ c.add_item.result (touches-taken g h c.args.xid c.args.sub c.args.size o.0 o.1 room) (c.add_item.ensures g h o.0 represents o.1 room tt tt (none_direct h.phase h.transactions c.args.xid o.0 (ap begun_at block) represents.alone o.1))
