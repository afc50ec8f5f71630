use Rattle.std.proofs.Common.{◌≡◌, true, false, sym, ap, ◌∙◌}
use Rattle.session.specs.Table.{names, is_skipped}
use Rattle.session.specs.declared.phase.Phase.TheVariants.{Begun, Block}
use Rattle.session.proofs.Items.{block_open, begun_open, room_direct, line_begun, line_skipped, line_block, line_full, IsChangeOf-refused, has_room-none}
use Rattle.session.proofs.session.Session.change_of.Goals as goal

pub returns-in-Begun : goal.returns-in-Begun
returns-in-Begun c = λ g h represents planned.
    let begun : h.phase ≡ Begun c.in-Begun.xid c.in-Begun.final_lsn = sym represents.phase ∙ c.in-Begun.is in
    let skipped : is_skipped g h c.in-Begun.final_lsn ≡ true =
    ap (names c.in-Begun.final_lsn) (sym represents.skip) ∙ sym c.skips.ensures ∙ c.if-skips.true in
    line_skipped g h c.args.size c.args.sub c.in-Begun.xid c.in-Begun.final_lsn planned begun skipped

pub returns-in-Begun-2 : goal.returns-in-Begun-2
returns-in-Begun-2 c = λ g h represents.
    let begun : h.phase ≡ Begun c.in-Begun-2.xid c.in-Begun-2.final_lsn = sym represents.phase ∙ c.in-Begun-2.is in
    let same : Begun c.in-Begun.xid c.in-Begun.final_lsn ≡ Begun c.in-Begun-2.xid c.in-Begun-2.final_lsn = sym c.in-Begun.is ∙ c.in-Begun-2.is in
    let last : c.in-Begun.final_lsn ≡ c.in-Begun-2.final_lsn = cc in
    let taken : is_skipped g h c.in-Begun-2.final_lsn ≡ false =
    ap (is_skipped g h) (sym last) ∙ ap (names c.in-Begun.final_lsn) (sym represents.skip) ∙ sym c.skips.ensures ∙ c.if-skips.false in
    let o = begun_open h c.in-Begun-2.xid c.in-Begun-2.final_lsn begun represents.here in
    let room = room_direct g h.transactions c.args.size o.0.way o.2 in
    (o.0, o.1, room, λ planned. line_begun g h c.args.size c.args.sub c.in-Begun-2.xid c.in-Begun-2.final_lsn o.0 planned begun taken o.1 room)

pub returns-in_err-check_spool-in-Block : goal.returns-in_err-check_spool-in-Block
returns-in_err-check_spool-in-Block c = λ g h represents.
    let block : h.phase ≡ Block c.in-Block.xid = sym represents.phase ∙ c.in-Block.is in
    let o = block_open h c.in-Block.xid block represents.here in
    IsChangeOf-refused g h c.args.size c.args.sub c.from_residual.result c.in_err-check_spool-in-Block.field-0.0 c.from_residual.ensures.1
    (λ planned. line_full g h c.args.size c.args.sub c.in-Block.xid o.0 c.in_err-check_spool-in-Block.field-0.0 planned block o.1 (c.in_err-check_spool-in-Block.ensures g h.transactions represents.transactions))

pub returns-in_ok-check_spool-in-Block : goal.returns-in_ok-check_spool-in-Block
returns-in_ok-check_spool-in-Block c = λ g h represents.
    let block : h.phase ≡ Block c.in-Block.xid = sym represents.phase ∙ c.in-Block.is in
    let o = block_open h c.in-Block.xid block represents.here in
    let room = has_room-none g h.transactions c.args.size _ o.0 o.1 (c.in_ok-check_spool-in-Block.ensures g h.transactions represents.transactions) in
    (o.0, o.1, room, λ planned. rw c.unwrap_or.ensures (line_block g h c.args.size c.args.sub c.in-Block.xid o.0 planned block o.1 room))
