use Rattle.std.proofs.Common.{◌≡◌, ◌∙◌, ◌<◌, sym, ap, subst}
use Rattle.live_tables.specs.Answers.{told_call}
use Rattle.parted_store.specs.ComeLemmas.{comes_to, opened_there}
use Rattle.parted_store.specs.KeepsSoundLemmas.{sound_opened}
use Rattle.parted_store.specs.Shares.{Share, share_of}
use Rattle.parted_store.proofs.coming.come_to.Goals as goal

pub put_share-requires-2 : goal.put_share-requires-2
put_share-requires-2 c = subst (λ n. c.number-table.result < n) (sym c.take_share.ensures.long) c.in_ok-make_room.ensures.room

pub returns-clause-part : goal.returns-clause-part
returns-clause-part c w has = comes_to w c.args.part.now c.open.new.self has c.open.ensures.number c.ticket.inside.xid (told_call c.open.result) c.open.ensures.in_part

pub returns-clause-stands : goal.returns-clause-stands
returns-clause-stands c share there =
    let number : c.open.new.self.number ≡ c.number-table.result = c.open.ensures.number ∙ sym c.number-table.ensures in
    opened_there c.args.part.now.store.world c.open.new.self.store.world c.ticket.inside.xid c.in_ok-share.ensures.in_part c.in_ok-share.share
    (ap (λ (s : Share). s.number) c.in_ok-share.ensures.ticket) (ap (λ (s : Share). s.list) c.in_ok-share.ensures.ticket) share
    (sym c.put_share-2.ensures.share ∙ ap (share_of c.put_share-2.new.shares.items) (sym number) ∙ there)

pub returns-clause-sound : goal.returns-clause-sound
returns-clause-sound c = sound_opened c.args.part.now c.open.new.self c.ticket.inside.xid (told_call c.open.result) c.open.ensures.in_part
