use Rattle.std.proofs.Common.{◌≡◌, cond, ap, ◌∙◌, arith, refl, true, false}
use Rattle.session.specs.Kept.{kept_more, back_of, is_spooled}
use Rattle.session.specs.KeptTransactions.{kept_part, item_back, with_item}
use Rattle.session.proofs.Kept.{found_is, keeping_more, back_of-keeping, spool_bytes_of-taken, kept_if_none, room_within, Represents-written}
use Rattle.session.proofs.transactions.Transactions.add_item.Goals as goal
use Rattle.session.proofs.transactions.Transactions.add_item.Goals.{then-is_none, else-is_none}

pub returns : goal.returns
returns c = λ g m o kept some room survives.
    let xid = c.args.xid in
    let was = found_is g c.args.self.now m xid o c.in-Some.way.now kept some c.in-Some.ensures.value in
    let is : c.keep.new.self ≡ kept_part xid (with_item o c.args.item c.args.size).items o.way = c.in_ok-back.ensures.ok.0 ∙ ap (λ k. kept_more k c.args.item c.args.size) was ∙ keeping_more xid o.items c.args.item c.args.size o.way survives in
    let back : c.in_ok-back.back ≡ item_back o.way c.args.item = c.in_ok-back.ensures.ok.1 ∙ ap (λ k. back_of k c.args.item) was ∙ back_of-keeping xid o.items c.args.item o.way in
    let more = spool_bytes_of-taken xid o.items c.args.item c.args.size o.way survives in
    let keeps : is_spooled o.way ≡ c.is_none.result = kept_if_none o.way c.args.item c.in_ok-back.back c.is_none.result back c.is_none.ensures in (
      back,
      elim c.if-is_none.branch [
        | then-is_none w ↦
            let spools : is_spooled o.way ≡ true = keeps ∙ w.if-is_none.true in
            let one : cond (is_spooled o.way) c.args.size 0 ≡ c.args.size = rw spools in
            let within = room_within g m c.args.size o.way room spools in
            let sum = w.saturating_add-self.ensures in
            rw w.self-is (Represents-written g c.args.self.now _ m xid o (with_item o c.args.item c.args.size) c.keep.new.self kept some refl (c.get_mut.follows.holds c.keep.new.self) is refl refl refl (omega (arith, more, one, sum, within, kept.spooled, kept.room, kept.limit)) (omega (arith, sum, within, kept.spooled, kept.room, kept.limit)))
        | else-is_none w ↦
            let spools : is_spooled o.way ≡ false = keeps ∙ w.if-is_none.false in
            let one : cond (is_spooled o.way) c.args.size 0 ≡ 0 = rw spools in
            rw w.self-is (Represents-written g c.args.self.now _ m xid o (with_item o c.args.item c.args.size) c.keep.new.self kept some refl (c.get_mut.follows.holds c.keep.new.self) is refl refl refl (omega (arith, more, one)) kept.fits)
      ],
    )
