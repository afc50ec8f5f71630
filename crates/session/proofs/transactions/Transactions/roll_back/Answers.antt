use Rattle.std.proofs.Common.{◌≡◌, ◌+◌, ◌<◌, ◌^◌, sym, ap, ◌∙◌, arith, refl, false}
use Rattle.model.specs.declared.item.Item.TheVariants.{BackTo}
use Rattle.session.specs.State.{Open, spool_bytes_of}
use Rattle.session.specs.Kept.{cut_back, bytes_kept, is_spool, is_spooled}
use Rattle.session.specs.KeptTransactions.{kept_part, with_item}
use Rattle.session.proofs.Kept.{found_is, keeping_cut, bytes_kept-keeping, is_spool-keeping, spool_bytes-remove, nothing_spooled, Represents-written}
use Rattle.session.proofs.transactions.Transactions.roll_back.Goals as goal

pub returns-in-Some-cut : goal.returns-in-Some-cut
returns-in-Some-cut c = λ g m o kept some apart.
    let xid = c.args.xid in
    let p : Open = with_item o (BackTo c.args.sub) 0 in
    let was = found_is g c.args.self.now m xid o c.in-Some.way.now kept some c.in-Some.ensures.value in
    let is : c.cut.new.self ≡ kept_part xid p.items o.way = c.cut.ensures.rest ∙ ap (cut_back c.args.sub) was ∙ keeping_cut xid o.items c.args.sub o.way apart in
    let before : bytes_kept c.in-Some.way.now ≡ spool_bytes_of xid o.items o.way = ap bytes_kept was ∙ bytes_kept-keeping xid o.items o.way in
    let after : bytes_kept c.cut.new.self ≡ spool_bytes_of xid p.items o.way = ap bytes_kept is ∙ bytes_kept-keeping xid p.items o.way in
    let all = spool_bytes-remove m xid o some in
    let fits : bytes_kept c.in-Some.way.now < 2 ^ 64 = omega (arith, before, all, kept.spooled, kept.fits) in
    let freed = c.in-Some-cut.ensures.freed fits in
    let spools : is_spool c.in-Some.way.now ≡ is_spooled o.way = ap is_spool was ∙ is_spool-keeping xid o.items o.way in
    let less = c.saturating_sub-self.ensures in (
      sym freed.0 ∙ spools,
      Represents-written g c.args.self.now _ m xid o p c.cut.new.self kept some refl (c.get_mut.follows.holds c.cut.new.self) is refl refl refl (omega (arith, less, freed.1, before, after, all, kept.spooled)) (omega (arith, less, kept.fits)),
    )

-- nothing is kept, so no bytes are freed
pub returns-in-None : goal.returns-in-None
returns-in-None c = λ g m o kept some apart.
    let xid = c.args.xid in
    let p : Open = with_item o (BackTo c.args.sub) 0 in
    let was = found_is g c.args.self.now m xid o c.in-Some.way.now kept some c.in-Some.ensures.value in
    let is : c.cut.new.self ≡ kept_part xid p.items o.way = c.cut.ensures.rest ∙ ap (cut_back c.args.sub) was ∙ keeping_cut xid o.items c.args.sub o.way apart in
    let before : bytes_kept c.in-Some.way.now ≡ spool_bytes_of xid o.items o.way = ap bytes_kept was ∙ bytes_kept-keeping xid o.items o.way in
    let all = spool_bytes-remove m xid o some in
    let fits : bytes_kept c.in-Some.way.now < 2 ^ 64 = omega (arith, before, all, kept.spooled, kept.fits) in
    let none = c.in-None.ensures.freed fits in
    let spools : is_spool c.in-Some.way.now ≡ is_spooled o.way = ap is_spool was ∙ is_spool-keeping xid o.items o.way in
    let direct : false ≡ is_spooled o.way = sym none ∙ spools in (
      direct,
      Represents-written g c.args.self.now _ m xid o p c.cut.new.self kept some refl (c.get_mut.follows.holds c.cut.new.self) is refl refl refl (ap (λ n. c.args.self.now.spooled + n) (nothing_spooled xid o.items p.items o.way (sym direct))) kept.fits,
    )
