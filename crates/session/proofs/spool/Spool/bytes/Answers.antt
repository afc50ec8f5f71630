use Rattle.std.proofs.Common.{◌≡◌, sym, ap, ◌∙◌, arith}
use Rattle.std.specs.Prelude.{sum}
use Rattle.session.specs.Sized.{bytes_of}
use Rattle.session.proofs.Spools.{bytes_of-zip}
use Rattle.session.proofs.spool.Spool.bytes.Goals as goal

pub returns : goal.returns
returns c =
    let same : bytes_of c.args.self.now ≡ sum c.deref.result.now = ap bytes_of (sym c.self.view_is) ∙ bytes_of-zip c.self.inside.items.items c.self.inside.sizes.items c.self.invariant.paired ∙ ap sum (sym c.deref.ensures.value) in
    λ fits. c.total.ensures (omega (arith, same)) ∙ sym same
