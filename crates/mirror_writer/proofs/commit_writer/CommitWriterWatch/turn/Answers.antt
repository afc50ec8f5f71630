use Rattle.std.proofs.Common.{sym, subst, ◌∙◌}
use Rattle.std.proofs.Math.Logic.{∥∥₁_map}
use Rattle.snapshot.specs.Reads.{Sight}
use Rattle.mirror_writer.specs.Kept.{IsUpTo}
use Rattle.mirror_writer.proofs.commit_writer.CommitWriterWatch.turn.Goals as goal

-- A position that was loaded alters nothing of the commits that were seen.
pub returns-then-pass-clause-knows : goal.returns-then-pass-clause-knows
returns-then-pass-clause-knows g c =
    let self = c.args.self.now in
    ∥∥₁_map c.requires (λ knows goes. subst (λ (s : Sight). IsUpTo g.K.Keep.has_kept self.keep self.commits s) (sym c.position.ensures.beside) (knows goes))

pub returns-else-pass-clause-knows : goal.returns-else-pass-clause-knows
returns-else-pass-clause-knows g c =
    let self = c.args.self.now in
    ∥∥₁_map c.requires (λ knows goes.
    subst (λ (s : Sight). IsUpTo g.K.Keep.has_kept self.keep self.commits s) (sym c.wait_past.ensures.beside)
    (subst (λ (s : Sight). IsUpTo g.K.Keep.has_kept self.keep self.commits s) (sym c.position.ensures.beside) (knows goes)))

pub returns-in-Ok-clause-knows : goal.returns-in-Ok-clause-knows
returns-in-Ok-clause-knows g c =
    let self = c.args.self.now in
    ∥∥₁_map c.requires (λ knows goes.
    c.in-Ok.ensures.kept
    (subst (λ (s : Sight). IsUpTo g.K.Keep.has_kept self.keep self.commits s) (sym c.position.ensures.beside) (knows (sym c.catch_up.ensures.stop ∙ goes))))
