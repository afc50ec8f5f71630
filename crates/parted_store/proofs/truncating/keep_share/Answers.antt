use Rattle.std.proofs.Common.{◌∙◌, sym, ap, subst}
use Rattle.table_parts.specs.Part.{Part}
use Rattle.table_parts.specs.Several.{IsAttempted}
use Rattle.parted_store.specs.Shares.{share_of}
use Rattle.parted_store.specs.TruncatingLemmas.{some_same}
use Rattle.parted_store.proofs.truncating.keep_share.Goals as goal

pub keep-requires-clause-attempted : goal.keep-requires-clause-attempted
keep-requires-clause-attempted c =
    let (p, share, d, is) = c.requires.attempted in (
      p,
      share,
      d,
      subst (λ (q : Part). IsAttempted p share c.args.mark d c.args.attempt q c.in-Some.share) (sym c.part.ensures.part)
          (some_same _ _ c.in-Some.share (ap (share_of c.args.shares.now.items) (sym c.number-table.ensures) ∙ sym c.take_share.ensures.share ∙ c.in-Some.is) is),
    )
