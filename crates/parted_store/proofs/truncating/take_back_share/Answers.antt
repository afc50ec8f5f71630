use Rattle.std.proofs.Common.{◌∙◌, Option, sym, ap, subst}
use Rattle.std.specs.Prelude.{IsSomeAnd}
use Rattle.table_parts.specs.Part.{Part}
use Rattle.table_parts.specs.Several.{IsAttempted, IsLeft}
use Rattle.parted_store.specs.Shares.{Share, share_of}
use Rattle.parted_store.specs.TruncatingLemmas.{some_same}
use Rattle.parted_store.proofs.truncating.take_back_share.Goals as goal

pub take_back-requires-clause-attempted : goal.take_back-requires-clause-attempted
take_back-requires-clause-attempted c =
    let (p, share, mark, d, is) = c.requires.attempted in (
      p,
      share,
      mark,
      d,
      subst (λ (q : Part). IsAttempted p share mark d c.args.attempt q c.in-Some.share) (sym c.part.ensures.part)
          (some_same _ _ c.in-Some.share (ap (share_of c.args.shares.now.items) (sym c.number-table.ensures) ∙ sym c.take_share.ensures.share ∙ c.in-Some.is) is),
    )

pub returns-clause-left : goal.returns-clause-left
returns-clause-left c = λ p share mark d is.
    let found = ap (share_of c.args.shares.now.items) (sym c.number-table.ensures) ∙ sym c.take_share.ensures.share ∙ c.in-Some.is in
    let put = ap (share_of c.put_share.new.shares.items) (sym c.number-table.ensures) ∙ c.put_share.ensures.share in
    subst (λ (o : Option Share). IsSomeAnd o (λ now. IsLeft p share c.take_back.new.self now)) (sym put)
    (c.take_back.ensures.left p share mark d
    (subst (λ (q : Part). IsAttempted p share mark d c.args.attempt q c.in-Some.share) (sym c.part.ensures.part) (some_same _ _ c.in-Some.share found is)))
