use Rattle.std.proofs.Common.{rules, ap, sym, ◌∙◌, [], Some, unwrap_or}
use Rattle.origin.proofs.Moves.{tells, meets, compares}
use Rattle.origin.proofs.origin.Origin.meet.Goals as goal

pub split_pass-seen-requires : goal.split_pass-seen-requires
split_pass-seen-requires g c =
    let own = ap (λ t. t.origin) c.loader.view_is ∙ c.requires.loader ∙ sym c.self.view_is in
    (search rules, (search rules, (own, tells _ _)))

pub join_pass-requires : goal.join_pass-requires
join_pass-requires g c =
    let own = ap (λ t. t.origin) c.publisher.view_is ∙ c.requires.publisher ∙ sym c.self.view_is in
    let theirs = ap (λ t. t.origin) c.loader.view_is ∙ c.requires.loader ∙ sym c.self.view_is in
    let given = c.split_pass-seen.ensures.given in
    (search rules, (search rules, ((own, given.0 ∙ theirs ∙ sym own, given.2), meets _ _ _ _)))

pub load_as-requires : goal.load_as-requires
load_as-requires g c =
    let own = ap (λ t. t.origin) c.publisher.view_is ∙ c.requires.publisher ∙ sym c.self.view_is in
    let same = c.join_pass.ensures.0.0 in
    let kept = ap (λ v. v.published) c.join_pass.ensures.1 in
    let all = kept ∙ c.publisher.invariant ∙ ap (λ o. Some (unwrap_or o [])) (sym kept) in
    (search rules, (search rules, (same ∙ own, compares _ _ all)))
