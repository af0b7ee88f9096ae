use Rattle.std.proofs.Common.{◌∙◌, map, ap, sym}
use Rattle.wc_resolve.specs.Roots.{indices}
use Rattle.wc_resolve.proofs.WalkLemmas.{inserted}
use Rattle.wc_world.proofs.OwnerLemmas.{group_added, group_put, group_view, owned_more, with_owned}
use Rattle.wc_world.proofs.live.add_to_owner.Goals as goal

pub returns-in-Some : goal.returns-in-Some
returns-in-Some c = λ r is passed new before.
    ap (map group_view) (c.get_mut.follows.holds c.insert.new.self).0
    ∙ (group_put c.args.owner c.args.ty.0 c.insert.new.self c.args.groups.now.entries c.in-Some.group.now (ap indices c.in_ok-insert.ensures.keys ∙ inserted c.in-Some.group.now.keys c.args.ty) (sym c.in-Some.ensures.value)
    ∙ (ap (λ z. with_owned z c.args.owner.0 c.args.ty.0) before ∙ owned_more r passed c.args.ty.0 c.args.owner.0 is new))

pub returns : goal.returns
returns c = λ r is passed new before.
    ap (map group_view) (rw c.get_mut.follows.holds-at-none at c.in_ok-insert-3.ensures.entries)
    ∙ (group_added c.args.owner c.args.ty.0 c.insert-2.new.self c.args.groups.now.entries
    (let e = c.in_ok-insert-2.ensures.keys in let f = c.with_hasher-group.ensures.empty in ap indices (rw f at e)) (sym c.in_default.ensures.value)
    ∙ (ap (λ z. with_owned z c.args.owner.0 c.args.ty.0) before ∙ owned_more r passed c.args.ty.0 c.args.owner.0 is new))
