use Rattle.std.proofs.Common.{◌≡◌, ◌++◌, ◌∙◌, ap, map, refl, subst, sym}
use Rattle.wc_world.specs.Lowering.{AreKeysDistinct, Lowerer, lowerings_of_interface}
use Rattle.wc_world.specs.WorldViews.{lowering_entry}
use Rattle.wc_world.specs.Private.LoweringContext.{lowerer_in}
use Rattle.wc_world.proofs.kept_lowerings.lowerings_of.Goals as goal

pub returns : goal.returns
returns g c = λ imports a.
    let l : Lowerer = lowerer_in g.O.ImportOptions.options_of c.args.context.now imports in
    let found : map lowering_entry c.push_interface.new.lowerings.items ≡ lowerings_of_interface l c.args.id.0 =
    c.in_ok-push_interface.ensures imports a ∙ ap (λ z. map lowering_entry z ++ lowerings_of_interface l c.args.id.0) c.new-found.ensures.items in
    ap (λ z. map lowering_entry z.entries) c.in_ok-new.ensures.ok ∙ (c.in_ok-lowerings.ensures (subst AreKeysDistinct (sym found) (c.distinct_keys.ensures l refl)) ∙ found)
