use Rattle.std.proofs.Common.{◌∙◌, ap, map, subst, sym}
use Rattle.wc_world.specs.Lowering.{AreKeysDistinct}
use Rattle.wc_world.specs.WorldViews.{lowering_entry}
use Rattle.wc_world.proofs.import_map.imported_world.Goals as goal

pub returns-clause-lowerings : goal.returns-clause-lowerings
returns-clause-lowerings g c = λ imports a distinct.
    ap (λ z. map lowering_entry z.entries) c.in_ok-lowerings.ensures.ok
    ∙ (c.in_ok-by_key.ensures (subst (λ z. AreKeysDistinct z) (sym (c.in_ok-found.ensures imports a)) distinct) ∙ c.in_ok-found.ensures imports a)
