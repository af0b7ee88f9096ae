use Rattle.std.proofs.Common.{◌∙◌, ap, option_map, sym}
use Rattle.wc_resolve.specs.Roots.{id_index}
use Rattle.wc_world.specs.WorldViews.{world_view}
use Rattle.wc_resolve.specs.WellFormed.{type_name}
use Rattle.wc_ways.specs.Types.{cite_by}
use Rattle.wc_ways.proofs.types.cite_of.Goals as goal

pub returns-in-Some : goal.returns-in-Some
returns-in-Some c =
    let w = world_view c.args.world.now in
    let t = c.in-Some.ty.0 in
    let e = c.type_name.ensures ∙ ap (λ r. type_name r t) c.metadata-metadata.ensures.resolve in
    let f = c.root_of.ensures ∙ c.requires t in
    (λ i. record { name = e i; root = f i }) ∙ ap (cite_by w) (sym (ap (option_map id_index) c.in-Some.is) ∙ c.first_live.ensures)

pub returns-in-None : goal.returns-in-None
returns-in-None c = ap (cite_by (world_view c.args.world.now)) (sym (ap (option_map id_index) c.in-None.is) ∙ c.first_live.ensures)
