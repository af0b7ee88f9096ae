use Rattle.std.proofs.Common.{◌∙◌, ap, option_map, refl}
use Rattle.wc_resolve.specs.contracts.ids.TypeIdPartialEq.TheImpl.{eq-value as type_eq}
use Rattle.wc_resolve.specs.declared.ids.TypeId.{TypeId}
use Rattle.wc_ways.specs.Private.Needs.{root_view}
use Rattle.wc_ways.proofs.TypesLemmas.{found_viewed}
use Rattle.wc_ways.proofs.needs.root_of.Goals as goal

pub returns : goal.returns
returns c =
    ap (option_map root_view) (c.copied.ensures ∙ c.get.ensures.value)
    ∙ found_viewed (type_eq.it c.args.id) (λ (k : TypeId). k.0) root_view c.args.id.0 (λ k. refl) c.args.needed.now.roots.entries
