use Rattle.std.proofs.Common.{◌∙◌, refl}
use Rattle.wc_resolve.specs.contracts.ids.TypeIdPartialEq.TheImpl.{eq-value as type_eq}
use Rattle.wc_resolve.specs.declared.ids.TypeId.{TypeId}
use Rattle.wc_ways.specs.Private.Needs.{root_view}
use Rattle.wc_ways.proofs.NeedLemmas.{known_type}
use Rattle.wc_ways.proofs.TypesLemmas.{is_found}
use Rattle.wc_ways.proofs.needs.NeededTypesKnownTypes.has.Goals as goal

pub returns : goal.returns
returns c =
    known_type c.args.self.now.roots.entries c.args.id.0 c.contains_key.result
    (c.contains_key.ensures ∙ is_found (type_eq.it c.args.id) (λ (k : TypeId). k.0) root_view c.args.id.0 (λ k. refl) c.args.self.now.roots.entries)
