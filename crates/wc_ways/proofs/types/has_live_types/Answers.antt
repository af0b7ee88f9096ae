use Rattle.std.proofs.Common.{◌∙◌, refl}
use Rattle.wc_resolve.specs.contracts.ids.InterfaceIdPartialEq.TheImpl.{eq-value as interface_eq}
use Rattle.wc_resolve.specs.declared.ids.InterfaceId.{InterfaceId}
use Rattle.wc_resolve.specs.Roots.{indices}
use Rattle.wc_ways.proofs.TypesLemmas.{is_found}
use Rattle.wc_ways.proofs.types.has_live_types.Goals as goal

pub returns : goal.returns
returns c = c.contains_key.ensures ∙ is_found (interface_eq.it c.args.id) (λ (k : InterfaceId). k.0) (λ s. indices s.keys) c.args.id.0 (λ k. refl) c.args.live.now.entries
