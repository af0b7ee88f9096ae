use Rattle.std.proofs.Common.{refl}
use Rattle.wc_resolve.specs.ResolveParts.{parts_view}
use Rattle.wc_resolve.proofs.ResolveLemmas.{order_made, types_within}
use Rattle.wc_resolve.proofs.validate.order_of.Goals as goal

pub children_first-requires : goal.children_first-requires
children_first-requires c = types_within (parts_view c.args.parts.now) c.args.parts.now.types.items c.deref.result.now c.deref.ensures.value refl c.requires

pub returns-clause-order : goal.returns-clause-order
returns-clause-order c = order_made c.children_first.result (λ o. o.items) c.args.parts.now.types.items c.deref.result.now c.deref.ensures.value c.children_first.ensures.order c.children_first.ensures.within c.children_first.ensures.all
