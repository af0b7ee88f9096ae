use Rattle.std.proofs.Common.{List, [], ap, subst}
use Rattle.wc_resolve.specs.Views.{TypeView}
use Rattle.wc_resolve.specs.Kinds.{ResolveView}
use Rattle.wc_resolve.specs.Validate.{IsOrder}
use Rattle.wc_resolve.specs.Live.{listing_rule}
use Rattle.wc_resolve.proofs.TypeRuleLemmas.{value_by_rule_alone, value_by_rule_follows}
use Rattle.wc_resolve.proofs.ListingLemmas.{listing_looks_down}
use Rattle.wc_resolve.proofs.resolve.Resolve.listings_unique.Goals as goal

pub returns-clause-made : goal.returns-clause-made
returns-clause-made c =
    value_by_rule_follows listing_rule [] c.args.self.now.types c.self.inside.kept.order.items
    (subst (λ (t : List TypeView). IsOrder t c.self.inside.kept.order.items) (ap (λ (v : ResolveView). v.types) c.self.view_is) c.self.invariant.ordered)
    (listing_looks_down c.args.self.now.types)

pub returns-clause-alone : goal.returns-clause-alone
returns-clause-alone c =
    value_by_rule_alone listing_rule [] c.args.self.now.types c.self.inside.kept.order.items
    (subst (λ (t : List TypeView). IsOrder t c.self.inside.kept.order.items) (ap (λ (v : ResolveView). v.types) c.self.view_is) c.self.invariant.ordered)
    (listing_looks_down c.args.self.now.types)
