use Rattle.wc_resolve.proofs.ChildLemmas.{children_at}
use Rattle.wc_resolve.proofs.validate.order.children.Goals as goal

pub returns : goal.returns
returns c = rw (children_at c.args.types.now c.args.index c.index-types-index.result c.requires) c.referenced_indices.ensures
