use Rattle.std.proofs.Common.{map, take}
use Rattle.wc_resolve.specs.Views.{type_view}
use Rattle.wc_resolve.proofs.ResourceFlagLemmas.{ResourceFlagsOf}
use Rattle.wc_resolve.proofs.validate.resources.find_resources.Given as goal

abbrev pub invariant-loop-index : goal.invariant-loop-index
invariant-loop-index l = ResourceFlagsOf (map type_view l.types) l.resource_flags.items (take l.index-index l.order)
