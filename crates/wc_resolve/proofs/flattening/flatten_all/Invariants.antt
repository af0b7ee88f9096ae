use Rattle.std.proofs.Common.{map, take}
use Rattle.wc_resolve.specs.Flat.{lists}
use Rattle.wc_resolve.specs.Views.{type_view}
use Rattle.wc_resolve.proofs.FlatTableLemmas.{FlatsOf}
use Rattle.wc_resolve.proofs.flattening.flatten_all.Given as goal

abbrev pub invariant-loop-index : goal.invariant-loop-index
invariant-loop-index l = FlatsOf (map type_view l.types) (lists l.flats.items) (take l.index-index l.order)
