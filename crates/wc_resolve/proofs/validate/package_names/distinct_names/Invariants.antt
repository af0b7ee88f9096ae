use Rattle.std.proofs.Common.{map, take}
use Rattle.wc_resolve.specs.Views.{package_name_view, package_view}
use Rattle.wc_resolve.proofs.DistinctLemmas.{AreSeen}
use Rattle.wc_resolve.proofs.validate.package_names.distinct_names.Given as goal

abbrev pub invariant-loop-index : goal.invariant-loop-index
invariant-loop-index l = AreSeen package_name_view l.names.keys (map (λ p. p.name) (map package_view (take l.index l.packages)))
