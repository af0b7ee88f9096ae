use Rattle.std.proofs.Common.{map, take}
use Rattle.std.specs.List.{All}
use Rattle.wc_resolve.specs.Explain.{DoesPackageFollow}
use Rattle.wc_resolve.specs.ResolveParts.{parts_view}
use Rattle.wc_resolve.specs.Views.{package_view}
use Rattle.wc_resolve.proofs.validate.first.first_package.Given as goal

abbrev pub invariant-loop-index : goal.invariant-loop-index
invariant-loop-index l = All (DoesPackageFollow (parts_view l.parts) l.fault) (map package_view (take l.index l.packages))
