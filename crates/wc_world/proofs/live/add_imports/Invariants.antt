use Rattle.wc_resolve.specs.Views.{world_view}
use Rattle.wc_validate.specs.Imports.Map.{imports_in}
use Rattle.wc_validate.specs.Imports.Iter.{imports_left}
use Rattle.wc_world.proofs.LiveWalkLemmas.{ImportsWalk}
use Rattle.wc_world.proofs.live.add_imports.Given as goal

abbrev pub invariant-loop-module : goal.invariant-loop-module
invariant-loop-module l = ImportsWalk l.resolve (world_view l.world).imports (imports_in l.imports) (imports_left l._module-iterator) l.added.keys l.fn.live l.live
