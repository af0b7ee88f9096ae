use Rattle.std.proofs.Common.{◌≡◌, ◌<◌, ◌++◌, All, List, length, map}
use Rattle.std.specs.List.{flat_map}
use Rattle.wc_resolve.specs.Views.{type_entry}
use Rattle.wc_names.specs.Views.{ImportView}
use Rattle.wc_world.specs.Lowering.{type_lowerings}
use Rattle.wc_world.specs.Private.ImportedItems.{AreImported}
use Rattle.wc_world.specs.WorldViews.{lowering_entry}
use Rattle.wc_world.specs.Private.LoweringContext.{lowerer_in}
use Rattle.wc_world.proofs.lowering.push_types.Given as goal

abbrev pub invariant-loop-name : goal.invariant-loop-name
invariant-loop-name g l =
    All (λ e. e.1.0 < length l.context.resolve.now.types) l._name-iterator
    × ((imports : List ImportView) → AreImported imports l.context.imported.now
    → map lowering_entry l.lowerings.items ++ flat_map (λ e. type_lowerings (lowerer_in g.O.ImportOptions.options_of l.context imports) e.1) (map type_entry l._name-iterator)
    ≡ map lowering_entry l.fn.lowerings.items ++ flat_map (λ e. type_lowerings (lowerer_in g.O.ImportOptions.options_of l.context imports) e.1) (map type_entry l.types.entries))
