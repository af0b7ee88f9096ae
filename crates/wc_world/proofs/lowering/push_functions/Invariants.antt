use Rattle.std.proofs.Common.{◌≡◌, ◌++◌, All, List, Some, map}
use Rattle.std.specs.List.{flat_map}
use Rattle.wc_resolve.specs.Views.{function_entry, function_view}
use Rattle.wc_resolve.specs.WellFormed.{IsUsable}
use Rattle.wc_names.specs.Views.{ImportView}
use Rattle.wc_world.specs.Lowering.{function_lowerings}
use Rattle.wc_world.specs.Private.ImportedItems.{AreImported}
use Rattle.wc_world.specs.WorldViews.{lowering_entry}
use Rattle.wc_world.specs.Private.LoweringContext.{lowerer_in}
use Rattle.wc_world.proofs.lowering.push_functions.Given as goal

abbrev pub invariant-loop-name : goal.invariant-loop-name
invariant-loop-name g l =
    All (λ e. IsUsable l.context.resolve.now (function_view e.1)) l._name-iterator
    × ((imports : List ImportView) → AreImported imports l.context.imported.now
    → map lowering_entry l.lowerings.items ++ flat_map (λ e. function_lowerings (lowerer_in g.O.ImportOptions.options_of l.context imports) (Some l.fn.interface.0) e.1) (map function_entry l._name-iterator)
    ≡ map lowering_entry l.fn.lowerings.items ++ flat_map (λ e. function_lowerings (lowerer_in g.O.ImportOptions.options_of l.context imports) (Some l.fn.interface.0) e.1) (map function_entry l.functions.entries))
