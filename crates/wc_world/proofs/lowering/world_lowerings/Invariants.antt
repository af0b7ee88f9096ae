use Rattle.std.proofs.Common.{◌≡◌, ◌++◌, All, List, [], map}
use Rattle.std.specs.List.{flat_map}
use Rattle.wc_resolve.specs.Views.{item_view, world_entry}
use Rattle.wc_names.specs.Views.{ImportView}
use Rattle.wc_world.specs.Lowering.{IsLowerable, item_lowerings}
use Rattle.wc_world.specs.Private.ImportedItems.{AreImported}
use Rattle.wc_world.specs.WorldViews.{lowering_entry}
use Rattle.wc_world.specs.Private.LoweringContext.{lowerer_in}
use Rattle.wc_world.proofs.lowering.world_lowerings.Given as goal

abbrev pub invariant-loop-key : goal.invariant-loop-key
invariant-loop-key g l =
    All (λ e. IsLowerable l.context.resolve.now (item_view e.1)) l._key-iterator
    × ((imports : List ImportView) → AreImported imports l.context.imported.now
    → map lowering_entry l.lowerings.items ++ flat_map (λ e. item_lowerings (lowerer_in g.O.ImportOptions.options_of l.context imports) e.1) (map world_entry l._key-iterator)
    ≡ [] ++ flat_map (λ e. item_lowerings (lowerer_in g.O.ImportOptions.options_of l.context imports) e.1) (map world_entry l.items.entries))
