use Rattle.std.proofs.Common.{All, List, map}
use Rattle.wc_resolve.specs.Views.{world_entry}
use Rattle.wc_names.specs.Views.{ImportView}
use Rattle.wc_world.specs.Lowering.{AreEntriesDistinct, AreKeysDistinct, IsImportable, all_entries, own_lowerings}
use Rattle.wc_world.specs.Private.ImportedItems.{AreImported}
use Rattle.wc_world.specs.WorldViews.{imported_entry}
use Rattle.wc_world.specs.Private.LoweringContext.{AreKept, lowerer_in}
use Rattle.wc_world.proofs.ImportEntryLemmas.{AreAll}
use Rattle.wc_world.proofs.import_map.import_entries.Given as goal

abbrev pub invariant-loop-key : goal.invariant-loop-key
invariant-loop-key g l =
    All (λ e. IsImportable l.context.resolve.now (world_entry e)) l.key-iterator
    × (((imports : List ImportView) → AreImported imports l.context.imported.now → AreKept (lowerer_in g.O.ImportOptions.options_of l.context imports) l.kept.entries)
    × ((imports : List ImportView) → AreImported imports l.context.imported.now
    → AreKeysDistinct (own_lowerings (lowerer_in g.O.ImportOptions.options_of l.context imports) (map world_entry l.items.entries))
    → AreEntriesDistinct (all_entries (lowerer_in g.O.ImportOptions.options_of l.context imports) (map world_entry l.items.entries))
    → AreAll (lowerer_in g.O.ImportOptions.options_of l.context imports) (map world_entry l.items.entries) (map imported_entry l.entries.entries) l.has_own
    (map world_entry l.key-iterator)))
