use Rattle.std.proofs.Common.{List, map}
use Rattle.wc_summary.specs.Entries.{entries_view}
use Rattle.wc_import_paths.specs.MainModules.{code_of, main_view}
use Rattle.wc_module_ways.specs.AdapterNames.{HasNames}
use Rattle.wc_module_ways.specs.Adapters.{Given}
use Rattle.wc_module_ways.specs.CoreModules.{core_view}
use Rattle.wc_module_ways.proofs.CoreImportLemmas.{CoresSoFar}
use Rattle.wc_module_ways.proofs.core_imports.note_core.Given as goal

abbrev pub invariant-loop-index : goal.invariant-loop-index
invariant-loop-index l =
    (given : List Given) → HasNames given l.modules.names.keys
    → CoresSoFar (code_of (main_view l.modules.main)).imports given (map core_view l.modules.core.items) l.index (entries_view l.fn.entries.entries)
    (entries_view l.entries.entries)
