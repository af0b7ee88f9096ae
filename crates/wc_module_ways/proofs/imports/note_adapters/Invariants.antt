use Rattle.std.proofs.Common.{map}
use Rattle.wc_summary.specs.Entries.{entries_view}
use Rattle.wc_module_ways.specs.Adapters.{adapter_view}
use Rattle.wc_import_paths.specs.MainModules.{code_of, main_view}
use Rattle.wc_module_ways.proofs.ImportLemmas.{NotesSoFar}
use Rattle.wc_module_ways.proofs.imports.note_adapters.Given as goal

abbrev pub invariant-loop-index : goal.invariant-loop-index
invariant-loop-index l =
    NotesSoFar (code_of (main_view l.modules.main)).imports (map adapter_view l.modules.adapters.items) l.index (entries_view l.initial.entries.entries) (entries_view l.entries.entries)
