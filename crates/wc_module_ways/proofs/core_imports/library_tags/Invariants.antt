use Rattle.std.proofs.Common.{◌≡◌, List, take}
use Rattle.wc_read.specs.Imports.{import_values}
use Rattle.wc_summary.specs.Leads.{tags_view}
use Rattle.wc_module_ways.specs.AdapterNames.{HasNames}
use Rattle.wc_module_ways.specs.Adapters.{Given}
use Rattle.wc_module_ways.specs.CoreImports.{library_tags}
use Rattle.wc_module_ways.proofs.core_imports.library_tags.Given as goal

abbrev pub invariant-loop-import : goal.invariant-loop-import
invariant-loop-import l =
    (given : List Given) → HasNames given l.names.keys → tags_view l.tags.items ≡ library_tags given (import_values (take l.import-index l.imports))
