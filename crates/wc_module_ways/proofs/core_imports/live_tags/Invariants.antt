use Rattle.std.proofs.Common.{◌≡◌, List, length, map}
use Rattle.std.specs.List.{range_with_len}
use Rattle.wc_read.specs.Imports.{import_values}
use Rattle.wc_summary.specs.Leads.{tags_view}
use Rattle.wc_module_ways.specs.AdapterNames.{HasNames}
use Rattle.wc_module_ways.specs.Adapters.{Given}
use Rattle.wc_module_ways.specs.CoreImports.{live_tag_at}
use Rattle.wc_module_ways.proofs.core_imports.live_tags.Given as goal

abbrev pub invariant-loop-index : goal.invariant-loop-index
invariant-loop-index l = record {
  sized : length l.tags.items ≡ l.index;
  are : (given : List Given) → HasNames given l.names.keys
      → tags_view l.tags.items ≡ map (live_tag_at given l.followed.reached.items (import_values l.followed.code.imports.items)) (range_with_len 0 l.index);
}
