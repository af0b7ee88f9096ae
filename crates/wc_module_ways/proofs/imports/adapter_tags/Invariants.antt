use Rattle.std.proofs.Common.{◌≡◌, take}
use Rattle.wc_read.specs.Imports.{import_values}
use Rattle.wc_summary.specs.Leads.{tags_view}
use Rattle.wc_module_ways.specs.Private.Imports.{tags_at}
use Rattle.wc_module_ways.proofs.imports.adapter_tags.Given as goal

abbrev pub invariant-loop-index : goal.invariant-loop-index
invariant-loop-index l = tags_view l.tags.items ≡ tags_at (take l.index (import_values l.imports)) (take l.index l.positions)
