use Rattle.std.proofs.Common.{◌≡◌, List, map, take}
use Rattle.wc_gc.specs.LiveItems.{names_of}
use Rattle.wc_paths.specs.Counts.{counts_value}
use Rattle.wc_read.specs.Exports.{ExportValue}
use Rattle.wc_summary.specs.Private.Leads.{HasNamed}
use Rattle.wc_summary.proofs.leads.sources_in.Given as goal
use Rattle.wc_summary.specs.Leads.{source_by}

abbrev pub invariant-loop-name : goal.invariant-loop-name
invariant-loop-name l = (exports : List ExportValue) → HasNamed exports l.named.entries → l.sources.items ≡ map (source_by (counts_value l.counts) exports) (names_of (take l.name-index l.names))
