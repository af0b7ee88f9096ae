use Rattle.std.proofs.Common.{codes, map}
use Rattle.wc_read.specs.Names.{name_entries}
use Rattle.wc_summary.specs.Summary.{entry_view}
use Rattle.wc_summary.specs.SummaryJson.{entry_json}
use Rattle.wc_summary.proofs.SummaryTextLemmas.{PutsLeft}
use Rattle.wc_summary.proofs.summary_json.put_list.Given as goal

abbrev pub invariant-loop-interface : goal.invariant-loop-interface
invariant-loop-interface l =
    PutsLeft (codes "imports") (entry_json (name_entries l.names)) (map entry_view l.entries.entries) (map entry_view l.interface-iterator) l.fn.out l.out
