use Rattle.std.proofs.Common.{◌≡◌, ◌++◌, map, string_bytes}
use Rattle.std.specs.List.{flat_map}
use Rattle.wc_read.specs.Names.{name_entries}
use Rattle.wc_summary.specs.Summary.{entry_view}
use Rattle.wc_summary.specs.SummaryLines.{entry_line, entry_lines}
use Rattle.wc_summary.proofs.summary_lines.lines_of.Given as goal

abbrev pub invariant-loop-interface : goal.invariant-loop-interface
invariant-loop-interface l =
    string_bytes l.text ++ flat_map (entry_line (name_entries l.names)) (map entry_view l.interface-iterator)
    ≡ entry_lines (name_entries l.names) (map entry_view l.entries.entries)
