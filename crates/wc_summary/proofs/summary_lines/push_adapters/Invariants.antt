use Rattle.std.proofs.Common.{◌≡◌, ◌++◌, map, string_bytes, take}
use Rattle.wc_summary.specs.Summary.{part_view}
use Rattle.wc_summary.specs.SummaryLines.{adapter_text}
use Rattle.wc_summary.proofs.summary_lines.push_adapters.Given as goal

abbrev pub invariant-loop-part : goal.invariant-loop-part
invariant-loop-part l = map string_bytes l.parts.items ≡ map string_bytes l.fn.parts.items ++ map adapter_text (map part_view (take l.part-index l.adapters))
