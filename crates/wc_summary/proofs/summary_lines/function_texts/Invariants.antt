use Rattle.std.proofs.Common.{◌≡◌, map, string_bytes, take}
use Rattle.wc_read.specs.Names.{name_entries}
use Rattle.wc_summary.specs.SummaryLines.{function_text}
use Rattle.wc_summary.proofs.summary_lines.function_texts.Given as goal

abbrev pub invariant-loop-index : goal.invariant-loop-index
invariant-loop-index l = map string_bytes l.texts.items ≡ map (function_text (name_entries l.names)) (take l.index-index l.indices)
