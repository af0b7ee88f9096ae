use Rattle.std.proofs.Common.{◌≡◌, map, string_bytes, take}
use Rattle.wc_summary.specs.SummaryLines.{words_text}
use Rattle.wc_summary.proofs.summary_lines.words_text.Given as goal

abbrev pub invariant-loop-name : goal.invariant-loop-name
invariant-loop-name l = string_bytes l.text ≡ words_text (map string_bytes (take l.name-index l.names))
