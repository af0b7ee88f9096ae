use Rattle.std.proofs.Common.{map, take}
use Rattle.std.specs.List.{flat_map}
use Rattle.json.specs.Tree.{json_tokens}
use Rattle.wc_why_text.specs.Private.Tokens.{Puts}
use Rattle.wc_summary.specs.Summary.{part_view}
use Rattle.wc_summary.specs.SummaryJson.{adapter_json}
use Rattle.wc_summary.proofs.summary_json.put_adapters.Given as goal

abbrev pub invariant-loop-part : goal.invariant-loop-part
invariant-loop-part l = Puts l.fn.out l.out (flat_map json_tokens (map adapter_json (map part_view (take l.part-index l.parts))))
