use Rattle.std.proofs.Common.{map, string_bytes, take}
use Rattle.std.specs.List.{flat_map}
use Rattle.json.specs.Json.{string}
use Rattle.json.specs.Tree.{json_tokens}
use Rattle.wc_why_text.specs.Private.Tokens.{Puts}
use Rattle.wc_summary.proofs.summary_json.put_texts.Given as goal

abbrev pub invariant-loop-text : goal.invariant-loop-text
invariant-loop-text l = Puts l.fn.out l.out (flat_map json_tokens (map string (map string_bytes (take l.text-index l.texts))))
