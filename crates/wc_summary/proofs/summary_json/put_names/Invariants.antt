use Rattle.std.proofs.Common.{string_bytes}
use Rattle.json.specs.Json.{string}
use Rattle.wc_why_text.specs.Private.Tokens.{Puts}
use Rattle.wc_why_text.proofs.TokenLemmas.{so_far}
use Rattle.wc_summary.proofs.summary_json.put_names.Given as goal

abbrev pub invariant-loop-name : goal.invariant-loop-name
invariant-loop-name l = Puts l.fn.out l.out (so_far l.member string string_bytes l.names l.name-index)
