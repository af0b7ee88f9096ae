use Rattle.std.proofs.Common.{codes, ℕ}
use Rattle.wc_read.specs.Names.{name_entries}
use Rattle.wc_summary.specs.SummaryJson.{function_json}
use Rattle.wc_why_text.specs.Private.Tokens.{Puts}
use Rattle.wc_why_text.proofs.TokenLemmas.{so_far}
use Rattle.wc_summary.proofs.summary_json.put_functions.Given as goal

abbrev pub invariant-loop-index : goal.invariant-loop-index
invariant-loop-index l = Puts l.fn.out l.out (so_far (codes "by") (function_json (name_entries l.names)) (λ (x : ℕ). x) l.indices l.index-index)
