use Rattle.std.proofs.Common.{◌≡◌, arith, codes, length, ℕ}
use Rattle.wc_read.specs.Names.{name_entries}
use Rattle.wc_summary.specs.SummaryJson.{function_json}
use Rattle.wc_why_text.proofs.TokenLemmas.{both, list_done, list_more, wrote, wrote_last}
use Rattle.wc_summary.proofs.SummaryTextLemmas.{plain_list}
use Rattle.wc_summary.proofs.summary_json.put_functions.Goals as goal

pub loop-index-init : goal.loop-index-init
loop-index-init c = both (wrote c.in_ok-key.ensures) (wrote c.in_ok-begin_array.ensures)

pub loop-index-preserved : goal.loop-index-preserved
loop-index-preserved c =
    list_more (codes "by") (function_json (name_entries c.args.names.now)) (λ (x : ℕ). x) c.args.indices.now c.loop-index.index-index _ c.loop-index-test.true c.loop-index.invariant c.in_ok-put_function.ensures

pub returns : goal.returns
returns c =
    let end : c.loop-index.index-index ≡ length c.args.indices.now = omega (arith, c.loop-index-test.false, c.loop-index.auto.index-index-end) in
    plain_list (codes "by") (function_json (name_entries c.args.names.now)) c.args.indices.now _ _ c.end_array.result
    (list_done (codes "by") (function_json (name_entries c.args.names.now)) (λ (x : ℕ). x) c.args.indices.now _ c.loop-index.index-index c.end_array.result end c.loop-index.invariant (wrote_last _ _ _ _ c.end_array.ensures))
