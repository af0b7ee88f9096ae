use Rattle.std.proofs.Common.{subst}
use Rattle.json.specs.Tree.{json_tokens}
use Rattle.wc_why_text.specs.Private.Tokens.{Puts}
use Rattle.wc_summary.specs.Summary.{part_view}
use Rattle.wc_summary.specs.declared.summary.AdapterPart.{AdapterPart}
use Rattle.wc_summary.specs.SummaryJson.{adapter_json}
use Rattle.wc_summary.proofs.SummaryTextLemmas.{values_more, values_none}
use Rattle.wc_summary.proofs.summary_json.put_adapters.Goals as goal

pub loop-part-init : goal.loop-part-init
loop-part-init c = values_none c.args.out.now

pub loop-part-preserved : goal.loop-part-preserved
loop-part-preserved c =
    values_more part_view adapter_json c.args.parts.now c.loop-part.part-index c.part-item.result c.loop-part-test.true c.loop-part.invariant
    (subst (λ (p : AdapterPart). Puts c.loop-part.out c.put_adapter.new.out (json_tokens (adapter_json (part_view p)))) c.part-item.is c.in_ok-put_adapter.ensures)
