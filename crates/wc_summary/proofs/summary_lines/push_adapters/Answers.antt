use Rattle.std.proofs.Common.{map, string_bytes}
use Rattle.wc_summary.specs.Summary.{part_view}
use Rattle.wc_summary.specs.SummaryLines.{adapter_text}
use Rattle.wc_summary.proofs.SummaryTextLemmas.{pushed_mapped}
use Rattle.wc_summary.proofs.summary_lines.push_adapters.Goals as goal

pub loop-part-preserved : goal.loop-part-preserved
loop-part-preserved c =
    pushed_mapped part_view adapter_text c.args.adapters.now c.loop-part.part-index c.part-item.result (map string_bytes c.args.parts.now.items)
    c.loop-part.parts.items c.push.new.self.items c.in_ok-text.text c.loop-part-test.true c.part-item.is c.loop-part.invariant c.in_ok-push.ensures.items
    c.in_ok-text.ensures
