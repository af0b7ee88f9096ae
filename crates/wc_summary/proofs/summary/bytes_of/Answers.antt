use Rattle.std.proofs.Common.{sym}
use Rattle.wc_summary.proofs.SummaryLemmas.{bytes_more}
use Rattle.wc_summary.proofs.summary.bytes_of.Goals as goal

pub loop-part-preserved : goal.loop-part-preserved
loop-part-preserved c =
    bytes_more c.args.parts.now c.loop-part.part-index c.part-item.result c.loop-part.bytes c.saturating_add-bytes.result c.loop-part-test.true
    (sym c.part-item.is) c.loop-part.invariant c.saturating_add-bytes.ensures
