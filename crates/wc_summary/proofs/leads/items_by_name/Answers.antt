use Rattle.std.proofs.Common.{◌<◌, length, arith}
use Rattle.wc_summary.proofs.OwnerLemmas.{named_more}
use Rattle.wc_summary.proofs.leads.items_by_name.Goals as goal

pub loop-export-preserved : goal.loop-export-preserved
loop-export-preserved c =
    let within : c.loop-export.export-index < length c.args.exports.now = omega arith in
    named_more c.args.exports.now c.loop-export.export-index _ c.loop-export.named.entries c.note_named.new.named.entries within c.loop-export.invariant
    c.in_ok-note_named.ensures
