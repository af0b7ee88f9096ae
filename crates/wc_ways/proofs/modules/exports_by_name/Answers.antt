use Rattle.std.proofs.Common.{◌<◌, arith, length, map, take}
use Rattle.wc_read.specs.Exports.{export_value}
use Rattle.wc_ways.proofs.FirstLemmas.{named_next}
use Rattle.wc_ways.proofs.modules.exports_by_name.Goals as goal

pub loop-export-preserved : goal.loop-export-preserved
loop-export-preserved c =
    let xs = c.args.exports.now in
    let k = c.loop-export.export-index in
    let within : k < length xs = omega arith in
    named_next xs k _ c.put_export.new.named.entries within
    (c.in_ok-put_export.ensures (map export_value (take k xs)) c.loop-export.invariant)
