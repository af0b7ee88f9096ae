use Rattle.std.proofs.Common.{◌≡◌, ◌<◌, ◌∙◌, arith, length, map, sym}
use Rattle.std.proofs.lemmas.List.{length-map}
use Rattle.wc_read.specs.Exports.{export_value}
use Rattle.wc_paths.specs.Counts.{counts_value}
use Rattle.wc_module_ways.specs.Private.Servers.{server_by}
use Rattle.wc_module_ways.proofs.PlaceLemmas.{export_more, server_put}
use Rattle.wc_module_ways.proofs.servers.put_exports.Goals as goal

pub loop-export-init : goal.loop-export-init
loop-export-init c servers at h = h

pub loop-export-preserved : goal.loop-export-preserved
loop-export-preserved c servers at h =
    let k = c.loop-export.export-index in
    let exports = c.args.exports.now in
    let within : k < length exports = omega arith in
    export_more servers c.args.index c.args.name.now exports (counts_value c.args.counts.now) at k _ within c.export_item.result c.export_item.ensures
    c.loop-export.places.entries (c.loop-export.invariant servers at h) c.put_export.new.places.entries c.in_ok-put_export.ensures

pub returns : goal.returns
returns c servers at h =
    let exports = c.args.exports.now in
    let all : c.loop-export.export-index ≡ length exports = omega arith in
    server_put servers c.args.index c.loop-export.export-index (server_by c.args.name.now (map export_value exports) (counts_value c.args.counts.now)) at
    (all ∙ sym (length-map exports export_value)) c.loop-export.places.entries (c.loop-export.invariant servers at h)
