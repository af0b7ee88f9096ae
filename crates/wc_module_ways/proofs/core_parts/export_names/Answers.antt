use Rattle.std.proofs.Common.{◌<◌, [], arith, length, refl}
use Rattle.wc_read.specs.Exports.{ExportValue, export_value}
use Rattle.wc_why.specs.Texts.{text_of}
use Rattle.wc_module_ways.proofs.MatchedLemmas.{mapped_more}
use Rattle.wc_module_ways.proofs.core_parts.export_names.Goals as goal

pub loop-export-preserved : goal.loop-export-preserved
loop-export-preserved c =
    let within : c.loop-export.export-index < length c.args.exports.now = omega arith in
    mapped_more export_value text_of (λ (e : ExportValue). e.name) c.args.exports.now c.loop-export.export-index _ _ []
    c.loop-export.names.items c.push.new.self.items within c.loop-export.invariant refl c.in_ok-push.ensures.items
