use Rattle.std.proofs.Common.{◌<◌, length, refl, arith}
use Rattle.wc_gc.proofs.ExportLemmas.{inserted}
use Rattle.wc_import_paths.proofs.roots.exports_by_name.Goals as goal

pub loop-export-preserved : goal.loop-export-preserved
loop-export-preserved c =
    let within : c.loop-export.export-index < length c.args.exports.now = omega arith in
    inserted _ (λ a b. refl) c.args.exports.now c.loop-export.export-index within c.requires c.loop-export.named.entries c.insert.new.self.entries c.loop-export.invariant c.in_ok-insert.ensures.entries
