use Rattle.std.proofs.Common.{◌≡◌, map, take}
use Rattle.wc_gc.specs.Exports.{by_name}
use Rattle.wc_import_paths.proofs.roots.exports_by_name.Given as goal

abbrev pub invariant-loop-export : goal.invariant-loop-export
invariant-loop-export l = l.named.entries ≡ map by_name (take l.export-index l.exports)
