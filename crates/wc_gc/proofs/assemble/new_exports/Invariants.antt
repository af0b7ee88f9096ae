use Rattle.std.proofs.Common.{◌≡◌, map, take}
use Rattle.wc_read.specs.Exports.{export_value}
use Rattle.wc_gc.specs.Image.{new_export}
use Rattle.wc_gc.specs.NewIndices.{new_of}
use Rattle.wc_gc.proofs.assemble.new_exports.Given as goal

abbrev pub invariant-loop-export : goal.invariant-loop-export
invariant-loop-export l = map export_value l.items.items ≡ map (new_export (new_of l.new)) (map export_value (take l.export-index l.exports))
