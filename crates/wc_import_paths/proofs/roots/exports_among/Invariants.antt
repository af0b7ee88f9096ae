use Rattle.std.proofs.Common.{◌≡◌, map, take}
use Rattle.wc_read.specs.Exports.{export_value}
use Rattle.wc_gc.specs.Exports.{export_entries}
use Rattle.wc_why.specs.Texts.{text_of}
use Rattle.wc_import_paths.specs.Roots.{exports_named}
use Rattle.wc_import_paths.proofs.roots.exports_among.Given as goal

abbrev pub invariant-loop-name : goal.invariant-loop-name
invariant-loop-name l = map export_value l.found.items ≡ exports_named (export_entries l.named.entries) (map text_of (take l.name-index l.names))
