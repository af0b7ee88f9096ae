use Rattle.std.proofs.Common.{◌≡◌, map}
use Rattle.std.specs.Prelude.{string_bytes}
use Rattle.wc_gc.specs.Exports.{export_entries, missing_name}
use Rattle.wc_gc.proofs.exports.missing_name.Given as goal

abbrev pub invariant-loop-name : goal.invariant-loop-name
invariant-loop-name l = missing_name (export_entries l.exports.entries) (map string_bytes l.required.keys) ≡ missing_name (export_entries l.exports.entries) (map string_bytes l.name-iterator)
