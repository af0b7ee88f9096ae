use Rattle.std.proofs.Common.{map}
use Rattle.wc_validate.specs.Exports.Iter.{exports_left}
use Rattle.wc_record.specs.Modules.{export_entry_json}
use Rattle.wc_record.proofs.ShapeLemmas.{PutsRest}
use Rattle.wc_record.proofs.modules.ExportMapToJson.write.Given as goal

abbrev pub invariant-loop-entry : goal.invariant-loop-entry
invariant-loop-entry l = PutsRest l.fn.out l.out (map export_entry_json l.self) (map export_entry_json (exports_left l.entry-iterator))
