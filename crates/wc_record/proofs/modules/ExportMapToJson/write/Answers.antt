use Rattle.std.proofs.Common.{map, ap}
use Rattle.wc_record.specs.Modules.{export_entry_json}
use Rattle.wc_record.proofs.ShapeLemmas.{rest_written}
use Rattle.wc_record.proofs.modules.ExportMapToJson.write.Goals as goal

pub returns : goal.returns
returns c = rest_written _ _ _ (ap (map export_entry_json) c.in-None.ensures.steps.0) c.loop-entry.invariant c.end_array.ensures
