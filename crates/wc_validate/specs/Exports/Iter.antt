-- What iterators over exports have left.
use Rattle.std.specs.Prelude.{ℕ, List, map}
use Rattle.std.specs.Borrow.{Bor}
use Rattle.wc_names.specs.declared.exports.Export.{Export}
use Rattle.wc_names.specs.ExportViews.{ExportView, export_view}
use Rattle.wc_validate.specs.declared.exports.iter.Exports.{Exports}
use Rattle.wc_validate.specs.declared.exports.iter.Reallocs.{Reallocs}
use Rattle.wc_validate.specs.Exports.Map.{ExportRecord, export_entry, realloc_names}

-- an export with its name
abbrev pub export_shown : Bor (List ℕ) × Bor Export → List ℕ × ExportView
export_shown x = (x.0.now, export_view x.1.now)

abbrev pub exports_left : Exports → ExportRecord
exports_left s = map export_entry s.names

abbrev pub reallocs_left : Reallocs → List (List ℕ)
reallocs_left s = realloc_names (map export_entry s.names)
