-- Exports (5.5.10).
use Rattle.std.specs.Prelude.{ℕ, ◌==◌, if◌then◌else◌, Option, Some, None, List, map, length, ◌+◌, ◌<◌, ◌≢◌, slice_index_or}
use Rattle.std.specs.Borrow.{Bor}
use Rattle.wc_read.specs.Options.{◌>>=◌}
use Rattle.wc_read.specs.Exports.{ExportValue}
use Rattle.wc_read.specs.Reading.Reader.{Read, coded_at, number_at, name_at}
use Rattle.wc_read.specs.declared.exports.ExportKind.{ExportKind}
use Rattle.wc_read.specs.declared.exports.ExportKind.TheVariants.{Func, Table, Memory, Global}
use Rattle.wc_read.specs.declared.exports.Export.{Export}

abbrev pub export_kind_of : ℕ → Option ExportKind
export_kind_of b = if b == 0 then Some Func else if b == 1 then Some Table else if b == 2 then Some Memory else if b == 3 then Some Global else None

unfoldable pub export_kind_at : Read ExportKind
export_kind_at bytes = coded_at export_kind_of bytes

unfoldable pub export_at : Read ExportValue
export_at bytes = do
  name ← name_at bytes
  kind ← export_kind_at name.1
  index ← number_at 32 kind.1
  Some (record { name = name.0; kind = kind.0; index = index.0 }, index.1)

abbrev pub export_names : List Export → List (List ℕ)
export_names es = map (λ e. e.name.now) es

-- each name differs from the next one
unfoldable pub NeighboursDiffer : List (Bor (List ℕ)) → Type 0
NeighboursDiffer names = (k : ℕ) (d : Bor (List ℕ)) → k + 1 < length names → (slice_index_or names k d).now ≢ (slice_index_or names (k + 1) d).now
