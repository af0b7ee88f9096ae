-- Exports (WebAssembly core specification, 2.5.10 and 5.5.10).
use Rattle.std.specs.Prelude.{◌≡◌, ℕ, List, ◌∷◌, ◌++◌, codes}
use Rattle.wc_read.specs.Formats.{Format, SpellsNumber, SpellsName, SpellsVector}
use Rattle.wc_read.specs.declared.exports.ExportKind.{ExportKind}
use Rattle.wc_read.specs.declared.exports.ExportKind.TheVariants.{Func, Table, Memory, Global}
use Rattle.wc_read.specs.declared.exports.Export.{Export}

-- an export: its name as bytes, and what is exported
pub record ExportValue : Type 0 where
  pub name : List ℕ
  pub kind : ExportKind
  pub index : ℕ

abbrev pub export_value : Export → ExportValue
export_value e = record { name = e.name.now; kind = e.kind; index = e.index }

-- the byte of a kind
abbrev pub export_kind_code : ExportKind → ℕ
export_kind_code Func = 0
export_kind_code Table = 1
export_kind_code Memory = 2
export_kind_code Global = 3

-- the name of a kind, as in the text format (6.5.13)
abbrev pub export_kind_name : ExportKind → List ℕ
export_kind_name Func = codes "func"
export_kind_name Table = codes "table"
export_kind_name Memory = codes "memory"
export_kind_name Global = codes "global"

-- a name, the byte of a kind, an index
pub record SpellsExport (bytes : List ℕ) (e : ExportValue) : Type 0 where
  pub name_bytes : List ℕ
  pub index_bytes : List ℕ
  pub cut : bytes ≡ name_bytes ++ (export_kind_code e.kind ∷ index_bytes)
  pub has_name : SpellsName name_bytes e.name
  pub has_index : SpellsNumber 32 index_bytes e.index

-- the content of an export section
abbrev pub SpellsExports : Format (List ExportValue)
SpellsExports bytes es = SpellsVector SpellsExport bytes es
