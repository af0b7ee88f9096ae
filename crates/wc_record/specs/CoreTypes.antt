-- Types of core modules as JSON.
use Rattle.std.specs.Prelude.{[], ◌∷◌, map, codes}
use Rattle.json.specs.Json.{Json, boolean, string}
use Rattle.wc_read.specs.Exports.{export_kind_name}
use Rattle.wc_read.specs.Types.{FuncTypeValue}
use Rattle.wc_read.specs.declared.exports.ExportKind.{ExportKind}
use Rattle.wc_read.specs.declared.types.GlobalType.{GlobalType}
use Rattle.wc_read.specs.declared.types.MemoryType.{MemoryType}
use Rattle.wc_read.specs.declared.types.TableType.{TableType}
use Rattle.wc_read.specs.declared.types.ValType.{ValType}
use Rattle.wc_read.specs.declared.types.ValType.TheVariants.{I32, I64, F32, F64, V128, FuncRef, ExternRef, FuncRefNonNull, ExternRefNonNull, TypeRef}
use Rattle.wc_texts.specs.Shapes.{array_of, nullable_json, number_json, object_of}

-- a value type: its name, or a reference to functions of a type, by its index
abbrev pub val_type_json : ValType → Json
val_type_json I32 = string (codes "i32")
val_type_json I64 = string (codes "i64")
val_type_json F32 = string (codes "f32")
val_type_json F64 = string (codes "f64")
val_type_json V128 = string (codes "v128")
val_type_json FuncRef = string (codes "funcref")
val_type_json ExternRef = string (codes "externref")
val_type_json FuncRefNonNull = string (codes "non-null-funcref")
val_type_json ExternRefNonNull = string (codes "non-null-externref")
val_type_json (TypeRef nullable index) = object_of ((codes "nullable", boolean nullable) ∷ (codes "index", number_json index) ∷ [])

abbrev pub func_type_json : FuncTypeValue → Json
func_type_json f = object_of ((codes "params", array_of (map val_type_json f.params)) ∷ (codes "results", array_of (map val_type_json f.results)) ∷ [])

abbrev pub memory_type_json : MemoryType → Json
memory_type_json m =
    object_of (
    (codes "memory64", boolean m.memory64) ∷ (codes "shared", boolean m.shared) ∷ (codes "initial", number_json m.initial)
    ∷ (codes "maximum", nullable_json number_json m.maximum) ∷ (codes "page_size_log2", nullable_json number_json m.page_size_log2) ∷ []
    )

abbrev pub table_type_json : TableType → Json
table_type_json t =
    object_of (
    (codes "element_type", val_type_json t.element_type) ∷ (codes "table64", boolean t.table64)
    ∷ (codes "initial", number_json t.initial) ∷ (codes "maximum", nullable_json number_json t.maximum) ∷ []
    )

abbrev pub global_type_json : GlobalType → Json
global_type_json g = object_of ((codes "content_type", val_type_json g.content_type) ∷ (codes "mutable", boolean g.mutable) ∷ [])

abbrev pub export_kind_json : ExportKind → Json
export_kind_json k = string (export_kind_name k)
