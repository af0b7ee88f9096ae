-- The lines that print the imports and the exports of a module.
use Rattle.std.specs.Prelude.{ℕ, List, ◌++◌, codes, decimal, flat_map}
use Rattle.wctrim_command.specs.Lines.{space, line_feed}
use Rattle.wc_read.specs.Imports.{ImportValue}
use Rattle.wc_read.specs.Exports.{ExportValue, export_kind_name}
use Rattle.wc_read.specs.Modules.{ModuleValue}
use Rattle.wc_read.specs.declared.types.ImportType.{ImportType}
use Rattle.wc_read.specs.declared.types.ImportType.TheVariants.{Func as import_func, Table as import_table, Memory as import_memory, Global as import_global}
use Rattle.wc_read.specs.declared.exports.ExportKind.{ExportKind}
use Rattle.wc_read.specs.declared.exports.ExportKind.TheVariants.{Func, Table, Memory, Global}

-- the kind of an import
abbrev pub kind_of : ImportType → ExportKind
kind_of (import_func index) = Func
kind_of (import_table t) = Table
kind_of (import_memory m) = Memory
kind_of (import_global g) = Global

-- `import MODULE NAME KIND`, and the end of the line
abbrev pub import_line : ImportValue → List ℕ
import_line i = codes "import " ++ (i.module_name ++ (space ++ (i.name ++ (space ++ (export_kind_name (kind_of i.ty) ++ line_feed)))))

-- `export NAME KIND INDEX` with the index in decimal, and the end of the line
abbrev pub export_line : ExportValue → List ℕ
export_line e = codes "export " ++ (e.name ++ (space ++ (export_kind_name e.kind ++ (space ++ (decimal e.index ++ line_feed)))))

-- a line for each import, and then for each export, in order
abbrev pub scan_lines : ModuleValue → List ℕ
scan_lines m = flat_map import_line m.imports ++ flat_map export_line m.exports
