-- External types, and imports of them, by their values.
use Rattle.wc_read.specs.Types.{func_type_value}
use Rattle.wc_names.specs.Imports.{CoreImport, ExternType, func_type, table_type, memory_type, global_type}
use Rattle.wc_validate.specs.declared.externs.Extern.{Extern}
use Rattle.wc_validate.specs.declared.externs.Extern.TheVariants.{Func, Table, Memory, Global}
use Rattle.wc_validate.specs.declared.imports.items.ImportedItem.{ImportedItem}
use Rattle.wc_validate.specs.Imports.Classify.{core_import}

abbrev pub extern_view : Extern → ExternType
extern_view (Func ty) = func_type (func_type_value ty.now)
extern_view (Table ty) = table_type ty
extern_view (Memory ty) = memory_type ty
extern_view (Global ty) = global_type ty

abbrev pub item_view : ImportedItem → CoreImport
item_view i = core_import i.module_name.now i.name.now (extern_view i.ty)
