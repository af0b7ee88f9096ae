-- Types that name no type, and so are the same under all indices.
use Rattle.std.specs.Prelude.{Bool, not, ◌&&◌}
use Rattle.std.specs.List.{list_all}
use Rattle.wc_read.specs.Types.{FuncTypeValue, names_type}
use Rattle.wc_read.specs.declared.types.ValType.{ValType}

abbrev pub names_no_type : ValType → Bool
names_no_type t = not (names_type t)

-- of a function type no parameter and no result names a type
abbrev pub names_no_types : FuncTypeValue → Bool
names_no_types t = list_all names_no_type t.params && list_all names_no_type t.results
