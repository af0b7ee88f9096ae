-- Modules that were read, and whether they are valid (5.5).
use Rattle.std.specs.Prelude.{ℕ, Bool, ◌&&◌}
use Rattle.std.specs.List.{list_all}
use Rattle.wc_read.specs.Types.{func_type_value, has_type_index}
use Rattle.wc_read.specs.Reading.Types.{have_type_indices}
use Rattle.wc_read.specs.declared.core_module.Module.{Module}

-- whether the indices of types in types, tables and globals are below a number
abbrev pub name_types : ℕ → Module → Bool
name_types n m =
    list_all (λ t. have_type_indices n (func_type_value t)) m.types.items
    && (list_all (λ t. has_type_index n t.ty.element_type) m.tables.items
    && list_all (λ g. has_type_index n g.ty.content_type) m.globals.items)
