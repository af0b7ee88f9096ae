-- Types of imports and exports of two modules, which are the same but for the types that they name by indices.
use Rattle.std.specs.Prelude.{◌≡◌}
use Rattle.wc_read.specs.Renumbering.{Renumbering, renumber_func_type, renumber_global_type, renumber_table_type}
use Rattle.wc_names.specs.Imports.{ExternType, func_type, global_type, memory_type, table_type}

-- the renumbering by which all types have one index
abbrev pub no_indices : Renumbering
no_indices space n = 0

-- a type without the indices of the types that it names, which mean nothing in another module
abbrev pub without_indices : ExternType → ExternType
without_indices (func_type t) = func_type (renumber_func_type no_indices t)
without_indices (table_type t) = table_type (renumber_table_type no_indices t)
without_indices (memory_type t) = memory_type t
without_indices (global_type t) = global_type (renumber_global_type no_indices t)

-- types of items are the same but for the indices of the types that they name
abbrev pub AreSameButIndices : ExternType → ExternType → Type 0
AreSameButIndices t u = without_indices t ≡ without_indices u
