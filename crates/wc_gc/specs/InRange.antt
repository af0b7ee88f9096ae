-- Items all of whose code is code, and names only what is there.
use Rattle.std.specs.Prelude.{Bool, true, false, not, ◌&&◌, List, Option}
use Rattle.std.specs.List.{list_all}
use Rattle.std.specs.Option.{option_map_or}
use Rattle.wc_read.specs.Operators.{InstrValue}
use Rattle.wc_read.specs.Bodies.{BodyValue, local_types}
use Rattle.wc_read.specs.References.{names_segment}
use Rattle.wc_read.specs.Items.{DefValue, imported, local}
use Rattle.wc_read.specs.Decoded.{DecodedModule, ItemIndex, is_in}
use Rattle.wc_read.specs.Entries.{Entry, no_entry, type_entry, func_entry, table_entry, memory_entry, global_entry, entry_at, instr_refs, val_type_refs}

-- an operator that names only items of the module; it has no segments
abbrev pub is_operator_in_range : DecodedModule → InstrValue → Bool
is_operator_in_range m i = list_all (is_in m) (instr_refs i) && not (names_segment i.immediates)

abbrev pub is_code_in_range : DecodedModule → List InstrValue → Bool
is_code_in_range m is = list_all (is_operator_in_range m) is

-- the types of locals are types of the module, and the code names its items alone
abbrev pub is_code_body_in_range : DecodedModule → BodyValue → Bool
is_code_body_in_range m b = list_all (is_in m) (val_type_refs (local_types b.locals)) && is_code_in_range m b.operators

-- a body is code, and names items of the module alone
abbrev pub is_body_in_range : DecodedModule → Option BodyValue → Bool
is_body_in_range m b = option_map_or (is_code_body_in_range m) b false

abbrev pub is_def_in_range : DecodedModule → DefValue (Option BodyValue) → Bool
is_def_in_range m (imported n k) = true
is_def_in_range m (local b) = is_body_in_range m b

-- functions alone have bodies
abbrev pub is_entry_in_range : DecodedModule → Entry → Bool
is_entry_in_range m no_entry = true
is_entry_in_range m (type_entry t) = true
is_entry_in_range m (func_entry f) = is_def_in_range m f.def
is_entry_in_range m (table_entry t) = true
is_entry_in_range m (memory_entry y) = true
is_entry_in_range m (global_entry g) = true

abbrev pub is_item_in_range : DecodedModule → ItemIndex → Bool
is_item_in_range m x = is_entry_in_range m (entry_at m x)
