-- What a module has at an index, and the items that it names.
use Rattle.std.specs.Prelude.{ℕ, List, [], ◌∷◌, ◌++◌, map, Option, filter}
use Rattle.std.specs.List.{flat_map, slice_get}
use Rattle.std.specs.Option.{option_map_or, option_to_list}
use Rattle.wc_read.specs.Types.{FuncTypeValue, type_indices}
use Rattle.wc_read.specs.Operators.{InstrValue}
use Rattle.wc_read.specs.Bodies.{BodyValue, local_types}
use Rattle.wc_read.specs.References.{refs_of, type_refs_of}
use Rattle.wc_read.specs.Items.{DefValue, imported, local, TableValue, MemoryValue}
use Rattle.wc_read.specs.declared.operators.Space.{Space}
use Rattle.wc_read.specs.declared.operators.Space.TheVariants.{Types, Funcs, Tables, Memories, Globals}
use Rattle.wc_read.specs.declared.operators.Refs.{Refs}
use Rattle.wc_read.specs.declared.types.ValType.{ValType}
use Rattle.wc_read.specs.Decoded.{DecodedModule, FuncCode, GlobalCode, ItemIndex, is_in}

-- an item of any space, or none
pub data Entry : Type 0 where
  no_entry : Entry
  type_entry : FuncTypeValue → Entry
  func_entry : FuncCode → Entry
  table_entry : TableValue → Entry
  memory_entry : MemoryValue → Entry
  global_entry : GlobalCode → Entry

abbrev pub entry_in : DecodedModule → Space → ℕ → Entry
entry_in m Types n = option_map_or type_entry (slice_get m.types n) no_entry
entry_in m Funcs n = option_map_or func_entry (slice_get m.funcs n) no_entry
entry_in m Tables n = option_map_or table_entry (slice_get m.tables n) no_entry
entry_in m Memories n = option_map_or memory_entry (slice_get m.memories n) no_entry
entry_in m Globals n = option_map_or global_entry (slice_get m.globals n) no_entry

abbrev pub entry_at : DecodedModule → ItemIndex → Entry
entry_at m x = entry_in m x.0 x.1

-- the items that an entry names by index, in the order in which it names them

abbrev pub refs_list : Refs → List ItemIndex
refs_list r = option_to_list r.first ++ option_to_list r.second

-- types by their indices
abbrev pub type_items : List ℕ → List ItemIndex
type_items ns = map (λ n. (Types, n)) ns

abbrev pub val_type_refs : List ValType → List ItemIndex
val_type_refs ts = type_items (type_indices ts)

-- the types named by the parameters of a function type, and by its results
abbrev pub func_type_refs : FuncTypeValue → List ItemIndex
func_type_refs t = val_type_refs t.params ++ val_type_refs t.results

-- the types of a `select`, and the others
abbrev pub instr_refs : InstrValue → List ItemIndex
instr_refs i = type_items (type_refs_of i.immediates) ++ refs_list (refs_of i.immediates)

abbrev pub code_refs : List InstrValue → List ItemIndex
code_refs is = flat_map instr_refs is

-- what an initialiser names; nothing, where it is no code
abbrev pub init_refs : Option (List InstrValue) → List ItemIndex
init_refs is = option_map_or code_refs is []

-- the types of a body's locals, and what its operators name
abbrev pub code_body_refs : BodyValue → List ItemIndex
code_body_refs b = val_type_refs (local_types b.locals) ++ code_refs b.operators

abbrev pub body_refs : Option BodyValue → List ItemIndex
body_refs b = option_map_or code_body_refs b []

-- what a definition names; nothing, where it is an import
abbrev pub def_refs : {C : Type 0} → (C → List ItemIndex) → DefValue C → List ItemIndex
def_refs refs (imported m n) = []
def_refs refs (local x) = refs x

-- the type of a function, and what its body names
abbrev pub func_refs : FuncCode → List ItemIndex
func_refs f = (Types, f.ty) ∷ def_refs body_refs f.def

-- the type of a global, and what its initialiser names
abbrev pub global_refs : GlobalCode → List ItemIndex
global_refs g = val_type_refs (g.ty.content_type ∷ []) ++ def_refs init_refs g.def

abbrev pub entry_refs : Entry → List ItemIndex
entry_refs no_entry = []
entry_refs (type_entry t) = func_type_refs t
entry_refs (func_entry f) = func_refs f
entry_refs (table_entry t) = val_type_refs (t.ty.element_type ∷ [])
entry_refs (memory_entry m) = []
entry_refs (global_entry g) = global_refs g

-- of some items those that the module has
abbrev pub present : DecodedModule → List ItemIndex → List ItemIndex
present m xs = filter (is_in m) xs

-- the items that an item names; an index out of range names none
abbrev pub refs_in : DecodedModule → ItemIndex → List ItemIndex
refs_in m x = present m (entry_refs (entry_at m x))
