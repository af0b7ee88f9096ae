-- A module with its code: bodies and initialisers as operators, none where bytes spell no code.
use Rattle.std.specs.Prelude.{ℕ, List, map, length, Bool, true, nat_lt, Option, is_some}
use Rattle.std.specs.Borrow.{Bor}
use Rattle.wc_read.specs.Types.{FuncTypeValue}
use Rattle.wc_read.specs.Exports.{ExportValue}
use Rattle.wc_read.specs.Operators.{InstrValue}
use Rattle.wc_read.specs.Bodies.{BodyValue}
use Rattle.wc_read.specs.BodyOperators.{body_in, init_in}
use Rattle.wc_read.specs.Names.{GlobalNameValue}
use Rattle.wc_read.specs.Items.{DefValue, imported, local, ItemValue, TableValue, MemoryValue, func_value, global_value}
use Rattle.wc_read.specs.declared.items.Item.{Item}
use Rattle.wc_read.specs.Modules.{ModuleValue, module_value}
use Rattle.wc_read.specs.declared.core_module.Module.{Module}
use Rattle.wc_read.specs.declared.types.GlobalType.{GlobalType}
use Rattle.wc_read.specs.declared.operators.Space.{Space}
use Rattle.wc_read.specs.declared.operators.Space.TheVariants.{Types, Funcs, Tables, Memories, Globals}
use Rattle.wc_read.specs.declared.exports.ExportKind.{ExportKind}
use Rattle.wc_read.specs.declared.exports.ExportKind.TheVariants.{Func, Table, Memory, Global}
use Rattle.wc_read.specs.Items.{item_seen}

-- functions by the indices of their types, globals by their types
abbrev pub FuncCode : Type 0
FuncCode = ItemValue ℕ (Option BodyValue)

abbrev pub GlobalCode : Type 0
GlobalCode = ItemValue GlobalType (Option (List InstrValue))

-- an item that is imported, or whose body or initialiser is code
abbrev pub is_code : {C : Type 0} → DefValue (Option C) → Bool
is_code (imported m n) = true
is_code (local c) = is_some c

pub record DecodedModule : Type 0 where
  pub types : List FuncTypeValue
  pub funcs : List FuncCode
  pub tables : List TableValue
  pub memories : List MemoryValue
  pub globals : List GlobalCode
  pub exports : List ExportValue
  pub start : Option ℕ
  pub global_names : List GlobalNameValue
  pub producers : Option (List ℕ)
  pub ids : List ℕ

abbrev pub decode : ModuleValue → DecodedModule
decode m = record {
  types = m.types;
  funcs = map (item_seen body_in) m.funcs;
  tables = m.tables;
  memories = m.memories;
  globals = map (item_seen init_in) m.globals;
  exports = m.exports;
  start = m.start;
  global_names = m.global_names;
  producers = m.producers;
  ids = m.ids;
}

-- a module that was read
unfoldable pub decoded_module : Module → DecodedModule
decoded_module m = decode (module_value m)

-- functions, and initialisers, that were read
abbrev pub func_code : Item ℕ (Bor (List ℕ)) → FuncCode
func_code f = item_seen body_in (func_value f)

abbrev pub global_code : Item GlobalType (Bor (List ℕ)) → GlobalCode
global_code g = item_seen init_in (global_value g)

-- an item, by its space and its index there
abbrev pub ItemIndex : Type 0
ItemIndex = Space × ℕ

-- how many items a space has
abbrev pub size_of : DecodedModule → Space → ℕ
size_of m Types = length m.types
size_of m Funcs = length m.funcs
size_of m Tables = length m.tables
size_of m Memories = length m.memories
size_of m Globals = length m.globals

-- whether the module has the item
abbrev pub is_in : DecodedModule → ItemIndex → Bool
is_in m x = nat_lt x.1 (size_of m x.0)

-- the space that exports of a kind name
abbrev pub space_of : ExportKind → Space
space_of Func = Funcs
space_of Table = Tables
space_of Memory = Memories
space_of Global = Globals

-- the item that an export names
abbrev pub exported_item : ExportValue → ItemIndex
exported_item e = (space_of e.kind, e.index)
