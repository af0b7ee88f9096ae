-- Index spaces: imported items in the order of their imports, and then defined ones (WebAssembly core
-- specification, 2.5.1).
use Rattle.std.specs.Prelude.{ℕ, List, ◌++◌, map, ⊤, Option, Some, None}
use Rattle.std.specs.List.{filter_map, zip}
use Rattle.std.specs.Option.{option_map}
use Rattle.wc_read.specs.Imports.{ImportValue}
use Rattle.wc_read.specs.Items.{imported, local, ItemValue, FuncValue, GlobalValue}
use Rattle.wc_read.specs.Globals.{LocalGlobalValue}
use Rattle.wc_read.specs.declared.types.ImportType.{ImportType}
use Rattle.wc_read.specs.declared.types.ImportType.TheVariants.{Func, Table, Memory, Global}
use Rattle.wc_read.specs.declared.types.TableType.{TableType}
use Rattle.wc_read.specs.declared.types.MemoryType.{MemoryType}
use Rattle.wc_read.specs.declared.types.GlobalType.{GlobalType}

-- the type of what is imported, where it is of the kind

abbrev pub func_of : ImportType → Option ℕ
func_of (Func index) = Some index
func_of (Table t) = None
func_of (Memory m) = None
func_of (Global g) = None

abbrev pub table_of : ImportType → Option TableType
table_of (Func index) = None
table_of (Table t) = Some t
table_of (Memory m) = None
table_of (Global g) = None

abbrev pub memory_of : ImportType → Option MemoryType
memory_of (Func index) = None
memory_of (Table t) = None
memory_of (Memory m) = Some m
memory_of (Global g) = None

abbrev pub global_of : ImportType → Option GlobalType
global_of (Func index) = None
global_of (Table t) = None
global_of (Memory m) = None
global_of (Global g) = Some g

abbrev pub imported_item : {T C : Type 0} → (ImportType → Option T) → ImportValue → Option (ItemValue T C)
imported_item of i = option_map (λ t. record { ty = t; def = imported i.module_name i.name }) (of i.ty)

-- the imported items of a kind
abbrev pub imported_items : {T C : Type 0} → (ImportType → Option T) → List ImportValue → List (ItemValue T C)
imported_items of imports = filter_map (imported_item of) imports

-- a defined item that has no content
abbrev pub local_item : {T : Type 0} → T → ItemValue T ⊤
local_item t = record { ty = t; def = local tt }

-- a defined global
abbrev pub defined_global : LocalGlobalValue → GlobalValue
defined_global g = record { ty = g.ty; def = local g.init }

-- one function for each type and body
abbrev pub local_funcs : List ℕ → List (List ℕ) → List FuncValue
local_funcs types bodies = map (λ f. record { ty = f.0; def = local f.1 }) (zip types bodies)

-- the spaces: imported items, and then defined ones

abbrev pub func_space : List ImportValue → List ℕ → List (List ℕ) → List FuncValue
func_space imports types bodies = imported_items func_of imports ++ local_funcs types bodies

-- of tables or memories
abbrev pub declared_space : {T : Type 0} → (ImportType → Option T) → List ImportValue → List T → List (ItemValue T ⊤)
declared_space of imports types = imported_items of imports ++ map local_item types

abbrev pub global_space : List ImportValue → List LocalGlobalValue → List GlobalValue
global_space imports globals = imported_items global_of imports ++ map defined_global globals
