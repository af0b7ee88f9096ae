-- What holds of the segments of a module (WebAssembly core specification, 3.4.5 and 3.4.6).
use Rattle.std.specs.Prelude.{ℕ, ◌<◌, List, length, Bool, true, false, All, Option, MatchOption, ⊤}
use Rattle.std.specs.List.{slice_get}
use Rattle.std.specs.Option.{option_map}
use Rattle.wc_read.specs.InitTypes.{InitScope, IsTyped, scope_of}
use Rattle.wc_read.specs.Items.{TableValue, MemoryValue}
use Rattle.wc_read.specs.Modules.{ModuleValue}
use Rattle.wc_read.specs.Types.{HasTypeIndex}
use Rattle.wc_read.specs.declared.types.ValType.{ValType}
use Rattle.wc_read.specs.declared.types.ValType.TheVariants.{I32, I64}
use Rattle.wc_segments.specs.Modes.{ModeValue, passive, active, declarative}
use Rattle.wc_segments.specs.Elements.{ElementValue, ElementsValue, functions, expressions}
use Rattle.wc_segments.specs.Data.{DataValue}

-- what initialisers of segments may name: all that the module has
abbrev pub segment_scope : ModuleValue → InitScope
segment_scope m = scope_of (length m.types) (length m.funcs) m.globals

-- the type of an index or an address, of 64 bits or of 32
abbrev pub address_type : Bool → ValType
address_type true = I64
address_type false = I32

-- whether indices of a table have 64 bits, and addresses of a memory
abbrev pub table_is_64 : List TableValue → ℕ → Option Bool
table_is_64 tables index = option_map (λ (t : TableValue). t.ty.table64) (slice_get tables index)

abbrev pub memory_is_64 : List MemoryValue → ℕ → Option Bool
memory_is_64 memories index = option_map (λ (t : MemoryValue). t.ty.memory64) (slice_get memories index)

-- the table or memory is there, and the initialiser leaves an address of it
abbrev pub IsOffset : InitScope → Option Bool → List ℕ → Type 0
IsOffset scope is_64 offset = MatchOption is_64 ⊥ (λ w. IsTyped scope (address_type w) offset)

-- an active segment begins at an offset of a table or memory that is there
abbrev pub IsMode : InitScope → (ℕ → Option Bool) → ModeValue → Type 0
IsMode scope is_64 passive = ⊤
IsMode scope is_64 (active index offset) = IsOffset scope (is_64 index) offset
IsMode scope is_64 declarative = ⊤

-- functions of the module, or initialisers that leave a value of the type
abbrev pub AreElements : InitScope → ValType → ElementsValue → Type 0
AreElements scope ty (functions indices) = All (λ index. index < scope.functions) indices
AreElements scope ty (expressions es) = All (IsTyped scope ty) es

-- an element segment of a module with these tables
pub record IsElement (scope : InitScope) (tables : List TableValue) (e : ElementValue) : Type 0 where
  pub in_table : IsMode scope (table_is_64 tables) e.mode
  pub named : HasTypeIndex scope.types e.ty
  pub elements : AreElements scope e.ty e.elements

-- a data segment of a module with these memories
abbrev pub IsData : InitScope → List MemoryValue → DataValue → Type 0
IsData scope memories d = IsMode scope (memory_is_64 memories) d.mode
