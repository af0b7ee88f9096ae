-- What is found among the items of an adapter that are kept: the globals and imports that its code for a stack and for
-- memory goes by (build conventions of adapter modules).
use Rattle.std.specs.Prelude.{ℕ, ◌==◌, List, Bool, true, false, ◌&&◌, ◌||◌, filter, codes, length}
use Rattle.std.specs.List.{range_with_len, slice_get, list_all}
use Rattle.std.specs.Option.{option_map_or}
use Rattle.std.specs.Map.{lookup}
use Rattle.std.specs.Str.{bytes_eq}
use Rattle.wc_read.specs.Types.{FuncTypeValue}
use Rattle.wc_read.specs.Items.{DefValue, imported, local, MemoryValue}
use Rattle.wc_read.specs.declared.types.ValType.{ValType}
use Rattle.wc_read.specs.declared.types.ValType.TheVariants.{I32}
use Rattle.wc_read.specs.declared.types.GlobalType.{GlobalType}
use Rattle.wc_read.specs.declared.operators.Space.{Space}
use Rattle.wc_read.specs.declared.operators.Space.TheVariants.{Types, Funcs, Tables, Memories, Globals}
use Rattle.wc_write.specs.BuiltValues.{is_defined}
use Rattle.wc_read.specs.Decoded.{DecodedModule, FuncCode, GlobalCode, ItemIndex, size_of}
use Rattle.wc_gc.specs.declared.found.Found.{Found}

-- a realloc of the module that an adapter is for: an import by one of two names

abbrev pub main_module : List ℕ
main_module = codes "__main_module__"

abbrev pub is_realloc_name : List ℕ → Bool
is_realloc_name name = bytes_eq name (codes "cabi_realloc") || bytes_eq name (codes "canonical_abi_realloc")

abbrev pub is_realloc : {C : Type 0} → DefValue C → Bool
is_realloc (imported m n) = bytes_eq m main_module && is_realloc_name n
is_realloc (local x) = false

abbrev pub is_realloc_at : DecodedModule → ℕ → Bool
is_realloc_at m n = option_map_or (λ (f : FuncCode). is_realloc f.def) (slice_get m.funcs n) false

abbrev pub is_i32 : ValType → Bool
is_i32 I32 = true
is_i32 t = false

-- the type of a realloc: an old pointer, an old length, an alignment and a new length; a new pointer
abbrev pub are_i32 : ℕ → List ValType → Bool
are_i32 n ts = length ts == n && list_all is_i32 ts

abbrev pub is_realloc_type : FuncTypeValue → Bool
is_realloc_type t = are_i32 4 t.params && are_i32 1 t.results

-- a mutable i32 that has a name

abbrev pub is_mutable_i32 : GlobalType → Bool
is_mutable_i32 t = t.mutable && is_i32 t.content_type

abbrev pub is_mutable_i32_at : DecodedModule → ℕ → Bool
is_mutable_i32_at m n = option_map_or (λ (g : GlobalCode). is_mutable_i32 g.ty) (slice_get m.globals n) false

abbrev pub has_name : DecodedModule → List ℕ → ℕ → Bool
has_name m name n = option_map_or (λ k. bytes_eq k name) (lookup (λ k. n == k) m.global_names) false

abbrev pub is_named_at : DecodedModule → List ℕ → ℕ → Bool
is_named_at m name n = is_mutable_i32_at m n && has_name m name n

abbrev pub stack_pointer : List ℕ
stack_pointer = codes "__stack_pointer"

abbrev pub allocation_state : List ℕ
allocation_state = codes "allocation_state"

-- a memory of the adapter's own
abbrev pub is_own_memory_at : DecodedModule → ℕ → Bool
is_own_memory_at m n = option_map_or (λ (t : MemoryValue). is_defined t) (slice_get m.memories n) false

-- a function type without parameters and results

abbrev pub is_empty : {A : Type 0} → List A → Bool
is_empty xs = length xs == 0

abbrev pub is_empty_type : FuncTypeValue → Bool
is_empty_type t = is_empty t.params && is_empty t.results

abbrev pub is_empty_type_at : DecodedModule → ℕ → Bool
is_empty_type_at m n = option_map_or is_empty_type (slice_get m.types n) false

-- the indices of a space that pass a test, in their order
abbrev pub indices_where : DecodedModule → Space → (ℕ → Bool) → List ℕ
indices_where m space test = filter test (range_with_len 0 (size_of m space))

-- of kept items: the stack pointers, the states of an allocation, the reallocs, the tables, the memories, and the types
-- without parameters and results
pub record FoundView : Type 0 where
  pub stacks : List ℕ
  pub states : List ℕ
  pub reallocs : List ℕ
  pub tables : List ℕ
  pub memories : List ℕ
  pub empties : List ℕ

unfoldable pub found_in : DecodedModule → (ItemIndex → Bool) → FoundView
found_in m kept = record {
  stacks = indices_where m Globals (λ n. kept (Globals, n) && is_named_at m stack_pointer n);
  states = indices_where m Globals (λ n. kept (Globals, n) && is_named_at m allocation_state n);
  reallocs = indices_where m Funcs (λ n. kept (Funcs, n) && is_realloc_at m n);
  tables = indices_where m Tables (λ n. kept (Tables, n));
  memories = indices_where m Memories (λ n. kept (Memories, n));
  empties = indices_where m Types (λ n. kept (Types, n) && is_empty_type_at m n);
}

abbrev pub found_view : Found → FoundView
found_view f = record {
  stacks = f.stacks.items;
  states = f.states.items;
  reallocs = f.reallocs.items;
  tables = f.tables.items;
  memories = f.memories.items;
  empties = f.empties.items;
}
