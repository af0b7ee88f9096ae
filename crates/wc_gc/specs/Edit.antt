-- An adapter with the parts that trimming adds and the imports that it replaces, under its old indices.
use Rattle.std.specs.Prelude.{ℕ, ◌+◌, List, [], ◌∷◌, ◌++◌, map, Bool, true, false, ◌&&◌, cond, nat_eq, Option, Some, None, unwrap_or, length}
use Rattle.std.specs.List.{list_any, enumerate_from}
use Rattle.std.specs.Option.{option_map, option_map_or}
use Rattle.wc_read.specs.Types.{FuncTypeValue}
use Rattle.wc_read.specs.Exports.{ExportValue}
use Rattle.wc_read.specs.Bodies.{BodyValue}
use Rattle.wc_read.specs.Items.{DefValue, imported, local}
use Rattle.wc_read.specs.declared.exports.ExportKind.{ExportKind}
use Rattle.wc_read.specs.declared.exports.ExportKind.TheVariants.{Func, Table, Memory, Global}
use Rattle.wc_read.specs.declared.operators.Space.TheVariants.{Funcs}
use Rattle.wc_gc.specs.AddedCode.{call, growing_body, stack_body, realloc_type, empty_type}
use Rattle.wc_read.specs.Decoded.{DecodedModule, FuncCode, ItemIndex}
use Rattle.wc_gc.specs.Found.{main_module, is_realloc, FoundView, found_in, is_empty}
use Rattle.wc_gc.specs.Parts.{SettingsView, first_of, last_of, parts_of}
use Rattle.wc_gc.specs.declared.parts.Parts.{Parts}

abbrev pub one_if : Bool → ℕ
one_if b = cond b 1 0

abbrev pub only_if : {A : Type 0} → Bool → A → List A
only_if b x = cond b (x ∷ []) []

-- What is added comes after the functions, in the order import, lazy code, growing realloc, start function; so do their
-- types come after the types. These are the positions among what is added.

abbrev pub lazy_position : Parts → ℕ
lazy_position p = one_if p.import_realloc

abbrev pub growing_position : Parts → ℕ
growing_position p = lazy_position p + one_if p.lazy

abbrev pub start_position : Parts → ℕ
start_position p = growing_position p + one_if p.growing

-- what code is added for: the live stack pointer, the global of its state, and the live memory

abbrev pub stack_of : FoundView → ℕ
stack_of f = unwrap_or (first_of f.stacks) 0

abbrev pub state_of : FoundView → Option ℕ
state_of f = first_of f.states

abbrev pub memory_of : FoundView → ℕ
memory_of f = unwrap_or (first_of f.memories) 0

-- The adapter has so many types and functions; what is added has the indices after them.

-- the realloc that allocates a stack: the one that is added to grow memory, else the last that is imported
abbrev pub called_realloc : ℕ → Parts → FoundView → ℕ
called_realloc funcs p f = cond p.growing (funcs + growing_position p) (unwrap_or (last_of f.reallocs) funcs)

-- the start function has the last live type without parameters and results, or one that is added
abbrev pub start_type : ℕ → Parts → FoundView → ℕ
start_type types p f = unwrap_or (last_of f.empties) (types + start_position p)

-- the functions that are added

abbrev pub import_func : ℕ → SettingsView → FuncCode
import_func types s = record { ty = types; def = imported main_module (unwrap_or s.realloc []) }

abbrev pub growing_code : SettingsView → FoundView → DefValue (Option BodyValue)
growing_code s f = local (Some (growing_body s.page_size_log2 (memory_of f)))

abbrev pub allocation_code : ℕ → Parts → FoundView → DefValue (Option BodyValue)
allocation_code funcs p f = local (Some (stack_body (called_realloc funcs p f) (stack_of f) (state_of f)))

abbrev pub lazy_func : ℕ → ℕ → Parts → FoundView → FuncCode
lazy_func types funcs p f = record { ty = types + lazy_position p; def = allocation_code funcs p f }

abbrev pub growing_func : ℕ → SettingsView → Parts → FoundView → FuncCode
growing_func types s p f = record { ty = types + growing_position p; def = growing_code s f }

abbrev pub start_func : ℕ → ℕ → Parts → FoundView → FuncCode
start_func types funcs p f = record { ty = start_type types p f; def = allocation_code funcs p f }

abbrev pub added_imports : ℕ → SettingsView → Parts → List FuncCode
added_imports types s p = only_if p.import_realloc (import_func types s)

abbrev pub added_funcs : ℕ → ℕ → SettingsView → Parts → FoundView → List FuncCode
added_funcs types funcs s p f =
    only_if p.lazy (lazy_func types funcs p f)
    ++ (only_if p.growing (growing_func types s p f) ++ only_if p.start (start_func types funcs p f))

-- one for the start function, if no empty type is live
abbrev pub types_added : Parts → Bool → List FuncTypeValue
types_added p no_empty =
    only_if p.import_realloc realloc_type
    ++ (only_if p.lazy empty_type ++ (only_if p.growing realloc_type ++ only_if (p.start && no_empty) empty_type))

abbrev pub added_types : Parts → FoundView → List FuncTypeValue
added_types p f = types_added p (is_empty f.empties)

abbrev pub start_of : ℕ → Parts → Option ℕ
start_of funcs p = cond p.start (Some (funcs + start_position p)) None

-- the functions that were there

-- what is instead of an imported realloc: an import of the main module's, or code that grows memory
abbrev pub replaced : SettingsView → FoundView → DefValue (Option BodyValue)
replaced s f = option_map_or (λ name. imported main_module name) s.realloc (growing_code s f)

-- a body that begins with a call
abbrev pub with_call : ℕ → BodyValue → BodyValue
with_call func b = record { locals = b.locals; operators = call func ∷ b.operators }

abbrev pub is_func : ExportKind → Bool
is_func Func = true
is_func Table = false
is_func Memory = false
is_func Global = false

abbrev pub is_exported_func : List ExportValue → ℕ → Bool
is_exported_func exports n = list_any (λ e. is_func e.kind && nat_eq n e.index) exports

-- a defined function that is exported begins with a call of the lazy code
abbrev pub edited_body : ℕ → Parts → Bool → Option BodyValue → Option BodyValue
edited_body funcs p exported b = cond (p.lazy && exported) (option_map (with_call (funcs + lazy_position p)) b) b

-- an imported realloc is replaced where it is reached
abbrev pub edited_def : ℕ → SettingsView → Parts → FoundView → Bool → Bool → DefValue (Option BodyValue) → DefValue (Option BodyValue)
edited_def funcs s p f reached exported (imported m n) =
    cond (reached && is_realloc {C = ℕ} (imported m n)) (replaced s f) (imported m n)
edited_def funcs s p f reached exported (local b) = local (edited_body funcs p exported b)

abbrev pub edited_func : ℕ → SettingsView → Parts → FoundView → Bool → Bool → FuncCode → FuncCode
edited_func funcs s p f reached exported func =
    record { ty = func.ty; def = edited_def funcs s p f reached exported func.def }

abbrev pub edited_funcs : List ExportValue → (ItemIndex → Bool) → SettingsView → Parts → FoundView → List FuncCode → List FuncCode
edited_funcs exports live s p f funcs =
    map (λ x. edited_func (length funcs) s p f (live (Funcs, x.0)) (is_exported_func exports x.0) x.1)
    (enumerate_from 0 funcs)

-- the adapter with some of its exports, its functions edited; which of its items are kept; and what is added, which is
-- kept too: imports have the indices after the functions, functions those after the imports, types those after the types
pub record EditedModule : Type 0 where
  pub value : DecodedModule
  pub kept : ItemIndex → Bool
  pub types : List FuncTypeValue
  pub imports : List FuncCode
  pub funcs : List FuncCode

abbrev pub edited_by : SettingsView → DecodedModule → List ExportValue → (ItemIndex → Bool) → Parts → FoundView → EditedModule
edited_by s m exports live p f = record {
  value = record m {
    funcs = edited_funcs exports live s p f m.funcs;
    exports = exports;
    start = start_of (length m.funcs) p;
  };
  kept = live;
  types = added_types p f;
  imports = added_imports (length m.types) s p;
  funcs = added_funcs (length m.types) (length m.funcs) s p f;
}

-- the edited adapter, by the items that are live
unfoldable pub edit : SettingsView → DecodedModule → List ExportValue → (ItemIndex → Bool) → EditedModule
edit s m exports live = edited_by s m exports live (parts_of s (found_in m live)) (found_in m live)
