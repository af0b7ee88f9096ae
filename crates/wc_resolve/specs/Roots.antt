-- The defined types that functions, interfaces and items of worlds name, in order.
use Rattle.std.specs.Prelude.{◌≡◌, ℕ, String, List, [], ◌∷◌, ◌++◌, map, Option, Some, None}
use Rattle.std.specs.List.{flat_map, slice_get}
use Rattle.std.specs.Option.{option_map_or}
use Rattle.std.specs.declared.alloc.Global.{Global}
use Rattle.wc_resolve.specs.declared.ids.TypeId.{TypeId}
use Rattle.wc_resolve.specs.declared.functions.Function.{Function}
use Rattle.wc_resolve.specs.declared.types.WitType.{WitType}
use Rattle.wc_resolve.specs.declared.types.WitType.TheVariants.{Id}
use Rattle.wc_resolve.specs.declared.functions.FunctionKind.{FunctionKind}
use Rattle.wc_resolve.specs.declared.functions.FunctionKind.TheVariants.{Static, AsyncStatic}
use Rattle.wc_resolve.specs.Views.{FunctionView, function_view, InterfaceView, ItemView, interface_item, function_item, type_item}
use Rattle.wc_resolve.specs.Kinds.{ResolveView}

abbrev pub id_index : TypeId → ℕ
id_index id = id.0

abbrev pub indices : List TypeId → List ℕ
indices ids = map id_index ids

-- types were added to a list
abbrev pub AddsRoots : List TypeId → List TypeId → List ℕ → Type 0
AddsRoots old new more = indices new ≡ indices old ++ more

-- the id of a defined type
abbrev pub type_id : WitType → Option TypeId
type_id (Id i) = Some i
type_id t = None

-- a primitive type names none
abbrev pub type_roots : WitType → List ℕ
type_roots (Id i) = i.0 ∷ []
type_roots t = []

-- the resource of a static function
abbrev pub static_roots : FunctionKind → List ℕ
static_roots (Static r) = r.0 ∷ []
static_roots (AsyncStatic r) = r.0 ∷ []
static_roots k = []

-- a function's parameters, then its result
abbrev pub passed_roots : FunctionView → List ℕ
passed_roots f = flat_map (λ p. type_roots p.1) f.params ++ option_map_or type_roots f.outcome []

-- of named parameters, named types and named functions
abbrev pub param_roots : List (String Global × WitType) → List ℕ
param_roots params = flat_map (λ (p : String Global × WitType). type_roots p.1) params

abbrev pub named_type_roots : List (String Global × TypeId) → List ℕ
named_type_roots types = flat_map (λ (e : String Global × TypeId). e.1.0 ∷ []) types

-- a function: its resource where it is static, its parameters, its result
abbrev pub function_roots : FunctionView → List ℕ
function_roots f = static_roots f.kind ++ passed_roots f

abbrev pub named_function_roots : List (String Global × Function) → List ℕ
named_function_roots functions = flat_map (λ (e : String Global × Function). function_roots (function_view e.1)) functions

-- an interface: its types, then its functions
abbrev pub interface_roots : InterfaceView → List ℕ
interface_roots i = map (λ e. e.1) i.types ++ flat_map (λ e. function_roots e.1) i.functions

abbrev pub item_roots : ResolveView → ItemView → List ℕ
item_roots r (interface_item i external) = option_map_or interface_roots (slice_get r.interfaces i) []
item_roots r (function_item f) = function_roots f
item_roots r (type_item t) = t ∷ []
