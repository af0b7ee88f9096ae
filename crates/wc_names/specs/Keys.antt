-- Items of worlds by their keys, and functions and types by their names.
use Rattle.std.specs.Prelude.{ℕ, List, Bool, true, false, Option, Some, None, slice_get, nat_eq, unwrap_or}
use Rattle.std.specs.Map.{lookup}
use Rattle.std.specs.Option.{option_and_then}
use Rattle.std.specs.Str.{bytes_eq}
use Rattle.wc_resolve.specs.Views.{KindView, resource_kind, KeyView, plain_key, interface_key, ItemView, interface_item, function_item, type_item, FunctionView, InterfaceView, WorldView}
use Rattle.wc_resolve.specs.Kinds.{ResolveView, kind_at}
use Rattle.wc_adapters.specs.Entries.{Entries}
use Rattle.wc_texts.specs.Names.{under_name}

abbrev pub is_plain_key : List ℕ → KeyView → Bool
is_plain_key n (plain_key m) = bytes_eq n m
is_plain_key n (interface_key i) = false

abbrev pub is_interface_key : ℕ → KeyView → Bool
is_interface_key i (plain_key m) = false
is_interface_key i (interface_key j) = nat_eq i j

-- whether two keys are equal
abbrev pub key_eq : KeyView → KeyView → Bool
key_eq (plain_key n) k = is_plain_key n k
key_eq (interface_key i) k = is_interface_key i k

-- the item under a key
abbrev pub item_under : Entries → KeyView → Option ItemView
item_under entries key = lookup (key_eq key) entries

abbrev pub as_function : ItemView → Option FunctionView
as_function (function_item f) = Some f
as_function i = None

abbrev pub as_type : ItemView → Option ℕ
as_type (type_item t) = Some t
as_type i = None

abbrev pub as_interface : ItemView → Option ℕ
as_interface (interface_item i external) = Some i
as_interface i = None

-- the index of a type, if its kind is a resource; an alias of a resource is none
abbrev pub if_resource : ℕ → KindView → Option ℕ
if_resource t resource_kind = Some t
if_resource t k = None

abbrev pub resource_at : ResolveView → ℕ → Option ℕ
resource_at r t = option_and_then (if_resource t) (kind_at r.types t)

-- where the functions and resources of names are sought: in an interface, if there is one, else in the world itself; and
-- the key of all imports that are named so, if there is one, else each has its own
pub record Scope : Type 0 where
  pub key : Option KeyView
  pub interface : Option ℕ

abbrev pub world_scope : Scope
world_scope = record { key = None; interface = None }

abbrev pub interface_scope : KeyView → ℕ → Scope
interface_scope key i = record { key = Some key; interface = Some i }

-- the key of an import for a resource, function or intrinsic of this name
abbrev pub scope_key : Scope → List ℕ → KeyView
scope_key scope name = unwrap_or scope.key (plain_key name)

-- the type of a name: of an interface, or of the world, which are those that it imports
abbrev pub type_named : ResolveView → WorldView → Option ℕ → List ℕ → Option ℕ
type_named r w None name = option_and_then as_type (item_under w.imports (plain_key name))
type_named r w (Some i) name = option_and_then (λ (v : InterfaceView). under_name v.types name) (slice_get r.interfaces i)

abbrev pub resource_named : ResolveView → WorldView → Scope → List ℕ → Option ℕ
resource_named r w scope name = option_and_then (resource_at r) (type_named r w scope.interface name)

-- what the world imports, or what it exports
abbrev pub world_entries : WorldView → Bool → Entries
world_entries w true = w.imports
world_entries w false = w.exports

-- the function of a name: of an interface, or of those that the world imports or exports
abbrev pub function_at : ResolveView → WorldView → Bool → Option ℕ → List ℕ → Option FunctionView
function_at r w imported None name = option_and_then as_function (item_under (world_entries w imported) (plain_key name))
function_at r w imported (Some i) name = option_and_then (λ (v : InterfaceView). under_name v.functions name) (slice_get r.interfaces i)

abbrev pub function_named : ResolveView → WorldView → Bool → Scope → List ℕ → Option FunctionView
function_named r w imported scope name = function_at r w imported scope.interface name
