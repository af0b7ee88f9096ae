-- Worlds, interfaces, types and packages, each with its index in its list for an id, and how types refer to types.
use Rattle.std.specs.Prelude.{◌≡◌, ℕ, ◌<◌, List, [], ◌∷◌, ◌++◌, map, length, take, Option, Some, None, slice_get, slice_index, Contains, All}
use Rattle.std.specs.List.{filter_map}
use Rattle.std.specs.Option.{IfSome, option_map, option_map_or, option_to_list}
use Rattle.wc_resolve.specs.declared.ids.TypeId.{TypeId}
use Rattle.wc_resolve.specs.declared.types.WitType.{WitType}
use Rattle.wc_resolve.specs.declared.types.WitType.TheVariants.{Id}
use Rattle.wc_resolve.specs.declared.types.Handle.{Handle}
use Rattle.wc_resolve.specs.declared.types.Handle.TheVariants.{Own, Borrow}
use Rattle.wc_resolve.specs.Views.{KindView, record_kind, resource_kind, handle_kind, flags_kind, tuple_kind, variant_kind, enum_kind, option_kind, result_kind, list_kind, future_kind, stream_kind, alias_kind, FunctionView, ItemView, interface_item, function_item, type_item, TypeView, InterfaceView, WorldView, PackageView}

pub record ResolveView : Type 0 where
  pub worlds : List WorldView
  pub interfaces : List InterfaceView
  pub types : List TypeView
  pub packages : List PackageView

-- the types that a type contains by value: fields, items, payloads, and what a list, future or stream carries
abbrev pub contained_types : KindView → List WitType
contained_types (record_kind fields) = map (λ f. f.1) fields
contained_types resource_kind = []
contained_types (handle_kind h) = []
contained_types (flags_kind labels) = []
contained_types (tuple_kind types) = types
contained_types (variant_kind cases) = filter_map (λ c. c.1) cases
contained_types (enum_kind cases) = []
contained_types (option_kind t) = t ∷ []
contained_types (result_kind ok err) = option_to_list ok ++ option_to_list err
contained_types (list_kind t) = t ∷ []
contained_types (future_kind t) = option_to_list t
contained_types (stream_kind t) = option_to_list t
contained_types (alias_kind t) = []

-- the resource of a handle
abbrev pub resource_of : Handle → TypeId
resource_of (Own r) = r
resource_of (Borrow r) = r

-- the types that a type's definition refers to: those that it contains by value, a handle's resource, an alias's target
abbrev pub referenced_types : KindView → List WitType
referenced_types (handle_kind h) = Id (resource_of h) ∷ []
referenced_types (alias_kind t) = t ∷ []
referenced_types k = contained_types k

-- the index of a defined type
abbrev pub type_index : WitType → Option ℕ
type_index (Id i) = Some i.0
type_index t = None

abbrev pub referenced_indices : KindView → List ℕ
referenced_indices k = filter_map type_index (referenced_types k)

abbrev pub kind_at : List TypeView → ℕ → Option KindView
kind_at types index = option_map (λ (t : TypeView). t.kind) (slice_get types index)

-- the indices of the types that the type at an index refers to
abbrev pub children : List TypeView → ℕ → List ℕ
children types index = option_map_or referenced_indices (kind_at types index) []

-- one type leads to another by one reference or more
pub data Leads (next : ℕ → List ℕ) : ℕ → ℕ → Type 0 where
  refers : (x y : ℕ) → Contains (next x) y → Leads next x y
  further : (x y z : ℕ) → Contains (next x) y → Leads next y z → Leads next x z

-- a type that leads to itself
abbrev pub HasCycle : List TypeView → Type 0
HasCycle types = (x : ℕ) × Leads (children types) x x

-- the type at an index is a resource, or an alias of one
pub data IsResource (types : List TypeView) : ℕ → Type 0 where
  defined : (x : ℕ) → kind_at types x ≡ Some resource_kind → IsResource types x
  aliased : (x : ℕ) (i : TypeId) → kind_at types x ≡ Some (alias_kind (Id i)) → IsResource types i.0 → IsResource types x

-- types refer to types with indices below a count
abbrev pub LeadWithin : List TypeView → ℕ → Type 0
LeadWithin types count = (x c : ℕ) → Contains (children types x) c → c < count

-- in a list of types each is after all that it refers to
abbrev pub IsChildrenFirst : (ℕ → List ℕ) → List ℕ → Type 0
IsChildrenFirst next order = (i c : ℕ) → i < length order → Contains (next (slice_index order i)) c → Contains (take i order) c

-- all types of a function's parameters and result
abbrev pub SignatureHasOnly : (WitType → Type 0) → FunctionView → Type 0
SignatureHasOnly P f = All (λ p. P p.1) f.params × IfSome f.outcome P

abbrev pub DoesItemPass : (WitType → Type 0) → ItemView → Type 0
DoesItemPass P (interface_item i external) = Unit {0}
DoesItemPass P (function_item f) = SignatureHasOnly P f
DoesItemPass P (type_item t) = Unit {0}

-- the functions of a world
unfoldable pub DoesWorldPass : (WitType → Type 0) → WorldView → Type 0
DoesWorldPass P w = All (λ e. DoesItemPass P e.1) w.imports × All (λ e. DoesItemPass P e.1) w.exports

-- the functions of an interface
unfoldable pub DoesInterfacePass : (WitType → Type 0) → InterfaceView → Type 0
DoesInterfacePass P i = All (λ e. SignatureHasOnly P e.1) i.functions

-- what a type contains by value
unfoldable pub DoesTypePass : (WitType → Type 0) → TypeView → Type 0
DoesTypePass P t = All P (contained_types t.kind)

-- every parameter, result, field, item, element and payload
unfoldable pub DoAllTypesPass : (WitType → Type 0) → ResolveView → Type 0
DoAllTypesPass P r = All (DoesWorldPass P) r.worlds × All (DoesInterfacePass P) r.interfaces × All (DoesTypePass P) r.types
