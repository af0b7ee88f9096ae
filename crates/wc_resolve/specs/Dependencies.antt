-- On which interfaces an interface depends directly.
use Rattle.std.specs.Prelude.{ℕ, List, [], ◌≡◌, ◌++◌, ◌==◌, if◌then◌else◌, map, Option, Some, None}
use Rattle.std.specs.List.{filter_map, slice_get}
use Rattle.std.specs.Option.{option_and_then, option_map_or}
use Rattle.wc_resolve.specs.declared.ids.InterfaceId.{InterfaceId}
use Rattle.wc_resolve.specs.declared.types.TypeOwner.{TypeOwner}
use Rattle.wc_resolve.specs.declared.types.TypeOwner.TheVariants.{Interface as OfInterface}
use Rattle.wc_resolve.specs.Views.{KindView, alias_kind, TypeView, InterfaceView}
use Rattle.wc_resolve.specs.Kinds.{ResolveView, kind_at, type_index}

abbrev pub id_of_interface : InterfaceId → ℕ
id_of_interface id = id.0

abbrev pub interface_ids : List InterfaceId → List ℕ
interface_ids ids = map id_of_interface ids

-- the type of which a type is an alias
abbrev pub alias_target : KindView → Option ℕ
alias_target (alias_kind t) = type_index t
alias_target k = None

-- the type of which the type at an index is an alias
abbrev pub aliased_at : ResolveView → ℕ → Option ℕ
aliased_at r t = option_and_then alias_target (kind_at r.types t)

-- the interface that owns a type
abbrev pub owner_interface : TypeOwner → Option ℕ
owner_interface (OfInterface i) = Some i.0
owner_interface o = None

abbrev pub interface_owning : ResolveView → ℕ → Option ℕ
interface_owning r t = option_and_then (λ (v : TypeView). owner_interface v.owner) (slice_get r.types t)

-- an interface, if it is another than this one
abbrev pub another_than : ℕ → ℕ → Option ℕ
another_than i k = if k == i then None else Some k

-- the other interface that owns the type at an index
abbrev pub other_owner : ResolveView → ℕ → ℕ → Option ℕ
other_owner r i t = option_and_then (another_than i) (interface_owning r t)

-- the other interface that owns the type of which the type at an index is an alias
abbrev pub dependency : ResolveView → ℕ → ℕ → Option ℕ
dependency r i t = option_and_then (another_than i) (option_and_then (interface_owning r) (aliased_at r t))

-- the dependencies of the types of an interface, in order
abbrev pub dependencies_in : ResolveView → ℕ → InterfaceView → List ℕ
dependencies_in r i v = filter_map (dependency r i) (map (λ e. e.1) v.types)

-- the dependencies of an interface's types were added
abbrev pub AddsDependencies : ResolveView → ℕ → InterfaceView → List InterfaceId → List InterfaceId → Type 0
AddsDependencies r i v old new = interface_ids new ≡ interface_ids old ++ dependencies_in r i v

-- the dependencies of the interface at an index
abbrev pub direct_dependencies : ResolveView → ℕ → List ℕ
direct_dependencies r i = option_map_or (λ (v : InterfaceView). dependencies_in r i v) (slice_get r.interfaces i) []
