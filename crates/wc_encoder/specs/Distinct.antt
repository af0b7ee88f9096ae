-- What is distinct in a world: the interfaces that it exports, and the names of its imports.
use Rattle.std.specs.Prelude.{◌≢◌, ℕ, List, map, Option, Some, None, All, AllPairs}
use Rattle.std.specs.List.{filter_map}
use Rattle.std.specs.Option.{IsSome}
use Rattle.semver.specs.Identifiers.{parts_text}
use Rattle.wc_resolve.specs.Resolve.{key_text}
use Rattle.wc_resolve.specs.Ranges.{IsKeyIn}
use Rattle.wc_resolve.specs.Views.{KeyView, ItemView, interface_item, function_item, type_item}
use Rattle.wc_resolve.specs.Kinds.{ResolveView}
use Rattle.wc_adapters.specs.Entries.{Entries}

-- the interface that an item is
abbrev pub item_interface : ItemView → Option ℕ
item_interface (interface_item i external) = Some i
item_interface (function_item f) = None
item_interface (type_item t) = None

abbrev pub exported_interfaces : Entries → List ℕ
exported_interfaces exports = filter_map (λ x. item_interface x.1) exports

-- no interface is exported twice
abbrev pub AreInterfacesOnce : Entries → Type 0
AreInterfacesOnce exports = AllPairs (λ i k. i ≢ k) (exported_interfaces exports)

-- the name of an import: its plain key, or its interface's id
abbrev pub import_name : ResolveView → KeyView × ItemView → Option (List ℕ)
import_name r x = key_text parts_text r x.0

abbrev pub import_names : ResolveView → Entries → List (Option (List ℕ))
import_names r imports = map (import_name r) imports

-- the interfaces of all keys are there
abbrev pub AreKeysIn : ResolveView → Entries → Type 0
AreKeysIn r imports = All (λ x. IsKeyIn r x.0) imports

-- each import has a name
abbrev pub HaveNames : ResolveView → Entries → Type 0
HaveNames r imports = All (λ x. IsSome (import_name r x)) imports

-- no two imports have one name
abbrev pub AreNamesDistinct : ResolveView → Entries → Type 0
AreNamesDistinct r imports = AllPairs (λ n m. n ≢ m) (import_names r imports)
