-- Which imports of modules are asked about: by the names under which the world imports the interfaces to which they belong.
use Rattle.std.specs.Prelude.{ℕ, Bool, false, ◌||◌, ◌&&◌, List, [], ◌∷◌, Option, Some, None, codes, cond, nat_eq}
use Rattle.std.specs.List.{filter_map}
use Rattle.std.specs.Option.{option_and_then, option_map_or}
use Rattle.std.specs.Str.{bytes_eq}
use Rattle.wc_resolve.specs.Views.{KeyView, interface_key, plain_key}
use Rattle.wc_names.specs.Views.{FunctionImportView, ImportView, PayloadTypeView, PayloadView, async_value, function_import, imported_resource_drop, interface_func, typed, world_func}
use Rattle.wc_why.specs.Keys.{asks_about}
use Rattle.wc_world.specs.Views.{ComponentWorldView, ImportedView}

-- an import of a world, to which an import of a module belongs: an interface; or the function or type of a name that is the world's own
pub data WorldImport : Type 0 where
  of_interface : ℕ → WorldImport
  of_world : List ℕ → WorldImport

-- that of a resource: the interface, if there is one
abbrev pub scoped_import : KeyView → Option ℕ → Option WorldImport
scoped_import key (Some i) = Some (of_interface i)
scoped_import (plain_key name) None = Some (of_world name)
scoped_import (interface_key i) None = None

-- that of the function by which a built-in picks its future or stream; of none of the world's own, if there is no payload
abbrev pub picked_import : Option ℕ → PayloadTypeView → Option WorldImport
picked_import (Some i) ty = Some (of_interface i)
picked_import None (typed t function) = Some (of_world function)
picked_import None ty = None

-- if that function is imported
abbrev pub payload_import : PayloadView → Option WorldImport
payload_import info = cond info.imported (picked_import info.interface info.ty) None

-- that of a function, of a resource that is dropped, and of the function whose future or stream a built-in is for; what is for
-- exports, what modules share, and built-ins for no payload belong to none
abbrev pub world_import : ImportView → Option WorldImport
world_import (world_func key name abi) = Some (of_world name)
world_import (interface_func key i name abi) = Some (of_interface i)
world_import (imported_resource_drop key interface t) = scoped_import key interface
world_import (async_value v op is_async info) = payload_import info
world_import import = None

-- the name of an import: that of a function; of what is none the name that it has in the module
abbrev pub own_name : List ℕ → ImportView → List ℕ
own_name name import = option_map_or (λ (f : FunctionImportView). f.name) (function_import import) name

-- the name that stands for the interface of what is the world's own
abbrev pub root_text : List ℕ
root_text = codes "$root"

-- an import of the world is asked about: by the name of its interface, or by its text; or all are
abbrev pub is_asked : List ℕ → List ℕ → List ℕ → Bool
is_asked key interface text = bytes_eq key (codes "all") || (bytes_eq key interface || asks_about key text)

-- the names under which the world imports an interface, in its order, that are asked about
abbrev pub is_under : ℕ → Option ℕ → Bool
is_under i interface = option_map_or (nat_eq i) interface false

abbrev pub asked_name : List ℕ → ℕ → Option (List ℕ) × ImportedView → Option (List ℕ)
asked_name key i x = option_and_then (λ (name : List ℕ). cond (is_under i x.1.interface && is_asked key name name) (Some name) None) x.0

abbrev pub asked_names : ComponentWorldView → List ℕ → ℕ → List (List ℕ)
asked_names w key i = filter_map (asked_name key i) w.import_map

-- those of the interface to which what a module imports belongs; or the name that stands for it
abbrev pub asked_by : ComponentWorldView → List ℕ → WorldImport → List (List ℕ)
asked_by w key (of_interface i) = asked_names w key i
asked_by w key (of_world own) = cond (is_asked key root_text own) (root_text ∷ []) []

abbrev pub asked_interfaces : ComponentWorldView → List ℕ → ImportView → List (List ℕ)
asked_interfaces w key import = option_map_or (asked_by w key) (world_import import) []
