-- How libraries are instantiated, as JSON.
use Rattle.std.specs.Prelude.{ℕ, List, [], ◌∷◌, map, codes}
use Rattle.json.specs.Json.{Json, boolean, string}
use Rattle.wc_adapters.specs.Adapters.{WhichView, main_module, adapter_of, LibraryItemView, InstanceView, module_instance, item_instance, LibraryView}
use Rattle.wc_record.specs.CoreTypes.{export_kind_json}
use Rattle.wc_texts.specs.Shapes.{array_of, object_of}
use Rattle.wc_record.specs.Objects.{object_of_kind}

-- the main module, or the adapter of a name
abbrev pub which_json : WhichView → Json
which_json main_module = object_of_kind (codes "main") []
which_json (adapter_of name) = object_of_kind (codes "adapter") ((codes "name", string name) ∷ [])

abbrev pub library_item_json : LibraryItemView → Json
library_item_json i =
    object_of (
    (codes "alias", string i.alias) ∷ (codes "kind", export_kind_json i.kind) ∷ (codes "which", which_json i.which)
    ∷ (codes "name", string i.name) ∷ []
    )

-- all exports of a module, or items
abbrev pub instance_json : InstanceView → Json
instance_json (module_instance which) = object_of_kind (codes "module") ((codes "which", which_json which) ∷ [])
instance_json (item_instance items) = object_of_kind (codes "items") ((codes "items", array_of (map library_item_json items)) ∷ [])

-- what is passed under the name of a module
abbrev pub argument_json : List ℕ × InstanceView → Json
argument_json a = object_of ((codes "name", string a.0) ∷ (codes "instance", instance_json a.1) ∷ [])

abbrev pub library_json : LibraryView → Json
library_json l =
    object_of (
    (codes "arguments", array_of (map argument_json l.arguments)) ∷ (codes "instantiate_after_shims", boolean l.instantiate_after_shims) ∷ []
    )
