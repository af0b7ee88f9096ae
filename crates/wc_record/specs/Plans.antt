-- A plan as JSON.
use Rattle.std.specs.Prelude.{List, [], ◌∷◌, map, codes}
use Rattle.json.specs.Json.{Json, string}
use Rattle.wc_plan.specs.Views.{OwnerView, UseView, adapter_owner, main_owner}
use Rattle.wc_texts.specs.Shapes.{array_of, nullable_json, number_json, object_of}
use Rattle.wc_record.specs.Objects.{object_of_kind}
use Rattle.wc_record.specs.Wit.{abi_json}

-- whose import it is: the main module's, or that of the adapter of a name
abbrev pub owner_json : OwnerView → Json
owner_json main_owner = object_of_kind (codes "main") []
owner_json (adapter_owner name) = object_of_kind (codes "adapter") ((codes "name", string name) ∷ [])

abbrev pub use_json : UseView → Json
use_json u =
    object_of (
    (codes "module", owner_json u.call.owner) ∷ (codes "interface", nullable_json string u.call.interface) ∷ (codes "name", string u.call.name)
    ∷ (codes "abi", abi_json u.call.abi) ∷ (codes "slot", nullable_json number_json u.slot) ∷ (codes "realloc", nullable_json string u.realloc) ∷ []
    )

abbrev pub plan_json : List UseView → Json
plan_json uses = array_of (map use_json uses)
