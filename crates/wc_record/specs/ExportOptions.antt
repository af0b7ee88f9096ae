-- The canonical options of the functions that a world exports, where they are lifted synchronously.
use Rattle.std.specs.Prelude.{ℕ, List, [], ◌∷◌, map, Option, Some, None, slice_get, codes}
use Rattle.std.specs.List.{flat_map}
use Rattle.std.specs.Option.{option_map_or}
use Rattle.json.specs.Json.{Json, string}
use Rattle.wc_adapters.specs.Entries.{Entries}
use Rattle.wc_resolve.specs.declared.functions.AbiVariant.TheVariants.{GuestExport}
use Rattle.wc_resolve.specs.Kinds.{ResolveView}
use Rattle.wc_resolve.specs.Views.{FunctionView, InterfaceView, ItemView, KeyView, function_item, interface_item, type_item}
use Rattle.wc_texts.specs.Shapes.{nullable_json, number_json, object_of}
use Rattle.wc_world.specs.ExportOptions.{export_options}

-- a function by its interface, if it is not one of the world itself, and its name; and its options as bits
pub record LiftedView : Type 0 where
  pub interface : Option ℕ
  pub name : List ℕ
  pub options : ℕ

abbrev pub lifted_function : ResolveView → Option ℕ → FunctionView → LiftedView
lifted_function r interface f = record { interface = interface; name = f.name; options = export_options r f GuestExport }

-- the functions of the interface at an index
abbrev pub lifted_functions : ResolveView → ℕ → List (List ℕ × FunctionView) → List LiftedView
lifted_functions r i functions = map (λ (e : List ℕ × FunctionView). lifted_function r (Some i) e.1) functions

abbrev pub lifted_interface : ResolveView → ℕ → List LiftedView
lifted_interface r i = option_map_or (λ (v : InterfaceView). lifted_functions r i v.functions) (slice_get r.interfaces i) []

-- the functions of an exported item: of an interface all, in their order
abbrev pub lifted_item : ResolveView → ItemView → List LiftedView
lifted_item r (interface_item i external) = lifted_interface r i
lifted_item r (function_item f) = lifted_function r None f ∷ []
lifted_item r (type_item t) = []

-- the functions that a world with these exports exports, in their order
abbrev pub lifted_exports : ResolveView → Entries → List LiftedView
lifted_exports r exports = flat_map (λ (e : KeyView × ItemView). lifted_item r e.1) exports

abbrev pub lifted_json : LiftedView → Json
lifted_json l =
    object_of ((codes "interface", nullable_json number_json l.interface) ∷ (codes "name", string l.name) ∷ (codes "options", number_json l.options) ∷ [])
