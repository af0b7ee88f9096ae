-- What contracts see of a component's world: texts and bytes as lists of numbers, ids as indices, maps as lists in
-- order.
use Rattle.std.specs.Prelude.{ℕ, Bool, List, Option}
use Rattle.wc_resolve.specs.declared.functions.AbiVariant.{AbiVariant}
use Rattle.wc_resolve.specs.Signature.{SignatureView}
use Rattle.wc_adapters.specs.Adapters.{LibraryView}
use Rattle.wc_encoder.specs.EncoderParts.{EncoderView}
use Rattle.wc_validate.specs.Validate.{ModuleRecord}
use Rattle.wc_world.specs.Used.{UsedView}

-- an adapter or a library: its bytes, whether they are borrowed, what is recorded of them, and how it is instantiated, if
-- it is a library
pub record WorldAdapterView : Type 0 where
  pub wasm : List ℕ
  pub is_borrowed : Bool
  pub info : ModuleRecord
  pub library_info : Option LibraryView

-- an adapter or a library under its name
abbrev pub NamedWorldAdapter : Type 0
NamedWorldAdapter = List ℕ × WorldAdapterView

-- how an import is met, with its options as bits
pub data LoweringView : Type 0 where
  direct : ℕ → LoweringView
  indirect : SignatureView → ℕ → LoweringView
  resource_drop : ℕ → LoweringView

-- a name, and how the function of this name is called
abbrev pub LoweringKey : Type 0
LoweringKey = List ℕ × AbiVariant

pub record ImportedView : Type 0 where
  pub lowerings : List (LoweringKey × LoweringView)
  pub interface : Option ℕ
  pub implements : Option ℕ
  pub external_id : Option (List ℕ)

-- interfaces under their names, and what the world itself imports under none
abbrev pub ImportMapView : Type 0
ImportMapView = List (Option (List ℕ) × ImportedView)

pub record ComponentWorldView : Type 0 where
  pub encoder : EncoderView
  pub info : ModuleRecord
  pub adapters : List NamedWorldAdapter
  pub import_map : ImportMapView
  pub live_type_imports : List (ℕ × List ℕ)
  pub exports_used : UsedView
