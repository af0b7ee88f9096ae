-- Where a component's world meets the functions that its modules import.
use Rattle.std.specs.Prelude.{ℕ, List, All, Bool, true, false, ◌&&◌, Option, None}
use Rattle.std.specs.Map.{lookup}
use Rattle.std.specs.Option.{IsSome, option_and_then, option_eq}
use Rattle.std.specs.Str.{bytes_eq}
use Rattle.semver.specs.Identifiers.{parts_text}
use Rattle.wc_resolve.specs.declared.functions.AbiVariant.{AbiVariant}
use Rattle.wc_resolve.specs.declared.functions.AbiVariant.TheVariants.{GuestExport, GuestExportAsync, GuestExportAsyncStackful, GuestImport, GuestImportAsync}
use Rattle.wc_resolve.specs.Resolve.{key_text}
use Rattle.wc_resolve.specs.Ranges.{IsKeyIn}
use Rattle.wc_resolve.specs.Kinds.{ResolveView}
use Rattle.wc_encoder.specs.EncoderParts.{EncoderView}
use Rattle.wc_names.specs.Views.{ImportView, interface_func, world_func}
use Rattle.wc_world.specs.Options.{OptionsOf}
use Rattle.wc_world.specs.Slots.{all_imports, imports_of}
use Rattle.wc_world.specs.Views.{ComponentWorldView, ImportMapView, ImportedView, LoweringKey, LoweringView}
use Rattle.wc_world.specs.World.{IsWorldOf}

-- whether two ways in which functions are called are equal
abbrev pub abi_eq : AbiVariant → AbiVariant → Bool
abi_eq GuestImport GuestImport = true
abi_eq GuestExport GuestExport = true
abi_eq GuestImportAsync GuestImportAsync = true
abi_eq GuestExportAsync GuestExportAsync = true
abi_eq GuestExportAsyncStackful GuestExportAsyncStackful = true
abi_eq a b = false

-- the lowering of a function by its name and the way in which it is called, of the interface of a name, or of the world
-- itself
abbrev pub is_lowering_key : List ℕ → AbiVariant → LoweringKey → Bool
is_lowering_key name abi key = bytes_eq name key.0 && abi_eq abi key.1

abbrev pub lowering_in : List ℕ → AbiVariant → ImportedView → Option LoweringView
lowering_in name abi imported = lookup (is_lowering_key name abi) imported.lowerings

abbrev pub lowering_at : ImportMapView → Option (List ℕ) → List ℕ → AbiVariant → Option LoweringView
lowering_at m interface name abi = option_and_then (lowering_in name abi) (lookup (option_eq bytes_eq interface) m)

-- an import that is a function has its lowering: under no name where it is one of the world itself, and else under the
-- text of its interface's key, which has one
abbrev pub IsLoweredIn : ResolveView → ImportMapView → ImportView → Type 0
IsLoweredIn r m (world_func key name abi) = IsSome (lowering_at m None name abi)
IsLoweredIn r m (interface_func key i name abi) =
    IsKeyIn r key × IsSome (key_text parts_text r key) × IsSome (lowering_at m (key_text parts_text r key) name abi)
IsLoweredIn r m import = Unit {0}

-- in a world that is made of an encoder each function that is recorded has its lowering, of the main module and of the
-- adapters
abbrev pub FunctionsLowered : EncoderView → Type 0
FunctionsLowered e =
    (options : OptionsOf) (w : ComponentWorldView) → IsWorldOf options e w
    → All (IsLoweredIn w.encoder.resolve w.import_map) (imports_of (all_imports w.info w.adapters))
