-- How the imports of a component's world are met.
use Rattle.std.specs.Prelude.{◌≢◌, AllPairs, ℕ, ◌==◌, List, [], ◌∷◌, ◌++◌, Bool, true, false, not, ◌&&◌, ◌||◌, Option, Some, None, is_some, cond, slice_get, codes, ◌<◌, length}
use Rattle.std.specs.Int.RustNames.{bit_and}
use Rattle.std.specs.List.{filter_map, flat_map, list_any}
use Rattle.std.specs.Option.{IsSome, option_and_then, option_map_or}
use Rattle.std.specs.Str.{bytes_eq}
use Rattle.semver.specs.Identifiers.{parts_text}
use Rattle.wc_resolve.specs.declared.functions.AbiVariant.{AbiVariant}
use Rattle.wc_resolve.specs.declared.functions.AbiVariant.TheVariants.{GuestImport, GuestImportAsync}
use Rattle.wc_resolve.specs.Resolve.{external_id, implemented, key_text}
use Rattle.wc_resolve.specs.Ranges.{IsItemIn, IsKeyIn}
use Rattle.wc_resolve.specs.Views.{FunctionView, InterfaceView, ItemView, KeyView, function_item, interface_item, type_item}
use Rattle.wc_resolve.specs.WellFormed.{IsUsable, type_name}
use Rattle.wc_resolve.specs.Kinds.{ResolveView}
use Rattle.wc_encoder.specs.EncoderParts.{EncoderView, world_imports}
use Rattle.wc_adapters.specs.Entries.{Entries}
use Rattle.wc_names.specs.Keys.{resource_at}
use Rattle.wc_names.specs.Views.{ImportView, imported_resource_drop, interface_func, world_func}
use Rattle.wc_validate.specs.Imports.Map.{memory_in}
use Rattle.wc_validate.specs.Validate.{ModuleRecord}
use Rattle.wc_world.specs.Options.{memory_flag, OptionsOf, realloc_flag, signature_of}
use Rattle.wc_world.specs.Slots.{all_imports, imports_of}
use Rattle.wc_world.specs.Views.{ImportMapView, ImportedView, LoweringKey, LoweringView, NamedWorldAdapter, direct, indirect, resource_drop}

-- two ways in which an imported function is called are the same
abbrev pub same_call : AbiVariant → AbiVariant → Bool
same_call GuestImport GuestImport = true
same_call GuestImportAsync GuestImportAsync = true
same_call a b = false

-- an import is the function of a name, of an interface or of the world itself, called in this way
abbrev pub is_import_of : Option ℕ → List ℕ → AbiVariant → ImportView → Bool
is_import_of None name abi (world_func key f a) = bytes_eq name f && same_call abi a
is_import_of (Some i) name abi (interface_func key j f a) = (i == j) && (bytes_eq name f && same_call abi a)
is_import_of interface name abi import = false

-- a function is among imports, called in this way
abbrev pub is_imported : Option ℕ → List ℕ → AbiVariant → List ImportView → Bool
is_imported interface name abi imports = list_any (is_import_of interface name abi) imports

-- an import drops resources of a type
abbrev pub is_drop_of : ℕ → ImportView → Bool
is_drop_of t (imported_resource_drop key interface u) = t == u
is_drop_of t import = false

-- what functions are lowered by: a `Resolve`; the options of functions; what core modules import; and whether the main
-- module imports its memory, which is then there before the main module is
pub record Lowerer : Type 0 where
  pub resolve : ResolveView
  pub options : OptionsOf
  pub imports : List ImportView
  pub has_memory : Bool

abbrev pub lowerer_of : ResolveView → OptionsOf → Bool → List ImportView → Lowerer
lowerer_of r options has_memory imports = record { resolve = r; options = options; imports = imports; has_memory = has_memory }

-- options with a memory or a realloc need the main module's memory
abbrev pub needs_main_memory : ℕ → Bool
needs_main_memory options = (bit_and options memory_flag == memory_flag) || (bit_and options realloc_flag == realloc_flag)

abbrev pub lowered_with : Lowerer → FunctionView → AbiVariant → ℕ → LoweringView
lowered_with l f abi options = cond (l.has_memory || not (needs_main_memory options)) (direct options) (indirect (signature_of l.resolve abi f) options)

abbrev pub lowered_function : Lowerer → FunctionView → AbiVariant → LoweringView
lowered_function l f abi = lowered_with l f abi (l.options l.resolve f abi)

abbrev pub KeyedLowering : Type 0
KeyedLowering = LoweringKey × LoweringView

-- no two lowerings have one key
abbrev pub AreKeysDistinct : List KeyedLowering → Type 0
AreKeysDistinct lowerings = AllPairs (λ (x y : KeyedLowering). x.0 ≢ y.0) lowerings

-- a function called in one way, if it is imported so
abbrev pub called_lowering : Lowerer → Option ℕ → FunctionView → AbiVariant → List KeyedLowering
called_lowering l interface f abi = cond (is_imported interface f.name abi l.imports) (((f.name, abi), lowered_function l f abi) ∷ []) []

-- a function as it is imported: called synchronously, and then asynchronously
abbrev pub function_lowerings : Lowerer → Option ℕ → FunctionView → List KeyedLowering
function_lowerings l interface f = called_lowering l interface f GuestImport ++ called_lowering l interface f GuestImportAsync

-- a resource by its name, if its drop is imported: `NAME_drop`
abbrev pub drop_key : List ℕ → LoweringKey
drop_key name = (name ++ codes "_drop", GuestImport)

abbrev pub resource_lowerings : Lowerer → ℕ → List ℕ → List KeyedLowering
resource_lowerings l t name = cond (list_any (is_drop_of t) l.imports) ((drop_key name, resource_drop t) ∷ []) []

-- the name of a type whose kind is a resource
abbrev pub resource_name : ResolveView → ℕ → Option (List ℕ)
resource_name r t = option_and_then (λ (u : ℕ). type_name r u) (resource_at r t)

abbrev pub type_lowerings : Lowerer → ℕ → List KeyedLowering
type_lowerings l t = option_map_or (resource_lowerings l t) (resource_name l.resolve t) []

-- drops in the order of types; functions in their order
abbrev pub lowerings_of_types : Lowerer → List (List ℕ × ℕ) → List KeyedLowering
lowerings_of_types l types = flat_map (λ (e : List ℕ × ℕ). type_lowerings l e.1) types

abbrev pub lowerings_of_functions : Lowerer → Option ℕ → List (List ℕ × FunctionView) → List KeyedLowering
lowerings_of_functions l interface functions = flat_map (λ (e : List ℕ × FunctionView). function_lowerings l interface e.1) functions

-- the lowerings of an interface: drops, and then functions
abbrev pub interface_lowerings : Lowerer → ℕ → InterfaceView → List KeyedLowering
interface_lowerings l i v = lowerings_of_types l v.types ++ lowerings_of_functions l (Some i) v.functions

-- the lowerings of the interface at an index
abbrev pub lowerings_of_interface : Lowerer → ℕ → List KeyedLowering
lowerings_of_interface l i = option_map_or (interface_lowerings l i) (slice_get l.resolve.interfaces i) []

-- the lowerings of the world itself: its functions and the drops of its resources, in its order
abbrev pub item_lowerings : Lowerer → ItemView → List KeyedLowering
item_lowerings l (interface_item i external) = []
item_lowerings l (function_item f) = function_lowerings l None f
item_lowerings l (type_item t) = type_lowerings l t

-- a function of the world itself is usable, and a type is there
abbrev pub IsLowerable : ResolveView → ItemView → Type 0
IsLowerable r (interface_item i external) = Unit {0}
IsLowerable r (function_item f) = IsUsable r f
IsLowerable r (type_item t) = t < length r.types

abbrev pub own_lowerings : Lowerer → Entries → List KeyedLowering
own_lowerings l imports = flat_map (λ (x : KeyView × ItemView). item_lowerings l x.1) imports

-- an import is there, and has a name
pub record IsImportable (r : ResolveView) (x : KeyView × ItemView) : Type 0 where
  pub key_in : IsKeyIn r x.0
  pub named : IsSome (key_text parts_text r x.0)
  pub item_in : IsItemIn r x.1
  pub lowerable : IsLowerable r x.1

abbrev pub ImportEntry : Type 0
ImportEntry = Option (List ℕ) × ImportedView

-- no two entries have one name
abbrev pub AreEntriesDistinct : ImportMapView → Type 0
AreEntriesDistinct entries = AllPairs (λ (x y : ImportEntry). x.0 ≢ y.0) entries

-- the world itself under no name
abbrev pub own_entry : Lowerer → Entries → ImportEntry
own_entry l imports = (None, record { lowerings = own_lowerings l imports; interface = None; implements = None; external_id = None })

-- an interface under its name
abbrev pub interface_entry : Lowerer → KeyView × ItemView → Option ImportEntry
interface_entry l (key, interface_item i external) = Some (
  key_text parts_text l.resolve key,
  record {
    lowerings = lowerings_of_interface l i;
    interface = Some i;
    implements = implemented l.resolve key (interface_item i external);
    external_id = external_id (interface_item i external);
  },
)
interface_entry l (key, item) = None

-- the entries of the imports of a world that are left, in their order: one for each interface, and one for all its
-- functions and types at the position of the first of these
abbrev pub entries_from : Lowerer → Entries → Entries → ImportMapView
entries_from l all [] = []
entries_from l all (x ∷ rest) = option_map_or (λ entry. entry ∷ entries_from l all rest) (interface_entry l x) (own_entry l all ∷ filter_map (interface_entry l) rest)

-- the entries of all imports of a world
abbrev pub all_entries : Lowerer → Entries → ImportMapView
all_entries l imports = entries_from l imports imports

-- a fact that holds where no two lowerings of the world itself have one key, and no two entries have one name
abbrev pub IfDistinct : Lowerer → Entries → Type 0 → Type 0
IfDistinct l imports P = AreKeysDistinct (own_lowerings l imports) → AreEntriesDistinct (all_entries l imports) → P

abbrev pub lowerer : EncoderView → OptionsOf → ModuleRecord → List NamedWorldAdapter → Lowerer
lowerer e options main adapters = record {
  resolve = e.resolve;
  options = options;
  imports = imports_of (all_imports main adapters);
  has_memory = is_some (memory_in main.imports);
}

-- how the imports of an encoder's world are met
abbrev pub lowered : EncoderView → OptionsOf → ModuleRecord → List NamedWorldAdapter → ImportMapView
lowered e options main adapters = all_entries (lowerer e options main adapters) (world_imports e)
