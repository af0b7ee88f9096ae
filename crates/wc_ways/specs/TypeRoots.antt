-- The roots of live types of a world, in order, and which of them is the first that needs a type: it names the type, or another one
-- that refers to it.
use Rattle.std.specs.Prelude.{ℕ, List, [], ◌∷◌, ◌++◌, map, nat_eq, nat_lt, cond, length, Option, Some, None}
use Rattle.std.specs.List.{flat_map}
use Rattle.std.specs.Map.{lookup}
use Rattle.wc_adapters.specs.Entries.{Entries}
use Rattle.wc_encoder.specs.EncoderParts.{world_exports, world_imports}
use Rattle.wc_names.specs.Views.{ImportView}
use Rattle.wc_resolve.specs.Kinds.{ResolveView}
use Rattle.wc_resolve.specs.Live.{listing_of}
use Rattle.wc_resolve.specs.Views.{ItemView, KeyView, function_item, interface_item, type_item}
use Rattle.wc_validate.specs.Imports.Entries.{Records}
use Rattle.wc_validate.specs.Imports.Map.{imports_in}
use Rattle.wc_world.specs.Live.{export_roots, import_roots}
use Rattle.wc_world.specs.Used.{UsedView}
use Rattle.wc_world.specs.Views.{ComponentWorldView, NamedWorldAdapter}
use Rattle.wc_ways.specs.declared.needs.WorldSide.{WorldSide}
use Rattle.wc_ways.specs.declared.needs.WorldSide.TheVariants.{Imports, Exports}

-- a root: an import of an adapter, or of the main module where no adapter is named; or what the world itself imports or exports under a
-- key
pub data TypeRoot : Type 0 where
  of_import : (adapter : Option (List ℕ)) (from name : List ℕ) → TypeRoot
  of_item : (side : WorldSide) (key : KeyView) → TypeRoot

-- types, each with a root that needs it
abbrev pub Needs : Type 0
Needs = List (ℕ × TypeRoot)

-- these types, by this root
abbrev pub all_needed : TypeRoot → List ℕ → Needs
all_needed root types = map (λ (t : ℕ). (t, root)) types

-- a root that names a type needs it, if it is there, and all to which it refers; and so of some types
abbrev pub listing_in : ResolveView → ℕ → List ℕ
listing_in r t = cond (nat_lt t (length r.types)) (listing_of r.types t) []

abbrev pub needs_of : ResolveView → TypeRoot → List ℕ → Needs
needs_of r root types = flat_map (λ (t : ℕ). all_needed root (listing_in r t)) types

-- by a type that the world itself imports
abbrev pub own_needs : ResolveView → KeyView × ItemView → Needs
own_needs r (key, type_item t) = needs_of r (of_item Imports key) (t ∷ [])
own_needs r (key, interface_item i external) = []
own_needs r (key, function_item f) = []

-- by a recorded import of a module, and by all of them
abbrev pub import_needs : ResolveView → Entries → Option (List ℕ) → List ℕ × (List ℕ × ImportView) → Needs
import_needs r imports adapter x = needs_of r (of_import adapter x.0 x.1.0) (import_roots r imports x.1.1)

abbrev pub module_needs : ResolveView → Entries → Option (List ℕ) → Records → Needs
module_needs r imports adapter records = flat_map (import_needs r imports adapter) (imports_in records)

abbrev pub adapter_needs : ResolveView → Entries → NamedWorldAdapter → Needs
adapter_needs r imports a = module_needs r imports (Some a.0) a.1.info.imports

-- by the imports of the main module, and those of each adapter
abbrev pub modules_needs : ResolveView → Entries → ComponentWorldView → Needs
modules_needs r imports w = module_needs r imports None w.info.imports ++ flat_map (adapter_needs r imports) w.adapters

-- by an export of the world: of an interface by those of its live types that are from elsewhere
abbrev pub export_needs : ResolveView → UsedView → KeyView × ItemView → Needs
export_needs r sets x = needs_of r (of_item Exports x.0) (export_roots r sets x.1)

-- by all roots, in their order: the types that the world itself imports, the imports of the main module, those of each adapter, and the
-- world's exports
abbrev pub needs : ComponentWorldView → Needs
needs w =
    flat_map (own_needs w.encoder.resolve) (world_imports w.encoder)
    ++ (modules_needs w.encoder.resolve (world_imports w.encoder) w ++ flat_map (export_needs w.encoder.resolve w.exports_used) (world_exports w.encoder))

-- the first root that needs a type
abbrev pub first_root : Needs → ℕ → Option TypeRoot
first_root needs t = lookup (nat_eq t) needs
