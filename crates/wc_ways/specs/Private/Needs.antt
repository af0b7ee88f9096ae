-- Which types are noted as needed, and by which roots, as the code has them.
use Rattle.std.specs.Prelude.{◌≡◌, ℕ, List, [], map, slice_get}
use Rattle.std.specs.Option.{option_map, option_map_or, option_or}
use Rattle.wc_resolve.specs.Kinds.{ResolveView}
use Rattle.wc_resolve.specs.Live.{IsComplete}
use Rattle.wc_resolve.specs.Roots.{function_roots, interface_roots}
use Rattle.wc_resolve.specs.Views.{InterfaceView, key_view}
use Rattle.wc_texts.specs.Names.{under_name}
use Rattle.wc_resolve.specs.declared.ids.TypeId.{TypeId}
use Rattle.wc_why.specs.Texts.{text_of}
use Rattle.wc_world.specs.Views.{ComponentWorldView}
use Rattle.wc_ways.specs.TypeRoots.{Needs, TypeRoot, first_root, needs, needs_of, of_import, of_item}
use Rattle.wc_ways.specs.Types.{TypeCite}
use Rattle.wc_ways.specs.declared.needs.Found.{Found}
use Rattle.wc_ways.specs.declared.needs.Needing.{Needing}
use Rattle.wc_ways.specs.declared.needs.NeededTypes.{NeededTypes}
use Rattle.wc_ways.specs.declared.needs.TypeRoot.{TypeRoot as DeclaredRoot}
use Rattle.wc_ways.specs.declared.needs.TypeRoot.TheVariants.{Import, Item}
use Rattle.wc_ways.specs.declared.types.TypeCite.{TypeCite as DeclaredCite}

abbrev pub root_view : DeclaredRoot → TypeRoot
root_view (Import adapter from name) = of_import (option_map text_of adapter) from.now name.now
root_view (Item side key) = of_item side (key_view key.now)

-- types, each with a root
abbrev pub Noted : Type 0
Noted = List (TypeId × DeclaredRoot)

abbrev pub noted_needs : Noted → Needs
noted_needs noted = map (λ (e : TypeId × DeclaredRoot). (e.0.0, root_view e.1)) noted

abbrev pub noted_types : Noted → List ℕ
noted_types noted = map (λ (e : TypeId × DeclaredRoot). e.0.0) noted

abbrev pub noted_in : Found → Noted
noted_in f = f.needed.roots.entries

-- of each type that wasn't noted the first root that needs it is noted
abbrev pub AddsFirst : Noted → Noted → Needs → Type 0
AddsFirst old new needs = (t : ℕ) → first_root (noted_needs new) t ≡ option_or (first_root (noted_needs old) t) (first_root needs t)

-- where all to which noted types refer was noted, it still is
abbrev pub AddsNeeds : ResolveView → Noted → Noted → Needs → Type 0
AddsNeeds r old new needs = IsComplete r.types (noted_types old) → IsComplete r.types (noted_types new) × AddsFirst old new needs

-- the types that are needed of the function of a name of an interface, and of an interface
abbrev pub function_types_in : InterfaceView → List ℕ → List ℕ
function_types_in v name = option_map_or function_roots (under_name v.functions name) []

abbrev pub interface_types : ResolveView → ℕ → List ℕ
interface_types r i = option_map_or interface_roots (slice_get r.interfaces i) []

-- what the root that names these types needs is noted
abbrev pub Finds : Needing → Found → Found → List ℕ → Type 0
Finds g old new types = AddsNeeds g.resolve.now (noted_in old) (noted_in new) (needs_of g.resolve.now (root_view g.root) types)

-- why an interface is imported for its types
abbrev pub cite_view : DeclaredCite → TypeCite
cite_view c = record { name = option_map text_of c.name; root = option_map root_view c.root }

-- what all roots need is noted
abbrev pub AreNeeded : Needs → Noted → Type 0
AreNeeded needs noted = (t : ℕ) → first_root (noted_needs noted) t ≡ first_root needs t

abbrev pub AreNeededIn : ComponentWorldView → NeededTypes → Type 0
AreNeededIn w n = AreNeeded (needs w) n.roots.entries
