-- What names are looked up in, and the imports that are looked up.
use Rattle.std.specs.Prelude.{◌≡◌, ℕ, List, map, Option, Some, slice_get, String, string_bytes}
use Rattle.std.specs.Option.{IfSome}
use Rattle.std.specs.declared.alloc.Global.{Global}
use Rattle.wc_read.specs.Types.{FuncTypeValue}
use Rattle.wc_resolve.specs.Views.{world_view}
use Rattle.wc_resolve.specs.Kinds.{ResolveView}
use Rattle.wc_adapters.specs.declared.adapters.Adapter.{Adapter}
use Rattle.wc_adapters.specs.Entries.{Entries}
use Rattle.wc_names.specs.Imports.{NameScope, CoreFunction}
use Rattle.wc_names.specs.InterfaceIndex.{InterfaceNamesView, interface_names_view}
use Rattle.wc_names.specs.Interfaces.{InterfaceTexts, canonical_ids, full_ids}
use Rattle.wc_validate.specs.declared.name_scope.Interfaces.{Interfaces}
use Rattle.wc_validate.specs.declared.name_scope.Lookup.{Lookup}
use Rattle.wc_validate.specs.declared.names.Names.{Names}
use Rattle.wc_validate.specs.declared.name_scope.SchemeInterfaces.{SchemeInterfaces}

-- the name of an adapter
abbrev pub adapter_name : String Global × Adapter → List ℕ
adapter_name e = string_bytes e.0

abbrev pub name_scope_of : Names → NameScope
name_scope_of n = record {
  resolve = n.resolve.now;
  world = world_view n.world.now;
  adapters = map adapter_name n.adapters.now.entries;
  reject_legacy_names = n.reject_legacy_names;
  hook = n.task_hook.now;
}

-- the world is one of the `Resolve`
abbrev pub HasItsWorld : NameScope → Type 0
HasItsWorld e = (index : ℕ) × (slice_get e.resolve.worlds index ≡ Some e.world)

-- an index, if there is one, is that of these interfaces
abbrev pub IsIndexFor : InterfaceTexts → ResolveView → Entries → Option InterfaceNamesView → Type 0
IsIndexFor texts r entries index = IfSome index (λ names. names ≡ interface_names_view texts r entries)

-- the interfaces of the world, by these texts
pub record AreInterfacesBy (texts : InterfaceTexts) (e : NameScope) (i : SchemeInterfaces) : Type 0 where
  pub imports : IsIndexFor texts e.resolve e.world.imports i.imports
  pub exports : IsIndexFor texts e.resolve e.world.exports i.exports

-- the interfaces of the world, by the texts of both schemes
pub record AreInterfacesOf (e : NameScope) (i : Interfaces) : Type 0 where
  pub standard : AreInterfacesBy canonical_ids e i.standard
  pub legacy : AreInterfacesBy full_ids e i.legacy

-- the scope of a look-up, and that its interfaces are those of the world, by these texts
abbrev pub lookup_name_scope : Lookup → NameScope
lookup_name_scope l = name_scope_of l.names.now

abbrev pub HasInterfaces : InterfaceTexts → Lookup → Type 0
HasInterfaces texts l = AreInterfacesBy texts (lookup_name_scope l) l.interfaces.now

-- a function that is imported from a module
abbrev pub imported_function : List ℕ → List ℕ → FuncTypeValue → CoreFunction
imported_function from name ty = record { from = from; name = name; ty = ty }
