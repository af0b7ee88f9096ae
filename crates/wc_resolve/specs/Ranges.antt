-- Ids that are in range: indices of their lists.
use Rattle.std.specs.Prelude.{ℕ, ◌<◌, length, All}
use Rattle.std.specs.Option.{IfSome}
use Rattle.wc_resolve.specs.declared.types.WitType.{WitType}
use Rattle.wc_resolve.specs.declared.types.WitType.TheVariants.{Id}
use Rattle.wc_resolve.specs.declared.types.TypeOwner.{TypeOwner}
use Rattle.wc_resolve.specs.declared.types.TypeOwner.TheVariants.{World as OfWorld, Interface as OfInterface, None as OfNone}
use Rattle.wc_resolve.specs.declared.functions.FunctionKind.{FunctionKind}
use Rattle.wc_resolve.specs.declared.functions.FunctionKind.TheVariants.{Freestanding, AsyncFreestanding, Method, AsyncMethod, Static, AsyncStatic, Constructor}
use Rattle.wc_resolve.specs.Views.{FunctionView, KeyView, plain_key, interface_key, ItemView, interface_item, function_item, type_item, WorldView, InterfaceView, TypeView, PackageView}
use Rattle.wc_resolve.specs.Kinds.{ResolveView, SignatureHasOnly, referenced_types}

-- primitive, or a defined type with an index below a count
abbrev pub IsTypeIn : ℕ → WitType → Type 0
IsTypeIn count (Id i) = i.0 < count
IsTypeIn count t = Unit {0}

abbrev pub IsKindIn : ℕ → FunctionKind → Type 0
IsKindIn count Freestanding = Unit {0}
IsKindIn count AsyncFreestanding = Unit {0}
IsKindIn count (Method i) = i.0 < count
IsKindIn count (AsyncMethod i) = i.0 < count
IsKindIn count (Static i) = i.0 < count
IsKindIn count (AsyncStatic i) = i.0 < count
IsKindIn count (Constructor i) = i.0 < count

unfoldable pub IsFunctionIn : ℕ → FunctionView → Type 0
IsFunctionIn count f = IsKindIn count f.kind × SignatureHasOnly (IsTypeIn count) f

abbrev pub IsKeyIn : ResolveView → KeyView → Type 0
IsKeyIn r (plain_key n) = Unit {0}
IsKeyIn r (interface_key i) = i < length r.interfaces

abbrev pub IsItemIn : ResolveView → ItemView → Type 0
IsItemIn r (interface_item i external) = i < length r.interfaces
IsItemIn r (function_item f) = IsFunctionIn (length r.types) f
IsItemIn r (type_item t) = t < length r.types

unfoldable pub IsEntryIn : ResolveView → KeyView × ItemView → Type 0
IsEntryIn r e = IsKeyIn r e.0 × IsItemIn r e.1

unfoldable pub IsWorldIn : ResolveView → WorldView → Type 0
IsWorldIn r w = All (IsEntryIn r) w.imports × All (IsEntryIn r) w.exports

-- the types and functions of an interface
unfoldable pub AreNamesIn : ResolveView → InterfaceView → Type 0
AreNamesIn r i = All (λ e. e.1 < length r.types) i.types × All (λ e. IsFunctionIn (length r.types) e.1) i.functions

-- the package of an interface, and the interface that it is a clone of
unfoldable pub AreLinksIn : ResolveView → InterfaceView → Type 0
AreLinksIn r i = IfSome i.in_package (λ p. p < length r.packages) × IfSome i.clone_of (λ c. c < length r.interfaces)

unfoldable pub IsInterfaceIn : ResolveView → InterfaceView → Type 0
IsInterfaceIn r i = AreNamesIn r i × AreLinksIn r i

abbrev pub IsOwnerIn : ResolveView → TypeOwner → Type 0
IsOwnerIn r (OfWorld w) = w.0 < length r.worlds
IsOwnerIn r (OfInterface i) = i.0 < length r.interfaces
IsOwnerIn r OfNone = Unit {0}

unfoldable pub IsTypeDefIn : ResolveView → TypeView → Type 0
IsTypeDefIn r t = All (IsTypeIn (length r.types)) (referenced_types t.kind) × IsOwnerIn r t.owner

unfoldable pub IsPackageIn : ResolveView → PackageView → Type 0
IsPackageIn r p = All (λ e. e.1 < length r.interfaces) p.interfaces

-- every id is an index of its list
unfoldable pub AreIdsInRange : ResolveView → Type 0
AreIdsInRange r = All (IsWorldIn r) r.worlds × All (IsInterfaceIn r) r.interfaces × All (IsTypeDefIn r) r.types × All (IsPackageIn r) r.packages
