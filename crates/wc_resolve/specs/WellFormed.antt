-- Worlds, interfaces, types and packages that are well-formed.
use Rattle.std.specs.Prelude.{◌≡◌, ℕ, List, [], map, length, Option, Some, slice_get, All, ◌≢◌}
use Rattle.std.specs.List.{AllPairs}
use Rattle.std.specs.Option.{IfSome, IsSome, option_and_then}
use Rattle.wc_resolve.specs.declared.types.WitType.{WitType}
use Rattle.wc_resolve.specs.declared.types.WitType.TheVariants.{Id}
use Rattle.wc_resolve.specs.Views.{KindView, resource_kind, flags_kind, variant_kind, enum_kind, FunctionView, KeyView, plain_key, interface_key, ItemView, interface_item, function_item, type_item, WorldView, InterfaceView, TypeView, PackageView}
use Rattle.wc_resolve.specs.Names.{IsName, IsFunctionName}
use Rattle.wc_resolve.specs.Ranges.{AreIdsInRange, IsFunctionIn}
use Rattle.wc_resolve.specs.Kinds.{ResolveView, HasCycle, IsResource, DoAllTypesPass, SignatureHasOnly}

-- the name of the interface at an index
abbrev pub interface_name : ResolveView → ℕ → Option (List ℕ)
interface_name r i = option_and_then (λ (v : InterfaceView). v.name) (slice_get r.interfaces i)

-- the package of the interface at an index
abbrev pub interface_package : ResolveView → ℕ → Option ℕ
interface_package r i = option_and_then (λ (v : InterfaceView). v.in_package) (slice_get r.interfaces i)

-- the name of the type at an index
abbrev pub type_name : ResolveView → ℕ → Option (List ℕ)
type_name r t = option_and_then (λ (v : TypeView). v.name) (slice_get r.types t)

-- the interface at an index has a name and a package
unfoldable pub IsIdentified : ResolveView → ℕ → Type 0
IsIdentified r i = IsSome (interface_name r i) × IsSome (interface_package r i)

abbrev pub IsKeyIdentified : ResolveView → KeyView → Type 0
IsKeyIdentified r (plain_key n) = Unit {0}
IsKeyIdentified r (interface_key i) = IsIdentified r i

unfoldable pub AreKeysIdentified : ResolveView → WorldView → Type 0
AreKeysIdentified r w = All (λ e. IsKeyIdentified r e.0) w.imports × All (λ e. IsKeyIdentified r e.0) w.exports

unfoldable pub AreMembersIdentified : ResolveView → PackageView → Type 0
AreMembersIdentified r p = All (λ e. IsIdentified r e.1) p.interfaces

-- a resource has a name
abbrev pub HasNeededName : KindView → Option (List ℕ) → Type 0
HasNeededName resource_kind name = IsSome name
HasNeededName k name = Unit {0}

-- resources have names; interfaces in keys and in packages have a name and a package
unfoldable pub AreNamed : ResolveView → Type 0
AreNamed r = All (λ t. HasNeededName t.kind t.name) r.types × All (AreKeysIdentified r) r.worlds × All (AreMembersIdentified r) r.packages

-- the item of a key: under an interface's key that interface, and under a name an interface, or a function
-- or type of that name
abbrev pub IsMatchingKey : ResolveView → KeyView → ItemView → Type 0
IsMatchingKey r (plain_key n) (interface_item i external) = Unit {0}
IsMatchingKey r (plain_key n) (function_item f) = f.name ≡ n
IsMatchingKey r (plain_key n) (type_item t) = type_name r t ≡ Some n
IsMatchingKey r (interface_key k) (interface_item i external) = i ≡ k
IsMatchingKey r (interface_key k) (function_item f) = ⊥
IsMatchingKey r (interface_key k) (type_item t) = ⊥

unfoldable pub HasMatchingKeys : ResolveView → WorldView → Type 0
HasMatchingKeys r w = All (λ e. IsMatchingKey r e.0 e.1) w.imports × All (λ e. IsMatchingKey r e.0 e.1) w.exports

unfoldable pub HasMatchingNames : ResolveView → InterfaceView → Type 0
HasMatchingNames r i = All (λ e. type_name r e.1 ≡ Some e.0) i.types × All (λ e. e.1.name ≡ e.0) i.functions

unfoldable pub HasMatchingMembers : ResolveView → PackageView → Type 0
HasMatchingMembers r p = All (λ e. interface_name r e.1 ≡ Some e.0) p.interfaces

-- items, functions, types and interfaces of packages are listed under their own names or keys
unfoldable pub KeysMatch : ResolveView → Type 0
KeysMatch r = All (HasMatchingKeys r) r.worlds × All (HasMatchingNames r) r.interfaces × All (HasMatchingMembers r) r.packages

-- no two packages have the same name and version
abbrev pub HaveDistinctNames : List PackageView → Type 0
HaveDistinctNames packages = AllPairs (λ m n. m ≢ n) (map (λ (p : PackageView). p.name) packages)

abbrev pub ArePackagesDistinct : ResolveView → Type 0
ArePackagesDistinct r = HaveDistinctNames r.packages

abbrev pub IsKeySpelled : KeyView → ItemView → Type 0
IsKeySpelled (plain_key n) (interface_item i external) = IsName n
IsKeySpelled (plain_key n) (function_item f) = IsFunctionName n
IsKeySpelled (plain_key n) (type_item t) = IsName n
IsKeySpelled (interface_key k) item = Unit {0}

unfoldable pub IsWorldSpelled : WorldView → Type 0
IsWorldSpelled w = All (λ e. IsKeySpelled e.0 e.1) w.imports × All (λ e. IsKeySpelled e.0 e.1) w.exports

unfoldable pub IsInterfaceSpelled : InterfaceView → Type 0
IsInterfaceSpelled i = IfSome i.name IsName × All (λ e. IsFunctionName e.0) i.functions

unfoldable pub IsTypeSpelled : TypeView → Type 0
IsTypeSpelled t = IfSome t.name IsName

unfoldable pub IsPackageSpelled : PackageView → Type 0
IsPackageSpelled p = IsName p.name.namespace × IsName p.name.name

-- the names that are checked have only the characters that they can have
unfoldable pub AreNamesSpelled : ResolveView → Type 0
AreNamesSpelled r = All IsWorldSpelled r.worlds × All IsInterfaceSpelled r.interfaces × All IsTypeSpelled r.types × All IsPackageSpelled r.packages

-- a type is not a resource, nor an alias of one
abbrev pub IsFree : List TypeView → WitType → Type 0
IsFree types (Id i) = ¬ IsResource types i.0
IsFree types t = Unit {0}

-- no parameter, result, field, item, element or payload is a resource
abbrev pub HasNoResourceByValue : ResolveView → Type 0
HasNoResourceByValue r = DoAllTypesPass (IsFree r.types) r

-- variants and enums have cases, and flags have labels
abbrev pub HasCases : KindView → Type 0
HasCases (variant_kind []) = ⊥
HasCases (enum_kind []) = ⊥
HasCases (flags_kind []) = ⊥
HasCases k = Unit {0}

abbrev pub HasNoEmptyType : ResolveView → Type 0
HasNoEmptyType r = All (λ t. HasCases t.kind) r.types

pub record IsWellFormed (r : ResolveView) : Type 0 where
  pub in_range : AreIdsInRange r
  pub acyclic : ¬ HasCycle r.types
  pub named : AreNamed r
  pub keyed : KeysMatch r
  pub distinct : ArePackagesDistinct r
  pub spelled : AreNamesSpelled r
  pub no_resource_by_value : HasNoResourceByValue r
  pub filled : HasNoEmptyType r

-- a function with no resource by value as a parameter or result
abbrev pub IsFunctionFree : List TypeView → FunctionView → Type 0
IsFunctionFree types f = SignatureHasOnly (IsFree types) f

-- a function whose ids are in range, and that has no resource by value as a parameter or result
abbrev pub IsUsable : ResolveView → FunctionView → Type 0
IsUsable r f = IsFunctionIn (length r.types) f × IsFunctionFree r.types f
