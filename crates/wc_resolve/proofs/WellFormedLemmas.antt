-- What follows for worlds, interfaces and packages of a well-formed `Resolve`: ids are in range, keys have texts, and
-- functions are usable.
use Rattle.std.proofs.Common.{◌≡◌, ℕ, zero, suc, ◌<◌, List, [], ◌∷◌, length, Option, Some, None, All, arith, refl, subst}
use Rattle.std.specs.Prelude.{slice_get}
use Rattle.std.specs.Option.{IfSome, IsSome, option_and_then, option_map}
use Rattle.std.proofs.lemmas.Option.{get_or_from_slice_get, slice_get_within}
use Rattle.wc_resolve.specs.Resolve.{VersionView, interface_id, key_text, member_text, package_of, qualified_name}
use Rattle.wc_resolve.specs.Ranges.{AreIdsInRange, AreLinksIn, AreNamesIn, IsEntryIn, IsFunctionIn, IsInterfaceIn, IsItemIn, IsKeyIn, IsPackageIn, IsWorldIn}
use Rattle.wc_resolve.specs.Views.{FunctionView, KeyView, plain_key, interface_key, ItemView, interface_item, function_item, type_item, InterfaceView, PackageNameView, PackageView, WorldView}
use Rattle.wc_resolve.specs.WellFormed.{AreKeysIdentified, AreNamed, HasNoResourceByValue, IsFree, IsIdentified, IsKeyIdentified, IsUsable, IsWellFormed}
use Rattle.wc_resolve.specs.Kinds.{ResolveView, DoAllTypesPass, DoesInterfacePass, DoesItemPass, DoesWorldPass, SignatureHasOnly}

-- what holds of all holds of the one at an index
pub all_get : {X : Type 0} (P : X → Type 0) (xs : List X) (i : ℕ) (x : X) → All P xs → slice_get xs i ≡ Some x → P x
all_get P xs i x all at = subst P (get_or_from_slice_get xs i x x at) (all i x (slice_get_within xs i x at))

some_at : {X : Type 0} (xs : List X) (i : ℕ) → i < length xs → IsSome (slice_get xs i)
some_at [] i small = absurd (omega (arith, small))
some_at (x ∷ xs) zero small = refl
some_at (x ∷ xs) (suc i) small = some_at xs i (omega (arith, small))

-- a function that is an item is usable
abbrev pub IsUsableItem : ResolveView → ItemView → Type 0
IsUsableItem r (interface_item i external) = Unit {0}
IsUsableItem r (function_item f) = IsUsable r f
IsUsableItem r (type_item t) = Unit {0}

usable_item : (r : ResolveView) (item : ItemView) → IsItemIn r item → DoesItemPass (IsFree r.types) item → IsUsableItem r item
usable_item r (interface_item i external) h k = tt
usable_item r (function_item f) h k = (h, k)
usable_item r (type_item t) h k = tt

-- the parts of definitions

pub worlds_in : (r : ResolveView) → AreIdsInRange r → All (IsWorldIn r) r.worlds
unfolding AreIdsInRange
worlds_in r h = h.0

pub interfaces_in : (r : ResolveView) → AreIdsInRange r → All (IsInterfaceIn r) r.interfaces
unfolding AreIdsInRange
interfaces_in r h = h.1

packages_in : (r : ResolveView) → AreIdsInRange r → All (IsPackageIn r) r.packages
unfolding AreIdsInRange
packages_in r h = h.3

pub imports_in : (r : ResolveView) (w : WorldView) → IsWorldIn r w → All (IsEntryIn r) w.imports
unfolding IsWorldIn
imports_in r w h = h.0

pub exports_in : (r : ResolveView) (w : WorldView) → IsWorldIn r w → All (IsEntryIn r) w.exports
unfolding IsWorldIn
exports_in r w h = h.1

pub key_in : (r : ResolveView) (x : KeyView × ItemView) → IsEntryIn r x → IsKeyIn r x.0
unfolding IsEntryIn
key_in r x h = h.0

pub item_in : (r : ResolveView) (x : KeyView × ItemView) → IsEntryIn r x → IsItemIn r x.1
unfolding IsEntryIn
item_in r x h = h.1

names_in : (r : ResolveView) (v : InterfaceView) → IsInterfaceIn r v → AreNamesIn r v
unfolding IsInterfaceIn
names_in r v h = h.0

links_in : (r : ResolveView) (v : InterfaceView) → IsInterfaceIn r v → AreLinksIn r v
unfolding IsInterfaceIn
links_in r v h = h.1

package_link : (r : ResolveView) (v : InterfaceView) → AreLinksIn r v → IfSome v.in_package (λ p. p < length r.packages)
unfolding AreLinksIn
package_link r v h = h.0

clone_link : (r : ResolveView) (v : InterfaceView) → AreLinksIn r v → IfSome v.clone_of (λ c. c < length r.interfaces)
unfolding AreLinksIn
clone_link r v h = h.1

types_in : (r : ResolveView) (v : InterfaceView) → AreNamesIn r v → All (λ (e : List ℕ × ℕ). e.1 < length r.types) v.types
unfolding AreNamesIn
types_in r v h = h.0

pub functions_in : (r : ResolveView) (v : InterfaceView) → AreNamesIn r v → All (λ (e : List ℕ × FunctionView). IsFunctionIn (length r.types) e.1) v.functions
unfolding AreNamesIn
functions_in r v h = h.1

members_in : (r : ResolveView) (p : PackageView) → IsPackageIn r p → All (λ (e : List ℕ × ℕ). e.1 < length r.interfaces) p.interfaces
unfolding IsPackageIn
members_in r p h = h

worlds_free : (r : ResolveView) → HasNoResourceByValue r → All (DoesWorldPass (IsFree r.types)) r.worlds
unfolding DoAllTypesPass
worlds_free r h = h.0

interfaces_free : (r : ResolveView) → HasNoResourceByValue r → All (DoesInterfacePass (IsFree r.types)) r.interfaces
unfolding DoAllTypesPass
interfaces_free r h = h.1

imports_free : (r : ResolveView) (w : WorldView) → DoesWorldPass (IsFree r.types) w → All (λ (x : KeyView × ItemView). DoesItemPass (IsFree r.types) x.1) w.imports
unfolding DoesWorldPass
imports_free r w h = h.0

exports_free : (r : ResolveView) (w : WorldView) → DoesWorldPass (IsFree r.types) w → All (λ (x : KeyView × ItemView). DoesItemPass (IsFree r.types) x.1) w.exports
unfolding DoesWorldPass
exports_free r w h = h.1

functions_free : (r : ResolveView) (v : InterfaceView) → DoesInterfacePass (IsFree r.types) v → All (λ (e : List ℕ × FunctionView). SignatureHasOnly (IsFree r.types) e.1) v.functions
unfolding DoesInterfacePass
functions_free r v h = h

worlds_identified : (r : ResolveView) → AreNamed r → All (AreKeysIdentified r) r.worlds
unfolding AreNamed
worlds_identified r h = h.1

imports_identified : (r : ResolveView) (w : WorldView) → AreKeysIdentified r w → All (λ (x : KeyView × ItemView). IsKeyIdentified r x.0) w.imports
unfolding AreKeysIdentified
imports_identified r w h = h.0

exports_identified : (r : ResolveView) (w : WorldView) → AreKeysIdentified r w → All (λ (x : KeyView × ItemView). IsKeyIdentified r x.0) w.exports
unfolding AreKeysIdentified
exports_identified r w h = h.1

-- an interface

interface_in : (r : ResolveView) (i : ℕ) (v : InterfaceView) → AreIdsInRange r → slice_get r.interfaces i ≡ Some v → IsInterfaceIn r v
interface_in r i v h at = all_get (IsInterfaceIn r) r.interfaces i v (interfaces_in r h) at

pub interface_names_in : (r : ResolveView) (i : ℕ) (v : InterfaceView) → AreIdsInRange r → slice_get r.interfaces i ≡ Some v → AreNamesIn r v
interface_names_in r i v h at = names_in r v (interface_in r i v h at)

module _ (r : ResolveView) (w : IsWellFormed r) (i : ℕ) (v : InterfaceView) (at : slice_get r.interfaces i ≡ Some v) where
  -- its types and functions
  pub interface_types_in : All (λ (e : List ℕ × ℕ). e.1 < length r.types) v.types
  interface_types_in = types_in r v (interface_names_in r i v w.in_range at)

  pub interface_functions_usable : All (λ (e : List ℕ × FunctionView). IsUsable r e.1) v.functions
  interface_functions_usable = λ k d small. (
    functions_in r v (interface_names_in r i v w.in_range at) k d small,
    functions_free r v (all_get (DoesInterfacePass (IsFree r.types)) r.interfaces i v (interfaces_free r w.no_resource_by_value) at) k d small,
  )

  -- its package, and the interface that it is a clone of
  pub package_in_range : (p : ℕ) → v.in_package ≡ Some p → p < length r.packages
  package_in_range p is = subst (λ (o : Option ℕ). IfSome o (λ q. q < length r.packages)) is (package_link r v (links_in r v (interface_in r i v w.in_range at)))

-- the interfaces of a package
pub package_interfaces_in : (r : ResolveView) → IsWellFormed r → (i : ℕ) (p : PackageView) → slice_get r.packages i ≡ Some p → All (λ (e : List ℕ × ℕ). e.1 < length r.interfaces) p.interfaces
package_interfaces_in r w i p at = members_in r p (all_get (IsPackageIn r) r.packages i p (packages_in r w.in_range) at)

-- ids of interfaces with a name and a package

is_there : (r : ResolveView) (o : Option ℕ) → ((p : ℕ) → o ≡ Some p → p < length r.packages) → IsSome o → IsSome (option_and_then (λ (p : ℕ). slice_get r.packages p) o)
is_there r None small h = absurd (let bad : ⊥ = cc h in bad)
is_there r (Some p) small h = some_at r.packages p (small p refl)

has_names : (o : Option (List ℕ)) (p : Option PackageView) → IsSome o → IsSome p → IsSome {T = PackageNameView × List ℕ} (option_and_then (λ (name : List ℕ). option_map (λ (q : PackageView). (q.name, name)) p) o)
has_names None p h k = absurd (let bad : ⊥ = cc h in bad)
has_names (Some name) None h k = absurd (let bad : ⊥ = cc k in bad)
has_names (Some name) (Some p) h k = refl

has_qualified_name : (r : ResolveView) → IsWellFormed r → (i : ℕ) (o : Option InterfaceView) → slice_get r.interfaces i ≡ o
    → IsSome (option_and_then (λ (v : InterfaceView). v.name) o) → IsSome (option_and_then (λ (v : InterfaceView). v.in_package) o)
    → IsSome {T = PackageNameView × List ℕ} (option_and_then (λ (v : InterfaceView). option_and_then (λ (name : List ℕ). option_map (λ (p : PackageView). (p.name, name)) (package_of r v)) v.name) o)
has_qualified_name r w i None at h k = absurd (let bad : ⊥ = cc h in bad)
has_qualified_name r w i (Some v) at h k = has_names v.name (package_of r v) h (is_there r v.in_package (λ p e. package_in_range r w i v at p e) k)

pub identified_has_name : (r : ResolveView) → IsWellFormed r → (i : ℕ) → IsIdentified r i → IsSome (qualified_name r i)
unfolding IsIdentified
identified_has_name r w i h = has_qualified_name r w i (slice_get r.interfaces i) refl h.0 h.1

mapped : {X Y : Type 0} (f : X → Y) (o : Option X) → IsSome o → IsSome (option_map f o)
mapped f None h = absurd (let bad : ⊥ = cc h in bad)
mapped f (Some x) h = refl

pub identified_has_id : (show : VersionView → List ℕ) (r : ResolveView) → IsWellFormed r → (i : ℕ) → IsIdentified r i → IsSome (interface_id show r i)
identified_has_id show r w i h = mapped (λ (m : PackageNameView × List ℕ). member_text show m.0 m.1) (qualified_name r i) (identified_has_name r w i h)

identified_has_text : (show : VersionView → List ℕ) (r : ResolveView) → IsWellFormed r → (k : KeyView) → IsKeyIdentified r k → IsSome (key_text show r k)
identified_has_text show r w (plain_key n) h = refl
identified_has_text show r w (interface_key i) h = identified_has_id show r w i h

-- a world

module _ (r : ResolveView) (formed : IsWellFormed r) (i : ℕ) (w : WorldView) (at : slice_get r.worlds i ≡ Some w) where
  world_in : IsWorldIn r w
  world_in = all_get (IsWorldIn r) r.worlds i w (worlds_in r formed.in_range) at

  world_free : DoesWorldPass (IsFree r.types) w
  world_free = all_get (DoesWorldPass (IsFree r.types)) r.worlds i w (worlds_free r formed.no_resource_by_value) at

  world_identified : AreKeysIdentified r w
  world_identified = all_get (AreKeysIdentified r) r.worlds i w (worlds_identified r formed.named) at

  -- keys are in range
  pub import_keys_in : All (λ (x : KeyView × ItemView). IsKeyIn r x.0) w.imports
  import_keys_in = λ k d small. key_in r _ (imports_in r w world_in k d small)

  pub export_keys_in : All (λ (x : KeyView × ItemView). IsKeyIn r x.0) w.exports
  export_keys_in = λ k d small. key_in r _ (exports_in r w world_in k d small)

  -- and have texts
  pub import_keys_have_texts : (show : VersionView → List ℕ) → All (λ (x : KeyView × ItemView). IsSome (key_text show r x.0)) w.imports
  import_keys_have_texts show = λ k d small. identified_has_text show r formed _ (imports_identified r w world_identified k d small)

  pub export_keys_have_texts : (show : VersionView → List ℕ) → All (λ (x : KeyView × ItemView). IsSome (key_text show r x.0)) w.exports
  export_keys_have_texts show = λ k d small. identified_has_text show r formed _ (exports_identified r w world_identified k d small)

  -- items are in range
  pub import_items_in : All (λ (x : KeyView × ItemView). IsItemIn r x.1) w.imports
  import_items_in = λ k d small. item_in r _ (imports_in r w world_in k d small)

  pub export_items_in : All (λ (x : KeyView × ItemView). IsItemIn r x.1) w.exports
  export_items_in = λ k d small. item_in r _ (exports_in r w world_in k d small)

  -- and functions usable
  pub import_functions_usable : All (λ (x : KeyView × ItemView). IsUsableItem r x.1) w.imports
  import_functions_usable = λ k d small. usable_item r _ (import_items_in k d small) (imports_free r w world_free k d small)

  pub export_functions_usable : All (λ (x : KeyView × ItemView). IsUsableItem r x.1) w.exports
  export_functions_usable = λ k d small. usable_item r _ (export_items_in k d small) (exports_free r w world_free k d small)
