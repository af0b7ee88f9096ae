-- Names of interfaces and functions, and what follows from an interface's types.
use Rattle.std.specs.Prelude.{ℕ, List, ◌∷◌, ◌++◌, ◌≡◌, ◌≢◌, ◌<◌, ◌^◌, Option, Some, None, slice_get}
use Rattle.std.specs.Option.{option_and_then, option_map}
use Rattle.wc_resolve.specs.Views.{KeyView, plain_key, interface_key, ItemView, interface_item, InterfaceView, PackageView, PackageNameView}
use Rattle.wc_resolve.specs.Kinds.{ResolveView}
use Rattle.semver.specs.Identifiers.{parts_text}
use Rattle.wc_texts.specs.Characters.{hash_sign, slash, colon, at_sign}
use Rattle.wc_resolve.specs.Names.{track}
use Rattle.wc_resolve.specs.WellFormed.{interface_name}

-- a version's numbers, prerelease and build
abbrev pub VersionView : Type 0
VersionView = ℕ × ℕ × ℕ × List ℕ × List ℕ

-- a name, and after it `@` and the text of the version, where there is one
abbrev pub versioned : (VersionView → List ℕ) → List ℕ → Option VersionView → List ℕ
versioned show name None = name
versioned show name (Some v) = name ++ (at_sign ∷ show v)

-- `namespace:package/name`
abbrev pub joined_id : List ℕ → List ℕ → List ℕ → List ℕ
joined_id namespace member name = namespace ++ (colon ∷ (member ++ (slash ∷ name)))

-- `namespace:package/name`, and the version after it
abbrev pub member_text : (VersionView → List ℕ) → PackageNameView → List ℕ → List ℕ
member_text show p name = joined_id p.namespace p.name (versioned show name p.version)

-- the package of an interface
abbrev pub package_of : ResolveView → InterfaceView → Option PackageView
package_of r i = option_and_then (λ (p : ℕ). slice_get r.packages p) i.in_package

-- the name of the package of the interface at an index, and its own name, where it has both
abbrev pub qualified_name : ResolveView → ℕ → Option (PackageNameView × List ℕ)
qualified_name r index =
    option_and_then (λ (i : InterfaceView). option_and_then (λ (name : List ℕ). option_map (λ (p : PackageView). (p.name, name)) (package_of r i)) i.name) (slice_get r.interfaces index)

-- the id of the interface at an index, where it has a name and a package
abbrev pub interface_id : (VersionView → List ℕ) → ResolveView → ℕ → Option (List ℕ)
interface_id show r index = option_map (λ (m : PackageNameView × List ℕ). member_text show m.0 m.1) (qualified_name r index)

-- the id of the interface at an index with its package's version, and with the version's track
abbrev pub full_id : ResolveView → ℕ → Option (List ℕ)
full_id = interface_id parts_text

abbrev pub canonical_id : ResolveView → ℕ → Option (List ℕ)
canonical_id = interface_id track

-- a plain key's name, or the id of the interface
abbrev pub key_text : (VersionView → List ℕ) → ResolveView → KeyView → Option (List ℕ)
key_text show r (plain_key n) = Some n
key_text show r (interface_key i) = interface_id show r i

-- the interface at an index, where it has a name
abbrev pub if_named : ResolveView → ℕ → Option ℕ
if_named r i = option_map (λ (name : List ℕ). i) (interface_name r i)

-- the interface that an item under a plain key is, where it has a name of its own
abbrev pub implemented : ResolveView → KeyView → ItemView → Option ℕ
implemented r (plain_key n) (interface_item i external) = if_named r i
implemented r key item = None

-- the name that an item has outside of its world
abbrev pub external_id : ItemView → Option (List ℕ)
external_id (interface_item i external) = external
external_id item = None

-- a function's name, after the name of its interface and `#` where it has one
abbrev pub core_name : Option (List ℕ) → List ℕ → List ℕ
core_name None name = name
core_name (Some i) name = i ++ (hash_sign ∷ name)

-- the name of the package at an index
abbrev pub package_name_at : List PackageView → ℕ → Option PackageNameView
package_name_at packages index = option_map (λ (p : PackageView). p.name) (slice_get packages index)

abbrev pub IsPackageAt : List PackageView → PackageNameView → ℕ → Type 0
IsPackageAt packages name index = package_name_at packages index ≡ Some name

-- no package with an index of 32 bits has this name
abbrev pub HasNoPackage : List PackageView → PackageNameView → Type 0
HasNoPackage packages name = (index : ℕ) → index < 2 ^ 32 → package_name_at packages index ≢ Some name
