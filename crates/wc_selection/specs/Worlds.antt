-- Which world is encoded.
use Rattle.std.specs.Prelude.{◌≡◌, ℕ, ◌<◌, ◌≤◌, ◌^◌, ◌||◌, Bool, false, List, [], ◌∷◌, length, filter, Option, Some, None, slice_get, All}
use Rattle.std.specs.Option.{IfSome, option_and_then, option_map, option_map_or}
use Rattle.std.specs.List.{range_with_len}
use Rattle.std.specs.Str.{bytes_eq}
use Rattle.semver.specs.Identifiers.{parts_text}
use Rattle.wc_json.specs.Document.{DocumentView}
use Rattle.wc_resolve.specs.Resolve.{joined_id, member_text}
use Rattle.wc_resolve.specs.Views.{PackageNameView, PackageView, WorldView}
use Rattle.wc_selection.specs.declared.fault.RequestFault.{RequestFault}
use Rattle.wc_selection.specs.declared.fault.RequestFault.TheVariants.{Memory, PackageRange, UnknownWorld, SeveralWorlds}
use Rattle.wc_selection.specs.declared.worlds.NameForm.{NameForm}
use Rattle.wc_selection.specs.declared.worlds.NameForm.TheVariants.{Full, Short}

-- the packages that worlds say to be of are there
unfoldable pub IsPackageIn : ℕ → Option ℕ → Type 0
IsPackageIn count p = IfSome p (λ id. id < count)

abbrev pub ArePackagesIn : DocumentView → Type 0
ArePackagesIn d = All (IsPackageIn (length d.parts.packages)) d.world_packages

-- the name of the package that the world at an index says to be of
abbrev pub package_name_of : DocumentView → ℕ → Option PackageNameView
package_name_of d index =
    option_and_then (λ (p : Option ℕ). option_and_then (λ (id : ℕ). option_map (λ (q : PackageView). q.name) (slice_get d.parts.packages id)) p)
    (slice_get d.world_packages index)

-- the full name of a world of this package: `namespace:package/world`, with the version of the package if it has one; of no
-- package its own
abbrev pub name_in : Option PackageNameView → List ℕ → List ℕ
name_in None world = world
name_in (Some p) world = member_text parts_text p world

-- that of the world at an index
abbrev pub world_name : DocumentView → ℕ → List ℕ
world_name d index = option_map_or (λ (w : WorldView). name_in (package_name_of d index) w.name) (slice_get d.parts.worlds index) []

-- `namespace:package/world`, with the version of the package if it has one
abbrev pub is_full_name : PackageNameView → List ℕ → List ℕ → Bool
is_full_name p world text = bytes_eq (member_text parts_text p world) text

-- `world`, or `namespace:package/world` without a version
abbrev pub is_short_name : PackageNameView → List ℕ → List ℕ → Bool
is_short_name p world text = bytes_eq world text || bytes_eq (joined_id p.namespace p.name world) text

-- a world of this package, or of none, has the text for a name in this form
abbrev pub is_name_in : NameForm → Option PackageNameView → List ℕ → List ℕ → Bool
is_name_in Full None text world = false
is_name_in Full (Some p) text world = is_full_name p world text
is_name_in Short None text world = bytes_eq world text
is_name_in Short (Some p) text world = is_short_name p world text

abbrev pub is_named : DocumentView → NameForm → List ℕ → ℕ → Bool
is_named d form text index = option_map_or (λ (w : WorldView). is_name_in form (package_name_of d index) text w.name) (slice_get d.parts.worlds index) false

-- the indices of the worlds that have it, in order
abbrev pub worlds_named : DocumentView → NameForm → List ℕ → List ℕ
worlds_named d form text = filter (is_named d form text) (range_with_len 0 (length d.parts.worlds))

-- the worlds that a text names: those whose full name it is, or, if there is none, those whose short name it is
abbrev pub or_else : List ℕ → List ℕ → List ℕ
or_else [] others = others
or_else (x ∷ xs) others = x ∷ xs

abbrev pub worlds_meant : DocumentView → List ℕ → List ℕ
worlds_meant d text = or_else (worlds_named d Full text) (worlds_named d Short text)

-- there is one index, of 32 bits
abbrev pub IsOnly : List ℕ → ℕ → Type 0
IsOnly indices index = (indices ≡ index ∷ []) × (index < 2 ^ 32)

-- no index; or one that has more than 32 bits
abbrev pub IsNoIndex : List ℕ → Type 0
IsNoIndex indices = (index : ℕ) → ¬ IsOnly indices index

-- why none of some worlds is the only one that a text names
abbrev pub IsOnlyCause : List ℕ → List ℕ → RequestFault → Type 0
IsOnlyCause indices text Memory = Unit {0}
IsOnlyCause indices text (UnknownWorld name) = (name.now ≡ text) × (length indices ≤ 1) × IsNoIndex indices
IsOnlyCause indices text (SeveralWorlds name) = (name.now ≡ text) × (1 < length indices)
IsOnlyCause indices text f = ⊥

-- all packages are there, and this is the only world that a text names
abbrev pub IsSelected : DocumentView → List ℕ → ℕ → Type 0
IsSelected d text index = ArePackagesIn d × IsOnly (worlds_meant d text) index

abbrev pub IsWorldCause : DocumentView → List ℕ → RequestFault → Type 0
IsWorldCause d text Memory = Unit {0}
IsWorldCause d text PackageRange = ¬ ArePackagesIn d
IsWorldCause d text f = ArePackagesIn d × IsOnlyCause (worlds_meant d text) text f

-- why a text names no world, in words of the document alone: no world has the name, or several have it
abbrev pub IsNoWorld : DocumentView → List ℕ → Type 0
IsNoWorld d text = ArePackagesIn d × (length (worlds_meant d text) ≤ 1) × IsNoIndex (worlds_meant d text)

abbrev pub AreSeveralWorlds : DocumentView → List ℕ → Type 0
AreSeveralWorlds d text = ArePackagesIn d × (1 < length (worlds_meant d text))
