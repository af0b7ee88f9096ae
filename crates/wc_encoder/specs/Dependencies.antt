-- What exports depend on, and that it is exported before them.
use Rattle.std.specs.Prelude.{ℕ, All, AllPairs, Contains}
use Rattle.wc_resolve.specs.Dependencies.{direct_dependencies}
use Rattle.wc_resolve.specs.Ranges.{IsItemIn}
use Rattle.wc_resolve.specs.Views.{KeyView, interface_key, ItemView, interface_item}
use Rattle.wc_resolve.specs.Kinds.{ResolveView}
use Rattle.wc_adapters.specs.Entries.{Entries}
use Rattle.wc_encoder.specs.Exported.{IsExported}

-- the item is an interface that depends directly on the one whose id the key is
abbrev pub DependsOn : ResolveView → ItemView → KeyView → Type 0
DependsOn r (interface_item i external) (interface_key k) = Contains (direct_dependencies r i) k
DependsOn r item key = ⊥

-- the item depends directly on none of these exports
abbrev pub IsIndependent : ResolveView → ItemView → Entries → Type 0
IsIndependent r item exports = All (λ x. ¬ DependsOn r item x.0) exports

-- none of the interfaces on which the interface at an index depends directly is among some exports under its own id
abbrev pub AreNotExported : ResolveView → ℕ → Entries → Type 0
AreNotExported r i exports = All (λ d. ¬ IsExported exports (interface_key d)) (direct_dependencies r i)

-- no interface of some exports depends directly on one that is exported after it under its own id
abbrev pub AreDependenciesBefore : ResolveView → Entries → Type 0
AreDependenciesBefore r exports = AllPairs (λ x later. ¬ DependsOn r x.1 later.0) exports

-- the interfaces and types of all items are there
abbrev pub AreItemsIn : ResolveView → Entries → Type 0
AreItemsIn r exports = All (λ x. IsItemIn r x.1) exports
