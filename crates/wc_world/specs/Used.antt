-- On which exported interfaces an exported interface depends, directly or through others.
use Rattle.std.specs.Prelude.{◌≡◌, ◌↔◌, ◌==◌, ℕ, List, filter, Bool, true, Option, Some, IsTrue, is_some, Contains, ◌++◌, ◌∷◌, [], Result, OnOk}
use Rattle.std.specs.HashMap.{HashMap, get}
use Rattle.std.specs.HashSet.{HashSet, contains}
use Rattle.std.specs.Option.{IsSome, option_map}
use Rattle.wc_resolve.specs.declared.ids.InterfaceId.{InterfaceId}
use Rattle.wc_resolve.specs.Dependencies.{direct_dependencies}
use Rattle.wc_resolve.specs.Views.{ItemView, interface_item, interface_key, KeyView}
use Rattle.wc_resolve.specs.Kinds.{ResolveView, Leads}
use Rattle.wc_encoder.specs.Distinct.{exported_interfaces}
use Rattle.wc_adapters.specs.Entries.{Entries}
use Rattle.wc_names.specs.Keys.{item_under}

-- the interface is exported under its own id
abbrev pub is_exported_itself : Entries → ℕ → Bool
is_exported_itself exports i = is_some (item_under exports (interface_key i))

-- the direct dependencies of an interface that are
abbrev pub exported_dependencies : ResolveView → Entries → ℕ → List ℕ
exported_dependencies r exports i = filter (is_exported_itself exports) (direct_dependencies r i)

-- one interface uses another if it leads to it by one such dependency or more
abbrev pub Used : ResolveView → Entries → ℕ → ℕ → Type 0
Used r exports i j = Leads (exported_dependencies r exports) i j

abbrev pub same_interface : InterfaceId → InterfaceId → Bool
same_interface a b = a.0 == b.0

-- what a set of interfaces has
abbrev pub has_interface : {S : Type 0} → HashSet InterfaceId S → ℕ → Bool
has_interface s j = contains same_interface s (record { 0 = j })

-- sets of interfaces by interfaces
abbrev pub UsedView : Type 0
UsedView = ℕ → Option (ℕ → Bool)

abbrev pub used_view : {S T : Type 0} → HashMap InterfaceId (HashSet InterfaceId S) T → UsedView
used_view m i = option_map has_interface (get same_interface m (record { 0 = i }))

-- the set of an interface has the interfaces that it uses, and no others
abbrev pub IsUsedSet : ResolveView → Entries → ℕ → (ℕ → Bool) → Type 0
IsUsedSet r exports i test = (j : ℕ) → IsTrue (test j) ↔ Used r exports i j

-- an interface has a set, which is that of the interfaces that it uses
abbrev pub HasUsedSet : ResolveView → Entries → UsedView → ℕ → Type 0
HasUsedSet r exports sets i = (test : ℕ → Bool) × (sets i ≡ Some test) × IsUsedSet r exports i test

-- a set has some of the interfaces that an interface uses, among them these, and with each one all that it uses
pub record IsUsedPart (r : ResolveView) (exports : Entries) (i : ℕ) (these : List ℕ) (test : ℕ → Bool) : Type 0 where
  pub only_used : (j : ℕ) → test j ≡ true → Used r exports i j
  pub closed : (x j : ℕ) → test x ≡ true → Used r exports x j → test j ≡ true
  pub there : (x : ℕ) → Contains these x → test x ≡ true

-- an interface, and the exports among which are those on which it depends
pub record Dependent : Type 0 where
  pub resolve : ResolveView
  pub exports : Entries
  pub interface : ℕ

-- a fact about each interface that depends on this one, which has such a set
abbrev pub ForDependent : UsedView → ℕ → (Dependent → Type 0) → Type 0
ForDependent sets i P = (d : Dependent) → HasUsedSet d.resolve d.exports sets i → Contains (exported_dependencies d.resolve d.exports d.interface) i → P d

-- a set is of interfaces that an interface uses, among them these, and with each one all that it uses
abbrev pub HasUsedPart : {S : Type 0} → Dependent → List ℕ → HashSet InterfaceId S → Type 0
HasUsedPart d these set = IsUsedPart d.resolve d.exports d.interface these (has_interface set)

-- each interface that an interface depends on has a set of those that it uses
abbrev pub HasDependencySets : ResolveView → Entries → UsedView → ℕ → Type 0
HasDependencySets r exports sets i = (d : ℕ) → Contains (exported_dependencies r exports i) d → HasUsedSet r exports sets d

-- each interface that an item depends on that is an interface has a set of those that it uses
abbrev pub IsReady : ResolveView → Entries → UsedView → ItemView → Type 0
IsReady r exports sets (interface_item i external) = HasDependencySets r exports sets i
IsReady r exports sets item = Unit {0}

-- each interface among some exports, and no other, has a set, which is that of the exported interfaces that it uses
pub record HasUsedSets (r : ResolveView) (exports some : Entries) (sets : UsedView) : Type 0 where
  pub exported : (i : ℕ) → IsSome (sets i) ↔ Contains (exported_interfaces some) i
  pub used : (i : ℕ) (test : ℕ → Bool) → sets i ≡ Some test → IsUsedSet r exports i test

-- on success an export is among those that have sets, after those before it
abbrev pub AddsUsedSetOnOk : {T E S U : Type 0} → Result T E → ResolveView → Entries → ItemView → HashMap InterfaceId (HashSet InterfaceId S) U → HashMap InterfaceId (HashSet InterfaceId S) U → Type 0
AddsUsedSetOnOk result r exports item old new = (before : Entries) (key : KeyView) → HasUsedSets r exports before (used_view old) → OnOk result (HasUsedSets r exports (before ++ (key, item) ∷ []) (used_view new))

-- each exported interface, and no other, has a set of those that it uses
abbrev pub AreUsed : ResolveView → Entries → UsedView → Type 0
AreUsed r exports sets = HasUsedSets r exports exports sets
