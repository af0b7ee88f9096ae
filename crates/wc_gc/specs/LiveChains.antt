-- Why items are live: the chains by which required exports reach them.
use Rattle.std.specs.Prelude.{◌≡◌, ◌≢◌, ◌↔◌, ℕ, ◌<◌, List, length, AllPairs, Contains, IfSome, IsTrue, MatchOption, Option, Some}
use Rattle.std.specs.List.{find, flat_map, slice_get}
use Rattle.std.specs.Option.{option_map, option_to_list}
use Rattle.std.specs.Str.{bytes_eq}
use Rattle.wc_read.specs.Exports.{ExportValue}
use Rattle.wc_read.specs.Modules.{ModuleValue, SpellsModule}
use Rattle.wc_read.specs.Decoded.{ItemIndex, decode, exported_item}
use Rattle.wc_gc.specs.Edit.{edit}
use Rattle.wc_read.specs.Entries.{refs_in}
use Rattle.wc_gc.specs.Exports.{kept_exports}
use Rattle.wc_gc.specs.LiveItems.{IsLive, TrimInput}
use Rattle.wc_gc.specs.Parts.{SettingsView}
use Rattle.wc_read.specs.ImportItems.{IsImportItem}
use Rattle.wc_graph.specs.ShortestChains.{IsFinderChain, IsShortestChain}
use Rattle.wc_gc.specs.Trim.{IsImageText}
use Rattle.wc_gc.specs.declared.import_chains.Chain.{Chain}
use Rattle.wc_gc.specs.declared.import_chains.ImportChains.{ImportChains}

-- the item of the export of a name
abbrev pub item_named : List ExportValue → List ℕ → Option ItemIndex
item_named exports name = option_map exported_item (find (λ e. bytes_eq name e.name) exports)

-- the items of required exports, in the order of their names
abbrev pub items_named : List ExportValue → List (List ℕ) → List ItemIndex
items_named exports required = flat_map (λ name. option_to_list (item_named exports name)) required

-- the first of the required names that an item is exported by
pub record IsFirstName (required : List (List ℕ)) (exports : List ExportValue) (x : ItemIndex) (name : List ℕ) : Type 0 where
  pub index : ℕ
  pub is : slice_get required index ≡ Some name
  pub names : item_named exports name ≡ Some x
  pub first : (j : ℕ) (other : List ℕ) → j < index → slice_get required j ≡ Some other → item_named exports other ≢ Some x

-- the shortest chain of items of the module from a required export to an item, and of several the first: in the order
-- of the required names, and then of what each item names
abbrev pub IsShortestTo : List (List ℕ) → ModuleValue → ItemIndex → List ItemIndex → Type 0
IsShortestTo required m x items = IsShortestChain (refs_in (decode m)) (items_named m.exports required) x items

-- this chain, with the first of the required names that its first item is exported by
pub record IsChainTo (required : List (List ℕ)) (m : ModuleValue) (x : ItemIndex) (c : Chain) : Type 0 where
  pub shortest : IsShortestTo required m x c.items.items
  pub begins : IfSome (slice_get c.items.items 0) (λ y. IsFirstName required m.exports y c.export.now)

-- the chain where the item is live, and none where it isn't
abbrev pub IsAnswer : List (List ℕ) → ModuleValue → ItemIndex → Option Chain → Type 0
IsAnswer required m x answer = MatchOption answer (¬ (IsLive required m x)) (λ c. IsLive required m x × IsChainTo required m x c)

-- the same of the module that the bytes spell
abbrev pub IsWhy : TrimInput → ItemIndex → Option Chain → Type 0
IsWhy w x answer = (m : ModuleValue) × SpellsModule w.bytes m × IsAnswer w.required m x answer

-- for each import of the module the position of its item among the live ones; none, where it isn't live
pub record AreImportPositions (required : List (List ℕ)) (m : ModuleValue) (order : List ItemIndex) (positions : List (Option ℕ)) : Type 0 where
  pub each : length positions ≡ length m.imports
  pub at : (k : ℕ) (x : ItemIndex) (position : Option ℕ) → IsImportItem m.imports k x → slice_get positions k ≡ Some position →
      MatchOption position (¬ (IsLive required m x)) (λ p. slice_get order p ≡ Some x)

-- the live items of a module, each once, with finders that make shortest chains; the names that chains begin with; and
-- where the imports are
pub record AreImportChains (required : List (List ℕ)) (m : ModuleValue) (c : ImportChains) : Type 0 where
  pub live : (x : ItemIndex) → Contains c.order.items x ↔ IsLive required m x
  pub once : AllPairs (λ x y. x ≢ y) c.order.items
  pub chains : (k : ℕ) (x : ItemIndex) (items : List ItemIndex) → slice_get c.order.items k ≡ Some x →
      IsFinderChain c.order.items c.finder.items k items → IsShortestTo required m x items
  pub begin : (k : ℕ) (x : ItemIndex) → slice_get c.order.items k ≡ Some x → IfSome (slice_get c.exports.items k) (λ name. IsFirstName required m.exports x name.now)
  pub imports : AreImportPositions required m c.order.items c.imports.items

-- in whatever module these are the chains of, this is the one to the item at a position
abbrev pub IsChainAt : ImportChains → ℕ → Chain → Type 0
IsChainAt c position shown = (required : List (List ℕ)) (m : ModuleValue) (x : ItemIndex) → AreImportChains required m c →
    slice_get c.order.items position ≡ Some x → IsChainTo required m x shown

-- the same of the module that the bytes spell
abbrev pub AreWhyImports : TrimInput → ImportChains → Type 0
AreWhyImports w c = (m : ModuleValue) × SpellsModule w.bytes m × AreImportChains w.required m c

-- one item has one shortest chain, whatever names what, and from whatever roots
abbrev pub ChainsUnique : Type 0
ChainsUnique = (names : ItemIndex → List ItemIndex) (roots : List ItemIndex) (x : ItemIndex) (a b : List ItemIndex) →
    IsShortestChain names roots x a → IsShortestChain names roots x b → a ≡ b

-- what is kept of an adapter that is trimmed is what is live: nothing is kept for the code alone that is added
abbrev pub KeptIsLive : Type 0
KeptIsLive = (s : SettingsView) (w : TrimInput) (text : List ℕ) (t : IsImageText s w text) (x : ItemIndex) →
    IsTrue ((edit s (decode t.value) (kept_exports w.required t.value.exports) t.live).kept x) ↔ IsLive w.required t.value x
