-- A module of a tree, item after item.
use Rattle.std.specs.Prelude.{◌≡◌, ◌≢◌, ◌⊎◌, ℕ, ◌^◌, ◌++◌, ◌∷◌, [], Bool, List, filter, length, map, nat_lt, Option}
use Rattle.std.specs.Option.{option_map, option_to_list}
use Rattle.wc_read.specs.Names.{GlobalNameValue}
use Rattle.wc_read.specs.declared.fault.ReadFault.{ReadFault}
use Rattle.wc_read.specs.declared.fault.ReadFault.TheVariants.{Memory}
use Rattle.wc_read.specs.Reading.Names.{AreFunctionNames, AreFunctionNamesAt}
use Rattle.wc_why.specs.Component.{AreNames, IsLaid, ShownView, all_functions, caller_named, callers_at, first_three}
use Rattle.wc_why.specs.Texts.{name_of}
use Rattle.wc_why.specs.Tree.{TreeItemView, TreeModuleView, TreeRootView}

-- of some indices those of 32 bits
abbrev pub is_index : ℕ → Bool
is_index n = nat_lt n (2 ^ 32)

abbrev pub indices_of : List ℕ → List ℕ
indices_of ns = filter is_index ns

-- names of these functions that bytes give; none, where the bytes are no module
abbrev pub AreNamesBy : List ℕ → List ℕ → List GlobalNameValue → Type 0
AreNamesBy bytes wanted names = AreFunctionNamesAt bytes wanted names ⊎ (((all : List GlobalNameValue) → ¬ (AreFunctionNames bytes all)) × (names ≡ []))

abbrev pub IsNoNames : ReadFault → List GlobalNameValue → Type 0
IsNoNames fault names = (fault ≢ Memory) × (names ≡ [])

-- an item after others
abbrev pub item_after : List GlobalNameValue → TreeModuleView → ShownView → TreeItemView
item_after names m s = record {
  item = s.item;
  name = name_of names s.item;
  root = option_map (λ (r : TreeRootView). length m.roots) s.root;
  from = s.from;
  callers = callers_at (length m.callers) s.called;
  only = s.only;
}

pub record IsItemPut (names : List GlobalNameValue) (s : ShownView) (old new : TreeModuleView) : Type 0 where
  pub adapter : new.adapter ≡ old.adapter
  pub roots : new.roots ≡ old.roots ++ option_to_list s.root
  pub callers : new.callers ≡ old.callers ++ map (caller_named names) (first_three s)
  pub items : new.items ≡ old.items ++ item_after names old s ∷ []

-- a module of these items
abbrev pub IsModuleOf : List ℕ → Option (List ℕ) → List ShownView → TreeModuleView → Type 0
IsModuleOf bytes adapter shown m = (names : List GlobalNameValue) × AreNames bytes (all_functions shown) names × IsLaid names adapter shown m
