-- The main module among the core modules of a component.
use Rattle.std.specs.Prelude.{◌≡◌, ℕ, Bool, true, false, List, ◌∷◌, ◌++◌, length, Option, Some, None, codes}
use Rattle.std.specs.List.{list_any}
use Rattle.std.specs.Option.{option_map_or}
use Rattle.std.specs.Str.{bytes_eq}
use Rattle.wc_component_file.specs.Files.{CoreModuleView}
use Rattle.wc_component_file.specs.declared.main_module.MainModule.{MainModule}

-- its name is `main`
abbrev pub is_main_name : Option (List ℕ) → Bool
is_main_name name = option_map_or (λ n. bytes_eq n (codes "main")) name false

abbrev pub is_named_main : CoreModuleView → Bool
is_named_main m = is_main_name m.name

-- the first of this name, at its position
pub record IsFirstNamed (modules : List CoreModuleView) (position : ℕ) : Type 0 where
  pub front : List CoreModuleView
  pub core : CoreModuleView
  pub back : List CoreModuleView
  pub cut : modules ≡ front ++ core ∷ back
  pub is_at : length front ≡ position
  pub named : is_named_main core ≡ true
  pub before : list_any is_named_main front ≡ false

-- only one has this name; or none has it, and the first is the main module
abbrev pub IsFound : Bool → List CoreModuleView → ℕ → Type 0
IsFound true modules position = (first : IsFirstNamed modules position) × (list_any is_named_main first.back ≡ false)
IsFound false modules position = (list_any is_named_main modules ≡ false) × (position ≡ 0)

-- the main module is the one that is chosen, or else the one of this name, or else the first
abbrev pub IsMain : List CoreModuleView → Option ℕ → MainModule → Type 0
IsMain modules (Some chosen) main = (main.position ≡ chosen) × (main.is_named ≡ false)
IsMain modules None main = IsFound main.is_named modules main.position

-- two have this name
abbrev pub AreTwoNamed : List CoreModuleView → Type 0
AreTwoNamed modules = (position : ℕ) × (first : IsFirstNamed modules position) × (list_any is_named_main first.back ≡ true)
