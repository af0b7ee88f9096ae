-- The paths to what modules import as one tree.
use Rattle.std.specs.Prelude.{ℕ, ◌+◌, ◌||◌, Bool, false, not, List, [], ◌∷◌, ◌++◌, cond, length}
use Rattle.wc_paths.specs.Items.{CountsValue, counts_of}
use Rattle.wc_why.specs.Part.{PartView}
use Rattle.wc_why.specs.Tree.{TreeCallerView, TreeView}
use Rattle.wc_import_paths.specs.MainModules.{AreMainReached, code_of, main_graph}
use Rattle.wc_import_paths.specs.Rows.{bare_graph}
use Rattle.wc_import_paths.specs.Patterns.{PatternView, are_asked}
use Rattle.wc_import_paths.specs.Shown.{EndView, IsTreeTo, are_functions, function_ends, import_ends}
use Rattle.wc_module_ways.specs.Adapters.{AdapterView, Given}
use Rattle.wc_module_ways.specs.CoreModules.{CoreView, core_code, core_graph, is_library}
use Rattle.wc_module_ways.specs.Modules.{AreView, ModulesView, is_adapter_shown, is_core_shown, is_main_shown}
use Rattle.wc_module_ways.specs.Parts.{AreParts}
use Rattle.wc_module_ways.specs.declared.modules.Modules.{Modules}

-- ends of things that are parts one after another, from a part on
abbrev pub ends_from : {A : Type 0} → (ℕ → A → List EndView) → ℕ → List A → List EndView
ends_from ends part [] = []
ends_from ends part (x ∷ xs) = ends part x ++ ends_from ends (part + 1) xs

-- the imports that are asked for: of the main module those that are from no adapter; then those of each adapter; and then those of each
-- other core module
abbrev pub adapter_ends : List PatternView → ℕ → AdapterView → List EndView
adapter_ends patterns part a = import_ends part (counts_of (bare_graph a.code)) (is_adapter_shown patterns) a.code.imports

abbrev pub all_adapter_ends : List PatternView → ℕ → List AdapterView → List EndView
all_adapter_ends patterns part adapters = ends_from (adapter_ends patterns) part adapters

abbrev pub core_ends : List Given → List PatternView → ℕ → CoreView → List EndView
core_ends given patterns part c = import_ends part (counts_of (core_graph c)) (is_core_shown given (is_library c) patterns) (core_code c).imports

abbrev pub all_core_ends : List Given → List PatternView → ℕ → List CoreView → List EndView
all_core_ends given patterns part cores = ends_from (core_ends given patterns) part cores

abbrev pub main_counts : ModulesView → CountsValue
main_counts w = counts_of (main_graph w.main)

abbrev pub import_ends_of : ModulesView → List PatternView → List EndView
import_ends_of w patterns =
    import_ends 0 (main_counts w) (is_main_shown w.given patterns) (code_of w.main).imports
    ++ (all_adapter_ends patterns 1 w.adapters ++ all_core_ends w.given patterns (1 + length w.adapters) w.core)

-- what is shown: these, and then functions of the main module; where functions alone are asked for, no imports
abbrev pub shown_ends : ModulesView → List PatternView → List Bool → List TreeCallerView → List EndView
shown_ends w patterns reached fs =
    cond (are_asked patterns || not (are_functions fs)) (import_ends_of w patterns) [] ++ function_ends (main_counts w) reached fs

-- the tree of the paths to these through a component of the modules
pub record IsTree (w : ModulesView) (patterns : List PatternView) (fs : List TreeCallerView) (t : TreeView) : Type 0 where
  pub parts : List PartView
  pub are_parts : AreParts w.main w.bytes w.adapters w.core parts
  pub reached : List Bool
  pub are_reached : AreMainReached w.main reached
  pub tree : IsTreeTo parts (shown_ends w patterns reached fs) (are_asked patterns || are_functions fs) false t

-- of modules that were read
abbrev pub IsTreeIn : Modules → List PatternView → List TreeCallerView → TreeView → Type 0
IsTreeIn p patterns fs t = (w : ModulesView) → AreView p w → IsTree w patterns fs t
