-- What is printed of the modules of a component.
use Rattle.std.specs.Prelude.{◌≡◌, ◌≢◌, ◌⊎◌, ◌==◌, ⊤, ℕ, Bool, true, false, not, All, Contains, length, List, [], Option, Some, None, String, string_bytes}
use Rattle.std.specs.Option.{option_map}
use Rattle.std.specs.declared.alloc.Global.{Global}
use Rattle.wc_gc.specs.LiveItems.{IsFault}
use Rattle.wc_gc.specs.TrimPlace.{IsExplained}
use Rattle.wc_gc.specs.declared.fault.GcFault.{GcFault}
use Rattle.wc_gc.specs.declared.fault.GcFault.TheVariants.{Memory as gc_memory}
use Rattle.wc_gc.specs.declared.trim_place.TrimPlace.{TrimPlace}
use Rattle.wc_import_paths.specs.Patterns.{PatternView, first_unknown, pattern_view}
use Rattle.wc_import_paths.specs.declared.patterns.ImportPattern.{ImportPattern}
use Rattle.wc_module_ways.specs.Adapters.{AdapterView, Given, search_input}
use Rattle.wc_module_ways.specs.Imports.{IsImportsJson, IsImportsText}
use Rattle.wc_import_paths.specs.Functions.{AreAskedOf}
use Rattle.wc_import_paths.specs.MainModules.{code_of}
use Rattle.wc_why.specs.Tree.{TreeCallerView, TreeView}
use Rattle.wc_module_ways.specs.Modules.{InputView, IsModules, ModulesView, imports_of}
use Rattle.wc_module_ways.specs.CoreModules.{CoreGiven, is_library_kind}
use Rattle.wc_module_ways.specs.Refusals.{HasNoCause, IsAdapterUnread, IsCoreFault, IsMainFault, moved}
use Rattle.wc_module_ways.specs.Tree.{IsTree}
use Rattle.wc_program.specs.Screen.{Printing, nothing, failed}
use Rattle.wc_read.specs.Imports.{ImportValue}
use Rattle.wcwhy.specs.Allowed.{way_modules}
use Rattle.wcwhy.specs.Arguments.{CommandView}
use Rattle.wcwhy.specs.Fault.{near_text}
use Rattle.wcwhy.specs.Functions.{IsFunctionFault}
use Rattle.wcwhy.specs.Inputs.{AllowView}
use Rattle.wcwhy.specs.NearExports.{IsNearFor}
use Rattle.wcwhy.specs.Shown.{IsAnswer}
use Rattle.wcwhy.specs.Tree.{IsTreeText}
use Rattle.wcwhy.specs.Warnings.{Saying}
use Rattle.wcwhy.specs.declared.fault.WhyFault.{WhyFault}
use Rattle.wcwhy.specs.declared.fault.WhyFault.TheVariants.{Memory, Source, Adapter, Core, NoImport, Output}

-- the modules of a command, whose files have these bytes
abbrev pub modules_input : CommandView → List ℕ → List Given → InputView
modules_input c main adapters = record {
  main = main;
  main_offset = 0;
  exports = c.exports;
  adapters = adapters;
  core = [];
  adapter_exports = c.adapter_exports;
  is_whole = not (length c.functions == 0);
}

-- what modules import, by interfaces, as JSON or as lines
abbrev pub IsSummary : Bool → ModulesView → List ℕ → Type 0
IsSummary true w text = IsImportsJson w text
IsSummary false w text = IsImportsText w text

-- the tree of the paths through them to what is asked for; each adapter can be trimmed for what is required of it
pub record AreWays (c : CommandView) (w : ModulesView) (patterns : List PatternView) (text : List ℕ) : Type 0 where
  pub no_cause : All HasNoCause w.adapters
  pub functions : List TreeCallerView
  pub are_functions : AreAskedOf w.bytes (length (code_of w.main).funcs) c.functions functions
  pub tree : TreeView
  pub is_tree : IsTree w patterns functions tree
  pub is : IsTreeText true c tree text

-- what a command asks to print of them
abbrev pub IsShownBy : Bool → CommandView → ModulesView → List PatternView → List ℕ → Type 0
IsShownBy true c w patterns text = IsSummary c.json w text
IsShownBy false c w patterns text = AreWays c w patterns text

abbrev pub IsShown : CommandView → ModulesView → List PatternView → List ℕ → Type 0
IsShown c w patterns text = IsShownBy c.summary c w patterns text

-- the names of the modules from which they import something: of these imports there are paths
abbrev pub AreWayNames : ModulesView → List (List ℕ) → Type 0
AreWayNames w names = (tree : TreeView) × IsTree w [] [] tree × (names ≡ way_modules tree.ways)

-- what is printed of modules, and what is said besides
pub record ArePrinted (c : CommandView) (i : InputView) (allow : Option AllowView) (said : Saying) (text : List ℕ) : Type 0 where
  pub modules : ModulesView
  pub are : IsModules i modules
  pub is : IsAnswer c true (IsShown c modules) (imports_of modules) (AreWayNames modules) allow said text

-- the first option that asks for none of these imports, and what is there in their place
abbrev pub IsNoImport : List ImportValue → List PatternView → ImportPattern → Option (String Global) → Type 0
IsNoImport imports patterns p near =
    (first_unknown imports patterns ≡ Some (pattern_view p)) × (option_map string_bytes near ≡ near_text imports (pattern_view p))

-- an adapter of modules is refused: what is required of it can't be followed
abbrev pub IsUnfollowed : ModulesView → Given → GcFault → Option TrimPlace → Type 0
IsUnfollowed w g f place =
    (a : AdapterView) × Contains w.adapters a × (g ≡ (a.name, a.bytes)) × IsFault (search_input a) f × IsExplained (search_input a) f place

-- an adapter is refused: its bytes are no module; or it is one of the modules, and can't be followed
abbrev pub IsAdapterRefusal : InputView → Given → GcFault → Option TrimPlace → Type 0
IsAdapterRefusal i g f place =
    (Contains i.adapters g × IsAdapterUnread g.1 f place) ⊎ ((w : ModulesView) × IsModules i w × IsUnfollowed w g f place)

-- the main module is refused, or the core module of an index: at a place in the component's file

abbrev pub IsMainRefusal : InputView → GcFault → Option TrimPlace → Type 0
IsMainRefusal i f place = (at : Option TrimPlace) × IsMainFault i.is_whole i.main i.exports f at × (place ≡ moved i.main_offset at)

abbrev pub IsCoreRefusal : InputView → ℕ → GcFault → Option TrimPlace → Type 0
IsCoreRefusal i index f place =
    (g : CoreGiven) × Contains i.core g × (g.index ≡ index) × (at : Option TrimPlace) × IsCoreFault (is_library_kind g.kind) g.bytes f at
    × (place ≡ moved g.offset at)

-- why nothing is printed of modules
abbrev pub AreRefused : CommandView → InputView → WhyFault → Type 0
AreRefused c i (Source f place near) = (f ≢ gc_memory) × IsMainRefusal i f place × IsNearFor i.main f near
AreRefused c i (Core index f place) = (f ≢ gc_memory) × IsCoreRefusal i index f place
AreRefused c i (Adapter name f place near) =
    (f ≢ gc_memory) × (g : Given) × (string_bytes name ≡ g.0) × IsAdapterRefusal i g f place × IsNearFor g.1 f near
AreRefused c i (NoImport p near) = (w : ModulesView) × IsModules i w × IsNoImport (imports_of w) c.imports p near
AreRefused c i f = (w : ModulesView) × IsModules i w × IsFunctionFault c w.bytes (length (code_of w.main).funcs) f

-- why modules could not be printed of
abbrev pub IsModulesCause : CommandView → InputView → (Printing → Type 0) → WhyFault → Type 0
IsModulesCause c i out Memory = ⊤
IsModulesCause c i out Output = out failed
IsModulesCause c i out f = AreRefused c i f × out nothing
