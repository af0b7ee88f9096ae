-- The modules of a component before it is made.
use Rattle.std.specs.Prelude.{◌≡◌, ℕ, All, Bool, true, false, ⊤, ◌&&◌, ◌||◌, not, List, ◌++◌, map, filter, codes}
use Rattle.std.specs.List.{flat_map, list_any}
use Rattle.std.specs.Str.{bytes_eq}
use Rattle.wc_read.specs.Imports.{ImportValue}
use Rattle.wc_import_paths.specs.Patterns.{PatternView, is_shown}
use Rattle.wc_why.specs.Texts.{text_of}
use Rattle.wc_module_ways.specs.Adapters.{AdapterView, AreAdapters, Given, IsRead, adapter_view, given_view}
use Rattle.wc_module_ways.specs.CoreModules.{CoreGiven, CoreView, HasCore, IsCore, core_code, core_given, core_view, is_library, names_given}
use Rattle.wc_module_ways.specs.Matched.{AreMatched}
use Rattle.wc_import_paths.specs.MainModules.{HasMain, IsMain, IsWhole, MainView, bytes_in, code_of, main_view}
use Rattle.wc_module_ways.specs.Names.{NamePair, function_pairs, pair_view}
use Rattle.wc_module_ways.specs.NameLists.{AreListed}
use Rattle.wc_module_ways.specs.AdapterNames.{HasNames}
use Rattle.wc_module_ways.specs.declared.modules.Modules.{Modules}
use Rattle.wc_module_ways.specs.declared.modules.ModulesInput.{ModulesInput}

-- the main module's bytes, where they lie in their file, and its exports at which paths begin; the adapters; the other core modules of a
-- component's file; exports that are asked of adapters; and whether the main module has to be followed
pub record InputView : Type 0 where
  pub main : List ℕ
  pub main_offset : ℕ
  pub exports : List (List ℕ)
  pub adapters : List Given
  pub core : List CoreGiven
  pub adapter_exports : List NamePair
  pub is_whole : Bool

abbrev pub input_view : ModulesInput → InputView
input_view i = record {
  main = i.main.now;
  main_offset = i.main_offset;
  exports = map text_of i.exports.now;
  adapters = map given_view i.adapters.now;
  core = map core_given i.core.now;
  adapter_exports = map pair_view i.adapter_exports.now;
  is_whole = i.is_whole;
}

-- all from whose names others import: adapters, and core modules
abbrev pub given_in : InputView → List Given
given_in i = i.adapters ++ names_given i.core

-- the main module with its bytes, the adapters that a component of it needs, the other core modules, and all from whose names others import
pub record ModulesView : Type 0 where
  pub main : MainView
  pub bytes : List ℕ
  pub adapters : List AdapterView
  pub core : List CoreView
  pub given : List Given

-- the main module is followed, if it has to be
abbrev pub IsWholeIf : Bool → MainView → Type 0
IsWholeIf false v = ⊤
IsWholeIf true v = IsWhole v

pub record IsModules (i : InputView) (w : ModulesView) : Type 0 where
  pub main : IsMain i.main i.exports w.main
  pub is_whole : IsWholeIf i.is_whole w.main
  pub bytes : w.bytes ≡ i.main
  pub adapters : AreAdapters (function_pairs (code_of w.main).imports) i.adapter_exports i.adapters w.adapters
  pub core : AreMatched IsCore i.core w.core
  pub given : w.given ≡ given_in i

-- imports that belong to no other module of the component

abbrev pub is_main_module : ImportValue → Bool
is_main_module i = bytes_eq i.module_name (codes "__main_module__")

abbrev pub is_given : List Given → List ℕ → Bool
is_given given name = list_any (λ (g : Given). bytes_eq name g.0) given

abbrev pub is_of_main : List Given → ImportValue → Bool
is_of_main given i = not (is_main_module i) && not (is_given given i.module_name)

abbrev pub is_of_adapter : ImportValue → Bool
is_of_adapter i = not (is_main_module i) && not (bytes_eq i.module_name (codes "env") && bytes_eq i.name (codes "memory"))

-- a library imports from these names what modules share that are linked with it
abbrev pub is_linkage : List ℕ → Bool
is_linkage from = bytes_eq from (codes "env") || (bytes_eq from (codes "GOT.mem") || bytes_eq from (codes "GOT.func"))

abbrev pub is_of_core : List Given → Bool → ImportValue → Bool
is_of_core given library i = is_of_adapter i && (not (is_given given i.module_name) && not (library && is_linkage i.module_name))

-- an import is shown: it is one of these, and is asked for

abbrev pub is_main_shown : List Given → List PatternView → ImportValue → Bool
is_main_shown given patterns i = is_of_main given i && is_shown patterns i

abbrev pub is_adapter_shown : List PatternView → ImportValue → Bool
is_adapter_shown patterns i = is_of_adapter i && is_shown patterns i

abbrev pub is_core_shown : List Given → Bool → List PatternView → ImportValue → Bool
is_core_shown given library patterns i = is_of_core given library i && is_shown patterns i

-- all of these imports: those of an adapter, those of a core module, and those of all modules
abbrev pub imports_through : AdapterView → List ImportValue
imports_through a = filter is_of_adapter a.code.imports

abbrev pub core_imports : List Given → CoreView → List ImportValue
core_imports given c = filter (is_of_core given (is_library c)) (core_code c).imports

abbrev pub imports_of : ModulesView → List ImportValue
imports_of w =
    filter (is_of_main w.given) (code_of w.main).imports ++ (flat_map imports_through w.adapters ++ flat_map (core_imports w.given) w.core)

-- they are these modules
pub record AreView (p : Modules) (w : ModulesView) : Type 0 where
  pub main : main_view p.main ≡ w.main
  pub bytes : bytes_in p.main ≡ w.bytes
  pub adapters : map adapter_view p.adapters.items ≡ w.adapters
  pub core : map core_view p.core.items ≡ w.core
  pub names : HasNames w.given p.names.keys

-- the paths in them were found
pub record HasModules (p : Modules) : Type 0 where
  pub main : HasMain p.main
  pub functions : AreListed (function_pairs (code_of (main_view p.main)).imports) p.functions.entries
  pub adapters : All IsRead (map adapter_view p.adapters.items)
  pub core : All HasCore p.core.items

-- they are the modules of this input
pub record AreModules (i : InputView) (p : Modules) : Type 0 where
  pub view : ModulesView
  pub is_modules : IsModules i view
  pub are_view : AreView p view
  pub has_modules : HasModules p

-- the imports of them that belong to no other module of the component
abbrev pub AreImportsIn : Modules → List ImportValue → Type 0
AreImportsIn p imports = (w : ModulesView) → AreView p w → imports ≡ imports_of w
