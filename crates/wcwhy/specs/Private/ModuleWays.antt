-- What parts of a run over a main module and its adapters do.
use Rattle.std.specs.Prelude.{◌≡◌, ◌≢◌, ◌⊎◌, ⊤, ℕ, true, length, List, Option, Some, None, string_bytes}
use Rattle.wc_gc.specs.declared.fault.GcFault.{GcFault}
use Rattle.wc_gc.specs.declared.fault.GcFault.TheVariants.{Memory as gc_memory}
use Rattle.wc_gc.specs.declared.trim_place.TrimPlace.{TrimPlace}
use Rattle.wc_import_paths.specs.Patterns.{PatternView}
use Rattle.wc_module_ways.specs.Adapters.{Given}
use Rattle.wc_module_ways.specs.Modules.{ModulesView, imports_of}
use Rattle.wc_module_ways.specs.Refusals.{adapter_in}
use Rattle.wc_module_ways.specs.declared.refusals.ModulesRefusal.{ModulesRefusal}
use Rattle.wc_program.specs.Screen.{Printing, nothing, failed}
use Rattle.wcwhy.specs.Arguments.{CommandView}
use Rattle.wc_import_paths.specs.MainModules.{code_of}
use Rattle.wcwhy.specs.Functions.{IsFunctionFault}
use Rattle.wcwhy.specs.Fault.{IsAdapterFault, IsSourceFault}
use Rattle.wcwhy.specs.ModuleWays.{AreWayNames, IsNoImport, IsUnfollowed, IsShown}
use Rattle.wcwhy.specs.Inputs.{AllowView}
use Rattle.wcwhy.specs.NearExports.{IsNearFor}
use Rattle.wcwhy.specs.Shown.{IsAnswer}
use Rattle.wcwhy.specs.Warnings.{Saying, refused_patterns, said_by}
use Rattle.wcwhy.specs.declared.fault.WhyFault.{WhyFault}
use Rattle.wcwhy.specs.declared.fault.WhyFault.TheVariants.{Memory, Adapter, Core, NoImport, Output}

-- what is printed of modules, and what is said besides
abbrev pub AreAnswered : CommandView → ModulesView → Option AllowView → Saying → List ℕ → Type 0
AreAnswered c w allow said text = IsAnswer c true (IsShown c w) (imports_of w) (AreWayNames w) allow said text

-- an adapter of modules can't be followed
abbrev pub AreUnfollowed : ModulesView → WhyFault → Type 0
AreUnfollowed w (Adapter name f place near) =
    (f ≢ gc_memory) × (g : Given) × (string_bytes name ≡ g.0) × IsUnfollowed w g f place × IsNearFor g.1 f near
AreUnfollowed w f = ⊥

-- why the paths through modules could not be printed; and what is asked for of them
abbrev pub IsWaysCause : ModulesView → (Printing → Type 0) → WhyFault → Type 0
IsWaysCause w out Memory = ⊤
IsWaysCause w out Output = out failed
IsWaysCause w out f = AreUnfollowed w f × out nothing

abbrev pub IsShownCause : CommandView → ModulesView → (Printing → Type 0) → WhyFault → Type 0
IsShownCause c w out f = IsWaysCause w out f ⊎ (IsFunctionFault c w.bytes (length (code_of w.main).funcs) f × out nothing)

abbrev pub IsKnownCause : CommandView → ModulesView → (Printing → Type 0) → WhyFault → Type 0
IsKnownCause c w out (NoImport p near) = IsNoImport (imports_of w) c.imports p near × out nothing
IsKnownCause c w out f = IsShownCause c w out f

-- an output failed
abbrev pub IsPutFault : (Printing → Type 0) → WhyFault → Type 0
IsPutFault out Output = out failed
IsPutFault out f = ⊥

-- the fault for a core module of this index
abbrev pub of_core : ℕ → GcFault → Option TrimPlace → WhyFault
of_core index gc_memory place = Memory
of_core index f place = Core index f place

-- the fault for a refusal of the main module with these bytes, of an adapter, or of a core module; and for one of an adapter alone

abbrev pub IsModulesFaultOf : List ℕ → Option Given → Option ℕ → GcFault → Option TrimPlace → WhyFault → Type 0
IsModulesFaultOf main (Some g) core f place fault = IsAdapterFault g.0 g.1 f place fault
IsModulesFaultOf main None (Some index) f place fault = fault ≡ of_core index f place
IsModulesFaultOf main None None f place fault = IsSourceFault main f place fault

abbrev pub IsModulesFault : List ℕ → ModulesRefusal → WhyFault → Type 0
IsModulesFault main r fault = IsModulesFaultOf main (adapter_in r) r.core r.fault r.place fault

abbrev pub IsWaysFaultOf : Option Given → GcFault → Option TrimPlace → WhyFault → Type 0
IsWaysFaultOf None f place fault = fault ≡ Memory
IsWaysFaultOf (Some g) f place fault = IsAdapterFault g.0 g.1 f place fault

abbrev pub IsWaysFault : ModulesRefusal → WhyFault → Type 0
IsWaysFault r fault = IsWaysFaultOf (adapter_in r) r.fault r.place fault

-- what a file of what is allowed says of modules
abbrev pub IsVerdictOf : ModulesView → AllowView → List PatternView → Saying → Type 0
IsVerdictOf w a patterns said = (names : List (List ℕ)) × AreWayNames w names × (patterns ≡ refused_patterns a names) × (said ≡ said_by a names)

-- why it could not be said
abbrev pub IsVerdictFault : ModulesView → WhyFault → Type 0
IsVerdictFault w Memory = ⊤
IsVerdictFault w f = AreUnfollowed w f
