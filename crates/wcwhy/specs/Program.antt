-- The program: what it prints, what becomes of files, and its exit status.
use Rattle.std.specs.Prelude.{◌≡◌, ◌≢◌, ◌⊎◌, ◌==◌, ℕ, Bool, true, false, length, List, ◌++◌, Option, Some, None, String, Ok, Err, ⊤, ◌&&◌, not, string_bytes}
use Rattle.std.specs.declared.alloc.Global.{Global}
use Rattle.wc_texts.specs.Escape.{escaped}
use Rattle.wc_gc.specs.declared.fault.GcFault.TheVariants.{Memory as gc_memory}
use Rattle.wc_texts.specs.FaultTexts.{memory_text}
use Rattle.wc_module_ways.specs.Adapters.{Given}
use Rattle.wc_program.specs.Files.{FileChange, Held}
use Rattle.wc_program.specs.Program.{success, failure, wrong_arguments, Prints, EndsByArguments, EndsByReason}
use Rattle.wc_program.specs.Screen.{Printing, nothing, printed, failed}
use Rattle.wc_program.specs.declared.program.NoArguments.{NoArguments}
use Rattle.wc_program.specs.declared.program.NoArguments.TheVariants.{Empty, NoMemory, NoText}
use Rattle.wc_options.specs.Wrong.{Reading, Stop, WrongView, help, version, wrong, wrong_text}
use Rattle.wc_component_file.specs.Headers.{BeginsAsComponent}
use Rattle.wc_import_paths.specs.Patterns.{PatternView}
use Rattle.wc_read.specs.Imports.{ImportValue}
use Rattle.wcwhy.specs.Allowed.{module_names}
use Rattle.wcwhy.specs.Arguments.{CommandView}
use Rattle.wcwhy.specs.Reading.{AsksMemory, read_arguments}
use Rattle.wcwhy.specs.Usage.{usage_text, help_text, version_text, no_text, fault_line, fault_and_usage}
use Rattle.wc_import_paths.specs.Following.{FollowedView, IsFollowed, IsRefusal}
use Rattle.wc_import_paths.specs.Functions.{AreAskedOf}
use Rattle.wc_import_paths.specs.Shown.{IsFollowedTree}
use Rattle.wc_why.specs.Tree.{TreeCallerView, TreeView}
use Rattle.wcwhy.specs.NearExports.{IsNearFor}
use Rattle.wcwhy.specs.Fault.{NeedsText, why_fault_text}
use Rattle.wcwhy.specs.Component.{IsComponentCause, IsComponentText}
use Rattle.wcwhy.specs.CoreFile.{IsCoreCause, IsCoreWritten, target_of}
use Rattle.wcwhy.specs.Inputs.{AllowView, AreInputs, IsInputCause}
use Rattle.wcwhy.specs.JsonFaults.{IsReportedJson}
use Rattle.wcwhy.specs.ModuleWays.{ArePrinted, IsModulesCause, IsNoImport, modules_input}
use Rattle.wcwhy.specs.Functions.{IsFunctionFault}
use Rattle.wcwhy.specs.Shown.{IsAnswer}
use Rattle.wcwhy.specs.Tree.{IsTreeText}
use Rattle.wcwhy.specs.Warnings.{AreWarned, Saying, quiet}
use Rattle.wcwhy.specs.declared.fault.WhyFault.{WhyFault}
use Rattle.wcwhy.specs.declared.fault.WhyFault.TheVariants.{Memory, Source, NoImport, NotAllowed, Output}

-- what is printed of a module that is followed: the tree of the paths to what is asked for
pub record IsSourceText (c : CommandView) (source : FollowedView) (bytes : List ℕ) (patterns : List PatternView) (text : List ℕ) : Type 0 where
  pub functions : List TreeCallerView
  pub are_functions : AreAskedOf bytes (length source.code.funcs) c.functions functions
  pub tree : TreeView
  pub is_tree : IsFollowedTree source bytes patterns functions tree
  pub is : IsTreeText false c tree text

-- the names of the modules from which a module imports something
abbrev pub AreImportNames : List ImportValue → List (List ℕ) → Type 0
AreImportNames imports names = names ≡ module_names imports

-- what is printed of bytes, which spell a module that is followed, and what is said besides
pub record IsPrintedOf (c : CommandView) (bytes : List ℕ) (allow : Option AllowView) (said : Saying) (text : List ℕ) : Type 0 where
  pub source : FollowedView
  pub followed : IsFollowed bytes c.exports source
  pub is : IsAnswer c false (IsSourceText c source bytes) source.code.imports (AreImportNames source.code.imports) allow said text

-- why nothing is printed of the bytes of a module
abbrev pub IsBytesCause : CommandView → List ℕ → WhyFault → Type 0
IsBytesCause c bytes (Source f place near) = (f ≢ gc_memory) × IsRefusal bytes c.exports f place × IsNearFor bytes f near
IsBytesCause c bytes (NoImport p near) =
    (source : FollowedView) × IsFollowed bytes c.exports source × IsNoImport source.code.imports c.imports p near
IsBytesCause c bytes f = (source : FollowedView) × IsFollowed bytes c.exports source × IsFunctionFault c bytes (length source.code.funcs) f

-- why bytes could not be printed of: where memory runs out, it is left open what was printed before
abbrev pub IsPrintCause : CommandView → List ℕ → (Printing → Type 0) → WhyFault → Type 0
IsPrintCause c bytes out Memory = ⊤
IsPrintCause c bytes out Output = out failed
IsPrintCause c bytes out f = IsBytesCause c bytes f × out nothing

-- whether the paths in a module that stands alone are asked for
abbrev pub is_alone : CommandView → Bool
is_alone c = length c.adapters == 0 && not c.summary

-- what is printed of the bytes of a module that stands alone, or of a main module and its adapters
abbrev pub IsModuleText : Bool → CommandView → List ℕ → List Given → Option AllowView → Saying → List ℕ → Type 0
IsModuleText true c main adapters allow said text = IsPrintedOf c main allow said text
IsModuleText false c main adapters allow said text = ArePrinted c (modules_input c main adapters) allow said text

-- why they could not be printed of
abbrev pub IsModuleCause : Bool → CommandView → List ℕ → List Given → (Printing → Type 0) → WhyFault → Type 0
IsModuleCause true c main adapters out f = IsPrintCause c main out f
IsModuleCause false c main adapters out f = IsModulesCause c (modules_input c main adapters) out f

-- what is printed of the bytes of a component, or else of a module
abbrev pub IsText : CommandView → List ℕ → List Given → Option AllowView → Saying → List ℕ → Type 0
IsText c source adapters allow said text =
    (BeginsAsComponent source × IsComponentText c source allow said text)
    ⊎ (¬ BeginsAsComponent source × IsModuleText (is_alone c) c source adapters allow said text)

abbrev pub IsTextCause : CommandView → List ℕ → List Given → (Printing → Type 0) → WhyFault → Type 0
IsTextCause c source adapters out f =
    (BeginsAsComponent source × IsComponentCause c source out f)
    ⊎ (¬ BeginsAsComponent source × IsModuleCause (is_alone c) c source adapters out f)

-- it is printed of the files of a command, and what is said besides
abbrev pub IsPrinted : CommandView → Option Held → (Printing → Type 0) → Saying → Type 0
IsPrinted c before out said =
    (source text : List ℕ) × (adapters : List Given) × (allow : Option AllowView) × AreInputs c before source adapters allow
    × IsText c source adapters allow said text × out (printed text)

-- files have bytes of which this could not be printed
abbrev pub IsHeldCause : CommandView → Option Held → (Printing → Type 0) → WhyFault → Type 0
IsHeldCause c before out f =
    (source : List ℕ) × (adapters : List Given) × (allow : Option AllowView) × AreInputs c before source adapters allow
    × IsTextCause c source adapters out f

-- why it could not be printed: files are not there; or what they have
abbrev pub IsPrintingCause : CommandView → FileChange → (Printing → Type 0) → WhyFault → Type 0
IsPrintingCause c files out f = (IsInputCause c files f × out nothing) ⊎ IsHeldCause c files.before out f

-- the command did its work: it printed, and changed no file; or it wrote one
abbrev pub EndsWellWith : Option (ℕ × List ℕ) → CommandView → FileChange → (Printing → Type 0) → Saying → Type 0
EndsWellWith None c files out said = (files.after ≡ files.before) × IsPrinted c files.before out said
EndsWellWith (Some t) c files out said = IsCoreWritten c t files.before files.after × out nothing × (said ≡ quiet)

abbrev pub EndsWell : CommandView → FileChange → (Printing → Type 0) → Saying → Type 0
EndsWell c files out said = EndsWellWith (target_of c.core c.out) c files out said

-- why a command could not be run
abbrev pub IsCauseWith : Option (ℕ × List ℕ) → CommandView → FileChange → (Printing → Type 0) → WhyFault → Type 0
IsCauseWith None c files out f = (files.after ≡ files.before) × IsPrintingCause c files out f
IsCauseWith (Some t) c files out f = IsCoreCause c t files f × out nothing

abbrev pub IsRunCause : CommandView → FileChange → (Printing → Type 0) → WhyFault → Type 0
IsRunCause c files out f = IsCauseWith (target_of c.core c.out) c files out f

-- a fault is printed in a line; or that there was no memory for its text, if memory is needed for it
abbrev pub IsReported : WhyFault → (Printing → Type 0) → ℕ → Type 0
IsReported fault err status =
    (text : List ℕ) × ((text ≡ why_fault_text fault) ⊎ (NeedsText fault × (text ≡ memory_text))) × Prints (fault_line text) failure err status

-- with `--json` it is printed as JSON
abbrev pub IsReportedAs : Bool → WhyFault → (Printing → Type 0) → ℕ → Type 0
IsReportedAs true fault err status = IsReportedJson fault err status
IsReportedAs false fault err status = IsReported fault err status

-- there was no memory, which is printed
abbrev pub EndsWithoutMemory : (Printing → Type 0) → (Printing → Type 0) → ℕ → Type 0
EndsWithoutMemory out err status = out nothing × Prints (fault_line memory_text) failure err status

-- what is not allowed is said after warnings, or with `--json` as the JSON of a fault
abbrev pub IsUnallowedSaid : Bool → List ℕ → List ℕ → (Printing → Type 0) → ℕ → Type 0
IsUnallowedSaid true warnings text err status = (t : String Global) × (string_bytes t ≡ text) × IsReportedJson (NotAllowed t) err status
IsUnallowedSaid false warnings text err status = Prints (warnings ++ fault_line text) failure err status

-- warnings are printed; or what is not allowed, which is a failure
abbrev pub IsSaidBy : Bool → List ℕ → Option (List ℕ) → (Printing → Type 0) → ℕ → Type 0
IsSaidBy json warnings None err status = AreWarned warnings err × (status ≡ success)
IsSaidBy json warnings (Some text) err status = IsUnallowedSaid json warnings text err status

abbrev pub IsSaid : Bool → Saying → (Printing → Type 0) → ℕ → Type 0
IsSaid json said err status = IsSaidBy json said.warnings said.unallowed err status

-- a command did its work, and what is said besides is printed to the other output; or it could not be run, and its fault is printed there
abbrev pub CommandEnds : CommandView → FileChange → (Printing → Type 0) → (Printing → Type 0) → ℕ → Type 0
CommandEnds c files out err status =
    ((said : Saying) × EndsWell c files out said × IsSaid c.json said err status)
    ⊎ ((fault : WhyFault) × IsRunCause c files out fault × IsReportedAs c.json fault err status)

-- there is no command: what is asked for is printed; or what is wrong, and the usage text, to the other output
abbrev pub StopEnds : Stop → (Printing → Type 0) → (Printing → Type 0) → ℕ → Type 0
StopEnds help out err status = Prints help_text success out status × err nothing
StopEnds version out err status = Prints version_text success out status × err nothing
StopEnds (wrong w) out err status = out nothing × Prints (fault_and_usage (escaped (wrong_text w))) wrong_arguments err status

abbrev pub ReadingEnds : Reading CommandView → FileChange → (Printing → Type 0) → (Printing → Type 0) → ℕ → Type 0
ReadingEnds (Ok c) files out err status = CommandEnds c files out err status
ReadingEnds (Err stop) files out err status = StopEnds stop out err status × (files.after ≡ files.before)

-- where there is no command, memory is asked for by arguments, or by the text of what is wrong with them
abbrev pub NeedsMemory : List (List ℕ) → Type 0
NeedsMemory arguments = AsksMemory arguments ⊎ ((w : WrongView) × (read_arguments arguments ≡ Err (wrong w)))

-- how the program ends with some arguments
abbrev pub EndsWith : List (List ℕ) → FileChange → (Printing → Type 0) → (Printing → Type 0) → ℕ → Type 0
EndsWith arguments files out err status =
    ReadingEnds (read_arguments arguments) files out err status
    ⊎ ((files.after ≡ files.before) × NeedsMemory arguments × EndsWithoutMemory out err status)

-- how it ends without arguments: there are none, there was no memory for them, or one is no text
abbrev pub EndsWithout : NoArguments → FileChange → (Printing → Type 0) → (Printing → Type 0) → ℕ → Type 0
EndsWithout Empty files out err status = (files.after ≡ files.before) × Prints usage_text success out status × err nothing
EndsWithout NoMemory files out err status = EndsWithoutMemory out err status
EndsWithout NoText files out err status = out nothing × Prints (fault_and_usage no_text) wrong_arguments err status

-- how the program ends with these arguments
abbrev pub ProgramEnds : List (String Global) → FileChange → (Printing → Type 0) → (Printing → Type 0) → ℕ → Type 0
ProgramEnds arguments files out err status =
    EndsByArguments arguments (EndsWithout Empty files out err status) (λ texts. EndsWith texts files out err status)

-- how it ends where its arguments are not known: there was no memory for them, or they are no text
abbrev pub EndsWithoutArguments : Type 0 → (Printing → Type 0) → (Printing → Type 0) → ℕ → Type 0
EndsWithoutArguments no_memory out err status =
    EndsByReason no_memory (EndsWithoutMemory out err status) (out nothing × Prints (fault_and_usage no_text) wrong_arguments err status)
